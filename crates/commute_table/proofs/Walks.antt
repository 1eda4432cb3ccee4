-- Going over the operations of a document.
use Rattle.std.proofs.Common.{◌≡◌, ◌-◌, take, ℕ, ◌+◌, ◌<◌, ◌≤◌, true, false, List, [], ◌∷◌, ◌++◌, length, get_or, drop, Option, Some, None, Ok, Err, refl, sym, ◌∙◌, arith, codes}
use Rattle.std.proofs.lemmas.List.{drop_more, drop_all, take_all, nil_from_length}
use Rattle.toml.specs.Data.{as_table}
use Rattle.toml.specs.View.{view, items_view}
use Rattle.toml.specs.declared.value.Value.{Value}
use Rattle.process_tree.specs.Making.{same_text}
use Rattle.commute_table.specs.declared.op.Op.{Op}
use Rattle.commute_table.specs.declared.errors.ScenarioError.{ScenarioError}
use Rattle.commute_table.specs.declared.errors.ScenarioError.TheVariants.{BadToml, BadKey, UnknownOp, SameOp, Ops, NoMemory}
use Rattle.commute_table.specs.Document.{Said, ◌>>=◌, Fails, items_length, table_said, ops_said, number_from}

pub items_length-view : (vs : List Value) → items_length (items_view vs) ≡ length vs
items_length-view [] = refl
items_length-view (v ∷ vs) =
    let rest : items_length (items_view vs) ≡ length vs = items_length-view vs in
    omega arith

-- a failure goes on behind a step
pub fails_on : {A B : Type 0} (e : ScenarioError) (said : Said A) (f : A → Said B) → Fails e said → Fails e (said >>= f)
fails_on NoMemory said f h = tt
fails_on BadToml said f h = rw h refl
fails_on (BadKey k) said f h = rw h refl
fails_on (UnknownOp name) said f h = rw h refl
fails_on (SameOp name) said f h = rw h refl
fails_on (Ops n) said f h = rw h refl

-- ---- operations

pub ops_next : (ops : List Op) (op : Op) (rest after : List Value) (first : Value) (total : Said (List Op)) → rest ≡ first ∷ after → table_said ops (as_table (view first)) ≡ Ok op
    → ops_said ops (items_view rest) ≡ total → ops_said (ops ++ op ∷ []) (items_view after) ≡ total
unfolding ops_said
ops_next ops op rest after first total is e h =
    let one : ops_said ops (items_view rest) ≡ ops_said (ops ++ op ∷ []) (items_view after) = rw (is, e) refl in
    sym one ∙ h

pub ops_fail : (error : ScenarioError) (ops : List Op) (rest after : List Value) (first : Value) (total : Said (List Op)) → rest ≡ first ∷ after → Fails error (table_said ops (as_table (view first)))
    → ops_said ops (items_view rest) ≡ total → Fails error total
unfolding ops_said
ops_fail error ops rest after first total is e h = rw (← h, is) (fails_on error (table_said ops (as_table (view first))) (λ op. ops_said (ops ++ op ∷ []) (items_view after)) e)

pub ops_stop : (ops : List Op) (rest : List Value) (total : Said (List Op)) → length rest < 1 → ops_said ops (items_view rest) ≡ total → total ≡ Ok ops
unfolding ops_said
ops_stop ops rest total none h =
    let is : rest ≡ [] = nil_from_length rest (omega arith) in
    sym h ∙ rw is refl

-- ---- the number of a name

pub number_here : (ops : List Op) (n : ℕ) (name : List ℕ) (d : Op) (total : Option ℕ) → n < length ops → same_text (get_or ops n d).name name ≡ true → number_from n (drop n ops) name ≡ total → total ≡ Some n
number_here ops n name d total lt e h = sym h ∙ rw (drop_more ops n d lt, e) refl

pub number_later : (ops : List Op) (n : ℕ) (name : List ℕ) (d : Op) (total : Option ℕ) → n < length ops → same_text (get_or ops n d).name name ≡ false → number_from n (drop n ops) name ≡ total → number_from (n + 1) (drop (n + 1) ops) name ≡ total
number_later ops n name d total lt e h = sym (rw (drop_more ops n d lt, e) refl) ∙ h

pub number_none : (ops : List Op) (n : ℕ) (name : List ℕ) (total : Option ℕ) → length ops ≤ n → number_from n (drop n ops) name ≡ total → total ≡ None
number_none ops n name total le h = sym h ∙ rw (drop_all n ops le) refl

-- a list that isn't empty is its first and the others
pub as_cons : (rest : List Value) (first : Value) → 1 ≤ length rest → first ≡ get_or rest 0 first → rest ≡ first ∷ take (length rest - 1) (drop 1 rest)
as_cons [] first some e = absurd (omega arith)
as_cons (x ∷ rest) first some e =
    let all : take (length (x ∷ rest) - 1) rest ≡ rest = take_all (length (x ∷ rest) - 1) rest (omega arith) in
    rw (e, all) refl

-- ---- operations that are no tables

pub ops_refused : (ops : List Op) (rest after : List Value) (first : Value) (total : Said (List Op)) → rest ≡ first ∷ after → as_table (view first) ≡ None
    → ops_said ops (items_view rest) ≡ total → total ≡ Err (BadKey (codes "op"))
unfolding ops_said
ops_refused ops rest after first total is e h = sym h ∙ rw (is, e) refl
