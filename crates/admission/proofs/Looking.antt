-- What is found, one place after another from the last on.
use Rattle.std.proofs.Common.{◌≡◌, ℕ, ◌+◌, ◌-◌, ◌<◌, ◌≤◌, Bool, true, false, ◌||◌, if◌then◌else◌, List, [], ◌∷◌, ◌++◌, length, map, take, drop, Option, sym, refl, ap, ◌∙◌, arith}
use Rattle.std.specs.Prelude.{nat_eq, slice_index_or}
use Rattle.std.proofs.lemmas.Bool.{eq-eqb, ne_eqb}
use Rattle.std.proofs.lemmas.List.{length-append, take-append-drop}
use Rattle.process_tree.specs.declared.entry.Entry.{Entry}
use Rattle.process_tree.specs.Conflicts.{Table, do_conflict}
use Rattle.schedule_model.specs.Conflict.{ConflictRelation}
use Rattle.schedule_model.specs.Histories.{is_in, of_process}
use Rattle.machine_model.specs.declared.blocked.Blocked.{Blocked}
use Rattle.machine_model.specs.declared.blocked.Rule.{Rule}
use Rattle.hold_tables.specs.Tables.{lasts, reserved_entry}
use Rattle.admission.specs.Least.{least_on, least_with}
use Rattle.admission.proofs.Over.{on-cons}
use Rattle.admission.proofs.Places.{rest_back, rest_none}

-- one more is looked at, over an equal table
pub with_table : (a b : Table) (rule : Rule) (own other : Entry) (o p : Option Blocked) → a ≡ b → o ≡ p
    → least_with (do_conflict a) rule own other o ≡ least_with (do_conflict b) rule own other p
with_table a b rule own other o p same found = ap (λ t. least_with (do_conflict t) rule own other o) same ∙ ap (least_with (do_conflict b) rule own other) found

-- one reserved step more
pub reserved_more : (table : ConflictRelation) (rule : Rule) (own : Entry) (i : ℕ) (planned : List (ℕ × ℕ × ℕ)) (place : ℕ) (step : ℕ × ℕ × ℕ)
    → 0 < place → place ≤ length planned → ((d : ℕ × ℕ × ℕ) → step ≡ slice_index_or planned (place - 1) d)
    → least_with table rule own (reserved_entry i step) (least_on table rule own (map (reserved_entry i) (drop place planned)))
    ≡ least_on table rule own (map (reserved_entry i) (drop (place - 1) planned))
reserved_more table rule own i planned place step some most is =
    sym (on-cons table rule own (reserved_entry i step) (map (reserved_entry i) (drop place planned)))
    ∙ ap (λ ps. least_on table rule own (map (reserved_entry i) ps)) (sym (rest_back planned place step some most is))

-- whether it is among the steps
pub step_more : (b : ℕ) (planned : List (ℕ × ℕ × ℕ)) (place : ℕ) (step : ℕ × ℕ × ℕ) → 0 < place → place ≤ length planned → ((d : ℕ × ℕ × ℕ) → step ≡ slice_index_or planned (place - 1) d)
    → (nat_eq b step.0 || is_in b (map (λ p. p.0) (drop place planned))) ≡ is_in b (map (λ p. p.0) (drop (place - 1) planned))
step_more b planned place step some most is = ap (λ ps. is_in b (map (λ p. p.0) ps)) (sym (rest_back planned place step some most is))

-- an entry of the process more
pub own_more : (i : ℕ) (net : List Entry) (place : ℕ) (e : Entry) → 0 < place → place ≤ length net → ((d : Entry) → e ≡ slice_index_or net (place - 1) d) → e.process ≡ i
    → of_process i (drop (place - 1) net) ≡ e ∷ of_process i (drop place net)
own_more i net place e some most is own = ap (of_process i) (rest_back net place e some most is) ∙ ap (λ t. if t then e ∷ of_process i (drop place net) else of_process i (drop place net)) (eq-eqb e.process i own)

-- one of another process
pub other_more : (i : ℕ) (net : List Entry) (place : ℕ) (e : Entry) → 0 < place → place ≤ length net → ((d : Entry) → e ≡ slice_index_or net (place - 1) d) → (e.process ≡ i → ⊥)
    → of_process i (drop (place - 1) net) ≡ of_process i (drop place net)
other_more i net place e some most is other = ap (of_process i) (rest_back net place e some most is) ∙ ap (λ t. if t then e ∷ of_process i (drop place net) else of_process i (drop place net)) (ne_eqb e.process i other)

-- at the end nothing was looked at
pub none_own : (i : ℕ) (net : List Entry) → of_process i (drop (length net) net) ≡ []
none_own i net = ap (of_process i) (rest_none net)

own-append : (i : ℕ) (xs ys : List Entry) → of_process i (xs ++ ys) ≡ of_process i xs ++ of_process i ys
own-append i [] ys = refl
own-append i (x ∷ xs) ys = by (nat_eq x.process i) refl (own-append i xs ys)
  where
    by : (t : Bool) → nat_eq x.process i ≡ t → of_process i (xs ++ ys) ≡ of_process i xs ++ of_process i ys → of_process i (x ∷ (xs ++ ys)) ≡ of_process i (x ∷ xs) ++ of_process i ys
    by true is rest = rw is (ap (x ∷◌) rest)
    by false is rest = rw is rest

drop_front : {A : Type 0} (xs ys : List A) → drop (length xs) (xs ++ ys) ≡ ys
drop_front [] ys = refl
drop_front (x ∷ xs) ys = drop_front xs ys

-- the last of a list, as many as stand behind some of it
pub lasts_behind : {A : Type 0} (xs ys : List A) → lasts (length ys) (xs ++ ys) ≡ ys
lasts_behind xs ys = let l = length-append xs ys in let rest : length (xs ++ ys) - length ys ≡ length xs = omega arith in ap (λ n. drop n (xs ++ ys)) rest ∙ drop_front xs ys

-- as many as there are, or more, are all
pub lasts_all : {A : Type 0} (n : ℕ) (xs : List A) → length xs ≤ n → lasts n xs ≡ xs
lasts_all n xs le = let none : length xs - n ≡ 0 = omega arith in ap (λ k. drop k xs) none

-- once as many were looked at as are pending, these are the pending ones
pub pending_found : (i n place : ℕ) (net : List Entry) (left : ℕ) → left ≤ 0 → left + length (of_process i (drop place net)) ≡ n → lasts n (of_process i net) ≡ of_process i (drop place net)
pending_found i n place net left none is =
    ap (lasts n) (ap (of_process i) (sym (take-append-drop place net)) ∙ own-append i (take place net) (drop place net))
    ∙ ap (λ k. lasts k (of_process i (take place net) ++ of_process i (drop place net))) (let same : n ≡ length (of_process i (drop place net)) = omega arith in same)
    ∙ lasts_behind (of_process i (take place net)) (of_process i (drop place net))
