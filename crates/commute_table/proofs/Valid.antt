-- What a document says is a valid catalog.
use Rattle.std.proofs.Common.{◌≡◌, ℕ, suc, ◌+◌, ◌≤◌, Bool, true, false, cond, List, [], ◌∷◌, ◌++◌, length, Option, Some, None, Result, Ok, Err, refl, sym, ap, ◌∙◌, subst, append_assoc, arith, inl, inr, codes}
use Rattle.std.specs.Prelude.{nat_lt, ◌==◌, option_and_then, IfOk}
use Rattle.std.specs.List.{list_all}
use Rattle.std.proofs.lemmas.Bool.{cases_Bool, ltb-false, and_from}
use Rattle.std.proofs.lemmas.List.{append-nil}
use Rattle.toml.specs.Data.{Data, Items, no_items, item, Members, get_member, as_str, as_table, as_array}
use Rattle.process_tree.specs.Name.{is_name}
use Rattle.process_tree.specs.Order.{Each}
use Rattle.process_tree.specs.declared.conflicts.Mode.{Mode}
use Rattle.process_tree.specs.declared.conflicts.Mode.TheVariants.{Never, Key, Always}
use Rattle.process_tree.specs.Conflicts.{Table, is_table, operations_in, no_conflicts, with_mode}
use Rattle.process_tree.proofs.Every.{Each-append}
use Rattle.process_tree.proofs.Tables.{is_table-no_conflicts, length-no_conflicts, is_table-with_mode, length-with_mode}
use Rattle.commute_table.specs.declared.op.Op.{Op}
use Rattle.commute_table.specs.declared.op.Verb.{Verb}
use Rattle.commute_table.specs.declared.catalog.Catalog.{Catalog}
use Rattle.commute_table.specs.declared.pairs.Pair.{Pair}
use Rattle.commute_table.specs.declared.scenario.Scenario.{Scenario}
use Rattle.commute_table.specs.declared.errors.ScenarioError.{ScenarioError}
use Rattle.commute_table.specs.declared.errors.ScenarioError.TheVariants.{BadKey, Ops, SameOp}
use Rattle.commute_table.specs.declared.document.Keys.TheVariants.{OfDocument, OfOperation}
use Rattle.commute_table.specs.Operations.{is_version, has_mode, has_modes, takes, has_name, is_good_op, differ_from, IsCatalog}
use Rattle.commute_table.specs.Document.{Said, ◌>>=◌, Gives, known_keys, version_said, text_at, name_or_bad, name_said, subsystem_said, verb_named, verb_or_bad, verb_said, op_said, are_tables, items_length, table_said, ops_said, few_said, tables_or_bad, operations_by_key, operations_said, number_at, version_or_bad, NamedPair, named_pair, mode_behind, pair_of, number_said, pair_in, pair_said, are_pairs, pairs_said, some_disagree, with_pairs, table_or_bad, table_of_items, pairs_or_bad, conflicts_by_key, conflicts_said, processes_said, catalog_said, scenario_said}
use Rattle.commute_table.proofs.Modes.{has_modes-no_conflicts, has_modes-with_mode}
use Rattle.commute_table.proofs.Fresh.{Follows, follows_more}

-- what was said behind a step
pub said_then : {A B : Type 0} (r : Said A) (f : A → Said B) (y : B) → (r >>= f) ≡ Ok y → (x : A) × (r ≡ Ok x) × (f x ≡ Ok y)
said_then (Ok x) f y e = (x, refl, e)
said_then (Err d) f y e = absurd cc

abbrev said : {A : Type 0} → A → Said A
said x = Ok x

pub said_is : {A : Type 0} (x y : A) → said x ≡ said y → x ≡ y
said_is x y e = cc

refused : {A : Type 0} (e : ScenarioError) (y : A) → (let r : Said A = Err e in r ≡ Ok y) → ⊥
refused e y h = cc

-- what was said past a test
pub said_if : {A : Type 0} (b : Bool) (x y : A) (e : ScenarioError) → cond b (said x) (Err e) ≡ Ok y → (b ≡ true) × (x ≡ y)
said_if true x y e h = (refl, said_is x y h)
said_if false x y e h = absurd (refused e y h)

pub said_unless : {A : Type 0} (b : Bool) (x : Said A) (y : A) (e : ScenarioError) → cond b (Err e) x ≡ Ok y → (b ≡ false) × (x ≡ Ok y)
said_unless true x y e h = absurd (refused e y h)
said_unless false x y e h = (refl, h)

abbrev made : List ℕ → ℕ → Verb → Op
made name q v = record { name = name; subsystem = q; verb = v }

abbrev catalog_of : ℕ → List Op → Table → Catalog
catalog_of version ops conflicts = record { version = version; ops = ops; conflicts = conflicts }

abbrev pair_with : ℕ → ℕ → Mode → Pair
pair_with a b mode = record { first = a; second = b; mode = mode }

abbrev scenario_of : Catalog → List ℕ → Scenario
scenario_of catalog text = record { catalog = catalog; processes = text }

-- ---- operations

name_is_good : (o : Option (List ℕ)) (s : List ℕ) → name_or_bad o ≡ Ok s → is_name s ≡ true
name_is_good None s e = absurd (refused _ s e)
name_is_good (Some t) s e =
    let is = said_if (is_name t) t s (BadKey (codes "name")) e in
    rw (← is.1) is.0

verb_is_good : (q : ℕ) (o : Option Verb) (v : Verb) → verb_or_bad q o ≡ Ok v → takes q v ≡ true
verb_is_good q None v e = absurd (refused _ v e)
verb_is_good q (Some w) v e =
    let is = said_if (takes q w) w v (BadKey (codes "verb")) e in
    rw (← is.1) is.0

pub op_is_good : (earlier : List Op) (ms : Members) (op : Op) → op_said earlier ms ≡ Ok op → (is_good_op op ≡ true) × (has_name op.name earlier ≡ false)
unfolding op_said
op_is_good earlier ms op e =
    let known = said_then (known_keys OfOperation ms) (λ known. name_said ms >>= λ name. subsystem_said ms >>= λ q. verb_said q ms >>= λ v. cond (has_name name earlier) (Err (SameOp name)) (Ok (made name q v))) op e in
    let name = said_then (name_said ms) (λ name. subsystem_said ms >>= λ q. verb_said q ms >>= λ v. cond (has_name name earlier) (Err (SameOp name)) (Ok (made name q v))) op known.2 in
    let q = said_then (subsystem_said ms) (λ q. verb_said q ms >>= λ v. cond (has_name name.0 earlier) (Err (SameOp name.0)) (Ok (made name.0 q v))) op name.2 in
    let v = said_then (verb_said q.0 ms) (λ v. cond (has_name name.0 earlier) (Err (SameOp name.0)) (Ok (made name.0 q.0 v))) op q.2 in
    let last = said_unless (has_name name.0 earlier) (said (made name.0 q.0 v.0)) op _ v.2 in
    let named = name_is_good (text_at (codes "name") ms) name.0 name.1 in
    let takes_it = verb_is_good q.0 (option_and_then verb_named (text_at (codes "verb") ms)) v.0 v.1 in
    subst (λ (o : Op). (is_good_op o ≡ true) × (has_name o.name earlier ≡ false)) (said_is _ _ last.1) (and_from _ _ named takes_it, last.0)

table_is_good : (earlier : List Op) (o : Option Members) (op : Op) → table_said earlier o ≡ Ok op → (is_good_op op ≡ true) × (has_name op.name earlier ≡ false)
table_is_good earlier None op e = absurd (refused _ op e)
table_is_good earlier (Some t) op e = op_is_good earlier t op e

pub ops_are_good : (earlier : List Op) (ds : Items) (ops : List Op) → ops_said earlier ds ≡ Ok ops → (more : List Op) × (ops ≡ earlier ++ more) × Follows earlier more (items_length ds)
unfolding ops_said
ops_are_good earlier no_items ops e = ([], sym (said_is earlier ops e) ∙ sym (append-nil earlier), record { count_is = refl; good = refl; own_names = refl })
ops_are_good earlier (item d ds) ops e =
    let op = said_then (table_said earlier (as_table d)) (λ op. ops_said (earlier ++ op ∷ []) ds) ops e in
    let good = table_is_good earlier (as_table d) op.0 op.1 in
    let rest = ops_are_good (earlier ++ op.0 ∷ []) ds ops op.2 in
    let count : suc (items_length ds) ≡ items_length ds + 1 = omega arith in
    (op.0 ∷ rest.0, rest.1 ∙ append_assoc earlier (op.0 ∷ []) rest.0, subst (Follows earlier (op.0 ∷ rest.0)) count (follows_more earlier op.0 rest.0 (items_length ds) good.0 good.1 rest.2))

-- operations as a catalog has them
pub record AreOps (ops : List Op) : Type 0 where
  pub few : length ops ≤ 256
  pub good : list_all is_good_op ops ≡ true
  pub own_names : differ_from [] ops ≡ true

few_are_ops : (ds : Items) (ops : List Op) → few_said ds ≡ Ok ops → AreOps ops
unfolding few_said
few_are_ops ds ops e =
    let is = said_unless (nat_lt 256 (items_length ds)) (ops_said [] ds) ops (Ops (items_length ds)) e in
    let all = ops_are_good [] ds ops is.1 in
    let few = ltb-false 256 (items_length ds) is.0 in
    let same : ops ≡ all.0 = all.1 in
    subst AreOps (sym same) (record { few = omega (arith, few, all.2.count_is); good = all.2.good; own_names = all.2.own_names })

tables_are_ops : (o : Option Items) (ops : List Op) → tables_or_bad o ≡ Ok ops → AreOps ops
tables_are_ops None ops e = absurd (refused _ ops e)
tables_are_ops (Some ds) ops e =
    elim (cases_Bool (are_tables ds)) [
      | inl all ↦ few_are_ops ds ops (sym (rw all refl) ∙ e)
      | inr some ↦ absurd (refused (BadKey (codes "op")) ops (sym (rw some refl) ∙ e))
    ]

keyed_are_ops : (o : Option Data) (ops : List Op) → operations_by_key o ≡ Ok ops → AreOps ops
keyed_are_ops None ops e = subst AreOps (said_is [] ops e) (record { few = omega arith; good = refl; own_names = refl })
keyed_are_ops (Some d) ops e = tables_are_ops (as_array d) ops e

pub operations_are_ops : (ms : Members) (ops : List Op) → operations_said ms ≡ Ok ops → AreOps ops
unfolding operations_said
operations_are_ops ms ops e = keyed_are_ops (get_member (codes "op") ms) ops e

-- ---- the version

version_is_one : (o : Option ℕ) (n : ℕ) → version_or_bad o ≡ Ok n → is_version n ≡ true
version_is_one None n e = absurd (refused _ n e)
version_is_one (Some m) n e =
    let is = said_if (is_version m) m n (BadKey (codes "version")) e in
    rw (← is.1) is.0

-- ---- conflicts

-- a table of these operations, as a catalog of the version has it
pub record IsTableOf (version : ℕ) (ops : List Op) (t : Table) : Type 0 where
  pub table : is_table t ≡ true
  pub of_all : operations_in t ≡ length ops
  pub modes : has_modes version t ≡ true

-- version 2 has each mode
has_each : (version : ℕ) (mode : Mode) → (version == 2) ≡ true → has_mode version mode ≡ true
has_each version Never two = refl
has_each version Key two = two
has_each version Always two = refl

-- the mode of a pair is one of the version's
mode_is_one : (version : ℕ) (ds : Items) (mode : Mode) → mode_behind version ds ≡ Some mode → has_mode version mode ≡ true
mode_is_one version no_items mode e =
    elim (cases_Bool (version == 1)) [
      | inl one ↦
          let is : mode ≡ Always = is_always (sym (rw one refl) ∙ e) in
          rw is refl
      | inr other ↦ absurd (no_mode mode (sym (rw other refl) ∙ e))
    ]
  where
    is_always : {mode : Mode} → Some Always ≡ Some mode → mode ≡ Always
    is_always e = cc

    no_mode : (mode : Mode) → None ≡ Some mode → ⊥
    no_mode mode e = cc
mode_is_one version (item d no_items) mode e =
    elim (cases_Bool (version == 2)) [
      | inl two ↦ has_each version mode two
      | inr other ↦ absurd (no_mode mode (sym (rw other refl) ∙ e))
    ]
  where
    no_mode : (mode : Mode) → None ≡ Some mode → ⊥
    no_mode mode e = cc
mode_is_one version (item d (item e ds)) mode h = absurd cc

named_mode : (a b : Option (List ℕ)) (m : Option Mode) (p : NamedPair) → named_pair a b m ≡ Some p → m ≡ Some p.2
named_mode None b m p e = absurd cc
named_mode (Some a) None m p e = absurd cc
named_mode (Some a) (Some b) None p e = absurd cc
named_mode (Some a) (Some b) (Some mode) p e =
    let made : NamedPair = (a, b, mode) in
    let is : made ≡ p = cc in
    ap (λ (q : NamedPair). Some q.2) is

pair_has : (version : ℕ) (ds : Items) (p : NamedPair) → pair_of version ds ≡ Some p → has_mode version p.2 ≡ true
pair_has version no_items p e = absurd cc
pair_has version (item d no_items) p e = absurd cc
pair_has version (item d (item f ds)) p e = mode_is_one version ds p.2 (named_mode (as_str d) (as_str f) (mode_behind version ds) p e)

items_have : (version : ℕ) (o : Option Items) (p : NamedPair) → option_and_then (pair_of version) o ≡ Some p → has_mode version p.2 ≡ true
items_have version None p e = absurd cc
items_have version (Some ds) p e = pair_has version ds p e

-- a pair as the version has it
abbrev pub IsPairIn : ℕ → Pair → Type 0
IsPairIn version pair = has_mode version pair.mode ≡ true

pair_is_in : (version : ℕ) (ops : List Op) (o : Option NamedPair) (pair : Pair) → ((p : NamedPair) → o ≡ Some p → has_mode version p.2 ≡ true) → pair_said ops o ≡ Ok pair → IsPairIn version pair
pair_is_in version ops None pair has e = absurd (refused _ pair e)
pair_is_in version ops (Some p) pair has e =
    let a = said_then (number_said ops p.0) (λ a. number_said ops p.1 >>= λ b. Ok (pair_with a b p.2)) pair e in
    let b = said_then (number_said ops p.1) (λ b. Ok (pair_with a.0 b p.2)) pair a.2 in
    subst (IsPairIn version) (said_is _ pair b.2) (has p refl)

pairs_are_in : (version : ℕ) (ops : List Op) (done pairs : List Pair) (ds : Items) → Each (IsPairIn version) done → pairs_said version ops done ds ≡ Ok pairs → Each (IsPairIn version) pairs
unfolding pairs_said
pairs_are_in version ops done pairs no_items are e = subst (Each (IsPairIn version)) (said_is done pairs e) are
pairs_are_in version ops done pairs (item d ds) are e =
    let pair = said_then (pair_said ops (pair_in version d)) (λ pair. pairs_said version ops (done ++ pair ∷ []) ds) pairs e in
    let is = pair_is_in version ops (pair_in version d) pair.0 (items_have version (as_array d)) pair.1 in
    pairs_are_in version ops (done ++ pair.0 ∷ []) pairs ds (Each-append (IsPairIn version) done (pair.0 ∷ []) are (is, tt)) pair.2

with_pairs_is_table : (version : ℕ) (ops : List Op) (t : Table) (pairs : List Pair) → IsTableOf version ops t → Each (IsPairIn version) pairs → IsTableOf version ops (with_pairs t pairs)
with_pairs_is_table version ops t [] is are = is
with_pairs_is_table version ops t (p ∷ ps) is are =
    with_pairs_is_table version ops (with_mode t p.first p.second p.mode) ps (record {
      table = is_table-with_mode t p.first p.second p.mode is.table;
      of_all = length-with_mode t p.first p.second p.mode ∙ is.of_all;
      modes = has_modes-with_mode version t p.first p.second p.mode is.modes are.0;
    }) are.1

empty_table : (version : ℕ) (ops : List Op) → IsTableOf version ops (no_conflicts (length ops))
empty_table version ops = record { table = is_table-no_conflicts (length ops); of_all = length-no_conflicts (length ops); modes = has_modes-no_conflicts version (length ops) }

items_are_table : (version : ℕ) (ops : List Op) (u : Table) (ds : Items) → table_of_items version ops ds ≡ Ok u → IsTableOf version ops u
unfolding table_of_items
items_are_table version ops u ds e =
    let pairs = said_then (pairs_said version ops [] ds) (table_or_bad ops) u e in
    let are = pairs_are_in version ops [] pairs.0 ds tt pairs.1 in
    let last = said_unless (some_disagree pairs.0) (said (with_pairs (no_conflicts (length ops)) pairs.0)) u (BadKey (codes "conflicts")) pairs.2 in
    subst (IsTableOf version ops) (said_is _ u last.1) (with_pairs_is_table version ops (no_conflicts (length ops)) pairs.0 (empty_table version ops) are)

array_is_table : (version : ℕ) (ops : List Op) (u : Table) (o : Option Items) → pairs_or_bad version ops o ≡ Ok u → IsTableOf version ops u
array_is_table version ops u None e = absurd (refused _ u e)
array_is_table version ops u (Some ds) e =
    elim (cases_Bool (are_pairs version ds)) [
      | inl all ↦ items_are_table version ops u ds (sym (rw all refl) ∙ e)
      | inr some ↦ absurd (refused (BadKey (codes "conflicts")) u (sym (rw some refl) ∙ e))
    ]

keyed_is_table : (version : ℕ) (ops : List Op) (u : Table) (o : Option Data) → conflicts_by_key version ops o ≡ Ok u → IsTableOf version ops u
keyed_is_table version ops u None e = subst (IsTableOf version ops) (said_is _ u e) (empty_table version ops)
keyed_is_table version ops u (Some d) e = array_is_table version ops u (as_array d) e

-- ---- catalogs

pub catalog_is_valid : (ms : Members) (c : Catalog) → catalog_said ms ≡ Ok c → IsCatalog c
unfolding catalog_said conflicts_said
catalog_is_valid ms c e =
    let known = said_then (known_keys OfDocument ms) (λ known. version_said ms >>= λ version. operations_said ms >>= λ ops. conflicts_said version ops ms >>= λ conflicts. Ok (catalog_of version ops conflicts)) c e in
    let version = said_then (version_said ms) (λ version. operations_said ms >>= λ ops. conflicts_said version ops ms >>= λ conflicts. Ok (catalog_of version ops conflicts)) c known.2 in
    let ops = said_then (operations_said ms) (λ ops. conflicts_said version.0 ops ms >>= λ conflicts. Ok (catalog_of version.0 ops conflicts)) c version.2 in
    let conflicts = said_then (conflicts_said version.0 ops.0 ms) (λ conflicts. Ok (catalog_of version.0 ops.0 conflicts)) c ops.2 in
    let is = version_is_one (number_at (codes "version") ms) version.0 version.1 in
    let are = operations_are_ops ms ops.0 ops.1 in
    let table = keyed_is_table version.0 ops.0 conflicts.0 (get_member (codes "conflicts") ms) conflicts.1 in
    subst IsCatalog (said_is _ c conflicts.2) (record { version = is; few = are.few; good = are.good; own_names = are.own_names; table = table.table; of_all = table.of_all; modes = table.modes })

pub scenario_is_valid : (ms : Members) (s : Scenario) → scenario_said ms ≡ Ok s → IsCatalog s.catalog
unfolding scenario_said
scenario_is_valid ms s e =
    let catalog = said_then (catalog_said ms) (λ catalog. processes_said ms >>= λ text. Ok (scenario_of catalog text)) s e in
    let text = said_then (processes_said ms) (λ text. Ok (scenario_of catalog.0 text)) s catalog.2 in
    subst (λ (x : Scenario). IsCatalog x.catalog) (said_is _ s text.2) (catalog_is_valid ms catalog.0 catalog.1)

-- an answered scenario has a valid catalog
pub answer_is_valid : (ms : Members) (r : Result Scenario ScenarioError) → Gives r (scenario_said ms) → IfOk r (λ s. IsCatalog s.catalog)
answer_is_valid ms (Ok s) h = scenario_is_valid ms s h
answer_is_valid ms (Err e) h = tt
