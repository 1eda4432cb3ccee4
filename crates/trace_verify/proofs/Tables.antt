-- The table of a report and its entries.
use Rattle.std.proofs.Common.{◌≡◌, ℕ, ◌+◌, ◌<◌, ◌≤◌, true, List, [], ◌∷◌, length, map, sym, refl, ap, subst, arith}
use Rattle.std.proofs.lemmas.List.{length-map}
use Rattle.process_tree.specs.declared.entry.Entry.{Entry}
use Rattle.process_tree.specs.Conflicts.{Access, Table, operations_in}
use Rattle.process_tree.specs.Order.{Each}
use Rattle.schedule_model.specs.Conflict.{ConflictRelation}
use Rattle.schedule_rules.specs.Applying.{AreKnown}
use Rattle.trace_verify.specs.Forms.{NamedAct}
use Rattle.trace_verify.specs.Names.{is_among, with_name, with_names, entry_of, step_names, op_names, schedule, StandOnce}
use Rattle.trace_verify.proofs.Naming.{number-below}
use Rattle.trace_verify.proofs.NumbersKept.{among-added, among-all, few-added, stand-once}

-- relations that answer the same are the same
pub same-relation : (f g : ConflictRelation) → ((a b : Access) → f a b ≡ g a b) → f ≡ g
same-relation f g h = λ i a b. h a b i

each-known : (names : List (List ℕ)) (steps ops : List (List ℕ)) (acts : List NamedAct)
    → ops ≡ with_names names (map (λ a. a.op) acts) → Each (λ e. e.op < length ops) (map (entry_of steps ops) acts)
each-known names steps ops [] is = tt
each-known names steps ops (a ∷ acts) is =
    let there : is_among ops a.op ≡ true = rw is (among-all (with_name names a.op) (map (λ a. a.op) acts) a.op (among-added names a.op)) in
    (number-below ops a.op there, each-known (with_name names a.op) steps ops acts is)

-- the operations of the schedule have numbers
pub schedule-known : (table : Table) (acts : List NamedAct) → operations_in table ≡ length (op_names acts) → AreKnown table (schedule acts)
schedule-known table acts count =
    let P : ℕ → Type 0 = λ n. Each (λ e. e.op < n) (schedule acts) in
    subst P (sym count) (each-known [] (step_names acts) (op_names acts) acts refl)

few-from : (names ws : List (List ℕ)) → length (with_names names ws) ≤ length names + length ws
few-from names [] = omega arith
few-from names (w ∷ ws) =
    let one = few-added names w in
    let rest = few-from (with_name names w) ws in
    omega (arith, one, rest)

-- there are no more operations than acts
pub few-names : (acts : List NamedAct) (ops : List (List ℕ)) → ops ≡ op_names acts → length acts ≤ 32768 → length ops < 65536
few-names acts ops is few =
    let most = few-from [] (map (λ a. a.op) acts) in
    let long = ap length is in
    let same = length-map acts (λ a. a.op) in
    omega (arith, most, long, same, few)

-- each stands once
pub once-names : (acts : List NamedAct) (ops : List (List ℕ)) → ops ≡ op_names acts → StandOnce ops
once-names acts ops is = subst StandOnce (sym is) (stand-once (map (λ a. a.op) acts))

pub known-entries : (table : Table) (acts : List NamedAct) (entries : List Entry) → entries ≡ schedule acts → operations_in table ≡ length (op_names acts) → AreKnown table entries
known-entries table acts entries is count = subst (AreKnown table) (sym is) (schedule-known table acts count)

-- so have its steps
numbered-in : (firsts names steps ops : List (List ℕ)) (acts : List NamedAct) → steps ≡ with_names firsts (map (λ a. a.step) acts) → ops ≡ with_names names (map (λ a. a.op) acts)
    → Each (λ e. (e.step < length steps) × (e.op < length ops)) (map (entry_of steps ops) acts)
numbered-in firsts names steps ops [] is also = tt
numbered-in firsts names steps ops (a ∷ acts) is also =
    let step_there : is_among steps a.step ≡ true = rw is (among-all (with_name firsts a.step) (map (λ a. a.step) acts) a.step (among-added firsts a.step)) in
    let op_there : is_among ops a.op ≡ true = rw also (among-all (with_name names a.op) (map (λ a. a.op) acts) a.op (among-added names a.op)) in
    ((number-below steps a.step step_there, number-below ops a.op op_there), numbered-in (with_name firsts a.step) (with_name names a.op) steps ops acts is also)

pub schedule-numbered : (acts : List NamedAct) → Each (λ e. (e.step < length (step_names acts)) × (e.op < length (op_names acts))) (schedule acts)
schedule-numbered acts = numbered-in [] [] (step_names acts) (op_names acts) acts refl refl
