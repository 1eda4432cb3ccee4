-- A serial order: the processes of a list one after another, each behind those that have to come before it.
use Rattle.std.specs.Prelude.{◌≡◌, ℕ, zero, suc, false, not, List, [], ◌∷◌, length, filter, flat_map, nat_eq, if◌then◌else◌}
use Rattle.std.specs.Prelude.{Option, Some, None, IsTrue}
use Rattle.std.specs.List.{list_any}
use Rattle.process_tree.specs.declared.entry.Entry.{Entry}
use Rattle.schedule_model.specs.Conflict.{ConflictRelation}
use Rattle.schedule_model.specs.Graph.{Arrow}
use Rattle.schedule_model.specs.Histories.{is_in, of_process}
use Rattle.dependence_model.specs.declared.placed.Placed.{Placed}
use Rattle.dependence_model.specs.Dependence.{left_of, entries_of, must_precede, processes_of}

-- no number is listed twice
abbrev pub AreDistinct : List ℕ → Type 0
AreDistinct [] = Unit
AreDistinct (i ∷ is) = (is_in i is ≡ false) × AreDistinct is

-- no arrow leads from a process to one that stands before it in this order
abbrev pub Respects : Arrow → List ℕ → Type 0
Respects arrow [] = Unit
Respects arrow (i ∷ order) = ((j : ℕ) → IsTrue (is_in j order) → arrow j i ≡ false) × Respects arrow order

-- a serial order of entries has each of their processes, once, and respects what has to come first
pub record IsSerialOrder (table : ConflictRelation) (left : List Placed) (order : List ℕ) : Type 0 where
  pub distinct : AreDistinct order
  pub has_all : (i : ℕ) → IsTrue (is_in i (processes_of left)) → IsTrue (is_in i order)
  pub respects : Respects (must_precede table left) order

-- the entries of these processes, one process after another
abbrev pub one_by_one : List ℕ → List Entry → List Entry
one_by_one order es = flat_map (λ i. of_process i es) order

-- The same, computed.

-- the first of these to which no arrow leads from any of all
abbrev pub first_free : Arrow → List ℕ → List ℕ → Option ℕ
first_free arrow all [] = None
first_free arrow all (i ∷ is) = if list_any (λ j. arrow j i) all then first_free arrow all is else Some i

-- one process, if there is one, and then the others in their order
abbrev pub then_others : (List ℕ → List ℕ) → List ℕ → Option ℕ → List ℕ
then_others order_of all None = []
then_others order_of all (Some i) = i ∷ order_of (filter (λ k. not (nat_eq k i)) all)

-- at most n of these processes in order: each time the first to which no arrow leads from those that aren't in place yet
abbrev pub ordered : ℕ → Arrow → List ℕ → List ℕ
ordered zero arrow all = []
ordered (suc n) arrow all = then_others (ordered n arrow) all (first_free arrow all all)

-- the serial order of what is left
abbrev pub order_of : ConflictRelation → List Placed → List ℕ
order_of table left = ordered (length left) (must_precede table left) (processes_of left)

-- the serial list to which a list is brought that is neither barred nor cyclic
abbrev pub serial_list : ConflictRelation → List Entry → List Entry
serial_list table es = let left = left_of table es in one_by_one (order_of table left) (entries_of left)
