-- The table of conflicts has the operation of whatever is looked at.
use Rattle.std.proofs.Common.{◌≡◌, ℕ, ◌<◌, true, Some, IfSome, length, subst}
use Rattle.std.specs.Prelude.{slice_index_or}
use Rattle.process_tree.specs.declared.entry.Entry.{Entry}
use Rattle.process_tree.specs.Conflicts.{operations_in}
use Rattle.schedule_model.specs.Histories.{of_process}
use Rattle.hold_tables.specs.Changes.{can_come}
use Rattle.hold_tables.specs.Kept.{AreTidy, IsKnown, IsTidy}
use Rattle.hold_tables.specs.Tables.{Tables, is_open, kept_of}
use Rattle.hold_tables.proofs.Tidy.{each_numbered}
use Rattle.hold_tables.proofs.Places.{each_place}

tidy_row : (t : Tables) → AreTidy t → (i : ℕ) → is_open t i ≡ true → IsTidy t.conflicts t.net (kept_of t i) × ((kept_of t i).process ≡ i)
tidy_row t tidy i opened = each_numbered (IsTidy t.conflicts t.net) i t.processes opened tidy.tidy

pub known_running : (t : Tables) → AreTidy t → (i : ℕ) → is_open t i ≡ true → (e : Entry) → (kept_of t i).running ≡ Some e → IsKnown t.conflicts e
known_running t tidy i opened e is =
    let r = kept_of t i in
    let found = (tidy_row t tidy i opened).0.running in
    (subst (λ o. IfSome o (λ x. (x.process ≡ r.process) × (can_come (of_process r.process t.net) r x ≡ true) × IsKnown t.conflicts x)) is found).2

pub known_reserved : (t : Tables) → AreTidy t → (i : ℕ) → is_open t i ≡ true → (place : ℕ) (d : ℕ × ℕ × ℕ) → place < length (kept_of t i).reserved
    → (slice_index_or (kept_of t i).reserved place d).1 < operations_in t.conflicts
known_reserved t tidy i opened place d within = each_place (λ step. step.1 < operations_in t.conflicts) (kept_of t i).reserved place d within (tidy_row t tidy i opened).0.reserved

-- the entries of a process are numbered with it
pub own_number : (t : Tables) → AreTidy t → (i : ℕ) → is_open t i ≡ true → (kept_of t i).process ≡ i
own_number t tidy i opened = (tidy_row t tidy i opened).1
