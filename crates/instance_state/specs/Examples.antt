-- Worked examples, computed: a pivot, and then steps 1 and 2, or 3, or 4, of which 4 alone is retriable.
use Rattle.std.specs.Prelude.{◌≡◌, true, false, Bool, ℕ, List, [], ◌∷◌, refl}
use Rattle.process_tree.specs.declared.entry.Entry.{Entry}
use Rattle.process_tree.specs.Examples.{three_ways}
use Rattle.schedule_model.specs.Course.{Course}
use Rattle.machine_model.specs.declared.replies.Todo.TheVariants.{Forward, Undo}
use Rattle.machine_model.specs.ProcessState.{effected, opening_state, todo}
use Rattle.instance_state.specs.OwnActs.{are_in_own_order}

abbrev pub three_ways_course : Course
three_ways_course = record { shape = three_ways; ops = 0 ∷ 0 ∷ 0 ∷ 0 ∷ 0 ∷ []; keys = []; allowances = [] }

abbrev pub act : ℕ → Bool → Entry
act step undo = record { process = 1; step = step; op = 0; key = 0; undo = undo }

-- 2 was done and undone, so its way is behind: 1 is undone next, and then comes 3
abbrev pub half_undone : List Entry
half_undone = act 0 false ∷ act 1 false ∷ act 2 false ∷ act 2 true ∷ []

pub half_undone_in_order : are_in_own_order three_ways half_undone ≡ true
half_undone_in_order = refl

pub half_undone_todo : todo three_ways_course (opening_state three_ways_course half_undone) ≡ Undo 1
half_undone_todo = refl

pub half_undone_then : todo three_ways_course (effected (opening_state three_ways_course half_undone)) ≡ Forward 3
half_undone_then = refl

-- 2 may not come again
pub not_twice : are_in_own_order three_ways (act 0 false ∷ act 1 false ∷ act 2 false ∷ act 2 true ∷ act 2 false ∷ []) ≡ false
not_twice = refl
