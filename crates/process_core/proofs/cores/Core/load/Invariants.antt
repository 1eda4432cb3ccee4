use Rattle.std.proofs.Common.{◌≡◌, ◌≤◌, ◌*◌, filter, length}
use Rattle.std.specs.List.{sum_by}
use Rattle.process_tree.specs.Blocks.{numbers_from}
use Rattle.schedule_model.specs.Course.{course}
use Rattle.schedule_model.specs.Histories.{is_active}
use Rattle.schedule_model.specs.Limits.{need}
use Rattle.core_state.specs.Cores.{courses_in, history_of}
use Rattle.process_core.proofs.cores.Core.load.Given as goal

-- the active ones of the first processes
abbrev pub invariant-loop-place : goal.invariant-loop-place
invariant-loop-place l = record {
  active : l.load.active ≡ length (filter (is_active (history_of l.self)) (numbers_from 1 l.place));
  needed : l.load.needed ≡ sum_by (λ i. need (course (courses_in l.self) i)) (filter (is_active (history_of l.self)) (numbers_from 1 l.place));
  few : l.load.needed ≤ 131071 * l.place;
  few_active : l.load.active ≤ l.place;
}
