use Rattle.std.proofs.Common.{◌≡◌, ◌≤◌, ◌*◌, filter}
use Rattle.std.specs.List.{sum_by}
use Rattle.process_tree.specs.Blocks.{numbers_from}
use Rattle.schedule_model.specs.Course.{course, courses_of}
use Rattle.schedule_model.specs.Histories.{is_active}
use Rattle.core_state.specs.Room.{kept_for}
use Rattle.core_state.proofs.room.room_at_opening.Given as goal

-- what the active ones of the first processes can take
abbrev pub invariant-loop-place : goal.invariant-loop-place
invariant-loop-place l = record {
  room : l.room ≡ sum_by (λ i. kept_for (course (courses_of l.h.plans) i)) (filter (is_active l.h.events) (numbers_from 1 l.place));
  few : l.room ≤ 67108870 * l.place;
}
