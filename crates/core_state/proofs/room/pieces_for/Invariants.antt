use Rattle.std.proofs.Common.{◌≡◌, ◌≤◌, ◌*◌, [], ◌∷◌}
use Rattle.std.specs.List.{sum_by}
use Rattle.process_tree.specs.Blocks.{numbers_from}
use Rattle.schedule_model.specs.Course.{course_of}
use Rattle.machine_model.specs.Laws.{pieces_for_step}
use Rattle.core_state.proofs.room.pieces_for.Given as goal

-- the pieces of the first steps
abbrev pub invariant-loop-n : goal.invariant-loop-n
invariant-loop-n l = record {
  pieces : l.pieces ≡ sum_by (pieces_for_step (course_of l.plan ∷ []) 1) (numbers_from 0 l.n);
  few : l.pieces ≤ 512 * l.n;
}
