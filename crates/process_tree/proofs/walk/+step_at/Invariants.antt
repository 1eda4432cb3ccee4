use Rattle.std.proofs.Common.{◌≡◌, ◌+◌, ◌++◌, drop, length}
use Rattle.std.specs.List.{slice_get}
use Rattle.process_tree.proofs.NthStep.{steps_in}
use Rattle.process_tree.proofs.walk.+step_at.Given as goal

abbrev pub invariant-loop-inner : goal.invariant-loop-inner
invariant-loop-inner l = record {
  -- the step that is looked for is in what is left
  at : slice_get (steps_in (drop l.inner-index l.inner-items)) l.left ≡ slice_get (l.block.steps ++ steps_in l.inner-items) l.place;
  far : length (steps_in (drop l.inner-index l.inner-items)) + l.place ≡ length l.block.steps + length (steps_in l.inner-items) + l.left;
}
