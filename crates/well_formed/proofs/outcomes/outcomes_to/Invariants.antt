use Rattle.std.proofs.Common.{◌≡◌, ◌<◌, ◌≤◌, ◌++◌, ℕ, false, drop, take, length, slice_index}
use Rattle.process_tree.specs.Shape.{shape_by}
use Rattle.process_tree.specs.Termination.{is_first_tried, outcomes_along}
use Rattle.well_formed.proofs.outcomes.outcomes_to.Given as goal

abbrev pub invariant-loop-place : goal.invariant-loop-place
invariant-loop-place l = record {
  told : l.outcomes.items ++ outcomes_along (shape_by l.kinds l.paths) (drop l.place l.branch) l.step ≡ outcomes_along (shape_by l.kinds l.paths) l.branch l.step;
  -- the steps below the first that is looked at aren't behind the branch
  early : (b : ℕ) → b < l.first → is_first_tried (shape_by l.kinds l.paths) (take l.place l.branch) b ≡ false;
  -- and those that are left aren't below it
  later : (k : ℕ) → l.place ≤ k → k < length l.branch → l.first ≤ slice_index l.branch k;
  within : l.first ≤ l.step;
}
