use Rattle.std.proofs.Common.{◌≡◌, ◌<◌, take, drop, length}
use Rattle.std.specs.Option.{IfSome}
use Rattle.process_tree.specs.Blocks.{outline}
use Rattle.process_tree.specs.Shape.{shape_of, fixed_from, fixed_len}
use Rattle.process_tree.proofs.Along.{Walked}
use Rattle.process_tree.proofs.kinds.fixed.Given as goal

abbrev pub invariant-loop-place : goal.invariant-loop-place
invariant-loop-place l = record {
  fixed : fixed_from (shape_of l.tree) (take l.place l.steps) (drop l.place l.steps) l.fixed ≡ fixed_len (shape_of l.tree) l.steps;
  walked : Walked (shape_of l.tree) (take l.place l.steps) l.fixed l.commit;
  within : IfSome l.commit (λ c. c < length (outline l.tree).steps);
}
