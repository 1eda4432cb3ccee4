use Rattle.std.proofs.Common.{◌≡◌, map, take}
use Rattle.process_tree.specs.Blocks.{outline}
use Rattle.process_tree.proofs.walk.steps_of.Given as goal

abbrev pub invariant-loop-place : goal.invariant-loop-place
invariant-loop-place l = map (λ s. s.now) l.steps.items ≡ take l.place (outline l.root).steps
