use Rattle.std.proofs.Common.{◌≡◌, ◌-◌}
use Rattle.process_tree.specs.Blocks.{numbers_from}
use Rattle.value_conflict.specs.ValueConflict.{first_with}
use Rattle.value_conflict.proofs.soundness.first_with.Given as goal

abbrev pub invariant-loop-b : goal.invariant-loop-b
invariant-loop-b l = first_with l.c l.a (numbers_from l.a (l.count - l.a)) ≡ first_with l.c l.a (numbers_from l.b (l.count - l.b))
