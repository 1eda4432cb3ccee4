use Rattle.std.proofs.Common.{◌≡◌, ◌-◌}
use Rattle.process_tree.specs.Blocks.{numbers_from}
use Rattle.value_conflict.specs.ValueConflict.{first_among, first_commuting}
use Rattle.value_conflict.proofs.soundness.value_sound.Given as goal

abbrev pub invariant-loop-a : goal.invariant-loop-a
invariant-loop-a l = first_commuting l.c ≡ first_among l.c (numbers_from l.a (l.count - l.a))
