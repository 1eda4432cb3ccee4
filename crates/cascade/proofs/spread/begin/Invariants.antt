use Rattle.std.proofs.Common.{◌≡◌, ◌<◌, ℕ, slice_index_or}
use Rattle.cascade.specs.declared.marks.Mark.TheVariants.{Out}
use Rattle.cascade.proofs.spread.begin.Given as goal

abbrev pub invariant-loop-mark : goal.invariant-loop-mark
invariant-loop-mark l = (k : ℕ) → k < l.mark-index → slice_index_or l.marks k Out ≡ Out
