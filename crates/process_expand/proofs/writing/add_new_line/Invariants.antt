use Rattle.std.proofs.Common.{◌≡◌, ◌++◌}
use Rattle.process_expand.specs.Layout.{indent, new_line}
use Rattle.process_expand.proofs.writing.add_new_line.Given as goal

abbrev pub invariant-loop-left : goal.invariant-loop-left
invariant-loop-left l = l.out.items ++ indent l.left ≡ l.fn.out.items ++ new_line l.depth

abbrev pub decreases-loop-left : goal.decreases-loop-left
decreases-loop-left l = l.left
