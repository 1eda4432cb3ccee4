use Rattle.std.proofs.Common.{◌≡◌, [], drop}
use Rattle.process_tree.specs.Blocks.{outline}
use Rattle.commute_table.specs.Binding.{numbers_bound}
use Rattle.commute_table.proofs.binding.numbers_of.Given as goal

-- the numbers so far stand, and those of the steps that are left are still to come
abbrev pub invariant-loop-n : goal.invariant-loop-n
invariant-loop-n l = numbers_bound l.ops l.numbers.items (drop l.n (outline l.tree).steps) ≡ numbers_bound l.ops [] (outline l.tree).steps
