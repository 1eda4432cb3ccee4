use Rattle.std.proofs.Common.{rules, arith, refl, ◌≡◌, [], Ok}
use Rattle.process_tree.specs.Blocks.{outline}
use Rattle.commute_table.specs.Binding.{numbers_bound}
use Rattle.commute_table.proofs.Bound.{bound_counts}
use Rattle.commute_table.proofs.binding.bind.Goals as goal

pub returns : goal.returns
returns c =
    let bound : numbers_bound c.args.c.now.ops [] (outline c.args.named.tree).steps ≡ Ok c.in_ok-ops.ops = search rules in
    let counts = bound_counts c.args.c.now.ops (outline c.args.named.tree).steps [] c.in_ok-ops.ops bound tt in
    record { name = refl; tree = refl; numbers = bound; count = omega (arith, counts.0); within = counts.1 }
