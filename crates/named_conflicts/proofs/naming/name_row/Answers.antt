use Rattle.std.proofs.Common.{◌≡◌, ◌∙◌, length, Bool, if◌then◌else◌, ap, arith}
use Rattle.process_tree.specs.Conflicts.{mode_of}
use Rattle.named_conflicts.specs.Under.{named_mode}
use Rattle.named_conflicts.proofs.NamedModes.{pair_below, row_goes_on}
use Rattle.named_conflicts.proofs.naming.name_row.Goals as goal

pub loop-b-preserved : goal.loop-b-preserved
loop-b-preserved c =
    let table = c.loop-b.table in
    let ops = c.args.ops.now in
    let a = c.args.a in
    let b = c.loop-b.b in
    let mode = c.named_mode.result in
    record {
      all = c.set.ensures.count ∙ c.loop-b.invariant.all;
      named = λ x y lx ly so. c.set.ensures.pairs x y ∙ row_goes_on c.args.c.now ops mode (mode_of table x y) a b x y (mode_of c.args.table.now x y ≡ named_mode c.args.c.now ops x y) c.named_mode.ensures (c.loop-b.invariant.named x y lx ly) so;
      others = λ x y far. c.set.ensures.pairs x y
          ∙ (ap (λ (s : Bool). if s then mode else mode_of table x y) (pair_below (length ops) a b x y c.requires.a (omega (arith, c.loop-b-test.true)) far)
          ∙ c.loop-b.invariant.others x y far);
    }
