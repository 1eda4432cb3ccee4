use Rattle.std.proofs.Common.{ℕ, ◌+◌, ◌-◌, List, map, flat_map, ap, arith}
use Rattle.process_tree.specs.Blocks.{numbers_from}
use Rattle.process_report.specs.Lines.{Line}
use Rattle.process_report.specs.Report.{pair_line, conflicting}
use Rattle.process_report.proofs.LinesMore.{next-number, lines-more}
use Rattle.process_report.proofs.conflicts.put_conflicts.Goals as goal

pub loop-a-preserved : goal.loop-a-preserved
loop-a-preserved c =
    let f : ℕ → List Line = λ a. map (pair_line c.args.c.now a) (conflicting c.args.c.now a) in
    let a = c.loop-a.a in
    let n = c.count_of-count.result in
    record {
      within = omega (arith, c.loop-a-test.true);
      lines = lines-more (flat_map f (numbers_from a (n - a))) (f a) (flat_map f (numbers_from (a + 1) (n - (a + 1)))) c.loop-a.out.items c.put_conflicting.new.out.items _
          (ap (flat_map f) (next-number a n c.loop-a-test.true)) c.loop-a.invariant.lines c.in_ok-put_conflicting.ensures;
    }
