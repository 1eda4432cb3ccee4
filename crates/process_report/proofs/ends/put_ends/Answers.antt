use Rattle.std.proofs.Common.{◌≡◌, ◌+◌, ◌-◌, suc, map, ap, arith}
use Rattle.process_tree.specs.Blocks.{numbers_from}
use Rattle.process_report.specs.Report.{end_line}
use Rattle.process_report.proofs.LinesMore.{line-more}
use Rattle.process_report.proofs.ends.put_ends.Goals as goal

pub loop-i-preserved : goal.loop-i-preserved
loop-i-preserved c =
    let f = end_line c.args.h.now in
    let i = c.loop-i.i in
    let n = c.in_ok-count.count in
    let more : n - i ≡ suc (n - (i + 1)) = omega (arith, c.loop-i-test.true) in
    record {
      within = omega (arith, c.loop-i-test.true);
      lines = line-more (map f (numbers_from (i + 1) (n - i))) (map f (numbers_from (i + 1 + 1) (n - (i + 1)))) (f (i + 1)) c.loop-i.out.items c.put_end.new.out.items _
          (ap (λ k. map f (numbers_from (i + 1) k)) more) c.loop-i.invariant.lines c.in_ok-put_end.ensures;
    }
