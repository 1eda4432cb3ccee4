use Rattle.std.proofs.Common.{ℕ, Bool, ◌+◌, ◌-◌, ◌∙◌, [], ◌∷◌, cond, map, filter, ap, arith}
use Rattle.process_tree.specs.Blocks.{numbers_from}
use Rattle.process_tree.specs.Conflicts.{mode_of}
use Rattle.process_report.specs.Report.{may_conflict, pair_line}
use Rattle.process_report.proofs.LinesMore.{next-number, lines-more, passed-first}
use Rattle.process_report.proofs.conflicts.put_conflicting.Goals as goal

pub loop-b-preserved : goal.loop-b-preserved
loop-b-preserved c =
    let f = pair_line c.args.c.now c.args.a in
    let p : ℕ → Bool = λ b. may_conflict (mode_of c.args.c.now.conflicts c.args.a b) in
    let b = c.loop-b.b in
    let n = c.count_of-count.result in
    let later = numbers_from (b + 1) (n - (b + 1)) in
    let is = ap (λ ns. map f (filter p ns)) (next-number b n c.loop-b-test.true) ∙ passed-first f p b later in
    record {
      within = omega (arith, c.loop-b-test.true);
      lines = lines-more (map f (filter p (numbers_from b (n - b)))) (cond (p b) (f b ∷ []) []) (map f (filter p later)) c.loop-b.out.items c.put_pair.new.out.items _ is c.loop-b.invariant.lines
          c.in_ok-put_pair.ensures;
    }
