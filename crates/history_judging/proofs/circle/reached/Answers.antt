use Rattle.std.proofs.Common.{length, sym, ◌∙◌, ap, arith}
use Rattle.process_tree.specs.Conflicts.{do_conflict}
use Rattle.history_judging.specs.Conflicting.{is_closed, is_marked}
use Rattle.schedule_rules.proofs.Turned.{written_back}
use Rattle.history_judging.proofs.circle.reached.Goals as goal

pub loop-grew-preserved : goal.loop-grew-preserved
loop-grew-preserved c =
    let table = do_conflict c.args.c.now in
    let i = c.loop-grew.invariant in
    let new = c.spread.new.marks in
    let s = c.in_ok-grew.ensures.spread in
    let same = written_back c.loop-grew.marks.len new c.loop-grew.marks.items (omega (arith, c.spread.ensures.len, c.deref_mut.ensures.len)) (omega (arith, c.loop-grew.marks.ok.0)) in
    let marked = is_marked new in
    record {
      len = ap length same ∙ (c.spread.ensures.len ∙ (ap length c.deref_mut.ensures.value ∙ i.len));
      own = ap (λ ms. is_marked ms c.args.process) same ∙ s.stay c.args.process (ap (λ ms. is_marked ms c.args.process) c.deref_mut.ensures.value ∙ i.own);
      only = λ p has closed k is. s.only p (λ j was. i.only p has closed j (sym (ap (λ ms. is_marked ms j) c.deref_mut.ensures.value) ∙ was)) closed k (sym (ap (λ ms. is_marked ms k) same) ∙ is);
      closed = λ still. ap (λ ms. is_closed table (is_marked ms) c.args.entries.now) same ∙ s.still still;
    }
