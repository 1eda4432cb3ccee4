use Rattle.std.proofs.Common.{◌≡◌, ◌-◌, get_or, suc, Some, refl, sym, ap, ◌∙◌, arith}
use Rattle.std.specs.List.{remove}
use Rattle.schedule_model.specs.Reduction.{cancelled}
use Rattle.schedule_rules.proofs.Cancels.{cancelled-zero, cancelled-past, cancelled-refused, cancelled-pair}
use Rattle.schedule_rules.proofs.applying.cancel.Goals.{then-at-eq0-via-then-at-eq0, then-at-eq0-via-else-at-eq0+then-len-at, then-at-eq0-via-else-at-eq0+else-len-at+then-not-is_pair}
use Rattle.schedule_rules.proofs.applying.cancel.Goals as goal

pub returns-then-at-eq0-clause-answers : goal.returns-then-at-eq0-clause-answers
returns-then-at-eq0-clause-answers c =
    let xs = c.args.list.now.items in
    let at = c.args.at in
    let long = c.args.list.now.ok.0 in
    elim c.then-at-eq0.branch [
      | then-at-eq0-via-then-at-eq0 w ↦ (ap (λ n. cancelled n xs) w.if-at-eq0.true ∙ cancelled-zero xs, refl)
      | then-at-eq0-via-else-at-eq0+then-len-at w ↦ (cancelled-past at xs (omega (arith, w.len.ensures, w.if-len-at.true, long)), refl)
      | then-at-eq0-via-else-at-eq0+else-len-at+then-not-is_pair w ↦ (
          let next : suc (at - 1) ≡ at = omega (arith, w.if-at-eq0.false) in (
            ap (λ n. cancelled n xs) (sym next)
                ∙ cancelled-refused (at - 1) xs w.index.result.now w.index-else-len-at.result.now (omega (arith, next, w.len.ensures, w.if-len-at.false, long)) w.index.ensures
                (w.index-else-len-at.ensures ∙ ap (λ n. get_or xs n w.index-else-len-at.result.now) (sym next)) (sym w.is_pair.ensures ∙ w.if-not-is_pair.true),
            refl,
          ))
    ]

pub returns-clause-answers : goal.returns-clause-answers
returns-clause-answers c =
    let xs = c.args.list.now.items in
    let at = c.args.at in
    let long = c.args.list.now.ok.0 in
    let next : suc (at - 1) ≡ at = omega (arith, c.if-at-eq0.false) in
    ap (λ n. cancelled n xs) (sym next)
    ∙ (cancelled-pair (at - 1) xs c.index.result.now c.index-else-len-at.result.now (omega (arith, next, c.len.ensures, c.if-len-at.false, long)) c.index.ensures
    (c.index-else-len-at.ensures ∙ ap (λ n. get_or xs n c.index-else-len-at.result.now) (sym next)) (sym c.is_pair.ensures ∙ c.if-not-is_pair.false)
    ∙ ap Some (sym (c.remove-2.ensures.items ∙ ap (λ es. remove es (at - 1)) c.remove.ensures.items)))
