use Rattle.std.proofs.Common.{List, Bool, ℕ, sym, ap, ◌∙◌}
use Rattle.admission.proofs.Greatest.{victim_or, victim_or-none, victim_or-push}
use Rattle.admission.proofs.victims.victim.Goals as goal

pub blocked-init : goal.blocked-init
blocked-init c = victim_or-none c.args.blocked.now

pub blocked-preserved : goal.blocked-preserved
blocked-preserved c =
    let front = c.in-Some.front.now in
    ap (λ o. victim_or o front) c.greater_if-found.ensures
    ∙ sym (victim_or-push c.blocked.found front c.in-Some.field-0-0.now)
    ∙ ap (λ (bs : List (ℕ × Bool)). victim_or c.blocked.found bs) (sym c.in-Some.ensures.cases.0)
    ∙ c.blocked.invariant
