use Rattle.std.proofs.Common.{◌∙◌, ℕ, length, ap, subst, sym}
use Rattle.schedule_model.specs.Course.{courses_of}
use Rattle.schedule_model.specs.Laws.{IsPlanned}
use Rattle.audit_text.proofs.OwnOrders.{in_own_order}
use Rattle.audit_run.proofs.judging.judged.Goals as goal

pub out_of_order-requires : goal.out_of_order-requires
out_of_order-requires c =
    let h = c.in_ok-h.h in
    record { planned = subst (λ (n : ℕ). IsPlanned n h.plans h.events) (ap length (sym c.as_slice.ensures)) (c.in_ok-h.ensures.planned (length c.args.c.now.ops) c.requires.sound) }

pub audit-requires-clause-planned : goal.audit-requires-clause-planned
audit-requires-clause-planned c =
    let h = c.in_ok-h.h in
    subst (λ (n : ℕ). IsPlanned n h.plans h.events) (sym c.requires.catalog.all) (c.in_ok-h.ensures.planned (length c.args.c.now.ops) c.requires.sound)

pub audit-requires-clause-own_order : goal.audit-requires-clause-own_order
audit-requires-clause-own_order c = in_own_order (courses_of c.in_ok-h.h.plans) c.in_ok-h.h.events (sym c.in_ok-n.ensures ∙ c.in-None.is)
