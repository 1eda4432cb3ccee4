use Rattle.std.proofs.Common.{◌≡◌, ◌-◌, List, Some, length, length-take, take, get_or, sym, ap, ◌∙◌, subst, arith}
use Rattle.std.proofs.lemmas.Result.{IfOk-weaker}
use Rattle.schedule_model.specs.declared.event.Event.{Event}
use Rattle.schedule_model.specs.declared.event.Event.TheVariants.{Start}
use Rattle.process_tree.specs.Conflicts.{do_conflict}
use Rattle.process_tree.specs.declared.plan.Plan.{Plan}
use Rattle.schedule_model.specs.Course.{courses_of}
use Rattle.event_rules.specs.Refusing.{IsRefused, refusing_rule, rule_against}
use Rattle.event_rules.proofs.FirstRefused.{place, refused-at, rule-at}
use Rattle.event_rules.proofs.refusing.refusing_rule.Goals as goal

pub overflow_sub-place : goal.overflow_sub-place
overflow_sub-place c =
    let h = c.args.h.now in
    (place c.args.c.now h.plans h.events c.args.n c.requires.planned c.requires.own_order (c.first_illegal_is_exact.ensures (do_conflict c.args.c.now) (courses_of h.plans) h.events) c.requires.first).0

pub slice_bounds-history_of-end : goal.slice_bounds-history_of-end
slice_bounds-history_of-end c =
    let h = c.args.h.now in
    let within = place c.args.c.now h.plans h.events c.args.n c.requires.planned c.requires.own_order (c.first_illegal_is_exact.ensures (do_conflict c.args.c.now) (courses_of h.plans) h.events) c.requires.first in
    let count = length-take (c.args.n - 1) c.as_slice-events.result.now in
    let same = ap length c.as_slice-events.ensures in
    omega (arith, within.0, within.1, count, same)

pub bounds-events-place : goal.bounds-events-place
bounds-events-place c =
    let h = c.args.h.now in
    let within = place c.args.c.now h.plans h.events c.args.n c.requires.planned c.requires.own_order (c.first_illegal_is_exact.ensures (do_conflict c.args.c.now) (courses_of h.plans) h.events) c.requires.first in
    let same = ap length c.as_slice-events.ensures in
    omega (arith, within.0, within.1, same)

pub rule_of_event-requires : goal.rule_of_event-requires
rule_of_event-requires c =
    let h = c.args.h.now in
    let same = c.as_slice-events.ensures in
    subst (λ (es : List Event). IsRefused c.args.c.now c.as_slice.result.now c.in_ok-before.before.events (get_or es (c.args.n - 1) (Start 0))) (sym same)
    (refused-at c.args.c.now h.plans h.events c.args.n c.requires.planned c.requires.own_order (c.first_illegal_is_exact.ensures (do_conflict c.args.c.now) (courses_of h.plans) h.events) c.requires.first
    c.as_slice.result.now c.in_ok-before.before.events (Start 0) c.as_slice.ensures (c.in_ok-before.ensures ∙ ap (take (c.args.n - 1)) same))

pub returns : goal.returns
returns c =
    let h = c.args.h.now in
    let rel = do_conflict c.args.c.now in
    let same = c.as_slice-events.ensures in
    let front = c.in_ok-before.ensures ∙ ap (take (c.args.n - 1)) same in
    IfOk-weaker c.rule_of_event.result
    (λ rule. rule_against rel (courses_of c.as_slice.result.now) c.in_ok-before.before.events (get_or c.as_slice-events.result.now (c.args.n - 1) (Start 0)) ≡ Some rule)
    (λ rule. refusing_rule rel (courses_of h.plans) h.events c.args.n ≡ Some rule)
    (λ rule is.
    rule-at c.args.c.now h.plans h.events c.args.n c.requires.planned c.requires.own_order (c.first_illegal_is_exact.ensures rel (courses_of h.plans) h.events) c.requires.first
    c.in_ok-before.before.events (Start 0) rule front
    (ap (λ (ps : List Plan). rule_against rel (courses_of ps) c.in_ok-before.before.events (get_or h.events (c.args.n - 1) (Start 0))) (sym c.as_slice.ensures)
    ∙ (ap (λ (es : List Event). rule_against rel (courses_of c.as_slice.result.now) c.in_ok-before.before.events (get_or es (c.args.n - 1) (Start 0))) (sym same) ∙ is)))
    c.rule_of_event.ensures
