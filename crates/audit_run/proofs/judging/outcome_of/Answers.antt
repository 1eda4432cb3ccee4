use Rattle.std.proofs.Common.{◌≡◌, length, ap, arith}
use Rattle.audit_text.specs.Logs.{Log, plans_in}
use Rattle.audit_run.proofs.Starting.{as_many, starts_few}
use Rattle.audit_run.proofs.judging.outcome_of.Goals as goal

pub steps_in-steps-requires : goal.steps_in-steps-requires
steps_in-steps-requires c =
    let log = c.args.log.now in
    let started = c.log.inside.started.items in
    let here : length c.deref.result.now ≡ length started = ap length c.deref.ensures.value in
    let view : length (plans_in started) ≡ length log.started = ap (λ (l : Log). length l.started) c.log.view_is in
    let events : length c.log.inside.events.items ≡ length log.events = ap (λ (l : Log). length l.events) c.log.view_is in
    omega (arith, here, view, events, as_many started, c.requires.sound.one_each, starts_few log.events, c.len-events.ensures, c.if-events-gt-MOST_EVENTS.false)
