use Rattle.std.proofs.Common.{◌≡◌, ◌∙◌, List, true, Some, None, if◌then◌else◌, ap, sym}
use Rattle.schedule_model.specs.Course.{Course, course, courses_of}
use Rattle.schedule_model.specs.Histories.{acts, is_active, of_process}
use Rattle.instance_state.specs.Instances.{opened}
use Rattle.machine_model.specs.ProcessState.{ProcessState, opening_state}
use Rattle.schedule_model.specs.declared.event.Event.{Event}
use Rattle.machine_model.specs.Moment.{opening_moment}
use Rattle.machine_model.specs.State.{process_state}
use Rattle.core_state.proofs.ProcessActs.{opens_by_acts}
use Rattle.core_state.proofs.opening.opened_instance.Goals as goal

pub returns : goal.returns
returns c =
    let h = c.args.h.now in
    let i = c.args.i in
    let cs = courses_of h.plans in
    let own : c.deref.result.now ≡ of_process i (acts h.events) = c.deref.ensures.value ∙ (c.in_ok-acts.ensures ∙ ap (λ (es : List Event). of_process i (acts es)) c.as_slice.ensures) in
    let active' : is_active h.events i ≡ true = sym c.active.ensures ∙ c.if-not-active.false in
    ap Some (c.in_ok-replay.ensures
    ∙ (ap (opened c.args.plan.now) own
    ∙ (ap (λ (x : Course). record { course = x; state = opening_state x (of_process i (acts h.events)) }) (sym c.requires.course)
    ∙ ap (λ (s : ProcessState). record { course = course cs i; state = s }) (sym (opens_by_acts cs h.events i)))))
    ∙ sym (ap (λ t. if t then Some (record { course = course cs i; state = process_state cs (opening_moment h.events) i }) else None) active')
