use Rattle.std.proofs.Common.{◌≡◌, ◌∙◌, sym, ap, subst}
use Rattle.std.specs.List.{Contains}
use Rattle.schedule_model.specs.Course.{courses_of}
use Rattle.schedule_model.specs.Histories.{acts, ends}
use Rattle.schedule_model.specs.PrintedTrace.{Trace}
use Rattle.reduction_trace.specs.Whole.{completed_history}
use Rattle.value_rules.specs.HistoryValues.{value_after}
use Rattle.value_replay.specs.Replays.{ArePlaces, serial_list}
use Rattle.value_replay.proofs.Places.{are-places}
use Rattle.value_replay.proofs.Serial.{completed-already, nets-are_steps}
use Rattle.value_replay.proofs.execution.lines_on.Goals as goal

pub execute_all-requires-clause-steps : goal.execute_all-requires-clause-steps
execute_all-requires-clause-steps g c e is =
    nets-are_steps (courses_of c.args.h.now.plans) (completed_history c.args.h.now) (ends (completed_history c.args.h.now)) e
    (subst (λ es. Contains es e) (c.as_slice-3.ensures ∙ c.in_ok-reduction.ensures.serial.1) is)

pub execute_all-requires-clause-places : goal.execute_all-requires-clause-places
execute_all-requires-clause-places g c = subst ArePlaces (sym c.as_slice.ensures) (are-places c.args.c.now.ops c.requires.catalog.good)

pub returns-clause-values : goal.returns-clause-values
returns-clause-values g c q x at key =
    let ops = c.args.c.now.ops in
    let plans = c.args.h.now.plans in
    let events = c.args.h.now.events in
    let serial_is : c.as_slice-3.result.now ≡ serial_list c.args.h.now = c.as_slice-3.ensures ∙ ap (λ (t : Trace). t.list) c.in_ok-reduction.ensures.printed in
    let law = c.serial_lists_keep_values.ensures.completed c.args.c.now plans events (record {
      catalog = c.requires.catalog;
      sound = (c.first_commuting_is_exact.ensures c.args.c.now).none c.requires.sound;
      planned = c.requires.planned;
      legal = c.requires.legal;
    }) in
    c.in_ok-lines.ensures.values q x at key
    ∙ (ap (λ os. value_after os c.as_slice-2.result.now c.as_slice-3.result.now q key) c.as_slice.ensures
    ∙ (ap (λ ps. value_after ops ps c.as_slice-3.result.now q key) c.as_slice-2.ensures
    ∙ (ap (λ es. value_after ops plans es q key) serial_is
    ∙ (law.values q key ∙ ap (λ h. value_after ops plans (acts h) q key) (completed-already (courses_of plans) events c.requires.ended)))))
