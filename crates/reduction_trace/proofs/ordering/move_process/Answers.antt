use Rattle.std.proofs.Common.{eqb, ◌∷◌, ap, sym, ◌∙◌}
use Rattle.schedule_model.specs.PrintedTrace.{first_place}
use Rattle.reduction_trace.proofs.ProcessPassed.{first-of_process, process-passed}
use Rattle.reduction_trace.proofs.ordering.move_process.Goals as goal

pub loop-place-preserved : goal.loop-place-preserved
loop-place-preserved c =
    let i = c.args.process in
    let found = ap (first_place (λ e. eqb e.process i)) (sym c.deref.ensures.value) ∙ (sym c.first_of.ensures.place ∙ c.in-Some.is) in
    record {
      phase = λ order. c.loop-place.invariant.phase order ∙ c.in_ok-move_entry.ensures.phase (i ∷ order) (first-of_process i order c.loop-place.left.items c.in-Some.place found);
      count = c.in_ok-move_entry.ensures.count ∙ c.loop-place.invariant.count;
    }

pub returns-clause-phase : goal.returns-clause-phase
returns-clause-phase c = λ order.
    let i = c.args.process in
    let none = ap (first_place (λ e. eqb e.process i)) (sym c.deref.ensures.value) ∙ (sym c.first_of.ensures.place ∙ c.in_default.is) in
    c.loop-place.invariant.phase order ∙ process-passed i order c.loop-place.steps.items c.loop-place.serial.items c.loop-place.left.items none
