use Rattle.std.proofs.Common.{◌∙◌, ap, List}
use Rattle.schedule_model.specs.declared.event.Event.{Event}
use Rattle.schedule_model.specs.Completion.{completion}
use Rattle.schedule_model.specs.Course.{courses_of}
use Rattle.schedule_model.specs.PrintedTrace.{Trace}
use Rattle.process_report.specs.Report.{report_of}
use Rattle.process_report.specs.Reduced.{trace_in}
use Rattle.process_report.proofs.printing.report.Goals as goal

pub returns : goal.returns
returns c =
    let text = report_of c.args.c.now c.args.h.now c.args.causes.now in
    c.in_ok-text.ensures
    ∙ (ap (λ (es : List Event). text es (trace_in c.in_ok-reduction.reduction)) c.in_ok-reduction.ensures.list.0
    ∙ ap (λ (t : Trace). text (completion (courses_of c.args.h.now.plans) c.args.h.now.events) t) c.in_ok-reduction.ensures.printed)
