use Rattle.std.proofs.Common.{◌≡◌, ◌∙◌, Err, IfSome, inl, refl, sym, subst}
use Rattle.process_flow.specs.Causes.{Rose}
use Rattle.command_refusals.specs.declared.status.Status.TheVariants.{WriteFault}
use Rattle.command_input.specs.Outputs.{output, IsTold}
use Rattle.session_play.specs.declared.cut.Cut.TheVariants.{DiskFault}
use Rattle.session_play.specs.AtHand.{hand_of}
use Rattle.driver_answers.specs.Serving.{DriverState}
use Rattle.serve_run.specs.Dialogue.{fault_line, status_of}
use Rattle.serve_run.proofs.Turns.{cut_amid, given_amid, gone_settled}
use Rattle.serve_run.proofs.exchange.respond.Goals as goal

pub returns-in-Ok-clause-over : goal.returns-in-Ok-clause-over
returns-in-Ok-clause-over g c =
    let old : DriverState = record { core = c.args.engine.now.core; hand = hand_of c.args.hand.now } in
    let new : DriverState = record { core = c.answer_line.new.engine.core; hand = hand_of c.answer_line.new.hand } in
    let goes = c.answer_line.ensures.goes in
    let ready = c.answer_line.ensures.ready (λ bad. absurd (let is = c.in-Ok.is in cc)) in
    given_amid g.K.Sink g.R.Rack c.args.plans.now old c.args.number c.args.sink.now c.give.new.sink c.args.engine.now c.answer_line.new.engine goes.0 goes.2 c.give.result c.args.line.now c.in-Ok.text.items new goes.1
    (inl (c.requires.line, c.in-Ok.ensures.answered)) refl ready.settled
    (subst (λ t. IfSome c.give.result (λ s. (s ≡ WriteFault) × IsTold WriteFault t (output g.K.Sink c.args.sink.now) (output g.K.Sink c.give.new.sink) s × Rose (g.K.Sink.faults c.args.sink.now) (g.K.Sink.faults c.give.new.sink)))
    c.deref.ensures.value c.give.ensures.part)

pub returns-in-Ok-clause-goes : goal.returns-in-Ok-clause-goes
returns-in-Ok-clause-goes g c =
    let old : DriverState = record { core = c.args.engine.now.core; hand = hand_of c.args.hand.now } in
    let goes = c.answer_line.ensures.goes in
    let ready = c.answer_line.ensures.ready (λ bad. absurd (let is = c.in-Ok.is in cc)) in
    gone_settled g.K.Sink g.R.Rack c.args.plans.now old c.args.number c.args.sink.now c.give.new.sink c.args.engine.now c.answer_line.new.engine goes.0 goes.2 c.give.result ready.settled

pub returns-in-Err-clause-over : goal.returns-in-Err-clause-over
returns-in-Err-clause-over g c =
    let old : DriverState = record { core = c.args.engine.now.core; hand = hand_of c.args.hand.now } in
    let goes = c.answer_line.ensures.goes in
    cut_amid g.K.Sink g.R.Rack c.args.plans.now old c.args.number c.args.sink.now c.tell_fault.new.sink c.args.engine.now c.answer_line.new.engine goes.0 goes.2 c.in-Err.cut c.tell_fault.result c.args.line.now goes.1
    c.in-Err.ensures.cut
    (subst (λ f. IsTold (status_of f) (fault_line f) (output g.K.Sink c.args.sink.now) (output g.K.Sink c.tell_fault.new.sink) c.tell_fault.result) c.fault_of.ensures c.tell_fault.ensures)
    c.in-Err.ensures.fault
    (λ other. (c.answer_line.ensures.ready (λ bad. other (let is = c.in-Err.is in let same : Err c.in-Err.cut ≡ Err DiskFault = sym is ∙ bad in cc))).settled)
