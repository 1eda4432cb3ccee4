use Rattle.std.proofs.Common.{◌≢◌, ◌∙◌, Some, [], ap, refl, subst, sym}
use Rattle.std.specs.Option.{option_map}
use Rattle.machine_model.specs.Replies.{all_ended, stuck}
use Rattle.process_core.specs.Rotation.{waiting_of}
use Rattle.engine_steps.specs.Engines.{EngineState}
use Rattle.worker_gate.specs.declared.alone.RunOutcome.TheVariants.{DiskFault}
use Rattle.worker_gate.proofs.AloneReplies.{all_have_ended, alone_out, no_wait_alone, stuck_again, stuck_stays}
use Rattle.worker_gate.proofs.AloneTurns.{idle_after, no_fault}
use Rattle.engine_calls.specs.GateAnswers.{counts_of}
use Rattle.worker_gate.proofs.RanRuns.{ran_next, ran_turn}
use Rattle.worker_gate.proofs.alone.turn.Goals as goal

pub unreachable-requires : goal.unreachable-requires
unreachable-requires g c =
    no_wait_alone c.args.engine.now.core c.next.new.engine.core (ap (λ (e : EngineState g.row.R.Denot g.row.B.Denot). e.core) c.in-Wait.ensures.engine) c.requires.alone (option_map waiting_of c.in-Wait.field-0) c.in-Wait.ensures.reply

pub returns-in-Piece-clause-ran : goal.returns-in-Piece-clause-ran
returns-in-Piece-clause-ran g c =
    let told = c.in-Piece.ensures in
    let done = c.work.ensures in
    ran_turn g.R.Rack g.G.Gate.answers (counts_of g.G.Gate c.args.gate.now) (counts_of g.G.Gate c.work.new.gate) c.args.engine.now c.next.new.engine c.work.new.engine c.in-Piece.piece
    done.ends.outcome c.work.result told.ready.settled c.invariant_holds-in-Piece.ensures.run (g.met.R.Rack.honest c.work.new.engine.files.rack) told.engine told.reply told.goes done.goes done.ends.finishes done.gate
    (λ end. ap g.G.Gate.asked (done.unasked end)) done.asked

pub returns-in-Piece-clause-ready : goal.returns-in-Piece-clause-ready
returns-in-Piece-clause-ready g c other = c.work.ensures.ready (no_fault c.work.result (subst (λ o. o ≢ Some DiskFault) c.failure.ensures other))

pub returns-in-Piece-clause-idle : goal.returns-in-Piece-clause-idle
returns-in-Piece-clause-idle g c none =
    let told = c.in-Piece.ensures in
    let out = alone_out c.args.engine.now.core c.next.new.engine.core (ap (λ (e : EngineState g.row.R.Denot g.row.B.Denot). e.core) told.engine) c.requires.alone c.in-Piece.piece told.reply in
    idle_after g.R.Rack c.next.new.engine c.work.new.engine c.in-Piece.piece told.given.handed out (c.work.ensures.goes []) c.work.ensures.ends.outcome c.work.result c.work.ensures.ends.finishes (sym c.failure.ensures ∙ none)

pub returns-in-AllEnded-clause-ran : goal.returns-in-AllEnded-clause-ran
returns-in-AllEnded-clause-ran g c =
    let told = c.in-AllEnded.ensures in
    ran_next g.R.Rack g.G.Gate.answers (counts_of g.G.Gate c.args.gate.now) c.args.engine.now c.next.new.engine all_ended told.engine told.reply told.goes refl

pub returns-in-AllEnded-clause-outcome : goal.returns-in-AllEnded-clause-outcome
returns-in-AllEnded-clause-outcome g c =
    all_have_ended c.args.engine.now.core c.next.new.engine.core (ap (λ (e : EngineState g.row.R.Denot g.row.B.Denot). e.core) c.in-AllEnded.ensures.engine) c.in-AllEnded.ensures.reply

pub returns-in-Stuck-clause-ran : goal.returns-in-Stuck-clause-ran
returns-in-Stuck-clause-ran g c =
    let told = c.in-Stuck.ensures in
    ran_next g.R.Rack g.G.Gate.answers (counts_of g.G.Gate c.args.gate.now) c.args.engine.now c.next.new.engine (stuck c.in-Stuck.process) told.engine told.reply told.goes refl

pub returns-in-Stuck-clause-outcome : goal.returns-in-Stuck-clause-outcome
returns-in-Stuck-clause-outcome g c =
    let core = ap (λ (e : EngineState g.row.R.Denot g.row.B.Denot). e.core) c.in-Stuck.ensures.engine in (
      stuck_again c.args.engine.now.core c.next.new.engine.core core c.in-Stuck.process c.in-Stuck.ensures.reply,
      stuck_stays c.args.engine.now.core c.next.new.engine.core core c.invariant_holds.ensures.run.session c.in-Stuck.process c.in-Stuck.ensures.reply,
    )
