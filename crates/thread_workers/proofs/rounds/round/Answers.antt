use Rattle.std.proofs.Common.{◌∙◌, Ok, Result, ap}
use Rattle.process_core.specs.declared.replies.Next.{Next as CoreNext}
use Rattle.engine_steps.specs.declared.engines.Closed.{Closed}
use Rattle.engine_calls.specs.GateAnswers.{counts_of}
use Rattle.shared_engine.specs.declared.outcomes.NextTurn.TheVariants.{Answered}
use Rattle.thread_workers.specs.Workers.{asks_for}
use Rattle.thread_workers.proofs.Knowledge.{knows_asked, opened_still, owed_by}
use Rattle.thread_workers.proofs.rounds.round.Goals as goal

pub work-seat-requires-clause-opened : goal.work-seat-requires-clause-opened
work-seat-requires-clause-opened g c =
    opened_still g.R.Rack.disk g.B.Resource c.args.seat.place.me.0 c.ask-seat.result.0.place.me.0
    c.ask-seat.ensures.turn.opening c.requires.opened

pub returns-in-Flushed-clause-knows : goal.returns-in-Flushed-clause-knows
returns-in-Flushed-clause-knows g c begun knows =
    knows_asked g.R.Rack.disk g.B.Resource g.G.Gate.answers c.ask-seat.result.1 0 begun
    (counts_of g.G.Gate c.args.gate.now) c.args.seat.place.me.0 c.ask-seat.result.0.place.me.0 (ap owed_by c.in-Flushed.is)
    c.ask-seat.ensures.turn c.ask-seat.ensures.given knows

pub returns-in-Answered-Ok-Piece-clause-knows : goal.returns-in-Answered-Ok-Piece-clause-knows
returns-in-Answered-Ok-Piece-clause-knows g c begun knows =
    let now = counts_of g.G.Gate c.args.gate.now in
    let owes = ap owed_by c.in-Answered-Ok-Piece.is ∙ (ap (λ (r : Result CoreNext Closed). owed_by (Answered r)) c.in-Answered-Ok-Piece.field-0-is
    ∙ ap (λ (r : CoreNext). owed_by (Answered (Ok r))) c.in-Answered-Ok-Piece.field-0-0-is) in
    c.work-seat.ensures.knows begun (knows_asked g.R.Rack.disk g.B.Resource g.G.Gate.answers c.ask-seat.result.1 (asks_for c.in-Answered-Ok-Piece.piece) begun now
    c.args.seat.place.me.0 c.ask-seat.result.0.place.me.0 owes c.ask-seat.ensures.turn c.ask-seat.ensures.given knows)

pub returns-in-Answered-Ok-Wait-clause-knows : goal.returns-in-Answered-Ok-Wait-clause-knows
returns-in-Answered-Ok-Wait-clause-knows g c begun knows =
    let now = counts_of g.G.Gate c.args.gate.now in
    let owes = ap owed_by c.in-Answered-Ok-Wait.is ∙ (ap (λ (r : Result CoreNext Closed). owed_by (Answered r)) c.in-Answered-Ok-Wait.field-0-is
    ∙ ap (λ (r : CoreNext). owed_by (Answered (Ok r))) c.in-Answered-Ok-Wait.field-0-0-is) in
    knows_asked g.R.Rack.disk g.B.Resource g.G.Gate.answers c.ask-seat.result.1 0 begun now
    c.args.seat.place.me.0 c.ask-seat.result.0.place.me.0 owes c.ask-seat.ensures.turn c.ask-seat.ensures.given knows

pub returns-in-Answered-Ok-AllEnded-clause-knows : goal.returns-in-Answered-Ok-AllEnded-clause-knows
returns-in-Answered-Ok-AllEnded-clause-knows g c begun knows =
    let now = counts_of g.G.Gate c.args.gate.now in
    let owes = ap owed_by c.in-Answered-Ok-AllEnded.is ∙ (ap (λ (r : Result CoreNext Closed). owed_by (Answered r)) c.in-Answered-Ok-AllEnded.field-0-is
    ∙ ap (λ (r : CoreNext). owed_by (Answered (Ok r))) c.in-Answered-Ok-AllEnded.field-0-0-is) in
    knows_asked g.R.Rack.disk g.B.Resource g.G.Gate.answers c.ask-seat.result.1 0 begun now
    c.args.seat.place.me.0 c.ask-seat.result.0.place.me.0 owes c.ask-seat.ensures.turn c.ask-seat.ensures.given knows

pub returns-in-Answered-Ok-Stuck-clause-knows : goal.returns-in-Answered-Ok-Stuck-clause-knows
returns-in-Answered-Ok-Stuck-clause-knows g c begun knows =
    let now = counts_of g.G.Gate c.args.gate.now in
    let owes = ap owed_by c.in-Answered-Ok-Stuck.is ∙ (ap (λ (r : Result CoreNext Closed). owed_by (Answered r)) c.in-Answered-Ok-Stuck.field-0-is
    ∙ ap (λ (r : CoreNext). owed_by (Answered (Ok r))) c.in-Answered-Ok-Stuck.field-0-0-is) in
    knows_asked g.R.Rack.disk g.B.Resource g.G.Gate.answers c.ask-seat.result.1 0 begun now
    c.args.seat.place.me.0 c.ask-seat.result.0.place.me.0 owes c.ask-seat.ensures.turn c.ask-seat.ensures.given knows

pub returns-in-Answered-Err-clause-knows : goal.returns-in-Answered-Err-clause-knows
returns-in-Answered-Err-clause-knows g c begun knows =
    let now = counts_of g.G.Gate c.args.gate.now in
    let owes = ap owed_by c.in-Answered-Err.is ∙ ap (λ (r : Result CoreNext Closed). owed_by (Answered r)) c.in-Answered-Err.field-0-is in
    knows_asked g.R.Rack.disk g.B.Resource g.G.Gate.answers c.ask-seat.result.1 0 begun now
    c.args.seat.place.me.0 c.ask-seat.result.0.place.me.0 owes c.ask-seat.ensures.turn c.ask-seat.ensures.given knows
