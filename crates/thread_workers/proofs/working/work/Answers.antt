use Rattle.std.proofs.Common.{sym, subst}
use Rattle.machine_model.specs.Replies.{Handed}
use Rattle.process_engine.specs.declared.gates.Answer.{Answer}
use Rattle.process_engine.specs.declared.gates.Answer.TheVariants.{Done}
use Rattle.engine_calls.specs.GateAnswers.{counts_of}
use Rattle.shared_engine.specs.Entries.{queue_said}
use Rattle.shared_engine.specs.Outcomes.{HandsBack, queue_entry}
use Rattle.shared_engine.specs.Tallies.{IsAnswerTo}
use Rattle.shared_engine.proofs.MadeTurns.{if_map}
use Rattle.thread_workers.specs.Workers.{HasGot, HasStopped, Stops}
use Rattle.thread_workers.proofs.Knowledge.{knows_queued, opened_still, still_got, stopped_by}
use Rattle.thread_workers.proofs.working.work.Goals as goal

pub hand_in_late-requires-clause-opened : goal.hand_in_late-requires-clause-opened
hand_in_late-requires-clause-opened g c =
    opened_still g.R.Rack.disk g.B.Resource c.args.seat.place.me.0 c.hand_in-seat.result.0.place.me.0
    c.hand_in-seat.ensures.turn.opening c.requires.opened

pub hand_in_late-requires-clause-handed : goal.hand_in_late-requires-clause-handed
hand_in_late-requires-clause-handed g c =
    let d = c.args.piece in
    let a = c.answer_to-answer.result in
    let w = c.hand_in-seat.result.0.place.me.0 in
    let back = subst (HandsBack d a) c.in-Full.is c.hand_in-seat.ensures.back in
    let got = still_got d (queue_entry d.piece.number a c.hand_in-seat.result.1) c.args.seat.place.me.0 w c.hand_in-seat.ensures.turn
    c.requires.handed in
    subst (λ (q : Handed). HasGot q w) (sym back.0) got

pub returns-in-Full-clause-knows : goal.returns-in-Full-clause-knows
returns-in-Full-clause-knows g c begun knows =
    let answers = g.G.Gate.answers in
    let d = c.args.piece in
    let a = c.answer_to-answer.result in
    let told = c.answer_to-answer.ensures.told in
    let before = counts_of g.G.Gate c.args.gate.now in
    let after = counts_of g.G.Gate c.answer_to-answer.new.gate in
    let back = subst (HandsBack d a) c.in-Full.is c.hand_in-seat.ensures.back in
    let answered = subst (λ (q : Handed). IsAnswerTo answers q Done) (sym back.0) (subst (λ (x : Answer). IsAnswerTo answers d x) back.1 told) in
    c.hand_in_late.ensures.knows answers answered begun after
    (knows_queued g.R.Rack.disk g.B.Resource answers d a (queue_said c.hand_in-seat.result.1) begun before after
    c.args.seat.place.me.0 c.hand_in-seat.result.0.place.me.0 c.hand_in-seat.ensures.turn c.requires.handed told c.answer_to-answer.ensures.counts knows)

pub returns-in_default : goal.returns-in_default
returns-in_default g c =
    let d = c.args.piece in
    let a = c.answer_to-answer.result in
    let e = c.hand_in-seat.ensures in
    let v = c.args.seat.place.me.0 in
    let w = c.hand_in-seat.result.0.place.me.0 in
    let before = counts_of g.G.Gate c.args.gate.now in
    let after = counts_of g.G.Gate c.answer_to-answer.new.gate in
    let entry = queue_entry d.piece.number a c.hand_in-seat.result.1 in
    record {
      desk = e.desk;
      keeps = (e.turn.opening, e.turn.share);
      knows = λ begun knows.
          knows_queued g.R.Rack.disk g.B.Resource g.G.Gate.answers d a (queue_said c.hand_in-seat.result.1) begun before after
          v w e.turn c.requires.handed c.answer_to-answer.ensures.told c.answer_to-answer.ensures.counts knows;
      stopped = if_map c.failure.result (λ o. Stops o entry) (λ o. HasStopped o w.places) (λ o stops. stopped_by o entry v w e.turn stops)
          (c.failure.ensures d.piece.number a);
    }
