use Rattle.std.proofs.Common.{◌≡◌, sym, subst}
use Rattle.machine_model.specs.Replies.{Handed}
use Rattle.process_engine.specs.declared.gates.Answer.TheVariants.{Done}
use Rattle.shared_engine.specs.declared.outcomes.QueueTurn.{QueueTurn}
use Rattle.shared_engine.specs.Entries.{flush_said, queue_said}
use Rattle.shared_engine.specs.Outcomes.{HandsBackAgain, queue_entry, queue_entry_again}
use Rattle.shared_engine.specs.Seats.{HasAdded}
use Rattle.thread_workers.specs.Workers.{HasGot}
use Rattle.thread_workers.proofs.Knowledge.{knows_again, knows_flushed, opened_still, still_got}
use Rattle.thread_workers.proofs.working.try_again.Goals as goal

pub hand_in-seat-requires-clause-opened : goal.hand_in-seat-requires-clause-opened
hand_in-seat-requires-clause-opened g c =
    opened_still g.R.Rack.disk g.B.Resource c.args.seat.place.me.0
    c.hand_in_again-seat.result.0.place.me.0 c.hand_in_again-seat.ensures.turn.opening c.requires.opened

pub hand_in-seat-requires-clause-handed : goal.hand_in-seat-requires-clause-handed
hand_in-seat-requires-clause-handed g c =
    let d = c.args.piece in
    let v = c.args.seat.place.me.0 in
    let w = c.hand_in_again-seat.result.0.place.me.0 in
    let e = c.hand_in_again-seat.ensures in
    let same : c.in-Flushed.piece ≡ d = subst (HandsBackAgain d) c.in-Flushed.is e.back in
    let entry = queue_entry_again d.piece.number c.hand_in_again-seat.result.1 in
    subst (λ (q : Handed). HasGot q w) (sym same) (still_got d entry v w e.turn c.requires.handed)

pub returns-in-Answered-clause-handed : goal.returns-in-Answered-clause-handed
returns-in-Answered-clause-handed g c =
    let d = c.args.piece in
    still_got d (queue_entry_again d.piece.number c.hand_in_again-seat.result.1) c.args.seat.place.me.0
    c.hand_in_again-seat.result.0.place.me.0 c.hand_in_again-seat.ensures.turn c.requires.handed

pub returns-in-Answered-clause-knows : goal.returns-in-Answered-clause-knows
returns-in-Answered-clause-knows g c answers answered begun now knows =
    let d = c.args.piece in
    let v = c.args.seat.place.me.0 in
    let w = c.hand_in_again-seat.result.0.place.me.0 in
    let turn = subst (λ (r : QueueTurn). HasAdded (queue_entry_again d.piece.number r) v w) c.in-Answered.is c.hand_in_again-seat.ensures.turn in
    knows_again g.R.Rack.disk g.B.Resource answers d (queue_said c.in-Answered.reply) begun now v w turn
    c.requires.handed answered knows

pub returns-in-Some-clause-handed : goal.returns-in-Some-clause-handed
returns-in-Some-clause-handed g c =
    let d = c.args.piece in
    still_got d (queue_entry_again d.piece.number c.hand_in_again-seat.result.1) c.args.seat.place.me.0
    c.hand_in_again-seat.result.0.place.me.0 c.hand_in_again-seat.ensures.turn c.requires.handed

pub returns-in-Some-clause-knows : goal.returns-in-Some-clause-knows
returns-in-Some-clause-knows g c answers answered begun now knows =
    let d = c.args.piece in
    let v = c.args.seat.place.me.0 in
    let w = c.hand_in_again-seat.result.0.place.me.0 in
    let turn = subst (λ (r : QueueTurn). HasAdded (queue_entry_again d.piece.number r) v w) c.in-Flushed.is c.hand_in_again-seat.ensures.turn in
    knows_flushed g.R.Rack.disk g.B.Resource answers (flush_said c.in-Flushed.reply) begun now v w turn knows

pub returns-in-None-clause-handed : goal.returns-in-None-clause-handed
returns-in-None-clause-handed g c =
    let d = c.args.piece in
    let v = c.args.seat.place.me.0 in
    let m = c.hand_in_again-seat.result.0.place.me.0 in
    let w = c.hand_in-seat.result.0.place.me.0 in
    let got = still_got d (queue_entry_again d.piece.number c.hand_in_again-seat.result.1) v m c.hand_in_again-seat.ensures.turn c.requires.handed in
    still_got d (queue_entry c.in-Flushed.piece.piece.number Done c.hand_in-seat.result.1) m w c.hand_in-seat.ensures.turn got

pub returns-in-None-clause-knows : goal.returns-in-None-clause-knows
returns-in-None-clause-knows g c answers answered begun now knows =
    let disk = g.R.Rack.disk in
    let box = g.B.Resource in
    let d = c.args.piece in
    let v = c.args.seat.place.me.0 in
    let m = c.hand_in_again-seat.result.0.place.me.0 in
    let w = c.hand_in-seat.result.0.place.me.0 in
    let e = c.hand_in_again-seat.ensures in
    let same : c.in-Flushed.piece ≡ d = subst (HandsBackAgain d) c.in-Flushed.is e.back in
    let flushed = subst (λ (r : QueueTurn). HasAdded (queue_entry_again d.piece.number r) v m) c.in-Flushed.is e.turn in
    let turn = subst (λ (q : Handed). HasAdded (queue_entry q.piece.number Done c.hand_in-seat.result.1) m w) same c.hand_in-seat.ensures.turn in
    let got = still_got d (queue_entry_again d.piece.number c.hand_in_again-seat.result.1) v m e.turn c.requires.handed in
    let then = knows_flushed disk box answers (flush_said c.in-Flushed.reply) begun now v m flushed knows in
    knows_again disk box answers d (queue_said c.hand_in-seat.result.1) begun now m w turn got answered then
