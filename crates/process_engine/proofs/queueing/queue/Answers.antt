use Rattle.std.proofs.Common.{◌∙◌, refl, sym, true, false}
use Rattle.engine_steps.specs.Targets.{targets_of}
use Rattle.process_engine.specs.Finishing.{is_barred}
use Rattle.process_engine.specs.Pieces.{numbers_of}
use Rattle.process_engine.specs.Queueing.{taken_by}
use Rattle.process_engine.specs.Queues.{pieces_of}
use Rattle.process_engine.proofs.QueueReplies.{dropped_reply, over_reply, queued_reply}
use Rattle.process_engine.proofs.QueuedThen.{listed_for}
use Rattle.process_engine.proofs.queueing.queue.Goals as goal

pub returns-then-has_number-clause-queues : goal.returns-then-has_number-clause-queues
returns-then-has_number-clause-queues g c settled =
    let e = c.args.engine.now in
    let group = c.args.queued.now in
    let d = c.args.piece in
    let listed = listed_for c.deref.result.now group d c.number.result c.has_number.result true (c.deref.ensures.value ∙ c.queued.view_is) c.number.ensures c.has_number.ensures c.if-has_number.true in
    record { reply = queued_reply e.core d.piece c.requires.handed (targets_of e.catalog.ops) (numbers_of (pieces_of group)) (taken_by c.args.answer (is_barred e d.piece)) listed; left = (refl, refl) }

pub returns-in-Dropped-clause-queues : goal.returns-in-Dropped-clause-queues
returns-in-Dropped-clause-queues g c settled =
    let e = c.args.engine.now in
    let group = c.args.queued.now in
    let d = c.args.piece in
    let listed = listed_for c.deref.result.now group d c.number.result c.has_number.result false (c.deref.ensures.value ∙ c.queued.view_is) c.number.ensures c.has_number.ensures c.if-has_number.false in
    record {
      reply = dropped_reply e.core d.piece c.requires.handed (targets_of e.catalog.ops) (numbers_of (pieces_of group)) (taken_by c.args.answer (is_barred e d.piece)) listed c.in-Dropped.event (sym c.state.ensures ∙ c.in-Dropped.is);
      left = (refl, refl);
    }

pub returns-in-Over-clause-queues : goal.returns-in-Over-clause-queues
returns-in-Over-clause-queues g c settled =
    let e = c.args.engine.now in
    let group = c.args.queued.now in
    let d = c.args.piece in
    let listed = listed_for c.deref.result.now group d c.number.result c.has_number.result false (c.deref.ensures.value ∙ c.queued.view_is) c.number.ensures c.has_number.ensures c.if-has_number.false in
    record {
      reply = over_reply e.core d.piece c.requires.handed (targets_of e.catalog.ops) (numbers_of (pieces_of group)) (taken_by c.args.answer (is_barred e d.piece)) listed (sym c.state.ensures ∙ c.in-Over.is);
      left = (refl, refl);
    }
