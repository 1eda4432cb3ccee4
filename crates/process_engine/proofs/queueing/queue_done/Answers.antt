use Rattle.std.proofs.Common.{◌∙◌, inr, refl, sym, subst, true, false}
use Rattle.process_tree.specs.Order.{Each}
use Rattle.process_engine.specs.Queues.{AreQueued, IsUnfinished, pieces_of}
use Rattle.process_engine.proofs.QueuedThen.{free_back, full_for, replies_full, replies_queued, work_by}
use Rattle.process_engine.proofs.StillQueued.{back_queued, finds_room}
use Rattle.process_engine.proofs.queueing.queue_done.Goals as goal

pub returns-then-is_full-clause-queues : goal.returns-then-is_full-clause-queues
returns-then-is_full-clause-queues g c =
    let e = c.args.engine.now in
    let group = c.args.queued.now in
    let full = full_for e c.deref.result.now group c.args.piece c.is_full.result true (c.deref.ensures.value ∙ c.queued.view_is) c.is_full.ensures c.if-is_full.true in
    record { reply = replies_full e group c.args.piece c.requires.queued c.requires.handed c.requires.out c.requires.new full; left = (refl, refl, refl) }

pub put_in-requires : goal.put_in-requires
put_in-requires g c =
    let e = c.args.engine.now in
    let group = c.args.queued.now in
    finds_room e group c.args.piece c.requires.queued c.invariant_holds.ensures.run c.requires.handed c.requires.out c.requires.new

pub returns-in-Undo : goal.returns-in-Undo
returns-in-Undo g c =
    let e = c.args.engine.now in
    let group = c.args.queued.now in
    let d = c.args.piece in
    let full = full_for e c.deref.result.now group d c.is_full.result false (c.deref.ensures.value ∙ c.queued.view_is) c.is_full.ensures c.if-is_full.false in
    let back = work_by d.piece.work c.work.result c.work.ensures c.in-Undo.is in
    record {
      queues = record { reply = replies_queued e group d c.requires.queued c.requires.handed c.requires.out c.requires.new full (free_back e d back); left = (inr refl, c.put_in.ensures) };
      queued = subst (AreQueued e) (sym c.put_in.ensures)
          (back_queued e group d c.requires.queued c.invariant_holds.ensures.run c.requires.handed c.requires.out c.requires.new back);
      fits = c.requires.fits;
      rack = refl;
    }

pub is_full-requires : goal.is_full-requires
is_full-requires g c = record { unfinished = subst (λ ps. Each (IsUnfinished c.args.engine.now.core) (pieces_of ps)) (sym (c.deref.ensures.value ∙ c.queued.view_is)) c.requires.queued.unfinished }
