use Rattle.std.proofs.Common.{◌∙◌, inl, ap, refl, sym, subst}
use Rattle.history_files.specs.Standing.{EachFits}
use Rattle.machine_model.specs.declared.kept.Work.TheVariants.{End}
use Rattle.machine_model.specs.Progress.{same_work}
use Rattle.process_engine.specs.Queueing.{RepliesAs}
use Rattle.process_engine.specs.Queues.{AreQueued}
use Rattle.process_engine.proofs.QueuedThen.{barred_forward, left_refused, replies_barred, replies_queued}
use Rattle.process_engine.proofs.StillQueued.{finds_room, queued_kept, queued_later, queued_with_room}
use Rattle.process_engine.proofs.queueing.queue_step.Goals as goal

pub returns-then-bars-clause-queues : goal.returns-then-bars-clause-queues
returns-then-bars-clause-queues g c =
    let e = c.args.engine.now in
    let group = c.args.queued.now in
    let d = c.args.piece in
    let place = c.requires.place in
    let barred = barred_forward e d c.bars.result c.requires.forward c.bars.ensures ∙ c.if-bars.true in
    let reply = replies_barred e group d place.queued c.requires.out.handed c.requires.out.out place.new place.free barred (ap (λ w. same_work w End) c.requires.forward) in
    record {
      reply = subst (RepliesAs c.refuse.result) (sym reply) c.refuse.ensures.reply;
      left = left_refused e c.refuse.new.engine group d c.refuse.result c.refuse.ensures.refusal c.refuse.ensures.refused;
    }

pub returns-then-bars-clause-queued : goal.returns-then-bars-clause-queued
returns-then-bars-clause-queued g c =
    subst (λ x. AreQueued x c.args.queued.now) (sym c.refuse.ensures.refused) (queued_later c.args.engine.now c.args.piece.piece.number c.args.queued.now c.requires.place.queued c.requires.place.new)

pub returns-then-bars-clause-fits : goal.returns-then-bars-clause-fits
returns-then-bars-clause-fits g c = subst (λ x. EachFits g.B.Resource x.files.stores) (sym c.refuse.ensures.refused) c.requires.fits

pub put_in-requires : goal.put_in-requires
put_in-requires g c =
    let e = c.args.engine.now in
    let place = c.requires.place in
    finds_room e c.args.queued.now c.args.piece place.queued c.invariant_holds.ensures.run c.requires.out.handed c.requires.out.out place.new

pub returns-in-Ok-clause-queues : goal.returns-in-Ok-clause-queues
returns-in-Ok-clause-queues g c =
    let e = c.args.engine.now in
    let place = c.requires.place in
    let free = barred_forward e c.args.piece c.bars.result c.requires.forward c.bars.ensures ∙ c.if-bars.false in
    record {
      reply = replies_queued e c.args.queued.now c.args.piece place.queued c.requires.out.handed c.requires.out.out place.new place.free free;
      left = (inl c.make_room.ensures.room, c.put_in.ensures);
    }

pub returns-in-Ok-clause-queued : goal.returns-in-Ok-clause-queued
returns-in-Ok-clause-queued g c =
    let e = c.args.engine.now in
    let place = c.requires.place in
    subst (AreQueued c.make_room.new.self) (sym c.put_in.ensures)
    (queued_with_room e c.make_room.new.self c.args.queued.now c.args.piece c.make_room.ensures.room c.in-Ok.ensures.adds place.queued
    c.invariant_holds.ensures.run c.requires.out.handed c.requires.out.out place.new c.in-Ok.ensures.ok)

pub returns-in-Err-clause-queues : goal.returns-in-Err-clause-queues
returns-in-Err-clause-queues g c =
    let e = c.args.engine.now in
    let place = c.requires.place in
    let free = barred_forward e c.args.piece c.bars.result c.requires.forward c.bars.ensures ∙ c.if-bars.false in
    record {
      reply = replies_queued e c.args.queued.now c.args.piece place.queued c.requires.out.handed c.requires.out.out place.new place.free free;
      left = (c.make_room.ensures.room, refl, refl, c.requires.forward);
    }

pub returns-in-Err-clause-queued : goal.returns-in-Err-clause-queued
returns-in-Err-clause-queued g c =
    queued_kept c.args.engine.now c.make_room.new.self c.args.piece.piece c.make_room.ensures.room c.in-Err.ensures.keeps c.args.queued.now c.requires.place.queued
