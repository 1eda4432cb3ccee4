use Rattle.std.proofs.Common.{sym, subst}
use Rattle.history_files.specs.Standing.{EachFits}
use Rattle.process_engine.specs.Queueing.{RepliesAs, reply_to}
use Rattle.process_engine.specs.Queues.{AreQueued}
use Rattle.process_engine.proofs.QueuedThen.{left_refused, refused_no_end, replies_refused}
use Rattle.process_engine.proofs.StillQueued.{queued_later}
use Rattle.process_engine.proofs.queueing.queue_out.Goals as goal

pub returns-in-Refused-clause-queues : goal.returns-in-Refused-clause-queues
returns-in-Refused-clause-queues g c =
    let e = c.args.engine.now in
    let group = c.args.queued.now in
    let d = c.args.piece in
    record {
      reply = subst (λ a. RepliesAs c.refuse.result (reply_to e group d a)) (sym c.in-Refused.is)
          (subst (RepliesAs c.refuse.result) (sym (replies_refused e group d c.requires.queued c.requires.handed c.requires.out c.requires.new (refused_no_end d c.args.answer c.requires.end c.in-Refused.is))) c.refuse.ensures.reply);
      left = left_refused e c.refuse.new.engine group d c.refuse.result c.refuse.ensures.refusal c.refuse.ensures.refused;
    }

pub returns-in-Refused-clause-queued : goal.returns-in-Refused-clause-queued
returns-in-Refused-clause-queued g c =
    subst (λ x. AreQueued x c.args.queued.now) (sym c.refuse.ensures.refused) (queued_later c.args.engine.now c.args.piece.piece.number c.args.queued.now c.requires.queued c.requires.new)

pub returns-in-Refused-clause-fits : goal.returns-in-Refused-clause-fits
returns-in-Refused-clause-fits g c = subst (λ x. EachFits g.B.Resource x.files.stores) (sym c.refuse.ensures.refused) c.requires.fits
