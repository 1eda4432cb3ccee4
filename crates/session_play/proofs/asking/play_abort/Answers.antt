use Rattle.std.proofs.Common.{[], subst, sym}
use Rattle.session_play.proofs.AskedPieces.{all_stay}
use Rattle.process_engine.specs.Queues.{AreQueued}
use Rattle.process_engine.proofs.QueuedCalls.{queued_at_abort}
use Rattle.session_play.proofs.asking.play_abort.Goals as goal

pub returns-clause-handed : goal.returns-clause-handed
returns-clause-handed g c =
    let goes = c.abort-reply.ensures.goes [] in
    all_stay c.args.engine.now.core c.abort-reply.new.engine.core goes.added c.args.pieces.now.items goes.kept c.requires.handed

pub returns-clause-queued : goal.returns-clause-queued
returns-clause-queued g c queued was = subst (λ e. AreQueued e queued) (sym c.abort-reply.ensures.engine) (queued_at_abort c.args.engine.now queued was c.args.i)
