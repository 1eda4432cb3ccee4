use Rattle.std.proofs.Common.{[], sym, subst}
use Rattle.session_play.specs.Pieces.{AreHandedBy}
use Rattle.session_play.proofs.AskedPieces.{admit_handed, all_stay}
use Rattle.process_engine.specs.Queues.{AreQueued}
use Rattle.process_engine.proofs.QueuedCalls.{queued_at_admit}
use Rattle.session_play.proofs.asking.play_admit.Goals as goal

pub returns-clause-handed : goal.returns-clause-handed
returns-clause-handed g c =
    let new = c.admit-reply.new.engine.core in
    let goes = c.admit-reply.ensures.goes [] in
    subst (AreHandedBy new) (sym c.in_ok-keep_admitted.ensures.kept)
    (admit_handed new c.args.pieces.now.items c.admit-reply.result (all_stay c.args.engine.now.core new goes.added c.args.pieces.now.items goes.kept c.requires.handed) c.admit-reply.ensures.given)

pub returns-clause-queued : goal.returns-clause-queued
returns-clause-queued g c queued was = subst (λ e. AreQueued e queued) (sym c.admit-reply.ensures.engine) (queued_at_admit c.args.engine.now queued was c.args.i)
