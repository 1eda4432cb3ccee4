use Rattle.std.proofs.Common.{subst}
use Rattle.machine_model.specs.Groups.{refused}
use Rattle.process_engine.specs.Queueing.{RepliesAs}
use Rattle.process_engine.proofs.QueueReplies.{refused_as}
use Rattle.process_engine.proofs.queueing.refuse.Goals as goal

pub returns-clause-reply : goal.returns-clause-reply
returns-clause-reply g c =
    let e = c.args.engine.now in
    let is = refused_as e.core c.args.piece.piece c.requires.out.handed c.requires.out.out c.requires.out.no_end c.refuse_piece.result c.refuse_piece.ensures.reply in
    subst (λ r. RepliesAs c.refused_as.result (refused r)) is c.refused_as.ensures
