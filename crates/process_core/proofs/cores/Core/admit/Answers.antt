use Rattle.std.proofs.Common.{◌∙◌, sym, ap}
use Rattle.core_state.specs.Cores.{courses_in, moment_of, relation}
use Rattle.process_core.specs.Handing.{admit_reply_of}
use Rattle.process_core.proofs.ReplyKept.{may_be_handed}
use Rattle.process_core.proofs.cores.Core.admit.Goals as goal

pub hand-requires : goal.hand-requires
hand-requires c =
    let v = c.args.self.now in
    may_be_handed (relation v) (courses_in v) (moment_of v) c.args.i c.in-Piece.piece (sym c.reply_of-reply.ensures ∙ ap admit_reply_of c.in-Piece.is)
