use Rattle.std.proofs.Common.{◌≡◌, ◌∙◌, sym, ap, subst}
use Rattle.std.specs.Option.{option_map}
use Rattle.process_core.specs.declared.replies.Found.{Found}
use Rattle.process_core.specs.Handing.{with_served}
use Rattle.process_core.specs.Moments.{first_blocked_in}
use Rattle.process_core.specs.Rotation.{IfWaiting, next_reply_of, piece_found, waiting_of}
use Rattle.process_core.proofs.NextKept.{may_next, next_given, next_none}
use Rattle.process_core.proofs.cores.Core.next.Goals as goal

pub none_free-requires : goal.none_free-requires
none_free-requires c =
    subst (λ (f : Found). IfWaiting f (λ w. option_map waiting_of w ≡ first_blocked_in c.free_piece.new.self)) c.in-Waiting.is c.free_piece.ensures.waiting

pub hand-requires : goal.hand-requires
hand-requires c = may_next c.free_piece.new.self c.in-Piece.piece (ap piece_found (sym c.in-Piece.is) ∙ c.free_piece.ensures.piece)

pub returns-in-Waiting-clause-core : goal.returns-in-Waiting-clause-core
returns-in-Waiting-clause-core c =
    (next_none c.args.self.now c.free_piece.new.self c.free_piece.ensures.core (ap piece_found (sym c.in-Waiting.is) ∙ c.free_piece.ensures.piece) (next_reply_of c.none_free.result) c.none_free.ensures).0

pub returns-in-Waiting-clause-reply : goal.returns-in-Waiting-clause-reply
returns-in-Waiting-clause-reply c =
    (next_none c.args.self.now c.free_piece.new.self c.free_piece.ensures.core (ap piece_found (sym c.in-Waiting.is) ∙ c.free_piece.ensures.piece) (next_reply_of c.none_free.result) c.none_free.ensures).1

pub returns-in-Piece-clause-core : goal.returns-in-Piece-clause-core
returns-in-Piece-clause-core c =
    c.serve.ensures ∙ (ap (with_served c.hand.new.self) c.process.ensures ∙ (ap (λ x. with_served x c.in-Piece.piece.piece.process) c.hand.ensures
    ∙ (next_given c.args.self.now c.free_piece.new.self c.free_piece.ensures.core c.in-Piece.piece (ap piece_found (sym c.in-Piece.is) ∙ c.free_piece.ensures.piece)).0))

pub returns-in-Piece-clause-reply : goal.returns-in-Piece-clause-reply
returns-in-Piece-clause-reply c = (next_given c.args.self.now c.free_piece.new.self c.free_piece.ensures.core c.in-Piece.piece (ap piece_found (sym c.in-Piece.is) ∙ c.free_piece.ensures.piece)).1
