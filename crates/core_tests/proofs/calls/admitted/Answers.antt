use Rattle.std.proofs.Common.{◌∙◌, sym, ap, subst}
use Rattle.machine_model.specs.Calls.{admit, admitted}
use Rattle.process_core.specs.Handing.{admit_reply_of}
use Rattle.core_tests.specs.Pieces.{AreHandedBy}
use Rattle.core_tests.proofs.Pieces.{still_handed, with_admitted}
use Rattle.core_tests.proofs.calls.admitted.Goals as goal

pub returns-in-Ok-clause-pieces : goal.returns-in-Ok-clause-pieces
returns-in-Ok-clause-pieces g c =
    subst (AreHandedBy c.admit-reply.new.self) (sym c.in-Ok.ensures.items)
    (with_admitted c.args.core.now c.admit-reply.new.self c.args.i c.in-Piece.piece c.args.pieces.now.items c.run_holds.ensures c.admit-reply.ensures.core (sym (ap (λ r. admitted (admit_reply_of r)) c.in-Piece.is) ∙ c.admit-reply.ensures.reply) c.requires)

pub returns-in-Blocked-clause-pieces : goal.returns-in-Blocked-clause-pieces
returns-in-Blocked-clause-pieces g c = still_handed c.args.core.now c.admit-reply.new.self (admit c.args.i) c.args.pieces.now.items c.admit-reply.ensures.core c.requires

pub returns-in-Running-clause-pieces : goal.returns-in-Running-clause-pieces
returns-in-Running-clause-pieces g c = still_handed c.args.core.now c.admit-reply.new.self (admit c.args.i) c.args.pieces.now.items c.admit-reply.ensures.core c.requires

pub returns-in-Unknown-clause-pieces : goal.returns-in-Unknown-clause-pieces
returns-in-Unknown-clause-pieces g c = still_handed c.args.core.now c.admit-reply.new.self (admit c.args.i) c.args.pieces.now.items c.admit-reply.ensures.core c.requires

pub returns-in-Ended-clause-pieces : goal.returns-in-Ended-clause-pieces
returns-in-Ended-clause-pieces g c = still_handed c.args.core.now c.admit-reply.new.self (admit c.args.i) c.args.pieces.now.items c.admit-reply.ensures.core c.requires

pub returns-in-Exhausted-clause-pieces : goal.returns-in-Exhausted-clause-pieces
returns-in-Exhausted-clause-pieces g c = still_handed c.args.core.now c.admit-reply.new.self (admit c.args.i) c.args.pieces.now.items c.admit-reply.ensures.core c.requires
