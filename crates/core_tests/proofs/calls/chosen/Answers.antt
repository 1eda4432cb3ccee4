use Rattle.std.proofs.Common.{◌∙◌, sym, ap, subst}
use Rattle.machine_model.specs.Calls.{next, next_is}
use Rattle.process_core.specs.Rotation.{next_reply_of}
use Rattle.core_tests.specs.Pieces.{AreHandedBy}
use Rattle.core_tests.proofs.Pieces.{still_handed, with_chosen}
use Rattle.core_tests.proofs.calls.chosen.Goals as goal

pub returns-in-Ok-clause-pieces : goal.returns-in-Ok-clause-pieces
returns-in-Ok-clause-pieces g c =
    subst (AreHandedBy c.next-reply.new.self) (sym c.in-Ok.ensures.items)
    (with_chosen c.args.core.now c.next-reply.new.self c.in-Piece.piece c.args.pieces.now.items c.run_holds.ensures c.next-reply.ensures.core (sym (ap (λ r. next_is (next_reply_of r)) c.in-Piece.is) ∙ c.next-reply.ensures.reply) c.requires)

pub returns-in-Wait-clause-pieces : goal.returns-in-Wait-clause-pieces
returns-in-Wait-clause-pieces g c = still_handed c.args.core.now c.next-reply.new.self next c.args.pieces.now.items c.next-reply.ensures.core c.requires

pub returns-in-AllEnded-clause-pieces : goal.returns-in-AllEnded-clause-pieces
returns-in-AllEnded-clause-pieces g c = still_handed c.args.core.now c.next-reply.new.self next c.args.pieces.now.items c.next-reply.ensures.core c.requires

pub returns-in-Stuck-clause-pieces : goal.returns-in-Stuck-clause-pieces
returns-in-Stuck-clause-pieces g c = still_handed c.args.core.now c.next-reply.new.self next c.args.pieces.now.items c.next-reply.ensures.core c.requires
