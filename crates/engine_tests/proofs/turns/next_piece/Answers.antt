use Rattle.std.proofs.Common.{◌∙◌, sym, ap}
use Rattle.machine_model.specs.Calls.{next, next_is}
use Rattle.process_core.specs.Answers.{after_call}
use Rattle.process_core.specs.Rotation.{next_reply_of}
use Rattle.engine_steps.specs.Engines.{EngineState}
use Rattle.engine_tests.proofs.Ready.{handed_next, ready_asked}
use Rattle.engine_tests.proofs.turns.next_piece.Goals as goal

pub returns-in-Ok-Piece-clause-ready : goal.returns-in-Ok-Piece-clause-ready
returns-in-Ok-Piece-clause-ready g c =
    ready_asked g.B.Resource c.args.engine.now c.next-reply.new.self (after_call c.args.engine.now.core next) c.in-Ok-Piece.ensures.engine c.requires.ready

pub returns-in-Ok-Piece-clause-handed : goal.returns-in-Ok-Piece-clause-handed
returns-in-Ok-Piece-clause-handed g c =
    handed_next c.args.engine.now.core c.next-reply.new.self.core c.in-Ok-Piece.piece c.invariant_holds.ensures.run
    (ap (λ (e : EngineState g.row.R.Denot g.row.B.Denot). e.core) c.in-Ok-Piece.ensures.engine)
    (sym (ap (λ r. next_is (next_reply_of r)) c.in-Ok-Piece.field-0-is) ∙ c.in-Ok-Piece.ensures.reply)

pub returns-in-Ok-Wait-clause-ready : goal.returns-in-Ok-Wait-clause-ready
returns-in-Ok-Wait-clause-ready g c =
    ready_asked g.B.Resource c.args.engine.now c.next-reply.new.self (after_call c.args.engine.now.core next) c.in-Ok-Wait.ensures.engine c.requires.ready

pub returns-in-Ok-AllEnded-clause-ready : goal.returns-in-Ok-AllEnded-clause-ready
returns-in-Ok-AllEnded-clause-ready g c =
    ready_asked g.B.Resource c.args.engine.now c.next-reply.new.self (after_call c.args.engine.now.core next) c.in-Ok-AllEnded.ensures.engine c.requires.ready

pub returns-in-Ok-Stuck-clause-ready : goal.returns-in-Ok-Stuck-clause-ready
returns-in-Ok-Stuck-clause-ready g c =
    ready_asked g.B.Resource c.args.engine.now c.next-reply.new.self (after_call c.args.engine.now.core next) c.in-Ok-Stuck.ensures.engine c.requires.ready
