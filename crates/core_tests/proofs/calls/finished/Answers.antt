use Rattle.process_tree.specs.declared.play.Outcome.TheVariants.{Done}
use Rattle.machine_model.specs.Calls.{finish}
use Rattle.core_tests.proofs.Pieces.{all_stay, still_handed}
use Rattle.core_tests.proofs.calls.finished.Goals as goal

pub returns-in-Out-clause-pieces : goal.returns-in-Out-clause-pieces
returns-in-Out-clause-pieces c = still_handed c.args.core.now c.effected.new.self (finish c.in-Some.piece.piece.number Done) c.take_back.new.pieces.items c.effected.ensures.core c.take_back.ensures.pieces

pub returns-in-Out-2-clause-pieces : goal.returns-in-Out-2-clause-pieces
returns-in-Out-2-clause-pieces c = all_stay c.args.core.now c.refused.new.core c.take_back.new.pieces.items c.refused.ensures.pieces c.take_back.ensures.pieces
