use Rattle.process_tree.specs.declared.play.Outcome.TheVariants.{Refused}
use Rattle.machine_model.specs.Calls.{finish}
use Rattle.core_tests.proofs.Pieces.{stay_handed}
use Rattle.core_tests.proofs.calls.refused.Goals as goal

pub returns-in-Forward-clause-pieces : goal.returns-in-Forward-clause-pieces
returns-in-Forward-clause-pieces c = stay_handed c.args.core.now c.refused.new.self (finish c.args.piece.piece.number Refused) c.refused.ensures.core
