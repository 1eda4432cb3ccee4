use Rattle.machine_model.specs.Calls.{abort, complete_all}
use Rattle.core_tests.proofs.Pieces.{still_handed}
use Rattle.core_tests.proofs.calls.reply_to.Goals as goal

pub returns-in-Abort-clause-pieces : goal.returns-in-Abort-clause-pieces
returns-in-Abort-clause-pieces g c = still_handed c.args.core.now c.abort.new.self (abort c.in-Abort.i) c.args.pieces.now.items c.abort.ensures.core c.requires

pub returns-in-CompleteAll-clause-pieces : goal.returns-in-CompleteAll-clause-pieces
returns-in-CompleteAll-clause-pieces g c = still_handed c.args.core.now c.complete_all.new.self complete_all c.args.pieces.now.items c.complete_all.ensures c.requires
