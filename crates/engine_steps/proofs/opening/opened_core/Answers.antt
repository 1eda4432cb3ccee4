use Rattle.engine_steps.proofs.OpenedEngine.{core_by_table}
use Rattle.engine_steps.proofs.opening.opened_core.Goals as goal

pub open-requires : goal.open-requires
open-requires c = core_by_table c.args.catalog.now c.args.history c.in_ok-conflicts.conflicts c.in_ok-conflicts.ensures.copy c.requires.history
