use Rattle.audit_run.proofs.LooserScenarios.{journals_in_own_order}
use Rattle.audit_run.proofs.laws.journals_are_in_own_order.Goals as goal

pub returns : goal.returns
returns c = journals_in_own_order
