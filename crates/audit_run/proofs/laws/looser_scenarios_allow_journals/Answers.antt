use Rattle.audit_run.proofs.LooserScenarios.{looser_scenarios}
use Rattle.audit_run.proofs.laws.looser_scenarios_allow_journals.Goals as goal

pub returns : goal.returns
returns c = looser_scenarios c.looser_tables_allow_more.ensures
