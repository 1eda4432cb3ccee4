use Rattle.toml.specs.View.{table_view}
use Rattle.commute_table.proofs.Valid.{answer_is_valid}
use Rattle.commute_table.proofs.Answered.{is_answer}
use Rattle.commute_table.proofs.scenario.read_scenario.Goals as goal

pub returns-in-Ok-clause-answer : goal.returns-in-Ok-clause-answer
returns-in-Ok-clause-answer c = is_answer c.args.bytes.now (table_view c.in-Ok.table) c.scenario_of.result c.in-Ok.ensures.ok.0 c.in-Ok.ensures.ok.1 c.scenario_of.ensures

pub returns-in-Ok-clause-valid : goal.returns-in-Ok-clause-valid
returns-in-Ok-clause-valid c = answer_is_valid (table_view c.in-Ok.table) c.scenario_of.result c.scenario_of.ensures
