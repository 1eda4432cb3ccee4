use Rattle.dependence_model.proofs.Verdicts.{steps-keep_verdict}
use Rattle.dependence_model.proofs.laws.steps_keep_verdict.Goals as goal

pub returns : goal.returns
returns c = steps-keep_verdict
