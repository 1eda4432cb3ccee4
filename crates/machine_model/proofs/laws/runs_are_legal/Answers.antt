use Rattle.machine_model.proofs.RunsWithin.{runs_are_legal}
use Rattle.machine_model.proofs.laws.runs_are_legal.Goals as goal

pub returns : goal.returns
returns c = runs_are_legal
