use Rattle.machine_model.proofs.Restart.{restart_follows_completion}
use Rattle.machine_model.proofs.laws.restart_follows_completion.Goals as goal

pub returns : goal.returns
returns c = restart_follows_completion
