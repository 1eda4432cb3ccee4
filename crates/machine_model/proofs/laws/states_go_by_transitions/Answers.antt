use Rattle.machine_model.proofs.StateSteps.{states_go_by_transitions}
use Rattle.machine_model.proofs.laws.states_go_by_transitions.Goals as goal

pub returns : goal.returns
returns c = states_go_by_transitions
