use Rattle.history_files.proofs.NextEffects.{acts_add_their_effect, ends_add_none}
use Rattle.history_files.proofs.PlansOfEffects.{starts_add_none}
use Rattle.history_files.proofs.laws.events_add_effects.Goals as goal

pub returns : goal.returns
returns c = record { act = acts_add_their_effect; end = ends_add_none; start = starts_add_none }
