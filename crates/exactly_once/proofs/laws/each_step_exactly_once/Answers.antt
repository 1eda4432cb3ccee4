use Rattle.exactly_once.proofs.ExactlyOnce.{exactly_once, nothing_is_left_over}
use Rattle.exactly_once.proofs.laws.each_step_exactly_once.Goals as goal

pub returns : goal.returns
returns c = record { once = exactly_once; whole = nothing_is_left_over }
