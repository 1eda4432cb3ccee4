use Rattle.exactly_once.proofs.ExactlyOnce.{nothing_is_done_twice, what_is_committed_stays}
use Rattle.exactly_once.proofs.laws.nothing_done_twice.Goals as goal

pub returns : goal.returns
returns c = record { twice = nothing_is_done_twice; stays = what_is_committed_stays }
