use Rattle.refusal_hints.proofs.Moving.{places_moved}
use Rattle.refusal_hints.proofs.places.places_of_parts_are_places.Goals as goal

pub returns : goal.returns
returns c = places_moved
