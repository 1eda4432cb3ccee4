use Rattle.resume_model.proofs.Rest.{rest_is_sound}
use Rattle.resume_model.proofs.laws.rest_is_sound.Goals as goal

pub returns : goal.returns
returns c = rest_is_sound
