use Rattle.resume_model.proofs.Starts.{starts_keep_sessions}
use Rattle.resume_model.proofs.laws.starts_keep_sessions.Goals as goal

pub returns : goal.returns
returns c = starts_keep_sessions
