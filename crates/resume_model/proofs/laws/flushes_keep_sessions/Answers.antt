use Rattle.resume_model.proofs.Flushes.{flushes_keep_sessions}
use Rattle.resume_model.proofs.laws.flushes_keep_sessions.Goals as goal

pub returns : goal.returns
returns c = flushes_keep_sessions
