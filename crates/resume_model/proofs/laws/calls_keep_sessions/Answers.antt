use Rattle.resume_model.proofs.Calls.{calls_keep_sessions}
use Rattle.resume_model.proofs.laws.calls_keep_sessions.Goals as goal

pub returns : goal.returns
returns c = calls_keep_sessions
