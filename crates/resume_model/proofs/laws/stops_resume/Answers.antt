use Rattle.resume_model.proofs.Stops.{stops_resume}
use Rattle.resume_model.proofs.laws.stops_resume.Goals as goal

pub returns : goal.returns
returns c = stops_resume
