use Rattle.trace_verify.proofs.Meaning.{verdicts_mean as law}
use Rattle.trace_verify.proofs.laws.verdicts_mean.Goals as goal

pub returns : goal.returns
returns c = law
