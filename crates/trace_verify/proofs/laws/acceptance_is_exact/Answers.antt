use Rattle.trace_verify.proofs.Meaning.{acceptance_is_exact as law}
use Rattle.trace_verify.proofs.laws.acceptance_is_exact.Goals as goal

pub returns : goal.returns
returns c = law
