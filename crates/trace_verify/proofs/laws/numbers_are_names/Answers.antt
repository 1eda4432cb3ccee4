use Rattle.trace_verify.proofs.Meaning.{numbers_are_names as law}
use Rattle.trace_verify.proofs.laws.numbers_are_names.Goals as goal

pub returns : goal.returns
returns c = law
