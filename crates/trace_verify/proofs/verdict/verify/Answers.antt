use Rattle.trace_verify.proofs.Meaning.{answered-means}
use Rattle.trace_verify.proofs.verdict.verify.Goals as goal

pub returns-in-Ok-clause-means : goal.returns-in-Ok-clause-means
returns-in-Ok-clause-means c = answered-means c.args.text.now c.in-Ok.verified c.in-Ok.ensures
