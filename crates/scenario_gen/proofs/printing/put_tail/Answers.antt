use Rattle.std.proofs.Common.{rules}
use Rattle.std.specs.Fmt.{digits}
use Rattle.scenario_gen.specs.Generated.{tail_text}
use Rattle.scenario_gen.proofs.printing.put_tail.Goals as goal

pub returns : goal.returns
unfolding digits tail_text
returns c = search rules
