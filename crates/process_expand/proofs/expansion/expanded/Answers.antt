use Rattle.process_expand.specs.States.{state_of}
use Rattle.process_expand.proofs.Backwards.{too_long}
use Rattle.process_expand.proofs.expansion.expanded.Goals as goal

pub returns-then-is_too_long-clause-too_long : goal.returns-then-is_too_long-clause-too_long
returns-then-is_too_long-clause-too_long c =
    λ same. too_long c.args.tokens.now c.loop-left.left (state_of c.loop-left.written) c.loop-left.invariant.state (c.is_too_long.ensures c.if-is_too_long.true)
