use Rattle.std.proofs.Common.{◌≡◌, ◌≤◌, ◌+◌, drop}
use Rattle.process_expand.specs.Expansion.{steps_in}
use Rattle.process_expand.proofs.expansion.steps_in.Given as goal

abbrev pub invariant-loop-token : goal.invariant-loop-token
invariant-loop-token l = record {
  counted : l.count + steps_in (drop l.token-index l.tokens) ≡ steps_in l.tokens;
  few : l.count ≤ l.token-index;
}
