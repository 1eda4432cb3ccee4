use Rattle.std.proofs.Common.{◌≡◌, ◌++◌, take}
use Rattle.process_expand.proofs.expansion.add_all.Given as goal

abbrev pub invariant-loop-token : goal.invariant-loop-token
invariant-loop-token l = l.out.items ≡ l.fn.out.items ++ take l.token-index l.tokens
