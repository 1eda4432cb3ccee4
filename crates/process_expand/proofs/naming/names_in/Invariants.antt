use Rattle.std.proofs.Common.{◌≡◌, ◌++◌, drop, map}
use Rattle.process_expand.specs.Naming.{names_in}
use Rattle.process_expand.proofs.naming.names_in.Given as goal

abbrev pub invariant-loop-token : goal.invariant-loop-token
invariant-loop-token l =
    l.names ++ names_in (map (λ w. w.now) l.words) (drop l.token-index l.tokens) ≡ names_in (map (λ w. w.now) l.words) l.tokens
