use Rattle.std.proofs.Common.{◌≡◌, ◌≤◌, ◌-◌, map}
use Rattle.process_expand.specs.Naming.{first_free}
use Rattle.process_expand.proofs.naming.first_free.Given as goal

abbrev pub invariant-loop-n : goal.invariant-loop-n
invariant-loop-n l = record {
  within : l.n ≤ 258;
  same : first_free l.all (map (λ g. g.items) l.given) l.name (258 - l.n) l.n ≡ first_free l.all (map (λ g. g.items) l.given) l.name 256 2;
}

abbrev pub decreases-loop-n : goal.decreases-loop-n
decreases-loop-n l = 258 - l.n
