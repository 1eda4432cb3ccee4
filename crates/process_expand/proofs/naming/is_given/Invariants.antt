use Rattle.std.proofs.Common.{◌≡◌, drop, map}
use Rattle.std.specs.List.{list_any}
use Rattle.process_tree.specs.Making.{same_text}
use Rattle.process_expand.proofs.naming.is_given.Given as goal

abbrev pub invariant-loop-taken : goal.invariant-loop-taken
invariant-loop-taken l =
    list_any (same_text l.name) (map (λ g. g.items) (drop l.taken-index l.given)) ≡ list_any (same_text l.name) (map (λ g. g.items) l.given)
