use Rattle.std.proofs.Common.{◌≡◌, [], map, drop, take, reverse}
use Rattle.process_tree.specs.Making.{first_same_name}
use Rattle.process_tree.proofs.good.first_same_name.Given as goal

abbrev pub invariant-loop-place : goal.invariant-loop-place
invariant-loop-place l =
    first_same_name l.place (reverse (map (λ s. s.now.name) (take l.place l.steps))) (map (λ s. s.now) (drop l.place l.steps)) ≡ first_same_name 0 [] (map (λ s. s.now) l.steps)
