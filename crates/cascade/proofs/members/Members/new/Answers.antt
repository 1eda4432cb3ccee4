use Rattle.std.proofs.Common.{List, ap, ◌∙◌}
use Rattle.cascade.specs.Sets.{listed}
use Rattle.cascade.proofs.Sets.{none_listed}
use Rattle.cascade.proofs.members.Members.new.Goals as goal

pub returns : goal.returns
returns c =
    ap (λ (ns : List _). record { most = c.args.processes; members = ns }) (ap (listed 0) (c.in_ok-vec.ensures.items_if_clones_equal (λ y is. is)) ∙ none_listed c.in-Some.room 0)
