use Rattle.std.proofs.Common.{◌≡◌, ◌++◌, replicate}
use Rattle.process_tree.specs.declared.play.Outcome.TheVariants.{Refused}
use Rattle.process_tree.specs.Shape.{shape_by}
use Rattle.well_formed.proofs.Tried.{tried_below}
use Rattle.well_formed.proofs.outcomes.pass_ways.Given as goal

abbrev pub invariant-loop-other : goal.invariant-loop-other
invariant-loop-other l =
    l.outcomes.items ≡ l.fn.outcomes.items ++ replicate (tried_below (shape_by l.kinds l.paths) l.branch l.other) Refused
