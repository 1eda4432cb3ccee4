use Rattle.std.proofs.Common.{take}
use Rattle.process_tree.specs.Order.{Each}
use Rattle.process_tree.specs.Shape.{shape_by}
use Rattle.well_formed.specs.Flaws.{IsSound}
use Rattle.well_formed.proofs.judge.first_flaw.Given as goal

abbrev pub invariant-loop-at : goal.invariant-loop-at
invariant-loop-at l = record {
  sound : Each (Each (IsSound (shape_by l.kinds l.paths))) (take l.at l.paths);
  earlier : Each (IsSound (shape_by l.kinds l.paths)) l.earlier;
}
