use Rattle.std.proofs.Common.{take}
use Rattle.process_tree.specs.Order.{Each}
use Rattle.process_tree.specs.Shape.{shape_by}
use Rattle.well_formed.specs.Flaws.{IsSound}
use Rattle.well_formed.proofs.Rounds.{IsWalked}
use Rattle.well_formed.proofs.judge.flaw_on.Given as goal

abbrev pub invariant-loop-place : goal.invariant-loop-place
invariant-loop-place l = record {
  sound : Each (IsSound (shape_by l.kinds l.paths)) (take l.place l.path);
  walked : IsWalked (shape_by l.kinds l.paths) l.path l.place l.fixed l.owed;
}
