use Rattle.std.proofs.Common.{◌≡◌, [], take}
use Rattle.history_files.specs.Boxes.{AreBoxes}
use Rattle.value_replay.specs.Replays.{HaveValues, books, lines_behind}
use Rattle.value_replay.proofs.execution.execute_all.Given as goal

abbrev pub invariant-loop-at : goal.invariant-loop-at
invariant-loop-at g l = record {
  lines : l.lines.items ≡ lines_behind l.ops l.plans [] (take l.at l.serial);
  values : HaveValues (λ b. (g.B.Resource.meaning b).items) (books l.ops l.plans (take l.at l.serial)) l.boxes.items;
  boxes : AreBoxes g.B.Resource.sort l.boxes.items;
}
