use Rattle.std.proofs.Common.{◌≡◌, ◌-◌, take, reverse}
use Rattle.process_disk.specs.Memory.{files_after}
use Rattle.process_disk.specs.Stop.{left_by, unsynced}
use Rattle.process_disk.proofs.stop.left_by.Given as goal

abbrev pub invariant-loop-change : goal.invariant-loop-change
invariant-loop-change l = record {
  files : l.stop.files ≡ files_after l.first (reverse (take l.change-index l.made));
  left : l.stop.left ≡ left_by l.keep l.fill l.first (reverse (take l.change-index l.made));
  room : l.stop.room ≡ l.keep - unsynced (reverse (take l.change-index l.made));
}
