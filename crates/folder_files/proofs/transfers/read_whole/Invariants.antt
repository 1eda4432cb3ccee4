use Rattle.std.proofs.Common.{◌≡◌, ◌-◌, ◌≤◌, length}
use Rattle.process_disk.specs.Disk.{Told, file_of}
use Rattle.process_disk.specs.Calls.{OnlyLooks}
use Rattle.folder_files.proofs.WholeCalls.{IsReadTo}
use Rattle.folder_files.proofs.transfers.read_whole.Given as goal

abbrev pub invariant-loop-count : goal.invariant-loop-count
invariant-loop-count g l = record {
  within : l.count ≤ length l.buf;
  read : Told (g.D.Folder.disk l.fn.folder) → IsReadTo (file_of (g.D.Folder.disk l.fn.folder).files l.file) l.buf l.at l.count;
  looks : OnlyLooks (g.D.Folder.disk l.fn.folder) (g.D.Folder.disk l.folder);
  stays : (g.D.Folder.taken l.folder ≡ g.D.Folder.taken l.fn.folder) × (g.D.Folder.syncs l.folder ≡ g.D.Folder.syncs l.fn.folder);
  access : g.D.Folder.access l.folder ≡ g.D.Folder.access l.fn.folder;
  quiet : g.D.Folder.faults l.folder ≡ g.D.Folder.faults l.fn.folder;
}

abbrev pub decreases-loop-count : goal.decreases-loop-count
decreases-loop-count g l = length l.initial.buf - l.count
