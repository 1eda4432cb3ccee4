use Rattle.std.proofs.Common.{◌≡◌, ◌-◌, ◌≤◌, length, take}
use Rattle.process_disk.specs.Disk.{Told, put}
use Rattle.process_disk.specs.Calls.{OnlyWrites}
use Rattle.folder_files.proofs.transfers.write_whole.Given as goal

abbrev pub invariant-loop-sent : goal.invariant-loop-sent
invariant-loop-sent g l = record {
  within : l.sent ≤ length l.bytes;
  written : Told (g.D.Folder.disk l.fn.folder) → (g.D.Folder.disk l.folder).files ≡ put (g.D.Folder.disk l.fn.folder).files l.file l.at (take l.sent l.bytes);
  writes : OnlyWrites l.file l.at (length l.bytes) (g.D.Folder.disk l.fn.folder) (g.D.Folder.disk l.folder);
  stays : (g.D.Folder.taken l.folder ≡ g.D.Folder.taken l.fn.folder) × (g.D.Folder.syncs l.folder ≡ g.D.Folder.syncs l.fn.folder);
  access : g.D.Folder.access l.folder ≡ g.D.Folder.access l.fn.folder;
  quiet : g.D.Folder.faults l.folder ≡ g.D.Folder.faults l.fn.folder;
}

abbrev pub decreases-loop-sent : goal.decreases-loop-sent
decreases-loop-sent g l = length l.bytes - l.sent
