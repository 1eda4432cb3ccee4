use Rattle.std.proofs.Common.{◌≡◌, ◌<◌, ◌≤◌, ℕ}
use Rattle.process_flow.specs.Causes.{Rose}
use Rattle.process_disk.specs.Disk.{Told}
use Rattle.process_disk.specs.Calls.{OnlyLooks}
use Rattle.folder_files.specs.Folder.{IsKept, AreKept, IsMarked, syncs_of}
use Rattle.folder_files.proofs.transfers.sync_marked.Given as goal

abbrev pub invariant-loop-file : goal.invariant-loop-file
invariant-loop-file g l = record {
  kept : AreKept l.marks (g.D.Folder.disk l.fn.folder) → Told (g.D.Folder.disk l.fn.folder) → (k : ℕ) → k < l.file → IsKept k (g.D.Folder.disk l.folder);
  synced : (k : ℕ) → k < l.file → IsMarked l.marks k → Rose (syncs_of (g.D.Folder.syncs l.fn.folder) k) (syncs_of (g.D.Folder.syncs l.folder) k);
  never_fell : (k : ℕ) → syncs_of (g.D.Folder.syncs l.fn.folder) k ≤ syncs_of (g.D.Folder.syncs l.folder) k;
  looks : OnlyLooks (g.D.Folder.disk l.fn.folder) (g.D.Folder.disk l.folder);
  taken : g.D.Folder.taken l.folder ≡ g.D.Folder.taken l.fn.folder;
  access : g.D.Folder.access l.folder ≡ g.D.Folder.access l.fn.folder;
  quiet : g.D.Folder.faults l.folder ≡ g.D.Folder.faults l.fn.folder;
}
