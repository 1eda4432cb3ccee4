use Rattle.std.proofs.Common.{◌≡◌}
use Rattle.folder_files.proofs.system_folder.SystemFolderFolder.probe.Given as goal

abbrev pub invariant-loop-file : goal.invariant-loop-file
invariant-loop-file g l = record {
  access : l.self.access ≡ l.fn.self.access;
  taken : l.self.taken ≡ l.fn.self.taken;
  syncs : l.self.syncs ≡ l.fn.self.syncs;
  quiet : l.self.faults ≡ l.fn.self.faults;
}
