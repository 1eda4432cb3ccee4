use Rattle.std.proofs.Common.{◌<◌, length, rules}
use Rattle.folder_files.proofs.Marks.{not_none_set, kept_set}
use Rattle.file_rack.proofs.file_rack.FileRackRack.write_at.Goals as goal

pub invariant_of-self : goal.invariant_of-self
invariant_of-self g c =
    let self = c.args.self.now in
    let there : c.from.result < length self.unsynced = search rules in
    record {
      has_taken = self.has_taken;
      has_tried = self.has_tried;
      has_entered = self.has_entered;
      takes_first = self.takes_first;
      never_takes = self.never_takes;
      broken_by = λ broken. not_none_set self.unsynced c.from.result there;
      kept = kept_set self.unsynced c.from.result (g.D.Folder.disk self.folder) there self.kept;
    }
