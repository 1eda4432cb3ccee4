use Rattle.folder_files.proofs.Marks.{on_err, some_marked}
use Rattle.file_rack.proofs.file_rack.FileRackRack.sync.Goals as goal

pub returns-then-self-clause-left : goal.returns-then-self-clause-left
returns-then-self-clause-left g c = rw c.failed.ensures.unsynced (on_err c.failed.result (some_marked c.args.self.now.unsynced (c.args.self.now.broken_by c.if-self.true)))
