use Rattle.std.proofs.Common.{◌≤◌, length, arith}
use Rattle.process_disk.specs.Memory.{disk_of}
use Rattle.process_disk.specs.MemoryView.{memory}
use Rattle.folder_files.proofs.MemoryWrites.{only_writes_wider, grows_by_write}
use Rattle.folder_files.proofs.memory_folder.MemoryFolderFolder.write.Goals as goal

pub returns-in-Ok-clause-writes : goal.returns-in-Ok-clause-writes
returns-in-Ok-clause-writes c =
    let shorter : length c.split_at.result.0.now ≤ length c.args.bytes.now = omega (arith, c.split_at.ensures.front_len, c.carried.ensures.bound) in
    only_writes_wider c.args.file c.args.at (length c.split_at.result.0.now) (length c.args.bytes.now) (disk_of (memory c.args.self.now.rack)) (disk_of (memory c.write_at.new.self)) shorter c.write_at.ensures.writes

pub returns-in-Ok-clause-grows : goal.returns-in-Ok-clause-grows
returns-in-Ok-clause-grows c told =
    grows_by_write c.args.file c.args.at c.split_at.result.0.now (memory c.args.self.now.rack) (memory c.write_at.new.self) c.write_at.result c.write_at.ensures.call.first c.write_at.ensures.made

pub returns-in-Err-clause-writes : goal.returns-in-Err-clause-writes
returns-in-Err-clause-writes c =
    let shorter : length c.split_at.result.0.now ≤ length c.args.bytes.now = omega (arith, c.split_at.ensures.front_len, c.carried.ensures.bound) in
    only_writes_wider c.args.file c.args.at (length c.split_at.result.0.now) (length c.args.bytes.now) (disk_of (memory c.args.self.now.rack)) (disk_of (memory c.write_at.new.self)) shorter c.write_at.ensures.writes

pub returns-in-Err-clause-grows : goal.returns-in-Err-clause-grows
returns-in-Err-clause-grows c told =
    grows_by_write c.args.file c.args.at c.split_at.result.0.now (memory c.args.self.now.rack) (memory c.write_at.new.self) c.write_at.result c.write_at.ensures.call.first c.write_at.ensures.made
