use Rattle.std.proofs.Common.{◌≡◌, ◌-◌, ◌≤◌, ◌<◌, ◌^◌, length, take}
use Rattle.process_disk.specs.Disk.{Told, file_of}
use Rattle.process_disk.specs.Images.{AllAsBefore}
use Rattle.gate_log.proofs.device.whole_file.Given as goal

abbrev pub invariant-loop-count : goal.invariant-loop-count
invariant-loop-count g l = record {
  within : l.count ≤ length l.bytes.items;
  read : Told (g.R.Rack.disk l.fn.rack) → take l.count l.bytes.items ≡ take l.count (file_of (g.R.Rack.disk l.fn.rack).files l.file);
  ended : Told (g.R.Rack.disk l.fn.rack) → l.count < length l.bytes.items → l.count ≡ length (file_of (g.R.Rack.disk l.fn.rack).files l.file);
  all : Told (g.R.Rack.disk l.fn.rack) → AllAsBefore (g.R.Rack.disk l.fn.rack) (g.R.Rack.disk l.rack);
  tells : (g.R.Rack.disk l.rack).tells ≡ (g.R.Rack.disk l.fn.rack).tells;
  quiet : g.R.Rack.faults l.rack ≡ g.R.Rack.faults l.fn.rack;
}

abbrev pub decreases-loop-count : goal.decreases-loop-count
decreases-loop-count g l = 2 ^ 63 - length l.bytes.items
