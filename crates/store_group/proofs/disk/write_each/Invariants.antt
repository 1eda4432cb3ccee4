use Rattle.std.proofs.Common.{◌≡◌, ◌≤◌, ◌-◌, length}
use Rattle.process_disk.specs.Disk.{Told}
use Rattle.subsystem_store.specs.Opened.{Stands}
use Rattle.store_group.specs.Groups.{HasWritten}
use Rattle.store_group.proofs.InTurn.{FileIsBefore, Progress}
use Rattle.store_group.proofs.disk.write_each.Given as goal

abbrev pub invariant-loop-store : goal.invariant-loop-store
invariant-loop-store g l = record {
  told : Told (g.R.Rack.disk l.fn.rack) → Progress Stands HasWritten FileIsBefore l.stores l.place (g.R.Rack.disk l.fn.rack) (g.R.Rack.disk l.rack);
  tells : (g.R.Rack.disk l.rack).tells ≡ (g.R.Rack.disk l.fn.rack).tells;
  later : g.R.Rack.faults l.fn.rack ≤ g.R.Rack.faults l.rack;
}

abbrev pub decreases-loop-store : goal.decreases-loop-store
decreases-loop-store g l = length l.stores - l.place
