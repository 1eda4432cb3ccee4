use Rattle.std.proofs.Common.{◌≡◌, ◌≤◌, ◌-◌, length}
use Rattle.process_disk.specs.Disk.{Told}
use Rattle.store_group.specs.Groups.{HasOnDisk, IsOpenAt}
use Rattle.store_group.proofs.InTurn.{FileIsEither, Progress}
use Rattle.store_group.proofs.disk.open_each.Given as goal

abbrev pub invariant-loop-store : goal.invariant-loop-store
invariant-loop-store g l = record {
  told : Told (g.R.Rack.disk l.fn.rack) → Progress HasOnDisk IsOpenAt FileIsEither l.stores l.place (g.R.Rack.disk l.fn.rack) (g.R.Rack.disk l.rack);
  tells : (g.R.Rack.disk l.rack).tells ≡ (g.R.Rack.disk l.fn.rack).tells;
  later : g.R.Rack.faults l.fn.rack ≤ g.R.Rack.faults l.rack;
}

abbrev pub decreases-loop-store : goal.decreases-loop-store
decreases-loop-store g l = length l.stores - l.place
