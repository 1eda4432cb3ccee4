use Rattle.std.proofs.Common.{◌≡◌, ◌≤◌, ◌-◌}
use Rattle.process_disk.specs.Disk.{Told}
use Rattle.history_files.specs.Standing.{AreGoodBooks, ComeTo, EachFits}
use Rattle.history_opening.specs.Settling.{AreDueBelow}
use Rattle.history_opening.proofs.SettledStores.{SettledSince}
use Rattle.history_opening.proofs.settling.take_back_each.Given as goal

abbrev pub invariant-loop-q : goal.invariant-loop-q
invariant-loop-q g l = record {
  within : l.q ≤ 8;
  fits : EachFits g.B.Resource l.files.stores;
  good : AreGoodBooks l.fn.files.stores → AreGoodBooks l.files.stores;
  come : ComeTo l.fn.catalog.ops l.fn.history l.files.stores;
  below : AreDueBelow l.q l.fn.catalog.ops l.fn.history l.files.stores;
  journal : l.files.journal ≡ l.fn.files.journal;
  told : Told (g.R.Rack.disk l.fn.files.rack) → SettledSince l.fn.catalog l.fn.history l.files.journal l.files.stores (g.R.Rack.disk l.fn.files.rack) (g.R.Rack.disk l.files.rack);
  tells : (g.R.Rack.disk l.files.rack).tells ≡ (g.R.Rack.disk l.fn.files.rack).tells;
  later : g.R.Rack.faults l.fn.files.rack ≤ g.R.Rack.faults l.files.rack;
}

abbrev pub decreases-loop-q : goal.decreases-loop-q
decreases-loop-q g l = 8 - l.q
