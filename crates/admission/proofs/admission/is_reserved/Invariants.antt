use Rattle.std.proofs.Common.{◌≡◌, ◌≤◌, drop, length}
use Rattle.std.specs.Prelude.{map}
use Rattle.schedule_model.specs.Histories.{is_in}
use Rattle.hold_tables.specs.Tables.{kept_of}
use Rattle.admission.proofs.admission.is_reserved.Given as goal

abbrev pub invariant-places : goal.invariant-places
invariant-places l = record {
  within : l.place ≤ length (kept_of l.holds l.process).reserved;
  found : l.found ≡ is_in l.step (map (λ step. step.0) (drop l.place (kept_of l.holds l.process).reserved));
}

abbrev pub decreases-places : goal.decreases-places
decreases-places l = l.place
