use Rattle.std.proofs.Common.{◌≡◌, length}
use Rattle.std.specs.List.{list_any}
use Rattle.audit_core.specs.Arrows.{AreBelow, arrow_in}
use Rattle.audit_core.proofs.ordering.is_led_to.Given as goal

abbrev pub invariant-loop-rest : goal.invariant-loop-rest
invariant-loop-rest l = record {
  below : AreBelow l.rest;
  any : list_any (λ j. arrow_in l.rows j l.to) l.rest ≡ list_any (λ j. arrow_in l.rows j l.to) l.from;
}

abbrev pub decreases-loop-rest : goal.decreases-loop-rest
decreases-loop-rest l = length l.rest
