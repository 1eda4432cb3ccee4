use Rattle.std.proofs.Common.{◌≡◌, take}
use Rattle.hold_tables.specs.Tables.{kept_of}
use Rattle.core_state.proofs.under_way.reserved_steps.Given as goal

abbrev pub invariant-loop-place : goal.invariant-loop-place
invariant-loop-place l = l.planned.items ≡ take l.place (kept_of l.holds l.process).reserved
