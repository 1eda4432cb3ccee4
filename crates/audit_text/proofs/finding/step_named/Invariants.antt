use Rattle.std.proofs.Common.{◌≡◌, ◌≤◌, ◌-◌, drop, length}
use Rattle.process_tree.specs.Blocks.{outline}
use Rattle.audit_text.specs.Logs.{names_in}
use Rattle.audit_text.specs.Logs.{place_from, step_named}
use Rattle.audit_text.proofs.finding.step_named.Given as goal

-- those so far have other names
abbrev pub invariant-loop-step : goal.invariant-loop-step
invariant-loop-step l = record {
  within : l.step ≤ length (outline l.tree).steps;
  found : place_from l.step l.name (drop l.step (names_in l.plan)) ≡ step_named l.name l.plan;
}

abbrev pub decreases-loop-step : goal.decreases-loop-step
decreases-loop-step l = length (outline l.tree).steps - l.step
