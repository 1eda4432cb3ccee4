use Rattle.std.proofs.Common.{◌≡◌, ◌+◌, ◌≤◌, length}
use Rattle.process_tree.specs.Conflicts.{do_conflict}
use Rattle.schedule_rules.specs.Applying.{AreKnown}
use Rattle.trace_verify.specs.Verdicts.{outcome_from}
use Rattle.trace_verify.proofs.applying.apply_all.Given as goal

abbrev pub invariant-loop-rest : goal.invariant-loop-rest
invariant-loop-rest l = record {
  outcome : outcome_from (do_conflict l.table) l.number l.rest l.list.items ≡ outcome_from (do_conflict l.table) 1 l.steps l.initial.list.items;
  known : AreKnown l.table l.list.items;
  no_longer : length l.list.items ≤ length l.initial.list.items;
  few : l.number + length l.rest ≤ 65537;
}

abbrev pub decreases-loop-rest : goal.decreases-loop-rest
decreases-loop-rest l = length l.rest
