use Rattle.std.proofs.Common.{◌≡◌, length}
use Rattle.process_tree.specs.Conflicts.{do_conflict}
use Rattle.schedule_rules.specs.Applying.{AreKnown}
use Rattle.history_judging.specs.Conflicting.{conflicts_in_front}
use Rattle.event_rules.proofs.conflicting.conflicts_in_front.Given as goal

abbrev pub invariant-loop-rest : goal.invariant-loop-rest
invariant-loop-rest l = record {
  same : conflicts_in_front (do_conflict l.c) l.process l.rest ≡ conflicts_in_front (do_conflict l.c) l.process l.entries;
  known : AreKnown l.c l.rest;
}

abbrev pub decreases-loop-rest : goal.decreases-loop-rest
decreases-loop-rest l = length l.rest
