use Rattle.std.proofs.Common.{◌≡◌, ◌≤◌, ◌+◌, ◌*◌, length}
use Rattle.gate_log.specs.LogFile.{records_size}
use Rattle.gate_log.specs.Staging.{staging_all}
use Rattle.subsystem_store.specs.Bodies.{prepared_bodies}
use Rattle.subsystem_store.proofs.store.stage_each.Given as goal

abbrev pub invariant-effects : goal.invariant-effects
invariant-effects l = record {
  log : staging_all l.log (prepared_bodies l.rest) ≡ staging_all l.fn.log (prepared_bodies l.effects);
  size : records_size l.log.staged + 28 * length l.rest ≤ 65538;
  room : l.log.count + (length l.log.staged + length l.rest) ≤ 65536;
}

abbrev pub decreases-effects : goal.decreases-effects
decreases-effects l = length l.rest
