use Rattle.std.proofs.Common.{◌≡◌, ◌+◌, ◌∷◌, length}
use Rattle.commute_table.specs.Bytes.{bytes_of}
use Rattle.journal_records.specs.Bytes.{setup_bytes}
use Rattle.process_journal.specs.Replays.{IsReadTo}
use Rattle.process_journal.proofs.reading.history_of.Given as goal

abbrev pub invariant-records : goal.invariant-records
invariant-records l = IsReadTo l.fn.catalog (setup_bytes (bytes_of l.fn.catalog) ∷ l.fn.bodies) l.replay l.rest l.number × (l.number + length l.rest ≡ length l.fn.bodies + 2)

abbrev pub decreases-records : goal.decreases-records
decreases-records l = length l.rest
