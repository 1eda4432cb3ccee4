use Rattle.std.proofs.Common.{◌≡◌, ◌≤◌, ◌+◌, ◌-◌, ◌*◌, ◌<◌, ◌^◌, length, vec_len, All}
use Rattle.gate_log.specs.LogFile.{bodies_in, most_records, records_size}
use Rattle.gate_log.proofs.Reading.{behind}
use Rattle.gate_log.proofs.records.bodies_in.Given as goal

abbrev pub invariant-records : goal.invariant-records
invariant-records l = record {
  few : length l.bodies.items ≤ 65536;
  read : behind l.bodies.items (bodies_in (most_records - length l.bodies.items) (length l.bodies.items + 1) l.rest) ≡ bodies_in most_records 1 l.bytes;
  size : records_size l.bodies.items + length l.rest ≡ length l.bytes;
  short : All (λ body. length body < 2 ^ 16) l.bodies.items;
  bound : records_size l.bodies.items ≤ 65538 * length l.bodies.items;
}

abbrev pub decreases-records : goal.decreases-records
decreases-records l = 65536 - vec_len l.bodies
