use Rattle.std.proofs.Common.{◌≡◌, ◌-◌, ◌≤◌, [], length, take, drop}
use Rattle.commute_table.specs.Reading.{name_at}
use Rattle.commute_table.proofs.reading.text_of.Given as goal

-- the bytes so far begin the name, and what is left is still to be read
abbrev pub invariant-loop-place : goal.invariant-loop-place
invariant-loop-place l = record {
  within : l.place ≤ length l.bytes;
  same : name_at l.earlier (l.count - l.place) (take l.place l.bytes) (drop l.place l.bytes) ≡ name_at l.earlier l.count [] l.bytes;
}
