use Rattle.std.proofs.Common.{◌≡◌, ◌+◌, length, true}
use Rattle.hold_tables.specs.Tables.{has_number}
use Rattle.hold_tables.specs.Places.{place_of}
use Rattle.hold_tables.proofs.looking.place_if.Given as goal

abbrev pub invariant-loop-rest : goal.invariant-loop-rest
invariant-loop-rest l =
    (has_number l.process l.rest ≡ has_number l.process l.rows)
    × (has_number l.process l.rest ≡ true → l.at + place_of l.process l.rest ≡ place_of l.process l.rows)
    × (l.at + length l.rest ≡ length l.rows)

abbrev pub decreases-loop-rest : goal.decreases-loop-rest
decreases-loop-rest l = length l.rest
