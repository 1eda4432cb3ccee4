use Rattle.std.proofs.Common.{◌≡◌, ◌<◌, length}
use Rattle.std.specs.Prelude.{map}
use Rattle.process_tree.specs.Order.{Each}
use Rattle.hold_tables.specs.Reading.{least_from, least_or}
use Rattle.hold_tables.proofs.looking.least_from.Given as goal

abbrev pub invariant-rows : goal.invariant-rows
invariant-rows l = record {
  least : least_or l.least l.from (map (λ r. r.process) l.rest) ≡ least_from l.from (map (λ r. r.process) l.rows);
  numbers : Each (λ r. r.process < 4294967296) l.rest → Each (λ r. r.process < 4294967296) l.rows;
}

abbrev pub decreases-rows : goal.decreases-rows
decreases-rows l = length l.rest
