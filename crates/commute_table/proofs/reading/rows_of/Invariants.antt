use Rattle.std.proofs.Common.{◌≡◌, ◌-◌, [], ◌++◌, List, true, length}
use Rattle.process_tree.specs.declared.conflicts.Mode.{Mode}
use Rattle.process_tree.specs.Conflicts.{is_table, no_conflicts}
use Rattle.commute_table.specs.Reading.{rows_at}
use Rattle.commute_table.proofs.reading.rows_of.Given as goal

-- the rows so far stand, and those that are left are still to be read
abbrev pub invariant-loop-first : goal.invariant-loop-first
invariant-loop-first l = (done : List (List Mode))
    × (length done ≡ l.first)
    × (l.conflicts ≡ done ++ no_conflicts (l.count - l.first))
    × (is_table l.conflicts ≡ true)
    × (rows_at l.version (l.count - l.first) done l.rest ≡ rows_at l.version l.count [] l.bytes)
