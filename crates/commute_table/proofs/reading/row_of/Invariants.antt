use Rattle.std.proofs.Common.{◌≡◌, ◌-◌, [], ◌++◌, List, length}
use Rattle.std.specs.Prelude.{replicate, slice_set}
use Rattle.process_tree.specs.declared.conflicts.Mode.{Mode}
use Rattle.process_tree.specs.declared.conflicts.Mode.TheVariants.{Never}
use Rattle.commute_table.specs.Reading.{cells_at}
use Rattle.commute_table.proofs.reading.row_of.Given as goal

-- the cells so far stand in the row, and those that are left are still to be read
abbrev pub invariant-loop-later : goal.invariant-loop-later
invariant-loop-later l = (done : List Mode)
    × (length done ≡ l.later - l.first)
    × (l.conflicts ≡ slice_set l.fn.conflicts l.first (done ++ replicate (l.count - l.later) Never))
    × (cells_at l.version (l.count - l.later) done l.rest ≡ cells_at l.version (l.count - l.first) [] l.bytes)
