use Rattle.std.proofs.Common.{◌≡◌, ◌-◌, ◌++◌}
use Rattle.process_tree.specs.Conflicts.{no_conflicts}
use Rattle.process_tree.proofs.conflicts.Conflicts.new.Given as goal

-- the rows that stand and those that are left are the whole table
abbrev pub invariant-loop-first : goal.invariant-loop-first
invariant-loop-first l = l.rows.items ++ no_conflicts (l.ops - l.first) ≡ no_conflicts l.ops
