use Rattle.std.proofs.Common.{◌≡◌, [], filter}
use Rattle.process_tree.specs.Blocks.{numbers_from}
use Rattle.schedule_model.specs.Course.{courses_of}
use Rattle.schedule_model.specs.Histories.{is_active}
use Rattle.core_state.specs.OpenTables.{tables_at}
use Rattle.core_state.proofs.tables.open_rows.Given as goal

-- the active ones of the first processes are open
abbrev pub invariant-loop-place : goal.invariant-loop-place
invariant-loop-place l = l.holds ≡ tables_at l.fn.holds.conflicts (courses_of l.h.plans) (filter (is_active l.h.events) (numbers_from 1 l.place)) []
