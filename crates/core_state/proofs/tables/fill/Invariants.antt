use Rattle.std.proofs.Common.{◌≡◌, take}
use Rattle.schedule_model.specs.Course.{courses_of}
use Rattle.schedule_model.specs.Histories.{active}
use Rattle.core_state.specs.OpenTables.{tables_at}
use Rattle.core_state.proofs.tables.fill.Given as goal

-- the entries before this place stand
abbrev pub invariant-loop-place : goal.invariant-loop-place
invariant-loop-place l = l.holds ≡ tables_at l.fn.holds.conflicts (courses_of l.h.plans) (active l.h.events) (take l.place l.entries)
