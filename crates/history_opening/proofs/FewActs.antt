-- A history that a journal may have has few acts.
use Rattle.std.proofs.Common.{◌≤◌, ◌<◌, ◌+◌, ◌^◌, List, length, arith}
use Rattle.std.specs.Bool.{IsTrue}
use Rattle.std.specs.List.{sum_by}
use Rattle.std.proofs.lemmas.Bool.{and_parts, leb-true}
use Rattle.process_tree.specs.Conflicts.{do_conflict}
use Rattle.schedule_model.specs.Conflict.{ConflictRelation}
use Rattle.schedule_model.specs.Course.{Course, courses_of}
use Rattle.schedule_model.specs.declared.history.History.{History}
use Rattle.schedule_model.specs.Histories.{active, acts, ends}
use Rattle.schedule_model.specs.Legal.{is_legal}
use Rattle.schedule_model.specs.Limits.{entries, is_within_limits, limits, stands_within, still_needed}
use Rattle.schedule_model.proofs.NoConflict.{own_order-legal}
use Rattle.schedule_model.proofs.WithinLimits.{limits-hold}
use Rattle.commute_table.specs.declared.catalog.Catalog.{Catalog}
use Rattle.process_journal.specs.Journals.{IsHistoryUnder}
use Rattle.process_journal.proofs.GoodPlans.{plans_are_good}

module _ (c : Catalog) (h : History) (under : IsHistoryUnder c h) where
  abbrev table : ConflictRelation
  table = do_conflict c.conflicts

  abbrev courses : List Course
  courses = courses_of h.plans

  allowed : IsTrue (is_legal table courses h.events) × IsTrue (is_within_limits courses h.events)
  allowed = and_parts (is_legal table courses h.events) (is_within_limits courses h.events) under.allowed

  stands : IsTrue (stands_within limits courses h.events)
  stands = limits-hold limits h.plans h.events (plans_are_good c h.plans under.catalog under.plans).good (own_order-legal courses table h.events allowed.0) allowed.1

  most : length (acts h.events) + length (ends h.events) + sum_by (still_needed courses h.events) (active h.events) ≤ 16384
  most = leb-true (entries courses h.events) limits.entries (and_parts _ _ stands).1

  pub few_acts : length (acts h.events) ≤ 16384
  few_acts = omega (arith, most)

-- so they can be counted in 32 bits
pub acts_counted : (c : Catalog) (h : History) → IsHistoryUnder c h → length (acts h.events) < 2 ^ 32
acts_counted c h under = let few = few_acts c h under in omega (arith, few)
