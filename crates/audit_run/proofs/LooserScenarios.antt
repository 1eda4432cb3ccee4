-- The history of a journal under other conflicts.
use Rattle.std.proofs.Common.{◌≡◌, ◌<◌, ◌≤◌, ◌⊎◌, inl, inr, ℕ, [], length, refl, sym, subst}
use Rattle.std.specs.Bool.{IsTrue}
use Rattle.std.proofs.lemmas.Bool.{and_parts, cases_lt}
use Rattle.process_tree.specs.Conflicts.{do_conflict, mode_of}
use Rattle.process_tree.specs.declared.conflicts.Mode.TheVariants.{Never}
use Rattle.commute_table.specs.declared.catalog.Catalog.{Catalog}
use Rattle.schedule_model.specs.declared.history.History.{History}
use Rattle.schedule_model.specs.Course.{courses_of}
use Rattle.schedule_model.specs.Legal.{is_legal, may_come}
use Rattle.schedule_model.specs.Limits.{is_within_limits}
use Rattle.schedule_model.specs.OwnOrder.{is_in_own_order, keeps_order}
use Rattle.schedule_model.proofs.Induction.{first_failing-all}
use Rattle.schedule_model.proofs.NoConflict.{own_order-legal}
use Rattle.process_journal.specs.Journals.{IsHistoryUnder}
use Rattle.user_guarantees.specs.Tables.{LooserTablesAllowMore, is_no_stricter}
use Rattle.named_conflicts.specs.Under.{IsUnder}
use Rattle.audit_run.specs.Laws.{IsLooser, JournalsAreInOwnOrder, LooserScenariosAllowJournals}

module _ (c own under : Catalog) (named : IsUnder c own under) (looser : IsLooser c own) where
  -- the table that is named is no stricter than that of the journal, for any two numbers
  no_stricter : (a b : ℕ) → IsTrue (is_no_stricter (mode_of under.conflicts a b) (mode_of own.conflicts a b))
  no_stricter a b = by (cases_lt a (length own.ops)) (cases_lt b (length own.ops))
    where
      Is : Type 0
      Is = IsTrue (is_no_stricter (mode_of under.conflicts a b) (mode_of own.conflicts a b))

      never : mode_of under.conflicts a b ≡ Never → Is
      never is = subst (λ m. IsTrue (is_no_stricter m (mode_of own.conflicts a b))) (sym is) refl

      by : (a < length own.ops) ⊎ (length own.ops ≤ a) → (b < length own.ops) ⊎ (length own.ops ≤ b) → Is
      by (inl la) (inl lb) = subst (λ m. IsTrue (is_no_stricter m (mode_of own.conflicts a b))) (sym (named.modes a b la lb)) (looser a b la lb)
      by (inl la) (inr far) = never (named.others a b (inr far))
      by (inr far) o = never (named.others a b (inl far))

legal_of : (own : Catalog) (h : History) → IsHistoryUnder own h → IsTrue (is_legal (do_conflict own.conflicts) (courses_of h.plans) h.events)
legal_of own h good = (and_parts (is_legal (do_conflict own.conflicts) (courses_of h.plans) h.events) (is_within_limits (courses_of h.plans) h.events) good.allowed).0

pub looser_scenarios : LooserTablesAllowMore → LooserScenariosAllowJournals
looser_scenarios more c own under h good named looser =
    first_failing-all (may_come (do_conflict under.conflicts) (courses_of h.plans)) 1 [] h.events
    (more under.conflicts own.conflicts (courses_of h.plans) h.events (no_stricter c own under named looser) (legal_of own h good))

pub journals_in_own_order : JournalsAreInOwnOrder
journals_in_own_order own h good =
    first_failing-all (keeps_order (courses_of h.plans)) 1 [] h.events
    (own_order-legal (courses_of h.plans) (do_conflict own.conflicts) h.events (legal_of own h good))

-- the same, as it is asked for
pub history_in_own_order : (own : Catalog) (h : History) → IsHistoryUnder own h → IsTrue (is_in_own_order (courses_of h.plans) h.events)
history_in_own_order own h good = own_order-legal (courses_of h.plans) (do_conflict own.conflicts) h.events (legal_of own h good)
