-- Steps to which the schedule of a completed history is brought leave what it leaves.
use Rattle.std.proofs.Common.{◌≡◌, inl, inr, ℕ, true, List, [], ◌∷◌, sym, ◌∙◌, subst, append-nil}
use Rattle.std.specs.Bool.{IsTrue}
use Rattle.process_tree.specs.declared.entry.Entry.{Entry}
use Rattle.process_tree.specs.declared.plan.Plan.{Plan}
use Rattle.process_tree.specs.Conflicts.{do_conflict, operations_in}
use Rattle.schedule_model.specs.declared.event.Event.{Event}
use Rattle.schedule_model.specs.Completion.{completed}
use Rattle.schedule_model.specs.Conflict.{ConflictRelation, no_conflict}
use Rattle.schedule_model.specs.Course.{courses_of}
use Rattle.schedule_model.specs.Histories.{acts}
use Rattle.schedule_model.specs.Laws.{IsPlanned}
use Rattle.schedule_model.specs.Legal.{is_legal}
use Rattle.schedule_model.specs.OwnOrder.{is_in_own_order}
use Rattle.schedule_model.specs.Reduction.{AreReduced, IsReduced, no_step, step_first}
use Rattle.schedule_model.proofs.CompletionLaws.{own_order-completion}
use Rattle.schedule_model.proofs.Members.{Among, among-more, contains-from_among}
use Rattle.schedule_model.proofs.NoConflict.{legal-from_own_order}
use Rattle.commute_table.specs.Operations.{IsCatalog}
use Rattle.commute_table.specs.declared.catalog.Catalog.{Catalog}
use Rattle.value_conflict.specs.ValueConflict.{IsValueSound}
use Rattle.value_rules.specs.HistoryValues.{value_after}
use Rattle.value_rules.specs.Ledgers.{unused}
use Rattle.value_rules.specs.Laws.{AgreeOn, AreSound}
use Rattle.value_rules.proofs.Chains.{law}
use Rattle.value_rules.proofs.HistoryOnce.{acts-once}
use Rattle.value_rules.proofs.Once.{among-swap}
use Rattle.value_rules.proofs.Pairs.{Ranged, zero_fits}
use Rattle.value_rules.proofs.PlanDeeds.{asked, asked-sound, is_known, sums}
use Rattle.value_rules.proofs.Tells.{acts-known, history-tells, ledger, steps-tell}
use Rattle.value_replay.specs.Replays.{AreSteps, books}
use Rattle.replay_run.specs.Printed.{values_lines}
use Rattle.replay_run.proofs.PrintedValues.{lines_alike}
use Rattle.serial_values.specs.Laws.{SerialListsLeaveWhatLogsLeave}

-- what is left was there
one-within : (table : ConflictRelation) {xs ys : List Entry} → IsReduced table xs ys → (e : Entry) → Among e ys → Among e xs
one-within table (inl r) e is = subst (Among e) (sym r.4) (among-swap e r.0 r.3 r.2 r.1 (subst (Among e) r.5 is))
one-within table (inr r) e is = subst (Among e) (sym r.4) (among-more e r.0 r.2 (r.3 ∷ r.1) (among-more e r.0 r.3 r.1 (subst (Among e) r.5 is)))

all-within : (table : ConflictRelation) {xs ys : List Entry} → AreReduced table xs ys → (e : Entry) → Among e ys → Among e xs
all-within table no_step e is = is
all-within table (step_first one more) e is = one-within table one e (all-within table more e is)

module _ (c : Catalog) (plans : List Plan) (h : List Event) (steps : List Entry) (good : IsCatalog c) (sound : IsValueSound c)
    (planned : IsPlanned (operations_in c.conflicts) plans h) (own : IsTrue (is_in_own_order (courses_of plans) h)) (are : AreSteps steps)
    (reduced : AreReduced (do_conflict c.conflicts) (acts (completed (courses_of plans) h)) steps) where
  abbrev done : List Event
  done = completed (courses_of plans) h

  -- own order alone is legal where nothing conflicts
  legal : IsTrue (is_legal no_conflict (courses_of plans) done)
  legal = legal-from_own_order (courses_of plans) done (own_order-completion plans h planned.good own).0

  are_sound : AreSound (do_conflict c.conflicts) (asked c plans) (sums c plans) (is_known c plans)
  are_sound = asked-sound c plans planned.good sound good.of_all planned.known

  range : Ranged (asked c plans) are_sound.fits unused
  range = record { value = λ q k. zero_fits; found = λ i b. zero_fits }

  all_known : (e : Entry) → Among e (acts done) → is_known c plans e ≡ true
  all_known = acts-known c plans no_conflict done legal

  agree : AgreeOn (sums c plans) steps (ledger c plans (acts done)) (ledger c plans steps)
  agree =
      law (do_conflict c.conflicts) (asked c plans) (sums c plans) (is_known c plans) are_sound unused range (acts done) steps all_known
      (acts-once no_conflict (courses_of plans) done legal) reduced

  same_values : (q key : ℕ) → value_after c.ops plans steps q key ≡ value_after c.ops plans (acts done) q key
  same_values q key =
      steps-tell c plans steps (λ e there. (all_known e (all-within (do_conflict c.conflicts) reduced e there), are e (contains-from_among e steps there))) q key
      ∙ (sym (agree.0 q key) ∙ sym (history-tells c plans no_conflict done legal (acts done) [] (sym (append-nil (acts done))) q key))

  pub leave-same : values_lines (books c.ops plans steps) ≡ values_lines (books c.ops plans (acts done))
  leave-same = lines_alike (books c.ops plans steps) (books c.ops plans (acts done)) same_values

pub serial_lists : SerialListsLeaveWhatLogsLeave
serial_lists c plans h steps good sound planned own are reduced = leave-same c plans h steps good sound planned own are reduced
