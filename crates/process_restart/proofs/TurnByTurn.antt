-- An engine that was opened, whose history is completed turn after turn.
use Rattle.std.proofs.Common.{◌≡◌, ◌∙◌, ◌≤◌, ℕ, Bool, true, false, List, [], ◌∷◌, ◌++◌, if◌then◌else◌, refl, ap, subst, sym, arith}
use Rattle.process_disk.specs.declared.rack.Rack.{Ghosts as Racks}
use Rattle.process_tree.specs.declared.plan.Plan.{Plan}
use Rattle.resource_box.specs.declared.resource.Resource.{Ghosts as Resources}
use Rattle.schedule_model.specs.declared.history.History.{History}
use Rattle.schedule_model.specs.Laws.{plans_in}
use Rattle.schedule_model.specs.Completion.{completion}
use Rattle.schedule_model.specs.Histories.{is_active}
use Rattle.reduction_trace.specs.Whole.{completed_history}
use Rattle.commute_table.specs.declared.catalog.Catalog.{Catalog}
use Rattle.machine_model.specs.declared.kept.Kept.{Kept}
use Rattle.machine_model.specs.declared.kept.Kept.TheVariants.{Restart}
use Rattle.machine_model.specs.Advance.{advance_all}
use Rattle.machine_model.specs.Calls.{complete_all}
use Rattle.machine_model.specs.Laws.{AllHaveBegun}
use Rattle.machine_model.specs.Moment.{Moment}
use Rattle.machine_model.specs.Runs.{may_be_kept}
use Rattle.process_core.specs.Answers.{after_call}
use Rattle.process_core.specs.Cores.{CoreState, IsCore, courses_in, history_of, moment_of, relation}
use Rattle.core_state.proofs.SeatFacts.{has_plan}
use Rattle.core_state.proofs.SeatReplies.{started_if}
use Rattle.engine_steps.specs.Engines.{EngineState, IsUnder, full_history, with_core}
use Rattle.engine_steps.specs.Opening.{IsOpened}
use Rattle.engine_steps.specs.declared.engines.Phase.{Phase}
use Rattle.engine_steps.proofs.SameHistory.{complete_all_same}
use Rattle.engine_calls.specs.GateAnswers.{AskedGate, IsByGate, kept_since}
use Rattle.engine_calls.specs.Runs.{IsReady}
use Rattle.engine_calls.proofs.GateRuns.{kept_is}
use Rattle.worker_gate.specs.Running.{HasRun}
use Rattle.worker_gate.proofs.IdleMoments.{moment_with}
use Rattle.worker_gate.proofs.NothingOut.{opened_idle}
use Rattle.process_restart.specs.Completing.{AreInTurn, IsCompleting, IsNextHistory, IsOutcome, restarted_on}
use Rattle.process_restart.specs.declared.completing.Completion.{Completion}
use Rattle.process_restart.specs.declared.completing.Completion.TheVariants as completions
use Rattle.process_restart.specs.Turns.{HaveEnded, IsAtTurn, RanInTurn}
use Rattle.process_restart.proofs.Begun.{begun_by_restart, restart_idle}

-- What is said of a completion is said of each history that is completed to the same.
module _ (h k : History) (same : completed_history k ≡ completed_history h) where
  pub outcome_alike : (now : CoreState) (on : Phase) (r : Completion) → IsOutcome k now on r → IsOutcome h now on r
  outcome_alike now on completions.Ended is = (is.0, is.1 ∙ same)
  outcome_alike now on (completions.Exhausted process step) is = is
  outcome_alike now on completions.DiskFault is = is
  outcome_alike now on completions.NoMemory is = is

  pub next_alike : k.plans ≡ h.plans → (now : CoreState) (next : History) → IsNextHistory k now next → IsNextHistory h now next
  next_alike plans now next is = record {
    event = is.event;
    rest = is.rest;
    toward = sym same ∙ is.toward;
    is = is.is ∙ ap (λ (ps : List Plan). record { plans = plans_in ps (history_of now ++ is.event ∷ []); events = history_of now ++ is.event ∷ [] }) plans;
  }

-- nobody has the number 0
none_yet : (c : CoreState) → IsCore c → HaveEnded c 0
none_yet c core = record { none_active = λ i low. by i low (is_active (history_of c) i) refl; within = omega arith }
  where
    by : (i : ℕ) → i ≤ 0 → (t : Bool) → is_active (history_of c) i ≡ t → t ≡ false
    by i low false is = refl
    by i low true is = let bounds = has_plan c core i (started_if (history_of c) i is) in absurd (omega (arith, low, bounds.0))

module _ {R B : Type 0} (start restarted : EngineState R B) (opened : IsOpened start) (first : restarted ≡ with_core start (after_call start.core complete_all)) where
  abbrev asks : List Kept
  asks = if may_be_kept (relation start.core) (courses_in start.core) (moment_of start.core) Restart then Restart ∷ [] else []

  moment_is : moment_of restarted.core ≡ advance_all (relation start.core) (courses_in start.core) (moment_of start.core) asks
  moment_is = moment_with start.core restarted.core asks (ap (λ (e : EngineState R B). e.core.conflicts) first) (ap (λ (e : EngineState R B). e.core.plans) first) (ap (λ (e : EngineState R B). e.core.opening) first)
      (ap (λ (e : EngineState R B). e.core.kept) first)

  -- Once all were asked to complete, the first turn may come.
  pub first_turn : (box : Resources B) → IsReady box restarted → IsCore restarted.core → IsAtTurn box restarted 0
  first_turn box ready core = record {
    ready = ready;
    idle = ap (λ (m : Moment). m.out) moment_is ∙ restart_idle (relation start.core) (courses_in start.core) (moment_of start.core) (opened_idle start opened);
    begun = subst AllHaveBegun (sym moment_is) (begun_by_restart (relation start.core) (courses_in start.core) (moment_of start.core));
    have_ended = none_yet restarted.core core;
  }

  pub same_history : full_history restarted.core ≡ full_history start.core
  same_history = ap (λ (e : EngineState R B). full_history e.core) first ∙ complete_all_same start.core

  core_is : restarted.core ≡ restarted_on start.catalog (full_history start.core)
  core_is = ap (λ (e : EngineState R B). e.core) first ∙ ap (λ c. after_call c complete_all) opened.core

  catalog_is : restarted.catalog ≡ start.catalog
  catalog_is = ap (λ (e : EngineState R B). e.catalog) first

  module _ (racks : Racks R) (gate : AskedGate) (now : EngineState R B) (ran : RanInTurn racks gate restarted now) where
    kept : now.core.kept ≡ restarted.core.kept ++ kept_since restarted.core now.core
    kept = (ran.goes []).kept ∙ ap (λ ks. restarted.core.kept ++ ks) (sym (kept_is restarted.core now.core (ran.goes []).added (ran.goes []).kept))

    has_run : IsCore now.core → IsUnder now.catalog now.core → HasRun gate start.catalog restarted.core now.core
    has_run core under = record {
      machine = core;
      table = under.table ∙ ap (λ (c : Catalog). c.conflicts) ((ran.goes []).catalog ∙ catalog_is);
      opening = (ran.goes []).opening;
      plans = ran.plans;
      kept = kept;
      running = ran.running;
      by_gate = subst (λ c. IsByGate gate c restarted.core now.core) catalog_is ran.by_gate;
      asked_once = ran.asked_once;
    }

    pub completed_is : completed_history (full_history now.core) ≡ completed_history (full_history start.core)
    completed_is = ran.completed ∙ ap completed_history same_history

    pub plans_are : now.core.plans ≡ start.core.plans
    plans_are = ran.plans ∙ ap (λ (e : EngineState R B). e.core.plans) first

    -- Turn after turn its history is completed.
    pub completing : IsCore now.core → IsUnder now.catalog now.core → IsCompleting gate start.catalog (full_history start.core) now.core
    completing core under = record {
      run = subst (λ c. HasRun gate start.catalog c now.core) core_is (has_run core under);
      turns = subst (λ c. AreInTurn c (kept_since c now.core)) core_is ran.turns;
      rest = completion (courses_in now.core) (history_of now.core);
      toward = sym completed_is;
    }
