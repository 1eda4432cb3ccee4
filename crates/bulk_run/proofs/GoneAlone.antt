-- How a machine has gone that one gate ran, turn by turn.
use Rattle.std.proofs.Common.{◌≡◌, ◌∙◌, [], ◌∷◌, List, Option, ap, subst}
use Rattle.process_disk.specs.declared.rack.Rack.{Ghosts as Racks}
use Rattle.process_tree.specs.declared.plan.Plan.{Plan}
use Rattle.schedule_model.specs.declared.history.History.{History}
use Rattle.schedule_model.specs.Histories.{active}
use Rattle.machine_model.specs.Replies.{Handed}
use Rattle.process_core.specs.Cores.{CoreState, IsCore, history_of}
use Rattle.process_engine.specs.declared.gates.Answer.{Answer}
use Rattle.engine_steps.specs.Engines.{EngineState, full_history}
use Rattle.engine_steps.specs.Opening.{IsOpened}
use Rattle.engine_calls.specs.GateAnswers.{AskedGate, GateCounts}
use Rattle.worker_gate.specs.Running.{AreTurns, RanBy}
use Rattle.scenario_run.specs.Starting.{started_on, with_started}
use Rattle.scenario_run.proofs.Gone.{gone_run_by_one, gone_started}
use Rattle.bulk_run.specs.Bulk.{HasGoneAlone}

module _ {R B : Type 0} (opening : EngineState R B) (opened : IsOpened opening) (idle : active (history_of opening.core) ≡ []) (started : List Plan) where
  abbrev h : History
  h = full_history opening.core

  on_is : (mid : CoreState) → mid ≡ with_started opening.core started → mid ≡ started_on opening.catalog h started
  on_is mid is = is ∙ ap (λ core. with_started core started) opened.core

  -- once they have started and nothing more
  pub started_alone : (answers : Handed → Option Answer) (counts : GateCounts) (now : CoreState) → IsCore now → now ≡ with_started opening.core started
      → HasGoneAlone (record { answers = answers; before = counts; after = counts }) opening.catalog h started now
  started_alone answers counts now core is = record {
    gone = gone_started opening opened idle started answers (counts ∷ []) now core is;
    cores = [];
    turns = on_is now is;
  }

  -- and once they were run too
  pub run_alone : (racks : Racks R) (gate : AskedGate) (mid now : EngineState R B) → IsCore now.core → mid.catalog ≡ opening.catalog
      → mid.core ≡ with_started opening.core started → RanBy racks gate mid now → HasGoneAlone gate opening.catalog h started now.core
  run_alone racks gate mid now core catalog is ran = record {
    gone = gone_run_by_one opening opened idle started racks gate mid now core catalog is ran;
    cores = ran.cores;
    turns = subst (λ on. AreTurns ran.cores on now.core) (on_is mid.core is) ran.turns;
  }
