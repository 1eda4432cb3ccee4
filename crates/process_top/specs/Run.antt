-- The command `run`.
use Rattle.std.specs.Prelude.{[], ◌∷◌, List, ℕ, get_or, take, Ok, Err}
use Rattle.commute_table.specs.declared.catalog.Catalog.{Catalog}
use Rattle.process_tree.specs.declared.plan.Plan.{Plan}
use Rattle.schedule_model.specs.declared.history.History.{History}
use Rattle.command_refusals.specs.declared.status.Status.{Status}
use Rattle.command_refusals.specs.declared.status.Status.TheVariants.{Done, Exhausted, NoMemory}
use Rattle.command_refusals.specs.Statuses.{IsOneOf}
use Rattle.command_input.specs.Inputs.{Input}
use Rattle.command_input.specs.FilesLeft.{Files}
use Rattle.scenario_run.specs.Completeness.{HasRoomFor, HasScenario}
use Rattle.engine_calls.specs.GateAnswers.{AskedGate, GateCounts}
use Rattle.worker_gate.specs.ManyGates.{AskedGates}
use Rattle.scenario_run.specs.Run.{IsRunDue as IsRunFound}
use Rattle.process_top.specs.Worlds.{GatesState}
use Rattle.process_top.specs.Replies.{Reply, ended, refused}

-- the counts of a gate that was never asked
abbrev pub never_asked : GateCounts
never_asked = record { asked = 0; refusals = 0 }

-- the gates of a call, before and after
abbrev pub gates_asked : GatesState → GatesState → AskedGates
gates_asked before after = record { answers = before.answers; before = before.counts; after = after.counts }

-- the first so many of them
abbrev pub first_gates : ℕ → AskedGates → AskedGates
first_gates count gates =
    record { answers = gates.answers; before = take count gates.before; after = take count gates.after }

-- the first
abbrev pub first_gate : AskedGates → AskedGate
first_gate gates =
    record { answers = gates.answers; before = get_or gates.before 0 never_asked; after = get_or gates.after 0 never_asked }

-- the report of the history once all processes of the scenario have ended, or one is stuck; or the verdict line of the first
-- process that isn't well-formed; or what is refused
abbrev pub IsRunDue : AskedGates → Input → Input → Files → Files → Reply → Type 0
IsRunDue gates before after files files_after (ended said) = IsRunFound gates before after files files_after (Ok said)
IsRunDue gates before after files files_after (refused r) = IsRunFound gates before after files files_after (Err r)
IsRunDue gates before after files files_after reply = ⊥

-- Where the input is a scenario and the files have room for it, the report is there: all processes have ended, or one is stuck; or
-- memory is wanting.
abbrev pub IsRunComplete : Input → Files → Status → Type 0
IsRunComplete input files status =
    (bytes : List ℕ) (c : Catalog) (plans : List Plan) (h : History) → HasScenario input bytes c plans → HasRoomFor bytes c h files
    → IsOneOf status (Done ∷ Exhausted ∷ NoMemory ∷ [])
