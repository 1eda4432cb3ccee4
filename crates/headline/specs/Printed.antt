-- What was printed at the end is kept. Who has read the report of a `run`, or what the lines of a `session` printed, to its end may
-- rely on it: the history that is told there is the one that the next call finds, with nothing less and nothing more, wherever that
-- begins and whatever a crash leaves. It holds of a report that names an exhausted process, and of a session that ends for want of
-- memory, as of one that ends well. What `restart` printed is kept so by `IsCompleted`, and each answer of `serve` by `Answered`.
use Rattle.std.specs.Prelude.{◌≡◌, ◌≢◌, ◌≤◌, ℕ, Bool, true, false, List, Option, Some}
use Rattle.process_flow.specs.declared.source.Source.{Ghosts as Sources}
use Rattle.process_flow.specs.declared.sink.Sink.{Ghosts as Sinks}
use Rattle.process_disk.specs.declared.rack.Rack.{Ghosts as Racks}
use Rattle.process_disk.specs.Disk.{Disk, FileSet, Told}
use Rattle.process_tree.specs.declared.plan.Plan.{Plan}
use Rattle.schedule_model.specs.declared.history.History.{History}
use Rattle.commute_table.specs.declared.catalog.Catalog.{Catalog}
use Rattle.process_core.specs.Cores.{CoreState, opened_on}
use Rattle.history_files.specs.Sound.{IsSound}
use Rattle.engine_steps.specs.Engines.{full_history}
use Rattle.process_engine.specs.declared.gates.Gate.{Ghosts as Gates}
use Rattle.resource_box.specs.declared.resource.Resource.{Ghosts as Resources}
use Rattle.command_refusals.specs.declared.refusal.Refusal.{Refusal}
use Rattle.command_refusals.specs.declared.status.Status.TheVariants.{DiskFault, IllFormed}
use Rattle.command_input.specs.Inputs.{Input}
use Rattle.command_input.specs.declared.said.Said.{Said}
use Rattle.program_words.specs.Commands.{asked}
use Rattle.program_words.specs.declared.reading.Command.{Command}
use Rattle.program_words.specs.declared.reading.Command.TheVariants.{Run, Session}
use Rattle.session_text.specs.declared.line.Line.{Line}
use Rattle.scenario_run.specs.Run.{SaysRun}
use Rattle.session_run.specs.Playthrough.{HasPlayed}
use Rattle.session_run.specs.Session.{IsSessionRead}
use Rattle.process_top.specs.Commands.{Answers}
use Rattle.process_top.specs.Replies.{ended}
use Rattle.headline.specs.Headline.{FindsLeft, Outside, WereLeft, seen}

-- the command prints at its end what its machine has come to
abbrev pub prints_at_end : Option Command → Bool
prints_at_end (Some (Run workers)) = true
prints_at_end (Some Session) = true
prints_at_end o = false

-- This was said of what a machine has come to: the report of its history; or what the lines printed that led to it.
abbrev pub IsSaidOf : Option Command → Input → Input → Catalog → CoreState → Said → Type 0
IsSaidOf (Some (Run workers)) before after c now said = SaysRun c now said
IsSaidOf (Some Session) before after c now said =
    (h : History) × (plans : List Plan) × (lines : List Line) × IsSessionRead before after c plans lines
    × HasPlayed c plans (opened_on c.conflicts h.plans h.events) now lines said.text.items said.status
IsSaidOf o before after c now said = ⊥

-- the files read as those of this history, and so does whatever a crash at once would leave
pub record HoldsJust (c : Catalog) (h : History) (disk : Disk) : Type 0 where
  pub reads : IsSound c h disk.files
  pub images : (files : FileSet) → disk.may_leave files → IsSound c h files

module _ {S K R B G : Type 0} (sources : Sources S) (sinks : Sinks K) (racks : Racks R) (resources : Resources B)
    (workers : Gates G) where
  -- The law of what is printed at the end.
  abbrev pub PrintedIsKept : Type 0
  PrintedIsKept =
      (words : List (List ℕ)) (before after : Outside S K R B G) (number : ℕ) (refusal : Option Refusal) (said : Said)
      → prints_at_end (asked words) ≡ true
      → (answered : Answers words (seen sources sinks racks resources workers before) (seen sources sinks racks resources workers after)
      number refusal)
      → Told (seen sources sinks racks resources workers before).files.disk → answered.reply ≡ ended said → said.status ≢ IllFormed
      → said.status ≢ DiskFault
      → (c : Catalog) × (now : CoreState)
      × IsSaidOf (asked words) (seen sources sinks racks resources workers before).input
      (seen sources sinks racks resources workers after).input c now said
      × ((moment : ℕ) → (seen sources sinks racks resources workers after).files.disk.moment ≤ moment → (again : Outside S K R B G)
      → FindsLeft (WereLeft (seen sources sinks racks resources workers before) (seen sources sinks racks resources workers after) moment)
      (seen sources sinks racks resources workers again).files.disk
      → HoldsJust c (full_history now) (seen sources sinks racks resources workers again).files.disk)
