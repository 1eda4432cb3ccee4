-- What was answered is kept. A driver of `serve` that has read an answer may rely on it: whatever the next call finds, where this one was
-- stopped no sooner than the answer was whole, begins with all that the machine had come to by then. It holds of each answer, of a
-- beginning and a refusal as of an effect.
use Rattle.std.specs.Prelude.{◌≡◌, ◌≤◌, ℕ, List, ◌∷◌, ◌++◌, Option, Some}
use Rattle.process_flow.specs.declared.source.Source.{Ghosts as Sources}
use Rattle.process_flow.specs.declared.sink.Sink.{Ghosts as Sinks}
use Rattle.process_disk.specs.declared.rack.Rack.{Ghosts as Racks}
use Rattle.schedule_model.specs.declared.event.Event.{Event}
use Rattle.schedule_model.specs.declared.history.History.{History}
use Rattle.commute_table.specs.declared.catalog.Catalog.{Catalog}
use Rattle.process_core.specs.Cores.{history_of}
use Rattle.history_files.specs.Sound.{IsSound}
use Rattle.process_engine.specs.declared.gates.Gate.{Ghosts as Gates}
use Rattle.resource_box.specs.declared.resource.Resource.{Ghosts as Resources}
use Rattle.command_refusals.specs.declared.refusal.Refusal.{Refusal}
use Rattle.command_refusals.specs.declared.status.Status.{Status}
use Rattle.program_words.specs.Commands.{asked}
use Rattle.program_words.specs.declared.reading.Command.TheVariants.{Serve}
use Rattle.serve_run.specs.Dialogue.{Dialogue, Exchange}
use Rattle.process_top.specs.Commands.{Answers}
use Rattle.process_top.specs.Replies.{served}
use Rattle.headline.specs.Headline.{FindsLeft, IsAtEntry, Outside, WereLeft, seen}

module _ {S K R B G : Type 0} (sources : Sources S) (sinks : Sinks K) (racks : Racks R) (resources : Resources B)
    (workers : Gates G) where
  -- The law of the answers of a dialogue.
  abbrev pub AnswersAreKept : Type 0
  AnswersAreKept =
      (words : List (List ℕ)) (before after : Outside S K R B G) (number : ℕ) (refusal : Option Refusal) (c : Catalog) (h : History)
      → asked words ≡ Some Serve
      → (answered : Answers words (seen sources sinks racks resources workers before) (seen sources sinks racks resources workers after)
      number refusal)
      → IsAtEntry c h (seen sources sinks racks resources workers before).files.disk
      → (d : Dialogue) (status : Status) → answered.reply ≡ served d status → (earlier later : List Exchange) (x : Exchange)
      → d.exchanges ≡ earlier ++ x ∷ later → (moment : ℕ) → x.moment ≤ moment → (again : Outside S K R B G)
      → FindsLeft (WereLeft (seen sources sinks racks resources workers before) (seen sources sinks racks resources workers after) moment)
      (seen sources sinks racks resources workers again).files.disk
      → (read : History) × IsSound c read (seen sources sinks racks resources workers again).files.disk.files
      × ((rest : List Event) × (read.events ≡ history_of x.state.core ++ rest))
