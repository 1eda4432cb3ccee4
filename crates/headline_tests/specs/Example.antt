-- A session that is stopped, and a restart after it; and a chain: a run that is stopped, `serve` that is stopped, and a restart.
use Rattle.std.specs.Prelude.{◌≡◌, ℕ, List, [], ◌∷◌, codes, Option, Some}
use Rattle.process_flow.specs.declared.source.Source.{Ghosts as Sources}
use Rattle.process_flow.specs.declared.sink.Sink.{Ghosts as Sinks}
use Rattle.process_disk.specs.declared.rack.Rack.{Ghosts as Racks}
use Rattle.schedule_model.specs.declared.event.Event.{Event}
use Rattle.schedule_model.specs.declared.history.History.{History}
use Rattle.commute_table.specs.declared.catalog.Catalog.{Catalog}
use Rattle.process_core.specs.Cores.{CoreState}
use Rattle.process_journal.specs.Bodies.{no_history}
use Rattle.process_journal.specs.Laws.{IsSameHistory}
use Rattle.process_engine.specs.declared.gates.Gate.{Ghosts as Gates}
use Rattle.resource_box.specs.declared.resource.Resource.{Ghosts as Resources}
use Rattle.command_refusals.specs.declared.refusal.Refusal.{Refusal}
use Rattle.command_refusals.specs.declared.status.Status.TheVariants.{Done}
use Rattle.command_refusals.specs.Statuses.{number_of}
use Rattle.program_words.specs.declared.reading.Command.TheVariants.{Session}
use Rattle.process_top.specs.Commands.{Answers}
use Rattle.process_top.specs.Worlds.{World}
use Rattle.headline.specs.Chains.{Call, IsCall, IsChain, NothingIsLost}
use Rattle.headline.specs.Headline.{FindsLeft, IsAhead, IsAtEntry, IsCompleted, IsRecovered, IsRestartOn, Outside, WentOn, WereLeft, seen}

-- the words of a run by three workers
abbrev pub run_words : List (List ℕ)
run_words = codes "run" ∷ codes "--workers" ∷ codes "3" ∷ []

module _ {S K R B G : Type 0} (sources : Sources S) (sinks : Sinks K) (racks : Racks R) (resources : Resources B)
    (workers : Gates G) where
  abbrev pub see : Outside S K R B G → World S K R
  see = seen sources sinks racks resources workers

  -- A call with these words on a rack, with new objects beside it: it ended at this status, with this sink and this rack.
  pub record IsAnswered (words : List (List ℕ)) (rack : R) (status : ℕ) (sink : K) (left : R) : Type 0 where
    pub before : Outside S K R B G
    pub after : Outside S K R B G
    pub on : before.rack ≡ rack
    pub blank : sinks.taken before.sink ≡ Some []
    pub told : after.sink ≡ sink
    pub leaves : after.rack ≡ left
    pub refusal : Option Refusal
    pub answered : Answers words (see before) (see after) status refusal

  -- A session was answered on files that were made, a stop fell in it, and a restart was answered on what the stop left, at this
  -- status and with this in its sink. So the law speaks of it: of the history that the restart read.
  pub record IsRestartedSession (status : ℕ) (sink : K) : Type 0 where
    pub before : Outside S K R B G
    pub after : Outside S K R B G
    pub again : Outside S K R B G
    pub last : Outside S K R B G
    pub number : ℕ
    pub catalog : Catalog
    pub moment : ℕ
    -- the premises
    pub refusal : Option Refusal
    pub session : Answers (codes "session" ∷ []) (see before) (see after) number refusal
    pub entry : IsAtEntry catalog no_history (see before).files.disk
    pub restarted : IsRestartOn (WereLeft (see before) (see after) moment) (codes "restart" ∷ []) (see again) (see last) status
    pub blank : sinks.taken again.sink ≡ Some []
    pub told : last.sink ≡ sink
    -- the conclusion
    pub now : CoreState
    pub came : List (ℕ × List Event)
    pub went : WentOn (Some Session) catalog no_history (see before) (see after) now came
    pub read : History
    pub recovered : IsRecovered catalog no_history
        (IsAhead (Some Session) (see before).input (see after).input catalog went.opened now) now came moment read
        (codes "restart" ∷ []) (see again) (see last) status
    pub completed : status ≡ number_of Done → IsCompleted catalog read (see again) (see last)

  -- What a stop leaves of a call with these words on files that were made: a chain of one, and a rack that the next call may be
  -- made on, which nobody has called.
  pub record IsStoppedRun (left : R) : Type 0 where
    pub catalog : Catalog
    pub run : Call S K R B G
    pub words : run.words ≡ run_words
    pub call : IsCall sources sinks racks resources workers run
    pub entry : IsAtEntry catalog no_history (see run.before).files.disk
    pub finds : FindsLeft (WereLeft (see run.before) (see run.after) run.moment) (racks.disk left)

  -- A run by three workers was answered on files that were made, and a stop fell in it; `serve` was answered on what the stop left,
  -- and a stop fell in that; and a restart was answered on what this one left, at this status and with this in its sink. So the law
  -- of chains speaks of them.
  pub record IsRestartedChain (status : ℕ) (sink : K) : Type 0 where
    pub catalog : Catalog
    pub run : Call S K R B G
    pub serve : Call S K R B G
    pub restart : Call S K R B G
    -- the calls
    pub ran : run.words ≡ run_words
    pub served : serve.words ≡ codes "serve" ∷ []
    pub restarted : restart.words ≡ codes "restart" ∷ []
    pub number : restart.number ≡ status
    pub blank : sinks.taken restart.before.sink ≡ Some []
    pub told : restart.after.sink ≡ sink
    -- the premises
    pub chain : IsChain sources sinks racks resources workers run (serve ∷ restart ∷ [])
    pub entry : IsAtEntry catalog no_history (see run.before).files.disk
    -- the conclusion
    pub nothing_lost : NothingIsLost sources sinks racks resources workers catalog (IsSameHistory no_history) [] run (serve ∷ restart ∷ [])
