-- Calls one after another in one folder, however many: each of `run`, `session`, `serve` or `restart`, on what is left of the one
-- before it, which ended or was stopped. Nothing that was acknowledged is lost over the whole.
--
-- - A call that ended is one that was stopped at its last moment. Where it was cut off sooner, it is stopped at some moment of a call
--   that would have ended: what comes later changes nothing of what came before.
-- - 'What is left': any files that the device may have kept since that moment, as the next call reads them and as a crash at its
--   beginning would leave them (`FindsLeft`). So the bridge from one call to the next is the images alone.
-- - Each call reads a history that begins with what is acknowledged (`IsPartOfWhole.holds`). Acknowledged is what was so at the first
--   entry; and from the opening of a call on, what it read and what has come since then (`acknowledged_with`). A stop before the
--   opening leaves what might have been left before.
-- - Each call goes on from what it read (`WentOn`), whichever command it is: `serve` goes on with its dialogue, once whoever was
--   active has begun to complete.
-- - Where a call leaves nobody active, each process of the whole has done one whole path, or nothing of it is left
--   (`IsPartOfWhole.whole`). A `restart` that ends well does so, and its books are exactly those of the whole (`completed`).
use Rattle.std.specs.Prelude.{◌≡◌, ◌⊎◌, ℕ, Bool, true, false, List, [], ◌∷◌, ◌++◌, Option, Some, refl}
use Rattle.process_flow.specs.declared.source.Source.{Ghosts as Sources}
use Rattle.process_flow.specs.declared.sink.Sink.{Ghosts as Sinks}
use Rattle.process_disk.specs.declared.rack.Rack.{Ghosts as Racks}
use Rattle.schedule_model.specs.declared.event.Event.{Event}
use Rattle.schedule_model.specs.declared.event.Event.TheVariants.{Start, End}
use Rattle.schedule_model.specs.declared.history.History.{History}
use Rattle.schedule_model.specs.Course.{courses_of}
use Rattle.schedule_model.specs.Histories.{active}
use Rattle.schedule_model.specs.Laws.{AllAtEnds}
use Rattle.commute_table.specs.declared.catalog.Catalog.{Catalog}
use Rattle.process_core.specs.Cores.{CoreState, history_of}
use Rattle.process_journal.specs.Laws.{IsSameHistory}
use Rattle.history_files.specs.Sound.{IsSound}
use Rattle.engine_steps.specs.Engines.{full_history}
use Rattle.process_engine.specs.declared.gates.Gate.{Ghosts as Gates}
use Rattle.resource_box.specs.declared.resource.Resource.{Ghosts as Resources}
use Rattle.command_refusals.specs.declared.refusal.Refusal.{Refusal}
use Rattle.command_refusals.specs.declared.status.Status.TheVariants.{Done, Exhausted}
use Rattle.command_refusals.specs.Statuses.{number_of}
use Rattle.program_words.specs.Commands.{asked}
use Rattle.program_words.specs.declared.reading.Command.TheVariants.{Restart}
use Rattle.process_top.specs.Commands.{Answers}
use Rattle.process_top.specs.Worlds.{World}
use Rattle.engine_calls.specs.Acknowledged.{acknowledged}
use Rattle.headline.specs.Headline.{FindsLeft, IsAtEntry, IsCompleted, IsHeldUp, IsLeftAlone, IsRackFault, LeavesFiles, MayBeLeft}
use Rattle.headline.specs.Headline.{Outside, WentOn, WereLeft, goes_on, seen, was_opened_by}

-- One call: its words, what it found and what it left, its status and its refusal, if any, and the moment at which it was stopped, or ended.
pub record Call (S K R B G : Type 0) : Type 0 where
  pub words : List (List ℕ)
  pub before : Outside S K R B G
  pub after : Outside S K R B G
  pub number : ℕ
  pub refusal : Option Refusal
  pub moment : ℕ

-- What is acknowledged once a call was stopped: where it had opened the files by then, what it read and what came since then; or
-- else what was so before.
abbrev pub acknowledged_with : List Event → List Event → List Event → Bool → List Event
acknowledged_with known read came true = read ++ came
acknowledged_with known read came false = known

-- it read a start beyond what was known, and an end came: once it had opened the files, all three are acknowledged
with_opening : acknowledged_with (Start 1 ∷ []) (Start 1 ∷ Start 2 ∷ []) (End 1 ∷ []) true ≡ Start 1 ∷ Start 2 ∷ End 1 ∷ []
with_opening = refl

before_opening : acknowledged_with (Start 1 ∷ []) (Start 1 ∷ Start 2 ∷ []) [] false ≡ Start 1 ∷ []
before_opening = refl

module _ {S K R B G : Type 0} (sources : Sources S) (sinks : Sinks K) (racks : Racks R) (resources : Resources B)
    (workers : Gates G) where
  abbrev pub world_of : Outside S K R B G → World S K R
  world_of = seen sources sinks racks resources workers

  -- it opens an engine, and was answered
  pub record IsCall (x : Call S K R B G) : Type 0 where
    pub opens : goes_on (asked x.words) ≡ true
    pub answered : Answers x.words (world_of x.before) (world_of x.after) x.number x.refusal

  -- nobody but the first call wrote what the second one finds
  abbrev pub Follows : Call S K R B G → Call S K R B G → Type 0
  Follows x y = FindsLeft (WereLeft (world_of x.before) (world_of x.after) x.moment) (world_of y.before).files.disk

  -- a call, and these in their order, each on what is left of the one before it
  abbrev pub IsChain : Call S K R B G → List (Call S K R B G) → Type 0
  IsChain x [] = IsCall x
  IsChain x (y ∷ later) = IsCall x × Follows x y × IsChain y later

  -- What is said of one of them, where its files may be those of these histories and hold these acknowledged events.
  pub record IsPartOfWhole (c : Catalog) (MayBe : History → Type 0) (known : List Event) (x : Call S K R B G) : Type 0 where
    -- it reads one of the histories, which begins with all that is acknowledged
    pub read : History
    pub reads : IsSound c read (world_of x.before).files.disk.files
    pub may_be : MayBe read
    pub more : List Event
    pub holds : read.events ≡ known ++ more
    -- and goes on from there
    pub now : CoreState
    pub came : List (ℕ × List Event)
    pub went : WentOn (asked x.words) c read (world_of x.before) (world_of x.after) now came
    pub leaves : LeavesFiles (asked x.words) c read (world_of x.before) (world_of x.after) x.number now came
    -- where nobody is active in what its machine has come to, each process of the whole has done one whole path, or nothing of it is
    -- left
    pub whole : active (history_of now) ≡ [] → AllAtEnds (courses_of now.plans) (history_of now)
    -- a restart that ends well completes what it read, with all that the chain acknowledged; one that is held up says where
    pub completed : asked x.words ≡ Some Restart → x.number ≡ number_of Done → IsCompleted c read (world_of x.before) (world_of x.after)
    pub held_up : asked x.words ≡ Some Restart → x.number ≡ number_of Exhausted → IsHeldUp c read (world_of x.before) (world_of x.after)

  -- A history that the next call may read. Where this one was not cut off and the rack failed no call, it is the history that its
  -- machine has come to, neither behind nor ahead; unless the files were left alone.
  pub record MayBeNext (c : Catalog) (MayBe : History → Type 0) (known : List Event) (x : Call S K R B G)
      (part : IsPartOfWhole c MayBe known x) (k : History) : Type 0 where
    pub left : MayBeLeft (asked x.words) c part.read (world_of x.before) (world_of x.after) part.now part.came part.went MayBe x.moment k
    pub ended : x.moment ≡ (world_of x.after).files.disk.moment
        → ¬ IsRackFault part.leaves.status (world_of x.before) (world_of x.after)
        → IsLeftAlone part.read part.now part.came (world_of x.before).files.disk (world_of x.after).files.disk
        ⊎ IsSameHistory (full_history part.now) k

  -- what is acknowledged behind it
  abbrev pub known_behind : (c : Catalog) (MayBe : History → Type 0) (known : List Event) (x : Call S K R B G)
      → IsPartOfWhole c MayBe known x → List Event
  known_behind c MayBe known x part =
      acknowledged_with known part.read.events (acknowledged x.moment part.came) (was_opened_by x.moment part.went.kept)

  -- So it is of each in turn.
  abbrev pub NothingIsLost : Catalog → (History → Type 0) → List Event → Call S K R B G → List (Call S K R B G) → Type 0
  NothingIsLost c MayBe known x [] = IsPartOfWhole c MayBe known x
  NothingIsLost c MayBe known x (y ∷ later) =
      (part : IsPartOfWhole c MayBe known x)
      × NothingIsLost c (MayBeNext c MayBe known x part) (known_behind c MayBe known x part) y later

  -- The law of a chain of calls in one folder, whose files were created and sound at first.
  abbrev pub ChainsLoseNothing : Type 0
  ChainsLoseNothing =
      (c : Catalog) (h : History) (x : Call S K R B G) (later : List (Call S K R B G)) → IsChain x later
      → IsAtEntry c h (world_of x.before).files.disk → NothingIsLost c (IsSameHistory h) h.events x later
