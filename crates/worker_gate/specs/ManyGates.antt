-- What the answers of several gates have to do with what an engine keeps, and machines that several threads ran.
use Rattle.std.specs.Prelude.{◌≡◌, ◌⊎◌, ◌≤◌, ◌<◌, ℕ, ◌+◌, ◌-◌, ◌^◌, List, [], ◌∷◌, ◌++◌, map, Option}
use Rattle.process_disk.specs.declared.rack.Rack.{Ghosts as Racks}
use Rattle.process_tree.specs.Order.{Each}
use Rattle.process_tree.specs.declared.play.Outcome.{Outcome}
use Rattle.commute_table.specs.declared.catalog.Catalog.{Catalog}
use Rattle.machine_model.specs.Calls.{finish, next}
use Rattle.machine_model.specs.Replies.{Handed}
use Rattle.process_core.specs.Answers.{after_call}
use Rattle.process_core.specs.Cores.{CoreState, IsCore}
use Rattle.process_core.specs.Handing.{with_served}
use Rattle.process_engine.specs.declared.gates.Answer.{Answer}
use Rattle.process_engine.specs.declared.gates.Gate.{Ghosts as Gates}
use Rattle.engine_steps.specs.Engines.{EngineState}
use Rattle.engine_calls.specs.GateAnswers.{AreAnswered, GateCounts, count_after, counts_of, kept_since, steps_handed}
use Rattle.engine_calls.specs.GateAnswers.{unbarred_refusals}
use Rattle.engine_calls.specs.Runs.{GoesOnAlone}
use Rattle.worker_gate.specs.Running.{IsOfRunning}

-- The gates of a call, in their order: what gates of their type tell of their answers, and their counts before and after.
pub record AskedGates : Type 0 where
  pub answers : Handed → Option Answer
  pub before : List GateCounts
  pub after : List GateCounts

abbrev pub asked_gates : {G : Type 0} → Gates G → List G → List G → AskedGates
asked_gates g before after = record { answers = g.answers; before = map (counts_of g) before; after = map (counts_of g) after }

-- the count of refusals isn't at its last value
abbrev pub IsLow : GateCounts → Type 0
IsLow count = count.refusals < 2 ^ 64 - 1

-- all refusals
abbrev pub all_refusals : List GateCounts → ℕ
all_refusals [] = 0
all_refusals (count ∷ counts) = count.refusals + all_refusals counts

-- these gates, one by one, were asked so often in all since they had the first counts, and no count of refusals fell
abbrev pub AreAskedInAll : ℕ → List GateCounts → List GateCounts → Type 0
AreAskedInAll n [] [] = n ≡ 0
AreAskedInAll n (b ∷ before) (a ∷ after) =
    (own rest : ℕ) × (n ≡ own + rest) × (a.asked ≡ count_after b.asked own) × (b.refusals ≤ a.refusals)
    × AreAskedInAll rest before after
AreAskedInAll n before after = ⊥

-- What was kept since is by these gates: each end of a piece is as gates of their type tell it; while no count of refusals is at
-- its last value, all together rose at least as often as a piece was refused that is not barred; and for each step and each undo
-- that was handed out one of them was asked once, and for nothing else.
pub record IsByGates (gates : AskedGates) (catalog : Catalog) (old new : CoreState) : Type 0 where
  pub answered : AreAnswered gates.answers catalog (with_served old 0) (kept_since old new)
  pub counted : Each IsLow gates.after
      → all_refusals gates.before + unbarred_refusals catalog (with_served old 0) (kept_since old new) ≤ all_refusals gates.after
  pub asked : AreAskedInAll (steps_handed (kept_since old new)) gates.before gates.after

-- one call of a thread that runs processes: a request for any piece, or the end of a piece by one of its outcomes
abbrev pub IsCall : CoreState → CoreState → Type 0
IsCall old new = (new ≡ after_call old next) ⊎ ((n : ℕ) × (outcome : Outcome) × (new ≡ after_call old (finish n outcome)))

-- calls one after another, whichever thread made them, each of which led to one of these cores
abbrev pub AreCalls : List CoreState → CoreState → CoreState → Type 0
AreCalls [] old new = new ≡ old
AreCalls (core ∷ cores) old new = IsCall old core × AreCalls cores core new

-- An engine was only run from one state to another, by these gates, each of which works for a thread.
pub record RanByGates {R B : Type 0} (racks : Racks R) (gates : AskedGates)
    (old new : EngineState R B) : Type 0 where
  pub goes : GoesOnAlone racks old new
  -- none started
  pub plans : new.core.plans ≡ old.core.plans
  pub running : Each IsOfRunning (kept_since old.core new.core)
  pub by_gates : IsByGates gates old.catalog old.core new.core
  -- what was kept is that of these calls
  pub cores : List CoreState
  pub calls : AreCalls cores old.core new.core

-- A machine was this one, and since then processes were only run, by these gates: none started, and none was asked to complete.
pub record WasRunByGates (gates : AskedGates) (c : Catalog) (begun now : CoreState) : Type 0 where
  pub machine : IsCore now
  pub table : now.conflicts ≡ c.conflicts
  pub opening : now.opening ≡ begun.opening
  pub plans : now.plans ≡ begun.plans
  pub kept : now.kept ≡ begun.kept ++ kept_since begun now
  pub running : Each IsOfRunning (kept_since begun now)
  pub by_gates : IsByGates gates c begun now
  pub cores : List CoreState
  pub calls : AreCalls cores begun now
