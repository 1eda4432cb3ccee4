-- What is proved of the effects of several events with which a history goes on.
use Rattle.std.specs.Prelude.{◌≡◌, ◌≤◌, ℕ, ◌+◌, ⊤, true, false, List, [], ◌∷◌, ◌++◌, length, All}
use Rattle.process_tree.specs.Order.{Each}
use Rattle.schedule_model.specs.declared.event.Event.{Event}
use Rattle.schedule_model.specs.declared.event.Event.TheVariants.{Start, Act, End}
use Rattle.schedule_model.specs.declared.history.History.{History}
use Rattle.schedule_model.specs.Histories.{acts}
use Rattle.commute_table.specs.declared.catalog.Catalog.{Catalog}
use Rattle.commute_table.specs.declared.op.Op.{Op}
use Rattle.resource_box.specs.declared.call.Kind.{Kind}
use Rattle.subsystem_store.specs.declared.effect.Effect.{Effect}
use Rattle.subsystem_store.specs.Bodies.{is_amount}
use Rattle.subsystem_store.specs.Order.{MayFollowEach, most_effects}
use Rattle.process_journal.specs.Bodies.{with_event}
use Rattle.process_journal.specs.Journals.{IsHistoryUnder}
use Rattle.history_files.specs.Effects.{effects, effects_from}
use Rattle.history_files.specs.Sound.{is_among, kind_of}

-- the history with these events, one after another
abbrev pub with_events : History → List Event → History
with_events h [] = h
with_events h (e ∷ es) = with_events (with_event h e) es

-- a journal of this catalog may have the history with each of these events, one after another
abbrev pub GoesOnBy : Catalog → History → List Event → Type 0
GoesOnBy c h [] = ⊤
GoesOnBy c h (e ∷ es) = IsHistoryUnder c (with_event h e) × GoesOnBy c (with_event h e) es

-- an act or an end
abbrev pub IsNoStart : Event → Type 0
IsNoStart (Start i) = ⊥
IsNoStart (Act e) = ⊤
IsNoStart (End i) = ⊤

-- the effects that these events have on subsystem q behind a history, in order
abbrev pub next_effects : List Op → History → ℕ → List Event → List Effect
next_effects ops h q events = effects_from ops h.plans q (length (acts h.events)) (acts events)

-- What a store with these effects is asked of the next ones, and what it comes to with them.
pub record ArePreparable (kind : Kind) (before next after : List Effect) : Type 0 where
  pub adds : after ≡ before ++ next
  pub few : length before + length next ≤ most_effects
  pub follow : MayFollowEach kind before next
  pub amounts : All (λ (e : Effect). is_amount e.call.amount ≡ true) next
  pub lacks : All (λ (e : Effect). is_among e before ≡ false) next

-- So it is with the effects of acts and ends with which a history that a journal may have goes on, each time to one that it may have.
abbrev pub GroupsMayBePrepared : Type 0
GroupsMayBePrepared = (c : Catalog) (h : History) (events : List Event) (q : ℕ) → IsHistoryUnder c h → Each IsNoStart events → GoesOnBy c h events
    → ArePreparable (kind_of q) (effects c.ops h q) (next_effects c.ops h q events) (effects c.ops (with_events h events) q)
