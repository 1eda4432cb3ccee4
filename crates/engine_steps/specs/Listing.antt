-- The effects of a group of events, each listed at the place of its subsystem.
use Rattle.std.specs.Prelude.{◌≡◌, ◌<◌, ◌+◌, ℕ, zero, suc, true, List, [], ◌∷◌, All}
use Rattle.process_tree.specs.declared.entry.Entry.{Entry}
use Rattle.process_tree.specs.declared.plan.Plan.{Plan}
use Rattle.schedule_model.specs.declared.event.Event.{Event}
use Rattle.schedule_model.specs.declared.history.History.{History}
use Rattle.commute_table.specs.declared.op.Op.{Op}
use Rattle.subsystem_store.specs.declared.effect.Effect.{Effect}
use Rattle.subsystem_store.specs.Bodies.{is_amount}
use Rattle.store_group.specs.Events.{effects_for}
use Rattle.history_files.specs.Effects.{effects_from}
use Rattle.history_files.specs.NextGroups.{next_effects}

-- how many subsystems there are
abbrev pub subsystems : ℕ
subsystems = 8

-- the amount of each effect is within its limit
abbrev pub AreAmounts : List (List Effect) → Type 0
AreAmounts group = (q : ℕ) → All (λ (e : Effect). is_amount e.call.amount ≡ true) (effects_for group q)

-- no effect is listed at any place
abbrev pub AreNone : List (List Effect) → Type 0
AreNone group = (q : ℕ) → effects_for group q ≡ []

-- at the place of each subsystem the effects of these acts on it are listed, in order; n acts stand before them
abbrev pub ListsEach : List Op → List Plan → ℕ → List Entry → List (List Effect) → Type 0
ListsEach ops plans n es group = (q : ℕ) → q < subsystems → effects_for group q ≡ effects_from ops plans q n es

-- what a function lists at k places from q on
abbrev pub listed_from : (ℕ → List Effect) → ℕ → ℕ → List (List Effect)
listed_from on q zero = []
listed_from on q (suc k) = on q ∷ listed_from on (q + 1) k

-- the effects that these events have behind a history, at the place of each subsystem
unfoldable pub next_group : List Op → History → List Event → List (List Effect)
next_group ops h events = listed_from (λ q. next_effects ops h q events) 0 subsystems
