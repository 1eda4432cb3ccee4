-- What a seat at a shared engine knows, and what a turn adds to it.
use Rattle.std.specs.Prelude.{◌≡◌, ◌+◌, List, [], ◌∷◌, ◌++◌, length, Some}
use Rattle.process_disk.specs.Disk.{Disk}
use Rattle.resource_box.specs.declared.resource.Resource.{Ghosts as Resources}
use Rattle.process_core.specs.Cores.{CoreState}
use Rattle.engine_steps.specs.Engines.{EngineState}
use Rattle.history_lock.specs.declared.desk.Seat.{Seat}
use Rattle.history_lock.specs.declared.held.Held.{Ghosts as Helds}
use Rattle.history_lock.specs.declared.view.View.{View}
use Rattle.shared_engine.specs.declared.entries.TurnEntry.{TurnEntry}
use Rattle.shared_engine.specs.declared.shared.SharedEngine.{SharedEngine}
use Rattle.shared_engine.specs.Progress.{after_all, opened}
use Rattle.shared_engine.specs.Shared.{IsOpening}

-- the core that these entries make of that of an engine
abbrev pub core_at : {R B : Type 0} → EngineState R B → List TurnEntry → CoreState
core_at o es = (after_all (opened o) es).core

-- all that a seat knows
abbrev pub knowledge : {S X : Type 0} {h : Helds S X} → Seat S X h → View S X
knowledge s = s.place.me.0

module _ {R B : Type 0} where
  -- what the seat knows of the opening: it was settled and sound, and nothing was queued
  pub record HasOpened (disk : R → Disk) (box : Resources B)
      (v : View (SharedEngine R B) TurnEntry) : Type 0 where
    pub opening : SharedEngine R B
    pub known : v.opening ≡ Some opening
    pub sound : IsOpening disk box opening

  -- a turn was made with this entry, behind what others did meanwhile
  pub record HasAdded (e : TurnEntry) (before after : View (SharedEngine R B) TurnEntry) : Type 0 where
    pub opening : after.opening ≡ before.opening
    pub share : after.share ≡ before.share
    pub meanwhile : List TurnEntry
    pub seen : after.seen ≡ (before.seen ++ meanwhile) ++ e ∷ []
    pub places : after.places ≡ before.places ++ (length (before.seen ++ meanwhile) + 1, e) ∷ []
