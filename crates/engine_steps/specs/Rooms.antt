-- Room for the effect of a piece in its store.
use Rattle.std.specs.Prelude.{◌≡◌}
use Rattle.machine_model.specs.Moment.{Piece}
use Rattle.subsystem_store.specs.declared.effect.Effect.{Effect}
use Rattle.history_files.specs.Effects.{subsystem_of}
use Rattle.history_files.specs.Laws.{next_effect}
use Rattle.history_files.specs.Rooms.{AddsRoom, KeepsRoom, MakesRoom}
use Rattle.history_files.specs.Standing.{Changes}
use Rattle.engine_steps.specs.Engines.{EngineState, full_history}
use Rattle.engine_steps.specs.Pieces.{act_of}

-- the effect that the act of a piece has behind the history
abbrev pub effect_of : {R B : Type 0} → EngineState R B → Piece → Effect
effect_of e p = next_effect e.catalog.ops (full_history e.core) (act_of e.core.plans p)

-- Only the store of the piece's subsystem changes, and of that only its room.
pub record MakesRoomFor {R B : Type 0} (old new : EngineState R B) (p : Piece) : Type 0 where
  pub core : new.core ≡ old.core
  pub catalog : new.catalog ≡ old.catalog
  pub phase : new.phase ≡ old.phase
  pub rack : new.files.rack ≡ old.files.rack
  pub journal : new.files.journal ≡ old.files.journal
  pub stores : Changes (subsystem_of old.catalog.ops (act_of old.core.plans p).op) MakesRoom old.files.stores new.files.stores

-- there is room for one effect more, at the key of the piece in the store of its subsystem
abbrev pub AddsRoomFor : {R B : Type 0} → EngineState R B → EngineState R B → Piece → Type 0
AddsRoomFor old new p = Changes (subsystem_of old.catalog.ops (act_of old.core.plans p).op) (AddsRoom (effect_of old p).call.key)
    old.files.stores new.files.stores

-- the room in that store stays as it is
abbrev pub KeepsRoomFor : {R B : Type 0} → EngineState R B → EngineState R B → Piece → Type 0
KeepsRoomFor old new p = Changes (subsystem_of old.catalog.ops (act_of old.core.plans p).op) KeepsRoom old.files.stores
    new.files.stores
