-- Pieces that are queued at an engine, to take effect together.
use Rattle.std.specs.Prelude.{◌≡◌, ◌≢◌, ◌≤◌, ℕ, Bool, true, false, ◌&&◌, List, [], length, map, filter, nat_eq, Option, Some, None}
use Rattle.std.specs.List.{slice_get}
use Rattle.process_tree.specs.Order.{Each}
use Rattle.process_tree.specs.declared.plan.Plan.{Plan}
use Rattle.schedule_model.specs.Histories.{active, is_in}
use Rattle.commute_table.specs.declared.op.Op.{Op}
use Rattle.subsystem_store.specs.Opened.{Opened}
use Rattle.machine_model.specs.declared.kept.Work.TheVariants.{Forward}
use Rattle.machine_model.specs.Progress.{same_work}
use Rattle.machine_model.specs.Moment.{Piece}
use Rattle.machine_model.specs.Pieces.{is_finished, runs}
use Rattle.machine_model.specs.Replies.{Handed}
use Rattle.machine_model.specs.Turns.{Board}
use Rattle.process_core.specs.Cores.{CoreState, IsHandedBy, history_of, machine_of, moment_of}
use Rattle.history_files.specs.Effects.{subsystem_of}
use Rattle.history_files.specs.Rooms.{HasRoomAt}
use Rattle.engine_steps.specs.Engines.{EngineState}
use Rattle.engine_steps.specs.Pieces.{act_of}
use Rattle.engine_steps.specs.Rooms.{effect_of}
use Rattle.engine_steps.specs.declared.engines.Phase.{Phase}
use Rattle.engine_steps.specs.declared.engines.Phase.TheVariants.{Settled, UnderWay, Closed}
use Rattle.process_engine.specs.Pieces.{AreDistinct, FitsItsBytes, IsOut, numbers_of}

-- the pieces of what was handed out
abbrev pub pieces_of : List Handed → List Piece
pieces_of group = map (λ p. p.piece) group

-- the pieces of a group that run, in order
abbrev pub running_of : CoreState → List Handed → List Piece
running_of core group = filter (λ p. runs (moment_of core) p.number) (pieces_of group)

-- how many events a closed engine had kept
abbrev pub closed_at : Phase → ℕ → Option ℕ
closed_at Settled n = None
closed_at UnderWay n = None
closed_at Closed n = Some n

-- an engine and what is queued at it, as a board of the machine
abbrev pub board_of : {R B : Type 0} → EngineState R B → List Handed → Board
board_of e group = record {
  machine = machine_of e.core;
  group = numbers_of (pieces_of group);
  closed = closed_at e.phase (length e.core.kept);
}

-- a piece was handed out by this core, and has neither taken effect nor been refused
pub record IsUnfinished (core : CoreState) (p : Piece) : Type 0 where
  pub handed : IsHandedBy core p
  pub unfinished : is_finished core.kept p.number ≡ false

-- the store of a step has room for its effect
abbrev pub HasRoomFor : {R B : Type 0} → EngineState R B → Piece → Type 0
HasRoomFor e p = p.work ≡ Forward
    → HasRoomAt (subsystem_of e.catalog.ops (act_of e.core.plans p).op) (effect_of e p).call.key e.files.stores

-- the process of a piece is active
abbrev pub IsOfActive : CoreState → Piece → Type 0
IsOfActive core p = is_in p.process (active (history_of core)) ≡ true

-- a piece is a forward step on subsystem q
abbrev pub is_step_on : List Op → List Plan → ℕ → Piece → Bool
is_step_on ops plans q p = same_work p.work Forward && nat_eq (subsystem_of ops (act_of plans p).op) q

-- each store has room for as many effects as there are steps on its subsystem
abbrev pub HasPlaces : {R B : Type 0} → EngineState R B → List Piece → Type 0
HasPlaces {R} {B} e ps = (q : ℕ) (s : Opened B) → slice_get e.files.stores q ≡ Some s
    → length (filter (is_step_on e.catalog.ops e.core.plans q) ps) ≤ length s.ready

-- What may be queued at an engine: pieces of it that aren't finished, each once, of processes that are active, and the stores have
-- room for each step.
pub record AreQueued {R B : Type 0} (e : EngineState R B) (group : List Handed) : Type 0 where
  pub unfinished : Each (IsUnfinished e.core) (pieces_of group)
  pub distinct : AreDistinct (numbers_of (pieces_of group))
  pub active : Each (IsOfActive e.core) (pieces_of group)
  pub room : Each (HasRoomFor e) (pieces_of group)
  pub places : HasPlaces e (pieces_of group)

-- whatever is queued at an engine may be queued at it later too
abbrev pub KeepsQueued : {R B : Type 0} → EngineState R B → EngineState R B → Type 0
KeepsQueued old new = (queued : List Handed) → AreQueued old queued → AreQueued new queued

-- Pieces that may take effect together: this core handed each out and it is out, each once, the numbers of each fit their bytes, and
-- the stores have room for each step.
pub record IsGroup {R B : Type 0} (e : EngineState R B) (ps : List Piece) : Type 0 where
  pub out : Each (IsOut e.core) ps
  pub distinct : AreDistinct (numbers_of ps)
  pub fits : Each FitsItsBytes ps
  pub room : Each (HasRoomFor e) ps
  pub places : HasPlaces e ps
  pub some : ps ≢ []
