-- A piece by itself is a group of one.
use Rattle.std.proofs.Common.{◌≡◌, ◌∷◌, ◌≤◌, eqb, [], ℕ, Bool, true, false, cond, List, length, Some, refl, sym, subst, arith}
use Rattle.std.specs.Prelude.{Result, Ok, Err, OnErr, is_err}
use Rattle.std.specs.List.{slice_get}
use Rattle.std.proofs.lemmas.Bool.{and_parts, eqb-true, false≢true}
use Rattle.machine_model.specs.declared.kept.Work.{Work}
use Rattle.machine_model.specs.declared.kept.Work.TheVariants.{Forward, Undo, End}
use Rattle.machine_model.specs.Moment.{Piece}
use Rattle.machine_model.specs.Progress.{same_work}
use Rattle.history_files.specs.Effects.{subsystem_of}
use Rattle.history_files.specs.Laws.{next_effect}
use Rattle.history_files.specs.Rooms.{HasRoomAt}
use Rattle.engine_steps.specs.Engines.{EngineState, full_history}
use Rattle.engine_steps.specs.Pieces.{act_of}
use Rattle.engine_steps.specs.Rooms.{MakesRoomFor, effect_of}
use Rattle.process_engine.specs.Pieces.{FitsItsBytes, IsOut}
use Rattle.process_engine.specs.Queues.{HasPlaces, HasRoomFor, IsGroup, is_step_on}

forward_by : (w : Work) → same_work w Forward ≡ true → w ≡ Forward
forward_by Forward is = refl
forward_by Undo is = absurd (false≢true is)
forward_by End is = absurd (false≢true is)

-- where a step has room, there is a place for it
one_place : {R B : Type 0} (e : EngineState R B) (p : Piece) → HasRoomFor e p → HasPlaces e (p ∷ [])
one_place e p room q s at = by (is_step_on e.catalog.ops e.core.plans q p) refl
  where
    by : (b : Bool) → is_step_on e.catalog.ops e.core.plans q p ≡ b → length (cond {A = List Piece} b (p ∷ []) []) ≤ length s.ready
    by true is =
        let parts = and_parts (same_work p.work Forward) (eqb (subsystem_of e.catalog.ops (act_of e.core.plans p).op) q) is in
        let on = eqb-true (subsystem_of e.catalog.ops (act_of e.core.plans p).op) q parts.1 in
        let has = room (forward_by p.work parts.0) s (subst (λ k. slice_get e.files.stores k ≡ Some s) (sym on) at) in
        let within = has.1 in
        omega (arith, within)
    by false is = omega arith

pub one_group : {R B : Type 0} (e : EngineState R B) (p : Piece) → IsOut e.core p → FitsItsBytes p → HasRoomFor e p → IsGroup e (p ∷ [])
one_group e p out fits room = record {
  out = (out, tt);
  distinct = (refl, tt);
  fits = (fits, tt);
  room = (room, tt);
  places = one_place e p room;
  some = λ is. cc;
}

-- room that was made in its store for a piece is there
pub room_made : {R B : Type 0} (old new : EngineState R B) (p : Piece) → MakesRoomFor old new p
    → HasRoomAt (subsystem_of old.catalog.ops (act_of old.core.plans p).op) (effect_of old p).call.key new.files.stores → HasRoomFor new p
room_made old new p room has forward =
    subst (λ k. HasRoomAt (subsystem_of new.catalog.ops (act_of k.plans p).op) (next_effect new.catalog.ops (full_history k) (act_of k.plans p)).call.key new.files.stores) (sym room.core)
    (subst (λ c. HasRoomAt (subsystem_of c.ops (act_of old.core.plans p).op) (next_effect c.ops (full_history old.core) (act_of old.core.plans p)).call.key new.files.stores) (sym room.catalog) has)

-- what holds at an error, where one was found
pub at_err : {T E : Type 0} {P : Type 0} (r : Result T E) → is_err r ≡ true → OnErr r P → P
at_err (Ok x) is err = cc
at_err (Err e) is err = err
