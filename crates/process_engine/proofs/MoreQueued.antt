-- One piece more in a queue.
use Rattle.std.proofs.Common.{◌≡◌, ◌≢◌, ◌⊎◌, inl, inr, ◌∙◌, ◌≤◌, ◌+◌, eqb, ℕ, Bool, true, false, cond, ◌&&◌, List, [], ◌∷◌, ◌++◌, length, length-append, filter, Some, refl, sym, ap, subst, arith}
use Rattle.std.specs.List.{Contains, slice_get}
use Rattle.std.proofs.lemmas.Bool.{ne_eqb}
use Rattle.std.proofs.lemmas.List.Elements.{Contains-append_left}
use Rattle.process_tree.specs.Order.{Each}
use Rattle.process_tree.specs.declared.plan.Plan.{Plan}
use Rattle.commute_table.specs.declared.op.Op.{Op}
use Rattle.machine_model.specs.declared.kept.Work.{Work}
use Rattle.machine_model.specs.declared.kept.Work.TheVariants.{Forward, Undo, End}
use Rattle.machine_model.specs.Moment.{Piece}
use Rattle.machine_model.specs.Progress.{same_work}
use Rattle.subsystem_store.specs.Opened.{Opened}
use Rattle.history_files.specs.Effects.{subsystem_of}
use Rattle.history_files.specs.Rooms.{AddsRoom, HasRoomAt, KeepsRoom}
use Rattle.history_files.specs.Standing.{Changes}
use Rattle.history_files.proofs.Places.{place_of_set}
use Rattle.engine_steps.specs.Engines.{EngineState}
use Rattle.engine_steps.specs.Pieces.{act_of}
use Rattle.engine_steps.specs.Rooms.{AddsRoomFor, KeepsRoomFor, effect_of}
use Rattle.process_engine.specs.Queues.{HasPlaces, HasRoomFor, is_step_on}

-- one more that passes
pub count_more : (t : Piece → Bool) (ps : List Piece) (p : Piece) (n : ℕ) → length (cond {A = List Piece} (t p) (p ∷ []) []) ≡ n → length (filter t (ps ++ p ∷ [])) ≡ length (filter t ps) + n
count_more t [] p n is = omega (arith, is)
count_more t (q ∷ ps) p n is = by (t q) (count_more t ps p n is)
  where
    by : (b : Bool) → length (filter t (ps ++ p ∷ [])) ≡ length (filter t ps) + n → length (cond b (q ∷ filter t (ps ++ p ∷ [])) (filter t (ps ++ p ∷ []))) ≡ length (cond b (q ∷ filter t ps) (filter t ps)) + n
    by true rest = omega (arith, rest)
    by false rest = rest

pub none_more : (t : Piece → Bool) (ps : List Piece) (p : Piece) → t p ≡ false → length (filter t (ps ++ p ∷ [])) ≡ length (filter t ps)
none_more t ps p off = let more = count_more t ps p 0 (ap (λ b. length (cond {A = List Piece} b (p ∷ []) [])) off) in omega (arith, more)

pub one_more_at_most : (t : Piece → Bool) (ps : List Piece) (p : Piece) → length (filter t (ps ++ p ∷ [])) ≤ length (filter t ps) + 1
one_more_at_most t ps p = by (t p) refl
  where
    by : (b : Bool) → t p ≡ b → length (filter t (ps ++ p ∷ [])) ≤ length (filter t ps) + 1
    by true on = let more = count_more t ps p 1 (ap (λ b. length (cond {A = List Piece} b (p ∷ []) [])) on) in omega (arith, more)
    by false off = let same = none_more t ps p off in omega (arith, same)

-- an undo or an end is no step
no_step_by : (ops : List Op) (plans : List Plan) (q : ℕ) (p : Piece) → (p.work ≡ Undo) ⊎ (p.work ≡ End) → is_step_on ops plans q p ≡ false
no_step_by ops plans q p (inl undo) = ap (λ w. same_work w Forward && eqb (subsystem_of ops (act_of plans p).op) q) undo
no_step_by ops plans q p (inr end) = ap (λ w. same_work w Forward && eqb (subsystem_of ops (act_of plans p).op) q) end

-- it needs no place
pub places_back : {R B : Type 0} (e : EngineState R B) (ps : List Piece) (p : Piece) → (p.work ≡ Undo) ⊎ (p.work ≡ End) → HasPlaces e ps → HasPlaces e (ps ++ p ∷ [])
places_back e ps p back places q s at =
    let same = none_more (is_step_on e.catalog.ops e.core.plans q) ps p (no_step_by e.catalog.ops e.core.plans q p back) in
    let before = places q s at in
    omega (arith, same, before)

-- a step on another subsystem than q is none on q
other_step : (ops : List Op) (plans : List Plan) (q : ℕ) (p : Piece) → q ≢ subsystem_of ops (act_of plans p).op → is_step_on ops plans q p ≡ false
other_step ops plans q p other = by (same_work p.work Forward) (ne_eqb (subsystem_of ops (act_of plans p).op) q (λ same. other (sym same)))
  where
    by : (f : Bool) → eqb (subsystem_of ops (act_of plans p).op) q ≡ false → (f && eqb (subsystem_of ops (act_of plans p).op) q) ≡ false
    by true off = off
    by false off = refl

-- the engine with the stores of a later one
abbrev pub with_stores : {R B : Type 0} → EngineState R B → EngineState R B → EngineState R B
with_stores e later = record { core = e.core; catalog = e.catalog; files = later.files; phase = e.phase }

-- room is made for a piece
module _ {R B : Type 0} (e later : EngineState R B) (p : Piece) (adds : AddsRoomFor e later p) where
  abbrev q : ℕ
  q = subsystem_of e.catalog.ops (act_of e.core.plans p).op

  more_at : (k key : ℕ) → HasRoomAt k key e.files.stores → HasRoomAt k key later.files.stores
  more_at k key room s at = by (place_of_set e.files.stores q adds.after k s (subst (λ ss. slice_get ss k ≡ Some s) adds.is at))
    where
      by : ((k ≡ q) × (s ≡ adds.after)) ⊎ ((k ≢ q) × (slice_get e.files.stores k ≡ Some s)) → Contains s.ready key
      by (inl here) =
          subst (λ ready. Contains ready key) (sym (ap (λ (x : Opened B). x.ready) here.1 ∙ adds.by))
          (Contains-append_left adds.before.ready ((effect_of e p).call.key ∷ []) key (room adds.before (subst (λ n. slice_get e.files.stores n ≡ Some adds.before) (sym here.0) adds.at)))
      by (inr there) = room s there.1

  pub rooms_more : (ps : List Piece) → Each (HasRoomFor e) ps → Each (HasRoomFor (with_stores e later)) ps
  rooms_more [] each = tt
  rooms_more (x ∷ ps) each =
      (λ forward. more_at (subsystem_of e.catalog.ops (act_of e.core.plans x).op) (effect_of e x).call.key (each.0 forward), rooms_more ps each.1)

  pub places_more : (ps : List Piece) → HasPlaces e ps → HasPlaces (with_stores e later) (ps ++ p ∷ [])
  places_more ps places k s at = by (place_of_set e.files.stores q adds.after k s (subst (λ ss. slice_get ss k ≡ Some s) adds.is at))
    where
      by : ((k ≡ q) × (s ≡ adds.after)) ⊎ ((k ≢ q) × (slice_get e.files.stores k ≡ Some s)) → length (filter (is_step_on e.catalog.ops e.core.plans k) (ps ++ p ∷ [])) ≤ length s.ready
      by (inl here) =
          let ready = ap length (ap (λ (x : Opened B). x.ready) here.1 ∙ adds.by) in
          let longer = length-append adds.before.ready ((effect_of e p).call.key ∷ []) in
          let before = places k adds.before (subst (λ n. slice_get e.files.stores n ≡ Some adds.before) (sym here.0) adds.at) in
          let more = one_more_at_most (is_step_on e.catalog.ops e.core.plans k) ps p in
          omega (arith, ready, longer, before, more)
      by (inr there) =
          let before = places k s there.1 in
          let same = none_more (is_step_on e.catalog.ops e.core.plans k) ps p (other_step e.catalog.ops e.core.plans k p there.0) in
          omega (arith, before, same)

-- no room is made, and none is lost
module _ {R B : Type 0} (e later : EngineState R B) (p : Piece) (keeps : KeepsRoomFor e later p) where
  abbrev r : ℕ
  r = subsystem_of e.catalog.ops (act_of e.core.plans p).op

  -- a store there is one that was there, with the same room
  was_there : (k : ℕ) (s : Opened B) → slice_get later.files.stores k ≡ Some s → (t : Opened B) × (slice_get e.files.stores k ≡ Some t) × (s.ready ≡ t.ready)
  was_there k s at = by (place_of_set e.files.stores r keeps.after k s (subst (λ ss. slice_get ss k ≡ Some s) keeps.is at))
    where
      by : ((k ≡ r) × (s ≡ keeps.after)) ⊎ ((k ≢ r) × (slice_get e.files.stores k ≡ Some s)) → (t : Opened B) × (slice_get e.files.stores k ≡ Some t) × (s.ready ≡ t.ready)
      by (inl here) = (keeps.before, subst (λ n. slice_get e.files.stores n ≡ Some keeps.before) (sym here.0) keeps.at, ap (λ (x : Opened B). x.ready) here.1 ∙ keeps.by)
      by (inr there) = (s, there.1, refl)

  pub rooms_kept : (ps : List Piece) → Each (HasRoomFor e) ps → Each (HasRoomFor (with_stores e later)) ps
  rooms_kept [] each = tt
  rooms_kept (x ∷ ps) each = (
    λ forward s at. let was = was_there (subsystem_of e.catalog.ops (act_of e.core.plans x).op) s at in subst (λ ready. Contains ready (effect_of e x).call.key) (sym was.2) (each.0 forward was.0 was.1),
    rooms_kept ps each.1,
  )

  pub places_kept : (ps : List Piece) → HasPlaces e ps → HasPlaces (with_stores e later) ps
  places_kept ps places k s at = let was = was_there k s at in let before = places k was.0 was.1 in let same = ap length was.2 in omega (arith, before, same)
