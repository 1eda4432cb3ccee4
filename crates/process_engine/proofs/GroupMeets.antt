-- The effects of the pieces of a group that run may be prepared together, and their events recorded.
use Rattle.std.proofs.Common.{◌≡◌, ◌≢◌, ◌⊎◌, inl, inr, ◌∙◌, ◌≤◌, ◌<◌, ◌+◌, ◌*◌, ℕ, Bool, true, false, cond, ◌&&◌, if◌then◌else◌, List, [], ◌∷◌, ◌++◌, length, map, filter, Some, refl, sym, ap, subst, arith}
use Rattle.std.specs.Prelude.{nat_eq}
use Rattle.std.specs.List.{All, Contains, list_all, slice_get}
use Rattle.std.proofs.lemmas.List.Elements.{All-cons, All-nil}
use Rattle.std.proofs.lemmas.List.{length-map}
use Rattle.std.proofs.lemmas.Bool.{eqb-true, ne_eqb}
use Rattle.process_tree.specs.Order.{Each}
use Rattle.process_tree.specs.declared.entry.Entry.{Entry}
use Rattle.process_tree.specs.declared.plan.Plan.{Plan}
use Rattle.process_disk.specs.Disk.{Disk}
use Rattle.schedule_model.specs.declared.event.Event.{Event}
use Rattle.schedule_model.specs.declared.event.Event.TheVariants.{Start, Act, End as Ended}
use Rattle.schedule_model.specs.declared.history.History.{History}
use Rattle.schedule_model.specs.Course.{courses_of}
use Rattle.schedule_model.specs.Histories.{acts}
use Rattle.schedule_model.specs.Limits.{most_active}
use Rattle.commute_table.specs.declared.op.Op.{Op}
use Rattle.commute_table.specs.Operations.{is_good_op}
use Rattle.machine_model.specs.declared.kept.Work.{Work}
use Rattle.machine_model.specs.declared.kept.Work.TheVariants.{Forward, Undo, End}
use Rattle.machine_model.specs.Advance.{event_by, event_of}
use Rattle.machine_model.specs.Moment.{Piece}
use Rattle.machine_model.specs.Progress.{same_work}
use Rattle.process_core.specs.Cores.{courses_in}
use Rattle.process_journal.specs.Journals.{IsHistoryUnder}
use Rattle.subsystem_store.specs.declared.effect.Effect.{Effect}
use Rattle.subsystem_store.specs.Bodies.{is_amount}
use Rattle.subsystem_store.specs.Order.{MayFollowEach, most_effects}
use Rattle.subsystem_store.specs.Room.{HasRoom, forwards}
use Rattle.subsystem_store.specs.Opened.{Opened}
use Rattle.store_group.specs.Events.{MayPrepare, MayPrepareEach, effects_for}
use Rattle.history_files.specs.Effects.{effect_of, effects, effects_from, subsystem_of}
use Rattle.history_files.specs.Groups.{AddsGroup, LacksEach}
use Rattle.history_files.specs.NextGroups.{ArePreparable, GoesOnBy, GroupsMayBePrepared, IsNoStart, next_effects, with_events}
use Rattle.history_files.specs.Sound.{is_among, kind_of}
use Rattle.history_files.specs.Standing.{AreStores}
use Rattle.engine_steps.specs.Engines.{AreAtRest, EngineState, full_history}
use Rattle.engine_steps.specs.Listing.{AreAmounts, next_group, subsystems}
use Rattle.engine_steps.specs.Pieces.{act_of}
use Rattle.engine_steps.proofs.ListedEffects.{beyond_or_below, length_next, next_at, none_beyond}
use Rattle.engine_steps.proofs.NextHistory.{act_is}
use Rattle.engine_steps.proofs.Subsystems.{subsystem_low}
use Rattle.process_engine.specs.Pieces.{events_of}
use Rattle.process_engine.specs.Queues.{HasPlaces, HasRoomFor, is_step_on}

-- no act is on a subsystem beyond those that there are
none_above : (ops : List Op) (plans : List Plan) (q : ℕ) → list_all is_good_op ops ≡ true → subsystems ≤ q → (n : ℕ) (es : List Entry) → effects_from ops plans q n es ≡ []
none_above ops plans q good high n [] = refl
none_above ops plans q good high n (e ∷ es) =
    ap (λ b. if b then effect_of ops plans n e ∷ effects_from ops plans q (n + 1) es else effects_from ops plans q (n + 1) es)
    (ne_eqb (subsystem_of ops e.op) q (λ same. let below = subsystem_low ops e.op good in absurd (omega (arith, same, below, high))))
    ∙ none_above ops plans q good high (n + 1) es

-- at each place of the next group are the next effects there
pub next_there : (ops : List Op) (h : History) (events : List Event) → list_all is_good_op ops ≡ true → (q : ℕ) → effects_for (next_group ops h events) q ≡ next_effects ops h q events
next_there ops h events good q = by (beyond_or_below subsystems q)
  where
    by : (subsystems ≤ q) ⊎ (q < subsystems) → effects_for (next_group ops h events) q ≡ next_effects ops h q events
    by (inl high) = none_beyond (next_group ops h events) q (let count = length_next ops h events in omega (arith, count, high)) ∙ sym (none_above ops h.plans q good high (length (acts h.events)) (acts events))
    by (inr low) = next_at ops h events q low

-- the event of a piece is its act, or the end of its process
act_or_end : (plans : List Plan) (p : Piece) (w : Work) → p.work ≡ w
    → (((p.work ≡ Forward) ⊎ (p.work ≡ Undo)) × (event_of (courses_of plans) p ≡ Act (act_of plans p))) ⊎ (event_of (courses_of plans) p ≡ Ended p.process)
act_or_end plans p Forward is = inl (inl is, act_is plans p (ap (λ x. same_work x End) is))
act_or_end plans p Undo is = inl (inr is, act_is plans p (ap (λ x. same_work x End) is))
act_or_end plans p End is = inr (ap (λ x. event_by (courses_of plans) p.process p.step x) is)

-- the effects of pieces on a subsystem need as much room as the pieces say
module _ (ops : List Op) (plans : List Plan) (q : ℕ) (ready : List ℕ) where
  -- an undo, or one at a key where there is room
  abbrev IsRoomy : Effect → Type 0
  IsRoomy e = (e.undo ≡ true) ⊎ Contains ready e.call.key

  -- the piece is an undo or an end, or there is room at its key
  abbrev IsRoomyPiece : Piece → Type 0
  IsRoomyPiece p = p.work ≡ Forward → subsystem_of ops (act_of plans p).op ≡ q → (n : ℕ) → Contains ready (effect_of ops plans n (act_of plans p)).call.key

  abbrev effects_then : ℕ → List Event → List Effect
  effects_then n es = effects_from ops plans q n (acts es)

  abbrev steps_on : List Piece → ℕ
  steps_on ps = length (filter (is_step_on ops plans q) ps)

  roomy_by : (p : Piece) (n : ℕ) → (p.work ≡ Forward) ⊎ (p.work ≡ Undo) → subsystem_of ops (act_of plans p).op ≡ q → IsRoomyPiece p → IsRoomy (effect_of ops plans n (act_of plans p))
  roomy_by p n (inl forward) on has = inr (has forward on n)
  roomy_by p n (inr undo) on has = inl (ap (λ w. same_work w Undo) undo)

  keys_act : (p : Piece) (es : List Event) (n : ℕ) (b : Bool) → nat_eq (subsystem_of ops (act_of plans p).op) q ≡ b → (p.work ≡ Forward) ⊎ (p.work ≡ Undo) → IsRoomyPiece p → All IsRoomy (effects_then (n + 1) es)
      → All IsRoomy (cond b (effect_of ops plans n (act_of plans p) ∷ effects_then (n + 1) es) (effects_then (n + 1) es))
  keys_act p es n true on no_end has rest = All-cons IsRoomy (effect_of ops plans n (act_of plans p)) (effects_then (n + 1) es) (roomy_by p n no_end (eqb-true (subsystem_of ops (act_of plans p).op) q on) has) rest
  keys_act p es n false off no_end has rest = rest

  keys_piece : (p : Piece) (es : List Event) (n : ℕ) → (((p.work ≡ Forward) ⊎ (p.work ≡ Undo)) × (event_of (courses_of plans) p ≡ Act (act_of plans p))) ⊎ (event_of (courses_of plans) p ≡ Ended p.process) → IsRoomyPiece p
      → ((k : ℕ) → All IsRoomy (effects_then k es)) → All IsRoomy (effects_then n (event_of (courses_of plans) p ∷ es))
  keys_piece p es n (inl act) has rest =
      subst (λ x. All IsRoomy (effects_then n (x ∷ es))) (sym act.1) (keys_act p es n (nat_eq (subsystem_of ops (act_of plans p).op) q) refl act.0 has (rest (n + 1)))
  keys_piece p es n (inr end) has rest = subst (λ x. All IsRoomy (effects_then n (x ∷ es))) (sym end) (rest n)

  pub keys_have_room : (ps : List Piece) (n : ℕ) → Each IsRoomyPiece ps → All IsRoomy (effects_then n (events_of (courses_of plans) ps))
  keys_have_room [] n each = All-nil IsRoomy
  keys_have_room (p ∷ ps) n each = keys_piece p (events_of (courses_of plans) ps) n (act_or_end plans p p.work refl) each.0 (λ k. keys_have_room ps k each.1)

  many_by : (p : Piece) (n : ℕ) (es : List Event) (ps : List Piece) (b : Bool) → (p.work ≡ Forward) ⊎ (p.work ≡ Undo) → forwards (effects_then (n + 1) es) ≤ steps_on ps
      → forwards (cond b (effect_of ops plans n (act_of plans p) ∷ effects_then (n + 1) es) (effects_then (n + 1) es)) ≤ length (cond {A = List Piece} (same_work p.work Forward && b) (p ∷ filter (is_step_on ops plans q) ps) (filter (is_step_on ops plans q) ps))
  many_by p n es ps true (inl forward) rest =
      subst (λ w. (if same_work w Undo then 0 else 1) + forwards (effects_then (n + 1) es) ≤ length (cond {A = List Piece} (same_work w Forward && true) (p ∷ filter (is_step_on ops plans q) ps) (filter (is_step_on ops plans q) ps))) (sym forward) (omega (arith, rest))
  many_by p n es ps false (inl forward) rest =
      subst (λ w. forwards (effects_then (n + 1) es) ≤ length (cond {A = List Piece} (same_work w Forward && false) (p ∷ filter (is_step_on ops plans q) ps) (filter (is_step_on ops plans q) ps))) (sym forward) rest
  many_by p n es ps true (inr undo) rest =
      subst (λ w. (if same_work w Undo then 0 else 1) + forwards (effects_then (n + 1) es) ≤ length (cond {A = List Piece} (same_work w Forward && true) (p ∷ filter (is_step_on ops plans q) ps) (filter (is_step_on ops plans q) ps))) (sym undo) (omega (arith, rest))
  many_by p n es ps false (inr undo) rest =
      subst (λ w. forwards (effects_then (n + 1) es) ≤ length (cond {A = List Piece} (same_work w Forward && false) (p ∷ filter (is_step_on ops plans q) ps) (filter (is_step_on ops plans q) ps))) (sym undo) rest

  more_by : (p : Piece) (ps : List Piece) (k : ℕ) → k ≤ steps_on ps → k ≤ steps_on (p ∷ ps)
  more_by p ps k few = by (is_step_on ops plans q p)
    where
      by : (b : Bool) → k ≤ length (cond b (p ∷ filter (is_step_on ops plans q) ps) (filter (is_step_on ops plans q) ps))
      by true = omega (arith, few)
      by false = few

  many_piece : (p : Piece) (es : List Event) (ps : List Piece) (n : ℕ) → (((p.work ≡ Forward) ⊎ (p.work ≡ Undo)) × (event_of (courses_of plans) p ≡ Act (act_of plans p))) ⊎ (event_of (courses_of plans) p ≡ Ended p.process)
      → ((k : ℕ) → forwards (effects_then k es) ≤ steps_on ps) → forwards (effects_then n (event_of (courses_of plans) p ∷ es)) ≤ steps_on (p ∷ ps)
  many_piece p es ps n (inl act) rest =
      subst (λ x. forwards (effects_then n (x ∷ es)) ≤ steps_on (p ∷ ps)) (sym act.1) (many_by p n es ps (nat_eq (subsystem_of ops (act_of plans p).op) q) act.0 (rest (n + 1)))
  many_piece p es ps n (inr end) rest = subst (λ x. forwards (effects_then n (x ∷ es)) ≤ steps_on (p ∷ ps)) (sym end) (more_by p ps (forwards (effects_then n es)) (rest n))

  pub places_are_enough : (ps : List Piece) (n : ℕ) → forwards (effects_then n (events_of (courses_of plans) ps)) ≤ steps_on ps
  places_are_enough [] n = omega arith
  places_are_enough (p ∷ ps) n = many_piece p (events_of (courses_of plans) ps) ps n (act_or_end plans p p.work refl) (places_are_enough ps)

module _ (law : GroupsMayBePrepared) {R B : Type 0} (e : EngineState R B) (disk : Disk) (rest : AreAtRest e.catalog (full_history e.core) e.files disk) (stores : AreStores e.files.stores)
    (good : list_all is_good_op e.catalog.ops ≡ true) (under : IsHistoryUnder e.catalog (full_history e.core)) (ps : List Piece)
    (none : Each IsNoStart (events_of (courses_in e.core) ps)) (goes : GoesOnBy e.catalog (full_history e.core) (events_of (courses_in e.core) ps)) where
  abbrev events : List Event
  events = events_of (courses_in e.core) ps

  abbrev h : History
  h = full_history e.core

  abbrev group : List (List Effect)
  group = next_group e.catalog.ops h events

  there : (q : ℕ) → effects_for (next_group e.catalog.ops (full_history e.core) (events_of (courses_in e.core) ps)) q ≡ next_effects e.catalog.ops (full_history e.core) q (events_of (courses_in e.core) ps)
  there = next_there e.catalog.ops h events good

  preparable : (q : ℕ) → ArePreparable (kind_of q) (effects e.catalog.ops h q) (effects_for (next_group e.catalog.ops (full_history e.core) (events_of (courses_in e.core) ps)) q) (effects e.catalog.ops (with_events h events) q)
  preparable q = subst (λ es. ArePreparable (kind_of q) (effects e.catalog.ops h q) es (effects e.catalog.ops (with_events h events) q)) (sym (there q)) (law e.catalog h events q under none goes)

  pub adds_group : AddsGroup e.catalog.ops (full_history e.core) (with_events (full_history e.core) (events_of (courses_in e.core) ps)) (next_group e.catalog.ops (full_history e.core) (events_of (courses_in e.core) ps))
  adds_group q = (preparable q).adds

  pub lacks_each : LacksEach e.catalog.ops (full_history e.core) (next_group e.catalog.ops (full_history e.core) (events_of (courses_in e.core) ps))
  lacks_each q = (preparable q).lacks

  pub amounts_fit : AreAmounts (next_group e.catalog.ops (full_history e.core) (events_of (courses_in e.core) ps))
  amounts_fit q = (preparable q).amounts

  -- each may be prepared in its store
  module _ (room : Each (HasRoomFor e) ps) (places : HasPlaces e ps) (few : length ps ≤ most_active) where
    roomy : (q : ℕ) (s : Opened B) → slice_get e.files.stores q ≡ Some s → (xs : List Piece) → Each (HasRoomFor e) xs → Each (IsRoomyPiece e.catalog.ops e.core.plans q s.ready) xs
    roomy q s at [] each = tt
    roomy q s at (p ∷ xs) each = ((λ forward on n. each.0 forward s (subst (λ k. slice_get e.files.stores k ≡ Some s) (sym on) at)), roomy q s at xs each.1)

    has_room : (q : ℕ) (s : Opened B) → slice_get e.files.stores q ≡ Some s → HasRoom s.ready (next_effects e.catalog.ops h q events)
    has_room q s at = record {
      keys = keys_have_room e.catalog.ops e.core.plans q s.ready ps (length (acts h.events)) (roomy q s at ps room);
      many = let enough = places q s at in let many = places_are_enough e.catalog.ops e.core.plans q s.ready ps (length (acts h.events)) in omega (arith, enough, many);
    }

    pub may_prepare_each : MayPrepareEach (next_group e.catalog.ops (full_history e.core) (events_of (courses_in e.core) ps)) e.files.stores
    may_prepare_each q s at some =
        let book = rest.books q s at in
        let may = preparable q in
        record {
          settled = rest.none q s at;
          few = subst (λ b. length b + length (effects_for group q) ≤ most_effects) (sym book) may.few;
          together = let fewer = few_effects in omega (arith, fewer, few);
          follow = subst (λ k. MayFollowEach k s.book (effects_for group q)) (sym (stores.kind q s at)) (subst (λ b. MayFollowEach (kind_of q) b (effects_for group q)) (sym book) may.follow);
          room = subst (HasRoom s.ready) (sym (there q)) (has_room q s at);
        }
      where
        -- there are no more effects than acts, and no more of these than events
        fewer_from : (n : ℕ) (es : List Entry) → length (effects_from e.catalog.ops e.core.plans q n es) ≤ length es
        fewer_from n [] = omega arith
        fewer_from n (x ∷ es) = by (nat_eq (subsystem_of e.catalog.ops x.op) q) (fewer_from (n + 1) es)
          where
            by : (b : Bool) → length (effects_from e.catalog.ops e.core.plans q (n + 1) es) ≤ length es
                → length (cond b (effect_of e.catalog.ops e.core.plans n x ∷ effects_from e.catalog.ops e.core.plans q (n + 1) es) (effects_from e.catalog.ops e.core.plans q (n + 1) es)) ≤ length (x ∷ es)
            by true less = omega (arith, less)
            by false less = omega (arith, less)

        fewer_acts : (es : List Event) → length (acts es) ≤ length es
        fewer_acts [] = omega arith
        fewer_acts (Start i ∷ es) = let less = fewer_acts es in omega (arith, less)
        fewer_acts (Act x ∷ es) = let less = fewer_acts es in omega (arith, less)
        fewer_acts (Ended i ∷ es) = let less = fewer_acts es in omega (arith, less)

        few_effects : length (effects_for (next_group e.catalog.ops (full_history e.core) (events_of (courses_in e.core) ps)) q) ≤ length ps
        few_effects =
            let listed = ap (λ es. length {A = Effect} es) (there q) in
            let fewer = fewer_from (length (acts h.events)) (acts events) in
            let acts_fewer = fewer_acts events in
            omega (arith, listed, fewer, acts_fewer, length-map ps (event_of (courses_in e.core)))
