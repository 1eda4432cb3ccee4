-- A core once several pieces have taken effect, one after another.
use Rattle.std.proofs.Common.{◌≡◌, ◌∙◌, eqb, ℕ, Bool, false, ◌+◌, ◌||◌, length, length-append, List, [], ◌∷◌, Option, Some, None, refl, sym, ap, subst, if◌then◌else◌}
use Rattle.std.proofs.lemmas.Bool.{eqb-false, ne_eqb, or_from, or_parts}
use Rattle.std.proofs.Math.Bool.{or-false}
use Rattle.machine_model.proofs.Snoc.{is_finished-append}
use Rattle.process_tree.specs.Order.{Each}
use Rattle.process_tree.specs.declared.play.Outcome.TheVariants.{Done}
use Rattle.schedule_model.specs.Conflict.{ConflictRelation}
use Rattle.schedule_model.specs.Course.{Course}
use Rattle.schedule_model.specs.Histories.{is_in}
use Rattle.schedule_model.specs.declared.history.History.{History}
use Rattle.machine_model.specs.declared.kept.Kept.TheVariants.{Effect}
use Rattle.machine_model.specs.declared.replies.PieceState.TheVariants.{Out}
use Rattle.machine_model.specs.Advance.{advance, event_of, with_piece}
use Rattle.machine_model.specs.Calls.{finish}
use Rattle.machine_model.specs.Moment.{Moment, Piece, happened, noted}
use Rattle.machine_model.specs.Pieces.{dropped_at, dropped_or_over, is_finished, piece_of, runs, state_of}
use Rattle.machine_model.proofs.TidyMoments.{piece_of-more}
use Rattle.machine_model.proofs.TurnRuns.{effect-runs}
use Rattle.process_core.specs.Answers.{after_call}
use Rattle.process_core.proofs.CoreEffects.{effected_after, takes_effect}
use Rattle.core_state.specs.Cores.{CoreState, IsCore, IsHandedBy, courses_in, history_of, moment_of, relation}
use Rattle.core_state.proofs.HandStands.{core_kept, moment_kept, with_event as with_kept_event}
use Rattle.engine_steps.specs.Engines.{full_history}
use Rattle.engine_steps.proofs.NextHistory.{history_is}
use Rattle.engine_steps.specs.Groups.{with_events}
use Rattle.process_engine.specs.Pieces.{AreDistinct, IsOut, after_all, events_of, numbers_of}

-- an effect drops no piece,
lost_by : (courses : List Course) (m : Moment) (n k : ℕ) (o : Option Piece) → dropped_at (with_piece (λ p. happened (noted m (Effect n)) (event_of courses p)) (noted m (Effect n)) o) k ≡ dropped_at m k
lost_by courses m n k None = refl
lost_by courses m n k (Some p) = refl

effect_drops : (table : ConflictRelation) (courses : List Course) (m : Moment) (n k : ℕ) → dropped_at (advance table courses m (Effect n)) k ≡ dropped_at m k
effect_drops table courses m n k = lost_by courses m n k (piece_of (noted m (Effect n)).kept n)

-- so what became of another piece stays
state_by : (a b : Bool) (x y : Option ℕ) → a ≡ b → x ≡ y → (if a then Out else dropped_or_over x) ≡ (if b then Out else dropped_or_over y)
state_by a b x y is same = cc

pub effect_keeps : (table : ConflictRelation) (courses : List Course) (m : Moment) (n k : ℕ) → (k ≡ n → ⊥) → state_of (advance table courses m (Effect n)) k ≡ state_of m k
effect_keeps table courses m n k other =
    state_by (runs (advance table courses m (Effect n)) k) (runs m k) (dropped_at (advance table courses m (Effect n)) k) (dropped_at m k) (effect-runs table courses m n k other) (effect_drops table courses m n k)

module _ (core : CoreState) (is : IsCore core) (p : Piece) (out : IsOut core p) where
  abbrev after : CoreState
  after = after_call core (finish p.number Done)

  kept_alike : after ≡ with_kept_event core (Effect p.number)
  kept_alike = effected_after core p out.handed out.out

  -- the core is one once the piece has taken effect,
  pub next_core : IsCore after
  next_core = subst IsCore (sym kept_alike) (core_kept core is (Effect p.number) refl (takes_effect core p out.handed out.out))

  next_moment : moment_of after ≡ advance (relation core) (courses_in core) (moment_of core) (Effect p.number)
  next_moment = ap moment_of kept_alike ∙ moment_kept core is (Effect p.number) refl (takes_effect core p out.handed out.out)

  -- what became of each other piece stays,
  pub others_state : (k : ℕ) → (k ≡ p.number → ⊥) → state_of (moment_of after) k ≡ state_of (moment_of core) k
  others_state k other = ap (λ m. state_of m k) next_moment ∙ effect_keeps (relation core) (courses_in core) (moment_of core) p.number k other

  pub others_runs : (k : ℕ) → (k ≡ p.number → ⊥) → runs (moment_of after) k ≡ runs (moment_of core) k
  others_runs k other = ap (λ m. runs m k) next_moment ∙ effect-runs (relation core) (courses_in core) (moment_of core) p.number k other

  pub others_dropped : (k : ℕ) → dropped_at (moment_of after) k ≡ dropped_at (moment_of core) k
  others_dropped k = ap (λ m. dropped_at m k) next_moment ∙ effect_drops (relation core) (courses_in core) (moment_of core) p.number k

  pub others_handed : (q : Piece) → IsHandedBy core q → IsHandedBy after q
  others_handed q handed = ap (λ (x : CoreState). piece_of x.kept q.number) kept_alike ∙ piece_of-more core.kept (Effect p.number ∷ []) q.number q handed

  -- and is finished or not as before,
  pub others_finished : (k : ℕ) → (k ≡ p.number → ⊥) → is_finished after.kept k ≡ is_finished core.kept k
  others_finished k other = ap (λ (x : CoreState). is_finished x.kept k) kept_alike ∙ is_finished-append core.kept (Effect p.number ∷ []) k
      ∙ ap (λ b. is_finished core.kept k || b) (or_from _ _ (or_from _ _ (ne_eqb k p.number other) refl) refl) ∙ or-false (is_finished core.kept k)

  -- the history has one event more,
  pub events_more : length (history_of after) ≡ length (history_of core) + 1
  events_more = ap (λ (h : History). length h.events) (history_is core is p out.handed out.out) ∙ length-append (history_of core) (event_of (courses_in core) p ∷ [])

  -- so that those which are out stay so
  pub others_out : (q : Piece) → (q.number ≡ p.number → ⊥) → IsOut core q → IsOut after q
  others_out q other was = record { handed = others_handed q was.handed; out = others_state q.number other ∙ was.out }

-- pieces of other numbers
pub apart_from : (n : ℕ) (ps : List Piece) → is_in n (numbers_of ps) ≡ false → Each (λ q. q.number ≡ n → ⊥) ps
apart_from n [] none = tt
apart_from n (q ∷ ps) none =
    let parts = or_parts (eqb n q.number) (is_in n (numbers_of ps)) none in
    (λ same. eqb-false n q.number parts.0 (sym same), apart_from n ps parts.1)

pub all_out : (core : CoreState) (is : IsCore core) (p : Piece) (out : IsOut core p) (qs : List Piece) → Each (λ q. q.number ≡ p.number → ⊥) qs → Each (IsOut core) qs
    → Each (IsOut (after_call core (finish p.number Done))) qs
all_out core is p out [] others outs = tt
all_out core is p out (q ∷ qs) others outs = (others_out core is p out q others.0 outs.0, all_out core is p out qs others.1 outs.1)

-- Once the pieces of a group have taken effect the core is one, its history has their events, one after another, and what became
-- of each other piece stays.
pub record GroupTaken (core : CoreState) (ps : List Piece) : Type 0 where
  pub is_core : IsCore (after_all core ps)
  pub history : full_history (after_all core ps) ≡ with_events (full_history core) (events_of (courses_in core) ps)
  pub state : (k : ℕ) → is_in k (numbers_of ps) ≡ false → state_of (moment_of (after_all core ps)) k ≡ state_of (moment_of core) k
  pub handed : (q : Piece) → IsHandedBy core q → IsHandedBy (after_all core ps) q

pub group_taken : (core : CoreState) → IsCore core → (ps : List Piece) → Each (IsOut core) ps → AreDistinct (numbers_of ps) → GroupTaken core ps
group_taken core is [] outs distinct = record { is_core = is; history = refl; state = λ k none. refl; handed = λ q handed. handed }
group_taken core is (p ∷ ps) outs distinct =
    let next : CoreState = after_call core (finish p.number Done) in
    let rest = group_taken next (next_core core is p outs.0) ps (all_out core is p outs.0 ps (apart_from p.number ps distinct.0) outs.1) distinct.1 in
    record {
      is_core = rest.is_core;
      history = rest.history ∙ ap (λ h. with_events h (events_of (courses_in core) ps)) (history_is core is p outs.0.handed outs.0.out);
      state = λ k none. let parts = or_parts (eqb k p.number) (is_in k (numbers_of ps)) none in
          rest.state k parts.1 ∙ others_state core is p outs.0 k (eqb-false k p.number parts.0);
      handed = λ q handed. rest.handed q (others_handed core is p outs.0 q handed);
    }
