-- Each state that a process can come to stands at a step, with its bound below what it owes first.
use Rattle.std.proofs.lemmas.Bool.{cases_Bool}
use Rattle.std.proofs.Common.{◌≡◌, ⊎_elim, subst, ℕ, ◌+◌, ◌<◌, ◌≤◌, max, Bool, true, false, List, [], ◌∷◌, ◌++◌, length, Option, Some, None, is_none, refl, sym, ap, ◌∙◌, arith, append_assoc, append-nil, if◌then◌else◌}
use Rattle.std.specs.Option.{IfSome}
use Rattle.process_tree.specs.declared.entry.Entry.{Entry}
use Rattle.process_tree.specs.Shape.{Shape, branch_to, can_be_refused, first_of, fixed_len, goes_on_to, kind_of, last_of}
use Rattle.process_tree.specs.Laws.{IsTreeShape}
use Rattle.process_tree.specs.Recovery.{forward}
use Rattle.process_tree.proofs.InTurn.{goes_within}
use Rattle.process_tree.proofs.Classes.{owed_not_refused}
use Rattle.process_tree.proofs.Onward.{branch_from}
use Rattle.process_tree.proofs.TreeLaws.{paths_lie_in_order}
use Rattle.schedule_model.specs.Course.{Course}
use Rattle.schedule_model.proofs.Undoing.{owed_without}
use Rattle.machine_model.specs.declared.kept.Work.{Work}
use Rattle.machine_model.specs.declared.kept.Work.TheVariants.{Forward, Undo, End}
use Rattle.machine_model.specs.Progress.{Progress, is_only_try, next_task, way_on}
use Rattle.machine_model.specs.ProcessState.{ProcessState, begun, complete_unless_on, completing, effected, last_undone, opening_state, past, step_done, was_refused, work_done}
use Rattle.instance_state.specs.declared.standing.Standing.{Standing}
use Rattle.instance_state.specs.OwnActs.{are_in_own_order}
use Rattle.instance_state.specs.Reached.{IsGoodCourse, IsReached, opened, took_effect, had_refusal, completing as completes}
use Rattle.instance_state.specs.Rows.{done_to, way_from}
use Rattle.instance_state.specs.Standings.{Keeps, progress_of, state_of, with_progress}
use Rattle.instance_state.proofs.Forward.{next_goes, next_step, on_way, undo_is_free}
use Rattle.instance_state.proofs.OwedAbove.{IsBelowOwed, below_done, owed_above}
use Rattle.instance_state.proofs.Replays.{HasReplayed, after_step, after_undo, step_follows, undo_follows}
use Rattle.instance_state.proofs.RowFacts.{behind_within, branch_behind}
use Rattle.instance_state.proofs.States.{last_is_free, same_state, without_last}

-- this state stands at a step
pub record IsPlaced (t : Shape) (s : ProcessState) : Type 0 where
  pub at : Standing
  pub keeps : Keeps t at
  pub state : state_of t at ≡ s
  pub below : IsBelowOwed t (done_to t at.last) at.onward

-- where a process stands with this last step
abbrev standing_at : Shape → Option ℕ → ℕ → Bool → ℕ → Standing
standing_at t last bound begun refused = record { last = last; onward = bound; way = way_from t (done_to t last) bound; begun = begun; refused = refused }

keeps_at : (t : Shape) → IsTreeShape t → (last : Option ℕ) (bound : ℕ) (b : Bool) (n : ℕ) → IfSome last (λ b. b < length t.kinds) → Keeps t (standing_at t last bound b n)
keeps_at t tree last bound b n within = record { tree = tree; last_is = within; way_is = λ _. refl }

-- A step is done.

done_state : (t : Shape) (s : Standing) → IsTreeShape t → (d : ℕ) → goes_on_to t (done_to t s.last) d ≡ true
    → state_of t (standing_at t (Some d) (max s.onward (d + 1)) s.begun 0) ≡ with_progress (step_done (progress_of t s) d)
done_state t s tree d on =
    let laid = paths_lie_in_order t tree in
    same_state t _ _ _ _ s.begun s.begun 0 0 (ap (λ v. v ++ d ∷ []) (branch_from t (done_to t s.last) d laid.in_order laid.rising on)) refl refl refl

done_below : (c : Course) → IsGoodCourse c → (s : Standing) (d : ℕ) → goes_on_to c.shape (done_to c.shape s.last) d ≡ true → s.onward ≤ d
    → IsBelowOwed c.shape (done_to c.shape s.last) s.onward → IsBelowOwed c.shape (done_to c.shape (Some d)) (max s.onward (d + 1))
done_below c good s d on le below =
    let t = c.shape in
    let laid = paths_lie_in_order t good.tree in
    subst (λ v. IsBelowOwed t (v ++ d ∷ []) (max s.onward (d + 1))) (sym (branch_from t (done_to t s.last) d laid.in_order laid.rising on))
    (below_done t good.tree good.well_formed (done_to t s.last) d s.onward on le below)

done_keeps : (t : Shape) → IsTreeShape t → (s : Standing) (d : ℕ) → goes_on_to t (done_to t s.last) d ≡ true → Keeps t (standing_at t (Some d) (max s.onward (d + 1)) s.begun 0)
done_keeps t tree s d on = keeps_at t tree (Some d) (max s.onward (d + 1)) s.begun 0 (goes_within t (length t.kinds) (done_to t s.last) d (paths_lie_in_order t tree).within on)

-- The last step is undone.

undone_at : (t : Shape) (s : Standing) → Keeps t s → (b : ℕ) → s.last ≡ Some b → fixed_len t (done_to t s.last) < length (done_to t s.last)
    → (state_of t (standing_at t (last_of (branch_to t b)) s.onward s.begun 0) ≡ with_progress (last_undone (progress_of t s)))
    × Keeps t (standing_at t (last_of (branch_to t b)) s.onward s.begun 0)
    × (IsBelowOwed t (done_to t s.last) s.onward → IsBelowOwed t (done_to t (last_of (branch_to t b))) s.onward)
undone_at t s keeps b is free =
    let lt = subst (λ o. IfSome o (λ b. b < length t.kinds)) is keeps.last_is in
    let stays = last_is_free t (branch_to t b) b (subst (λ o. fixed_len t (done_to t o) < length (done_to t o)) is free) in (
      same_state t _ _ s.onward s.onward s.begun s.begun 0 0 (without_last t keeps.tree s.last b is lt) refl refl refl,
      keeps_at t keeps.tree (last_of (branch_to t b)) s.onward s.begun 0 (behind_within t keeps.tree b lt),
      λ below e owed.
          below e (ap (λ o. first_of (forward t (done_to t o))) is ∙ ap first_of (owed_without t (branch_to t b) b stays) ∙ ap (λ w. first_of (forward t w)) (branch_behind t keeps.tree b lt) ∙ owed),
    )

-- what isn't empty has a last
some_last : (t : Shape) (last : Option ℕ) → 0 < length (done_to t last) → (b : ℕ) × (last ≡ Some b)
some_last t None lt = absurd (omega arith)
some_last t (Some b) lt = (b, refl)

-- After acts in own order.

one_act : (c : Course) → IsGoodCourse c → (before rest : List Entry) (s : Standing) (e : Entry) → HasReplayed c before (e ∷ rest) s → IsBelowOwed c.shape (done_to c.shape s.last) s.onward
    → ((next : Standing) → HasReplayed c (before ++ e ∷ []) rest next → IsBelowOwed c.shape (done_to c.shape next.last) next.onward → IsPlaced c.shape (opening_state c ((before ++ e ∷ []) ++ rest)))
    → IsPlaced c.shape (opening_state c ((before ++ e ∷ []) ++ rest))
one_act c good before rest s e has below others = by_kind e.undo refl
  where
    by_kind : (u : Bool) → e.undo ≡ u → IsPlaced c.shape (opening_state c ((before ++ e ∷ []) ++ rest))
    by_kind false is =
        let follows = step_follows c before rest s e has is in
        others (standing_at c.shape (Some e.step) (max s.onward (e.step + 1)) s.begun 0)
        (after_step c before rest s _ e has is (done_keeps c.shape good.tree s e.step follows.0) (done_state c.shape s good.tree e.step follows.0))
        (done_below c good s e.step follows.0 follows.1 below)
    by_kind true is =
        let back = undo_follows c before rest s e has is in
        let free = back.free in
        let some = some_last c.shape s.last (omega arith) in
        let undone = undone_at c.shape s has.keeps some.0 some.1 back.free in
        others (standing_at c.shape (last_of (branch_to c.shape some.0)) s.onward s.begun 0)
        (after_undo c before rest s _ e has is undone.1 undone.0)
        (undone.2 below)

pub replays : (c : Course) → IsGoodCourse c → (before rest : List Entry) (s : Standing) → HasReplayed c before rest s → IsBelowOwed c.shape (done_to c.shape s.last) s.onward
    → IsPlaced c.shape (opening_state c (before ++ rest))
replays c good before [] s has below = record { at = s; keeps = has.keeps; state = has.state ∙ ap (opening_state c) (sym (append-nil before)); below = below }
replays c good before (e ∷ rest) s has below =
    subst (λ l. IsPlaced c.shape (opening_state c l)) (append_assoc before (e ∷ []) rest)
    (one_act c good before rest s e has below (λ next has below. replays c good (before ++ e ∷ []) rest next has below))

opening_placed : (c : Course) → IsGoodCourse c → (acts : List Entry) → are_in_own_order c.shape acts ≡ true → IsPlaced c.shape (opening_state c acts)
opening_placed c good acts order =
    replays c good [] acts (standing_at c.shape None 0 false 0)
    (record { keeps = keeps_at c.shape good.tree None 0 false 0 tt; state = refl; order = order })
    (λ e is. omega arith)

-- A piece takes effect.

effect_placed : (c : Course) → IsGoodCourse c → (s : Standing) → Keeps c.shape s → IsBelowOwed c.shape (done_to c.shape s.last) s.onward → IsPlaced c.shape (effected (state_of c.shape s))
effect_placed c good s keeps below = by_work (next_task p).work refl
  where
    t : Shape
    t = c.shape

    p : Progress
    p = progress_of t s

    d : ℕ
    d = (next_task p).step

    by_work : (w : Work) → (next_task p).work ≡ w → IsPlaced c.shape (effected (state_of c.shape s))
    by_work Forward is =
        let next = next_step p is in
        let on = next_goes t s keeps d next in
        let le : s.onward ≤ d =
        ⊎_elim
        (λ begun. below d (sym (ap (λ b. if b then first_of (forward t p.net) else way_on p) begun) ∙ next.is))
        (λ not_begun. (on_way p keeps.tree d next not_begun).later)
        (cases_Bool s.begun) in
        record {
          at = standing_at t (Some d) (max s.onward (d + 1)) s.begun 0;
          keeps = done_keeps t good.tree s d on;
          state = done_state t s good.tree d on ∙ sym (ap (λ w. with_progress (work_done p d w)) is);
          below = done_below c good s d on le below;
        }
    by_work Undo is =
        let free = undo_is_free p keeps.tree is in
        let some = some_last t s.last (omega arith) in
        let undone = undone_at t s keeps some.0 some.1 free in
        record {
          at = standing_at t (last_of (branch_to t some.0)) s.onward s.begun 0;
          keeps = undone.1;
          state = undone.0 ∙ sym (ap (λ w. with_progress (work_done p d w)) is);
          below = undone.2 below;
        }
    by_work End is = record {
      at = standing_at t s.last s.onward s.begun 0;
      keeps = keeps_at t good.tree s.last s.onward s.begun 0 keeps.last_is;
      state = sym (ap (λ w. with_progress (work_done p d w)) is);
      below = below;
    }

-- A piece is refused.

refusal_placed : (c : Course) → IsGoodCourse c → (s : Standing) → Keeps c.shape s → IsBelowOwed c.shape (done_to c.shape s.last) s.onward → IsPlaced c.shape (was_refused (state_of c.shape s))
refusal_placed c good s keeps below = by_try (is_only_try t d (next_task p).work) refl
  where
    t : Shape
    t = c.shape

    p : Progress
    p = progress_of t s

    d : ℕ
    d = (next_task p).step

    q : Progress
    q = past p d

    choice : Bool → ProcessState
    choice b = if b then record { progress = complete_unless_on q; refused = 0 } else record { progress = p; refused = s.refused + 1 }

    completed : (b : Bool) → is_none (way_on q) ≡ b → (last_bound : IsBelowOwed t (done_to t s.last) q.onward) → IsPlaced t (with_progress (complete_unless_on q))
    completed true is low = record {
      at = standing_at t s.last q.onward true 0;
      keeps = keeps_at t good.tree s.last q.onward true 0 keeps.last_is;
      state = sym (ap (λ b. with_progress (if b then completing q else q)) is);
      below = low;
    }
    completed false is low = record {
      at = standing_at t s.last q.onward s.begun 0;
      keeps = keeps_at t good.tree s.last q.onward s.begun 0 keeps.last_is;
      state = sym (ap (λ b. with_progress (if b then completing q else q)) is);
      below = low;
    }

    only : (w : Work) → is_only_try t d w ≡ true → (w ≡ Forward) × (can_be_refused (kind_of t d) ≡ true)
    only Forward is = (refl, is)
    only Undo is = absurd (cc)
    only End is = absurd (cc)

    by_try : (b : Bool) → is_only_try t d (next_task p).work ≡ b → IsPlaced t (was_refused (state_of t s))
    by_try true is =
        let one = only (next_task p).work is in
        let on = next_goes t s keeps d (next_step p one.0) in
        subst (IsPlaced t) (sym (ap (λ b. if b then record { progress = complete_unless_on q; refused = 0 } else record { progress = p; refused = s.refused + 1 }) is))
        (completed (is_none (way_on q)) refl (λ e owed.
        let up = owed_above t good.tree good.well_formed p.net d e on (λ r. let f = sym one.1 ∙ owed_not_refused t (paths_lie_in_order t good.tree) good.well_formed p.net d r in absurd (cc)) owed in
        let low = below e owed in
        omega (arith, up, low)))
    by_try false is =
        subst (IsPlaced t) (sym (ap (λ b. if b then record { progress = complete_unless_on q; refused = 0 } else record { progress = p; refused = s.refused + 1 }) is))
        (record {
          at = standing_at t s.last s.onward s.begun (s.refused + 1);
          keeps = keeps_at t good.tree s.last s.onward s.begun (s.refused + 1) keeps.last_is;
          state = refl;
          below = below;
        })

begun_placed : (c : Course) → IsGoodCourse c → (s : Standing) → Keeps c.shape s → IsBelowOwed c.shape (done_to c.shape s.last) s.onward → IsPlaced c.shape (begun (state_of c.shape s))
begun_placed c good s keeps below = record {
  at = standing_at c.shape s.last s.onward true (begun (state_of c.shape s)).refused;
  keeps = keeps_at c.shape good.tree s.last s.onward true (begun (state_of c.shape s)).refused keeps.last_is;
  state = refl;
  below = below;
}

-- each state that can be reached stands at a step
pub placed : (c : Course) → IsGoodCourse c → (s : ProcessState) → IsReached c s → IsPlaced c.shape s
placed c good _ (opened acts order) = opening_placed c good acts order
placed c good _ (took_effect s r piece) = let p = placed c good s r in subst (λ q. IsPlaced c.shape (effected q)) p.state (effect_placed c good p.at p.keeps p.below)
placed c good _ (had_refusal s r piece) = let p = placed c good s r in subst (λ q. IsPlaced c.shape (was_refused q)) p.state (refusal_placed c good p.at p.keeps p.below)
placed c good _ (completes s r) = let p = placed c good s r in subst (λ q. IsPlaced c.shape (begun q)) p.state (begun_placed c good p.at p.keeps p.below)
