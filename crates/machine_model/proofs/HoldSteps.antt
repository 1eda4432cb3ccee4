-- What each kept event does to the net, and to what its own process has under way, owes and has to undo.
use Rattle.std.proofs.Common.{◌≡◌, ℕ, Bool, true, false, not, cond, eqb, ◌&&◌, ◌||◌, List, [], ◌∷◌, ◌++◌, filter, find, Option, Some, None, is_none, sym, refl, ap, subst, ◌∙◌, append-nil}
use Rattle.std.proofs.Math.Bool.{or-false}
use Rattle.std.specs.Option.{option_or}
use Rattle.std.proofs.lemmas.Option.{none-some, same_Some}
use Rattle.std.proofs.lemmas.List.Folds.{find-append}
use Rattle.std.proofs.lemmas.Bool.{and_parts, or_left, or_right, both_ways, eqb-true, eq-eqb, false≢true}
use Rattle.process_tree.specs.Order.{Each}
use Rattle.schedule_model.specs.declared.event.Event.{Event}
use Rattle.schedule_model.specs.Course.{Course}
use Rattle.schedule_model.specs.Conflict.{ConflictRelation}
use Rattle.schedule_model.specs.Histories.{doing, is_active, net, undoing}
use Rattle.schedule_model.proofs.Snoc.{net-do, net-end, net-start, net-undo}
use Rattle.machine_model.specs.declared.kept.Kept.{Kept}
use Rattle.machine_model.specs.declared.kept.Kept.TheVariants.{Start, Hand, Effect, Refuse, Abort, Victim, Restart}
use Rattle.machine_model.specs.declared.kept.Work.{Work}
use Rattle.machine_model.specs.declared.kept.Work.TheVariants.{Forward, Undo, End}
use Rattle.machine_model.specs.Moment.{Moment, Piece, noted, happened, has_begun, begins_now, without}
use Rattle.machine_model.specs.Pieces.{piece_of, running_of, runs}
use Rattle.machine_model.specs.State.{block_of, is_exhausted}
use Rattle.machine_model.specs.Advance.{advance, event_by, event_of, with_piece}
use Rattle.machine_model.specs.Runs.{is_no_end, may_be_kept, now}
use Rattle.machine_model.specs.HoldLaws.{NetGoesByPieces, RunningGoesByPieces, net_by_piece, running_by_piece}
use Rattle.machine_model.specs.PieceLaws.{LeavesPieceOf, piece_ended, piece_touched}
use Rattle.machine_model.proofs.Begun.{begins_now-has}
use Rattle.machine_model.proofs.Frames.{piece_of-plain}
use Rattle.machine_model.proofs.OthersStay.{entered-stays, find-filter}
use Rattle.machine_model.proofs.RunInduction.{IsKeptByBeginnings, entered, advance-keeps}
use Rattle.machine_model.proofs.RunningNext.{flipped, hand_parts, others-out}
use Rattle.machine_model.proofs.Snoc.{advances, added, added_by_piece, now-kept}
use Rattle.machine_model.proofs.TidyMoments.{Tidy, every, run-tidy}

-- The net.
module _ (table : ConflictRelation) (courses : List Course) where
  net_by : (h : List Event) (n : ℕ) (o : Option Piece) → net (h ++ added_by_piece table courses o) ≡ net_by_piece courses (Effect n) (net h) o
  net_by h n None = ap net (append-nil h)
  net_by h n (Some p) = by_work p.work
    where
      by_work : (w : Work) → net (h ++ event_by courses p.process p.step w ∷ []) ≡ net_by_piece courses (Effect n) (net h) (Some (record { number = p.number; process = p.process; step = p.step; work = w }))
      by_work Forward = net-do h (doing courses p.process p.step) refl
      by_work Undo = net-undo h (undoing (doing courses p.process p.step)) refl
      by_work End = net-end h p.process

  net_added : (h : List Event) (ks : List Kept) (k : Kept) → net (h ++ added table courses (ks ++ k ∷ []) k) ≡ net_by_piece courses k (net h) (piece_ended ks k)
  net_added h ks (Start i) = net-start h i
  net_added h ks (Effect n) = ap (λ o. net (h ++ added_by_piece table courses o)) (piece_of-plain ks (Effect n) n refl) ∙ net_by h n (piece_of ks n)
  net_added h ks (Hand a b c d) = ap net (append-nil h)
  net_added h ks (Refuse n) = ap net (append-nil h) ∙ sym (by_piece (piece_of ks n))
    where
      by_piece : (o : Option Piece) → net_by_piece courses (Refuse n) (net h) o ≡ net h
      by_piece None = refl
      by_piece (Some p) = refl
  net_added h ks (Abort i) = ap net (append-nil h)
  net_added h ks (Victim i) = ap net (append-nil h)
  net_added h ks Restart = ap net (append-nil h)

pub net_goes_by_pieces : NetGoesByPieces
net_goes_by_pieces table s k =
    let m = now table s in
    ap net (advances table s.courses m k).events
    ∙ (net_added table s.courses m.events m.kept k
    ∙ ap (λ ks. net_by_piece s.courses k (net m.events) (piece_ended ks k)) (now-kept table s))

-- What is under way.

pub find_none : {X : Type 0} (q : X → Bool) (xs : List X) → Each (λ x. q x ≡ false) xs → find q xs ≡ None
find_none q [] each = refl
find_none q (x ∷ xs) each = ap (λ t. cond t (Some x) (find q xs)) each.0 ∙ find_none q xs each.1

without_step : {X : Type 0} (q : X → Bool) (x : X) (ys : List X) (t : Bool) → q x ≡ t → find q ys ≡ None → find q (cond (not t) (x ∷ ys) ys) ≡ None
without_step q x ys true at rest = rest
without_step q x ys false at rest = ap (λ t. cond t (Some x) (find q ys)) at ∙ rest

-- among those that fail none passes
pub find_without : {X : Type 0} (q : X → Bool) (xs : List X) → find q (filter (λ x. not (q x)) xs) ≡ None
find_without q [] = refl
find_without q (x ∷ xs) = without_step q x (filter (λ y. not (q y)) xs) (q x) refl (find_without q xs)

never_both : {X : Type 0} (t : Bool) (x y : X) → cond (t && not t) x y ≡ y
never_both true x y = refl
never_both false x y = refl

-- n has of process i what e has, but that it stops where it has begun since m
abbrev RunsAs : Moment → Moment → ℕ → Moment → Type 0
RunsAs m e i n = (has_begun m i ≡ true → has_begun n i ≡ true) × (running_of n i ≡ cond (has_begun n i && not (has_begun m i)) None (running_of e i))

runs-beginnings : (m e : Moment) (i : ℕ) → IsKeptByBeginnings (RunsAs m e i)
runs-beginnings m e i cause n j never holds = ((λ is. begins_now-has cause n j i ∙ or_left (has_begun n i) (eqb j i) (holds.0 is)), by_process (eqb j i) refl (has_begun m i) refl)
  where
    by_process : (t : Bool) → eqb j i ≡ t → (u : Bool) → has_begun m i ≡ u → running_of (begins_now cause n j) i ≡ cond (has_begun (begins_now cause n j) i && not (has_begun m i)) None (running_of e i)
    by_process true at true was = absurd (both_ways (has_begun n j) never (ap (has_begun n) (eqb-true j i at) ∙ holds.0 was))
    by_process true at false was =
        ap (λ x. find (λ p. eqb p.process i) (filter (λ (p : Piece). not (eqb p.process x)) n.out)) (eqb-true j i at)
        ∙ (find_without (λ (p : Piece). eqb p.process i) n.out
        ∙ sym (ap (λ t. cond (t && not (has_begun m i)) None (running_of e i)) (begins_now-has cause n j i ∙ or_right (has_begun n i) (eqb j i) at) ∙ ap (λ t. cond (not t) None (running_of e i)) was))
    by_process false at u was =
        find-filter (λ p. eqb p.process i) (λ p. not (eqb p.process j)) n.out
        (every (λ p. eqb p.process i ≡ true → not (eqb p.process j) ≡ true) n.out
        (λ p is. ap not (ap (λ x. eqb x j) (eqb-true p.process i is) ∙ flipped j i at)))
        ∙ (holds.1 ∙ ap (λ t. cond (t && not (has_begun m i)) None (running_of e i)) (sym (begins_now-has cause n j i ∙ (ap (λ t. has_begun n i || t) at ∙ or-false (has_begun n i)))))

-- an event that touches no piece of process i leaves what it has under way
running_away : (ks : List Kept) (k : Kept) (i : ℕ) (r : Option Piece) → LeavesPieceOf ks k i → running_by_piece k i r (piece_touched ks k) ≡ r
running_away ks k i r away = by_piece k (piece_touched ks k) away
  where
    by_piece : (k : Kept) (o : Option Piece) → ((p : Piece) → o ≡ Some p → eqb p.process i ≡ false) → running_by_piece k i r o ≡ r
    by_piece k None not_its = refl
    by_piece (Hand a b c d) (Some p) not_its = ap (λ t. cond t (Some p) r) (not_its p refl)
    by_piece (Effect n) (Some p) not_its = ap (λ t. cond t None r) (not_its p refl)
    by_piece (Refuse n) (Some p) not_its = ap (λ t. cond t None r) (not_its p refl)
    by_piece (Start j) (Some p) not_its = refl
    by_piece (Abort j) (Some p) not_its = refl
    by_piece (Victim j) (Some p) not_its = refl
    by_piece Restart (Some p) not_its = refl

module _ (table : ConflictRelation) (courses : List Course) (m : Moment) where
  -- no event begins anybody by itself
  pub entered-begun : (k : Kept) (i : ℕ) → has_begun (entered courses m k) i ≡ has_begun m i
  entered-begun (Start j) i = refl
  entered-begun (Hand a b c d) i = refl
  entered-begun (Effect n) i = by_piece (piece_of (m.kept ++ Effect n ∷ []) n)
    where
      by_piece : (o : Option Piece) → has_begun (with_piece (λ p. happened (noted m (Effect n)) (event_of courses p)) (noted m (Effect n)) o) i ≡ has_begun m i
      by_piece None = refl
      by_piece (Some p) = refl
  entered-begun (Refuse n) i = refl
  entered-begun (Abort j) i = refl
  entered-begun (Victim j) i = refl
  entered-begun Restart i = refl

  -- who gets a piece has none under way
  pub free_runs_none : (p : Piece) → may_be_kept table courses m (Hand p.number p.process p.step p.work) ≡ true → running_of m p.process ≡ None
  free_runs_none p may = by_option (running_of m p.process) refl (and_parts (is_active m.events p.process) (is_none (running_of m p.process)) (and_parts (is_active m.events p.process && is_none (running_of m p.process)) (not (is_exhausted courses m p.process))
      (and_parts ((is_active m.events p.process && is_none (running_of m p.process)) && not (is_exhausted courses m p.process)) (is_none (block_of table courses m p.process)) (hand_parts table courses m p may).free).0).0).1
    where
      by_option : (o : Option Piece) → running_of m p.process ≡ o → is_none (running_of m p.process) ≡ true → running_of m p.process ≡ None
      by_option None at none = at
      by_option (Some q) at none = absurd (false≢true (sym (ap is_none at) ∙ none))

  pub effect_out : (n : ℕ) (o : Option Piece) → (with_piece (λ p. happened (noted m (Effect n)) (event_of courses p)) (noted m (Effect n)) o).out ≡ without n m.out
  effect_out n None = refl
  effect_out n (Some p) = refl

  own_running : (k : Kept) (p : Piece) → Tidy m → may_be_kept table courses m k ≡ true → piece_touched m.kept k ≡ Some p → running_of (entered courses m k) p.process ≡ running_by_piece k p.process (running_of m p.process) (Some p)
  own_running (Hand a b c d) p tidy may touched =
      let q : Piece = record { number = a; process = b; step = c; work = d } in
      let same : q ≡ p = same_Some q p touched in
      subst (λ x. find (λ y. eqb y.process x.process) (m.out ++ q ∷ []) ≡ cond (eqb x.process x.process) (Some x) (running_of m x.process)) same
      (find-append (λ y. eqb y.process b) m.out (q ∷ []) ∙ (ap (λ o. option_or o (cond (eqb b b) (Some q) None)) (free_runs_none q may) ∙ (ap (λ t. cond t (Some q) None) (eq-eqb b b refl) ∙ sym (ap (λ t. cond t (Some q) (running_of m b)) (eq-eqb b b refl)))))
  own_running (Effect n) p tidy may touched =
      ap (find (λ q. eqb q.process p.process)) (effect_out n (piece_of (m.kept ++ Effect n ∷ []) n))
      ∙ (find_none (λ q. eqb q.process p.process) (without n m.out) (others-out m n p tidy may touched) ∙ sym (ap (λ t. cond t None (running_of m p.process)) (eq-eqb p.process p.process refl)))
  own_running (Refuse n) p tidy may touched =
      find_none (λ q. eqb q.process p.process) (without n m.out) (others-out m n p tidy (and_parts (runs m n) (is_no_end (piece_of m.kept n)) may).0 touched) ∙ sym (ap (λ t. cond t None (running_of m p.process)) (eq-eqb p.process p.process refl))
  own_running (Start j) p tidy may touched = absurd (none-some p touched)
  own_running (Abort j) p tidy may touched = absurd (none-some p touched)
  own_running (Victim j) p tidy may touched = absurd (none-some p touched)
  own_running Restart p tidy may touched = absurd (none-some p touched)

  pub entered-running : (k : Kept) (i : ℕ) → Tidy m → may_be_kept table courses m k ≡ true → running_of (entered courses m k) i ≡ running_by_piece k i (running_of m i) (piece_touched m.kept k)
  entered-running k i tidy may = by_touched (piece_touched m.kept k) refl
    where
      unmoved : LeavesPieceOf m.kept k i → running_of (entered courses m k) i ≡ running_by_piece k i (running_of m i) (piece_touched m.kept k)
      unmoved away = (entered-stays table courses m i k tidy may away).running (entered-begun k i) ∙ sym (running_away m.kept k i (running_of m i) away)

      by_own : (p : Piece) → piece_touched m.kept k ≡ Some p → (t : Bool) → eqb p.process i ≡ t → running_of (entered courses m k) i ≡ running_by_piece k i (running_of m i) (piece_touched m.kept k)
      by_own p touched true is =
          subst (λ x. running_of (entered courses m k) x ≡ running_by_piece k x (running_of m x) (Some p)) (eqb-true p.process i is) (own_running k p tidy may touched)
          ∙ ap (running_by_piece k i (running_of m i)) (sym touched)
      by_own p touched false is = unmoved (λ q at. ap (λ (y : Piece). eqb y.process i) (same_Some q p (sym at ∙ touched)) ∙ is)

      by_touched : (o : Option Piece) → piece_touched m.kept k ≡ o → running_of (entered courses m k) i ≡ running_by_piece k i (running_of m i) (piece_touched m.kept k)
      by_touched None touched = unmoved (λ q at. absurd (none-some q (sym touched ∙ at)))
      by_touched (Some p) touched = by_own p touched (eqb p.process i) refl

  pub advance-running : (k : Kept) (i : ℕ) → Tidy m → may_be_kept table courses m k ≡ true
      → running_of (advance table courses m k) i ≡ cond (has_begun (advance table courses m k) i && not (has_begun m i)) None (running_by_piece k i (running_of m i) (piece_touched m.kept k))
  advance-running k i tidy may =
      let e = entered courses m k in
      (advance-keeps (RunsAs m e i) (runs-beginnings m e i) table courses m k
      ((λ is. entered-begun k i ∙ is), sym (ap (λ t. cond (t && not (has_begun m i)) None (running_of e i)) (entered-begun k i) ∙ never_both (has_begun m i) None (running_of e i)))).1
      ∙ ap (cond (has_begun (advance table courses m k) i && not (has_begun m i)) None) (entered-running k i tidy may)

pub running_goes_by_pieces : RunningGoesByPieces
running_goes_by_pieces table s k i run may =
    let m = now table s in
    advance-running table s.courses m k i (run-tidy table s run) may
    ∙ ap (λ ks. cond (has_begun (advance table s.courses m k) i && not (has_begun m i)) None (running_by_piece k i (running_of m i) (piece_touched ks k))) (now-kept table s)
