-- What a process loses as it begins to complete.
use Rattle.std.proofs.Common.{◌≡◌, ℕ, ◌+◌, Bool, true, false, not, eqb, ◌||◌, if◌then◌else◌, List, [], ◌∷◌, length, filter, find, map, Option, Some, None, is_some, sym, refl, ap, ◌∙◌, length-append}
use Rattle.std.specs.Option.{option_map, option_or}
use Rattle.std.proofs.Math.Bool.{or-false}
use Rattle.std.proofs.lemmas.Bool.{eqb-true, false≢true, or_parts}
use Rattle.std.proofs.lemmas.List.Folds.{find-append}
use Rattle.machine_model.specs.declared.kept.Kept.{Kept}
use Rattle.machine_model.specs.Moment.{Lost, Moment, Piece, begins_now, has_begun, losses}
use Rattle.machine_model.specs.PieceLaws.{LeavesPieceOf}
use Rattle.machine_model.specs.Pieces.{running_of}
use Rattle.machine_model.specs.Advance.{advance}
use Rattle.machine_model.specs.Runs.{may_be_kept}
use Rattle.machine_model.proofs.Begun.{begins_now-has}
use Rattle.machine_model.proofs.CallsKept.{find-passes}
use Rattle.machine_model.proofs.Dropped.{IsLost, run-in_order}
use Rattle.machine_model.proofs.HoldSteps.{entered-begun}
use Rattle.machine_model.proofs.OthersStay.{entered-stays, find-filter}
use Rattle.machine_model.proofs.RunInduction.{IsKeptByBeginnings, advance-keeps, entered}
use Rattle.machine_model.proofs.RunningNext.{flipped}
use Rattle.machine_model.proofs.Snoc.{advances, now-kept}
use Rattle.machine_model.proofs.TidyMoments.{Each-find, every, run-tidy}
use Rattle.core_state.specs.Cores.{CoreState, IsCore, courses_in, machine_of, moment_of, relation}
use Rattle.core_state.specs.Seats.{lost_by}
use Rattle.core_state.proofs.SeatFrames.{entered-lost, or_same, other_losses}

-- a piece that was lost at this kept event
abbrev pub lost_at : ℕ → Piece → Lost
lost_at event p = record { piece = p; event = event }

module _ (i : ℕ) where
  -- what it loses is what it has under way
  own_losses : (event : ℕ) (ps : List Piece) → find (λ (l : Lost). eqb l.piece.process i) (losses i event ps) ≡ option_map (lost_at event) (find (λ (p : Piece). eqb p.process i) ps)
  own_losses event [] = refl
  own_losses event (p ∷ ps) = by_first (eqb p.process i) refl (own_losses event ps)
    where
      rest : List Piece
      rest = filter (λ (q : Piece). eqb q.process i) ps

      by_first : (t : Bool) → eqb p.process i ≡ t → find (λ (l : Lost). eqb l.piece.process i) (losses i event ps) ≡ option_map (lost_at event) (find (λ (q : Piece). eqb q.process i) ps)
          → find (λ (l : Lost). eqb l.piece.process i) (losses i event (p ∷ ps)) ≡ option_map (lost_at event) (find (λ (q : Piece). eqb q.process i) (p ∷ ps))
      by_first true at later =
          ap (λ t. find (λ (l : Lost). eqb l.piece.process i) (map (lost_at event) (if t then p ∷ rest else rest))) at
          ∙ (ap (λ t. if t then Some (lost_at event p) else find (λ (l : Lost). eqb l.piece.process i) (map (lost_at event) rest)) at
          ∙ sym (ap (λ t. option_map (lost_at event) (if t then Some p else find (λ (q : Piece). eqb q.process i) ps)) at))
      by_first false at later =
          ap (λ t. find (λ (l : Lost). eqb l.piece.process i) (map (lost_at event) (if t then p ∷ rest else rest))) at
          ∙ (later ∙ sym (ap (λ t. option_map (lost_at event) (if t then Some p else find (λ (q : Piece). eqb q.process i) ps)) at))

  -- moment n has of it what moment e has, but that it loses what it had under way where it has begun
  pub record LosesWhatRuns (e n : Moment) : Type 0 where
    pub kept : length n.kept ≡ length e.kept
    pub before : has_begun n i ≡ false → (running_of n i ≡ running_of e i) × (lost_by n i ≡ None)
    pub begun : has_begun n i ≡ true → lost_by n i ≡ option_map (lost_at (length e.kept)) (running_of e i)

  pub loses-beginnings : (e : Moment) → IsKeptByBeginnings (LosesWhatRuns e)
  loses-beginnings e cause n k never holds = record {
    kept = holds.kept;
    before = λ fresh.
        let parts = or_parts (has_begun n i) (eqb k i) (sym (begins_now-has cause n k i) ∙ fresh) in (
          find-filter (λ (p : Piece). eqb p.process i) (λ p. not (eqb p.process k)) n.out
              (every (λ (p : Piece). eqb p.process i ≡ true → not (eqb p.process k) ≡ true) n.out
              (λ p is. ap not (ap (λ j. eqb j k) (eqb-true p.process i is) ∙ flipped k i parts.1)))
              ∙ (holds.before parts.0).0,
          unchanged parts.1 ∙ (holds.before parts.0).1,
        );
    begun = λ is. by_process (eqb k i) refl is;
  }
    where
      appended : lost_by (begins_now cause n k) i ≡ option_or (lost_by n i) (find (λ (l : Lost). eqb l.piece.process i) (losses k (length n.kept) n.out))
      appended = find-append (λ (l : Lost). eqb l.piece.process i) n.lost (losses k (length n.kept) n.out)

      unchanged : eqb k i ≡ false → lost_by (begins_now cause n k) i ≡ lost_by n i
      unchanged other = appended ∙ (ap (option_or (lost_by n i)) (other_losses i k (length n.kept) n.out other) ∙ or_same (lost_by n i))

      by_process : (t : Bool) → eqb k i ≡ t → has_begun (begins_now cause n k) i ≡ true → lost_by (begins_now cause n k) i ≡ option_map (lost_at (length e.kept)) (running_of e i)
      by_process true at is =
          let was = holds.before (sym (ap (has_begun n) (eqb-true k i at)) ∙ never) in
          appended
          ∙ (ap (λ o. option_or o (find (λ (l : Lost). eqb l.piece.process i) (losses k (length n.kept) n.out))) was.1
          ∙ (ap (λ j. find (λ (l : Lost). eqb l.piece.process i) (losses j (length n.kept) n.out)) (eqb-true k i at)
          ∙ (own_losses (length n.kept) n.out ∙ (ap (option_map (lost_at (length n.kept))) was.0 ∙ ap (λ x. option_map (lost_at x) (running_of e i)) holds.kept))))
      by_process false at is =
          unchanged at ∙ holds.begun (sym (or-false (has_begun n i)) ∙ (sym (ap (λ t. has_begun n i || t) at) ∙ (sym (begins_now-has cause n k i) ∙ is)))

module _ (c : CoreState) (core : IsCore c) (i : ℕ) (was : has_begun (moment_of c) i ≡ false) where
  abbrev m : Moment
  m = moment_of c

  -- before, nothing of it is lost
  pub none_lost : lost_by (moment_of c) i ≡ None
  none_lost = by_lost (lost_by m i) refl
    where
      by_lost : (o : Option Lost) → lost_by m i ≡ o → lost_by m i ≡ None
      by_lost None at = at
      by_lost (Some l) at =
          let lost = Each-find (IsLost m) (λ (x : Lost). eqb x.piece.process i) m.lost l (run-in_order (relation c) (machine_of c) core.session.run).lost at in
          let its = eqb-true l.piece.process i (find-passes (λ (x : Lost). eqb x.piece.process i) m.lost l at) in
          absurd (false≢true (sym was ∙ (ap (has_begun m) (sym its) ∙ ap is_some lost.begun)))

  module _ (k : Kept) (may : may_be_kept (relation c) (courses_in c) (moment_of c) k ≡ true) where
    abbrev e : Moment
    e = entered (courses_in c) (moment_of c) k

    abbrev after : Moment
    after = advance (relation c) (courses_in c) (moment_of c) k

    holds : LosesWhatRuns i e after
    holds = advance-keeps (LosesWhatRuns i e) (loses-beginnings i e) (relation c) (courses_in c) m k (record {
      kept = refl;
      before = λ fresh. (refl, (entered-lost m i (relation c) (courses_in c) k).lost (entered-begun (relation c) (courses_in c) m k i) ∙ none_lost);
      begun = λ is'. absurd (false≢true (sym was ∙ (sym (entered-begun (relation c) (courses_in c) m k i) ∙ is')));
    })

    many : length e.kept ≡ length c.kept + 1
    many = sym holds.kept ∙ (ap length (advances (relation c) (courses_in c) m k).kept ∙ (length-append m.kept (k ∷ []) ∙ ap (λ ks. length ks + 1) (now-kept (relation c) (machine_of c))))

    -- and then it loses what it has under way once the event is entered
    pub lost_then : has_begun (advance (relation c) (courses_in c) (moment_of c) k) i ≡ true
        → lost_by (advance (relation c) (courses_in c) (moment_of c) k) i ≡ option_map (lost_at (length c.kept + 1)) (running_of (entered (courses_in c) (moment_of c) k) i)
    lost_then is = holds.begun is ∙ ap (λ x. option_map (lost_at x) (running_of e i)) many

    -- which is what it had, unless the event is of its piece
    pub lost_now : LeavesPieceOf (moment_of c).kept k i → has_begun (advance (relation c) (courses_in c) (moment_of c) k) i ≡ true
        → lost_by (advance (relation c) (courses_in c) (moment_of c) k) i ≡ option_map (lost_at (length c.kept + 1)) (running_of (moment_of c) i)
    lost_now away is =
        lost_then is
        ∙ ap (option_map (lost_at (length c.kept + 1))) ((entered-stays (relation c) (courses_in c) m i k (run-tidy (relation c) (machine_of c) core.session.run) may away).running (entered-begun (relation c) (courses_in c) m k i))
