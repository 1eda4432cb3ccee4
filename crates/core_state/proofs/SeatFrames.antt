-- A kept event that is of no piece of a process, and doesn't make it begin to complete, leaves its seat and its row.
use Rattle.std.proofs.Common.{◌≡◌, ⊎_elim, Bool, true, false, not, eqb, ◌&&◌, ◌||◌, if◌then◌else◌, ℕ, List, [], ◌∷◌, length, map, filter, find, Option, Some, None, is_some, sym, refl, ap, ◌∙◌}
use Rattle.std.specs.Option.{option_map, option_or}
use Rattle.std.proofs.Math.Bool.{or-false}
use Rattle.std.proofs.lemmas.Bool.{both_ways, eq-eqb, eqb-true, false≢true, or_left}
use Rattle.std.proofs.lemmas.List.Folds.{find-append}
use Rattle.process_tree.specs.Shape.{fixed_len}
use Rattle.schedule_model.specs.Conflict.{ConflictRelation}
use Rattle.schedule_model.specs.Course.{Course, course, shape}
use Rattle.schedule_model.specs.Histories.{ends, is_active, is_in, net_steps, starts, steps_of}
use Rattle.schedule_model.specs.Holdings.{Hold}
use Rattle.machine_model.specs.declared.kept.Kept.{Kept}
use Rattle.machine_model.specs.declared.kept.Kept.TheVariants.{Start, Hand, Effect, Refuse, Abort, Victim, Restart}
use Rattle.machine_model.specs.Moment.{Beginning, Lost, Moment, Piece, beginning_of, begins_now, happened, has_begun, losses, noted}
use Rattle.machine_model.specs.Pieces.{piece_of, running_of}
use Rattle.machine_model.specs.PieceLaws.{LeavesPieceOf, piece_touched}
use Rattle.machine_model.specs.State.{hold_of, process_state}
use Rattle.machine_model.specs.Advance.{advance, event_of, with_piece}
use Rattle.machine_model.specs.Runs.{may_be_kept}
use Rattle.machine_model.proofs.Begun.{begins_now-has}
use Rattle.machine_model.proofs.Causes.{beginnings_stay}
use Rattle.machine_model.proofs.CoursesRuns.{starts-stay}
use Rattle.machine_model.proofs.EndedFree.{EndNow, ended_before}
use Rattle.machine_model.proofs.OneCounter.{still_open}
use Rattle.machine_model.proofs.OthersStay.{advance-stays, others_stay}
use Rattle.machine_model.proofs.RunInduction.{IsKeptByBeginnings, advance-keeps, entered}
use Rattle.machine_model.proofs.Snoc.{now-kept}
use Rattle.machine_model.proofs.TidyMoments.{run-tidy}
use Rattle.core_state.specs.Cores.{CoreState, IsCore, courses_in, machine_of, moment_of, relation}
use Rattle.core_state.specs.OpenTables.{planned_of, row_of}
use Rattle.core_state.specs.Seats.{SeatState, instance_of, lost_by, seat_of}
use Rattle.instance_state.specs.Instances.{InstanceState}
use Rattle.machine_model.specs.ProcessState.{ProcessState}

-- what process i lost at moment n, and whether it has begun, by moment m
pub record StaysLost (m n : Moment) (i : ℕ) : Type 0 where
  pub begun : has_begun m i ≡ true → has_begun n i ≡ true
  pub lost : has_begun n i ≡ has_begun m i → lost_by n i ≡ lost_by m i

-- another process loses nothing of it
pub other_losses : (i k event : ℕ) (ps : List Piece) → eqb k i ≡ false → find (λ (l : Lost). eqb l.piece.process i) (losses k event ps) ≡ None
other_losses i k event [] other = refl
other_losses i k event (p ∷ ps) other = by_first (eqb p.process k) refl (other_losses i k event ps other)
  where
    by_first : (t : Bool) → eqb p.process k ≡ t → find (λ (l : Lost). eqb l.piece.process i) (losses k event ps) ≡ None → find (λ (l : Lost). eqb l.piece.process i) (losses k event (p ∷ ps)) ≡ None
    by_first true at rest =
        ap (λ t. find (λ (l : Lost). eqb l.piece.process i) (map (λ (q : Piece). record { piece = q; event = event }) (if t then p ∷ filter (λ (q : Piece). eqb q.process k) ps else filter (λ (q : Piece). eqb q.process k) ps))) at
        ∙ (ap (λ t. if t then Some (record { piece = p; event = event }) else find (λ (l : Lost). eqb l.piece.process i) (losses k event ps)) (ap (λ j. eqb j i) (eqb-true p.process k at) ∙ other) ∙ rest)
    by_first false at rest =
        ap (λ t. find (λ (l : Lost). eqb l.piece.process i) (map (λ (q : Piece). record { piece = q; event = event }) (if t then p ∷ filter (λ (q : Piece). eqb q.process k) ps else filter (λ (q : Piece). eqb q.process k) ps))) at
        ∙ rest

pub or_same : {X : Type 0} (o : Option X) → option_or o None ≡ o
or_same None = refl
or_same (Some x) = refl

module _ (m : Moment) (i : ℕ) where
  lost-beginnings : IsKeptByBeginnings (λ n. StaysLost m n i)
  lost-beginnings cause n k never stays = record {
    begun = λ is. begins_now-has cause n k i ∙ or_left (has_begun n i) (eqb k i) (stays.begun is);
    lost = λ same. by_process (eqb k i) refl (sym (begins_now-has cause n k i) ∙ same);
  }
    where
      or_true : (t : Bool) → (t || true) ≡ true
      or_true true = refl
      or_true false = refl

      by_process : (t : Bool) → eqb k i ≡ t → (has_begun n i || eqb k i) ≡ has_begun m i → lost_by (begins_now cause n k) i ≡ lost_by m i
      by_process true at same =
          let began : has_begun m i ≡ true = sym same ∙ (ap (λ t. has_begun n i || t) at ∙ or_true (has_begun n i)) in
          absurd (both_ways (has_begun n k) never (ap (has_begun n) (eqb-true k i at) ∙ stays.begun began))
      by_process false at same =
          find-append (λ (l : Lost). eqb l.piece.process i) n.lost (losses k (length n.kept) n.out)
          ∙ (ap (option_or (lost_by n i)) (other_losses i k (length n.kept) n.out at)
          ∙ (or_same (lost_by n i) ∙ stays.lost (sym (ap (λ t. has_begun n i || t) at ∙ or-false (has_begun n i)) ∙ same)))

  module _ (table : ConflictRelation) (courses : List Course) where
    by_effect : (n : Moment) (o : Option Piece) → StaysLost m n i → StaysLost m (with_piece (λ p. happened n (event_of courses p)) n o) i
    by_effect n None stays = stays
    by_effect n (Some p) stays = record { begun = stays.begun; lost = stays.lost }

    pub entered-lost : (k : Kept) → StaysLost m (entered courses m k) i
    entered-lost (Start j) = record { begun = λ is. is; lost = λ same. refl }
    entered-lost (Hand a b c d) = record { begun = λ is. is; lost = λ same. refl }
    entered-lost (Effect n) = by_effect (noted m (Effect n)) (piece_of (noted m (Effect n)).kept n) (record { begun = λ is. is; lost = λ same. refl })
    entered-lost (Refuse n) = record { begun = λ is. is; lost = λ same. refl }
    entered-lost (Abort j) = record { begun = λ is. is; lost = λ same. refl }
    entered-lost (Victim j) = record { begun = λ is. is; lost = λ same. refl }
    entered-lost Restart = record { begun = λ is. is; lost = λ same. refl }

    pub lost_stays : (k : Kept) → has_begun (advance table courses m k) i ≡ has_begun m i → lost_by (advance table courses m k) i ≡ lost_by m i
    lost_stays k same = (advance-keeps (λ n. StaysLost m n i) lost-beginnings table courses m k (entered-lost k)).lost same

    pub beginning_stays : (k : Kept) → has_begun (advance table courses m k) i ≡ has_begun m i → beginning_of (advance table courses m k) i ≡ beginning_of m i
    beginning_stays k same = by_before (beginning_of m i) refl
      where
        by_after : (o : Option Beginning) → is_some o ≡ false → o ≡ None
        by_after None none = refl
        by_after (Some b) none = absurd (false≢true (sym none))

        by_before : (o : Option Beginning) → beginning_of m i ≡ o → beginning_of (advance table courses m k) i ≡ beginning_of m i
        by_before (Some b) at = beginnings_stay table courses m k i b at ∙ sym at
        by_before None at = by_after (beginning_of (advance table courses m k) i) (same ∙ ap is_some at) ∙ sym at

module _ (c : CoreState) (core : IsCore c) (k : Kept) (may : may_be_kept (relation c) (courses_in c) (moment_of c) k ≡ true) (i : ℕ)
    (away : LeavesPieceOf c.kept k i) where
  abbrev cs : List Course
  cs = courses_in c

  abbrev m : Moment
  m = moment_of c

  abbrev after : Moment
  after = advance (relation c) (courses_in c) (moment_of c) k

  away_now : LeavesPieceOf m.kept k i
  away_now p is = away p (ap (λ ks. piece_touched ks k) (sym (now-kept (relation c) (machine_of c))) ∙ is)

  no_end : EndNow m k i → ⊥
  no_end ends' = false≢true (sym (away_now ends'.piece (ap (piece_touched m.kept) ends'.is_effect ∙ ends'.found)) ∙ (ap (λ j. eqb j i) ends'.is ∙ eq-eqb i i refl))

  module _ (begun : has_begun (advance (relation c) (courses_in c) (moment_of c) k) i ≡ has_begun (moment_of c) i) where
    others : (running_of after i ≡ running_of m i) × (process_state cs after i ≡ process_state cs m i) × (hold_of cs after i ≡ hold_of cs m i)
    others = others_stay (relation c) (machine_of c) k i core.session.run may away begun

    steps_stay : net_steps after.events i ≡ net_steps m.events i
    steps_stay = ap steps_of (advance-stays (relation c) cs m i k (run-tidy (relation c) (machine_of c) core.session.run) may away_now).history.net

    pub row_frame : row_of (courses_in c) (advance (relation c) (courses_in c) (moment_of c) k) i ≡ row_of (courses_in c) (moment_of c) i
    row_frame =
        ap (λ (h : Hold). record { process = i; steps = length (shape cs i).kinds; running = h.running; reserved = planned_of h.reserved; fixed = fixed_len (shape cs i) (net_steps after.events i); pending = length h.pending }) others.2
        ∙ (let h = hold_of cs m i in ap (λ w. record { process = i; steps = length (shape cs i).kinds; running = h.running; reserved = planned_of h.reserved; fixed = fixed_len (shape cs i) w; pending = length h.pending }) steps_stay)

  module _ (started : is_in i (starts (moment_of c).events) ≡ true) where
    -- it stays active, or not
    pub active_stays : is_active (advance (relation c) (courses_in c) (moment_of c) k).events i ≡ is_active (moment_of c).events i
    active_stays =
        ap (λ t. t && not (is_in i (ends after.events))) (starts-stay (relation c) cs m k i started)
        ∙ (ap not (by_ended (is_in i (ends after.events)) refl) ∙ sym (ap (λ t. t && not (is_in i (ends m.events))) started))
      where
        by_ended : (t : Bool) → is_in i (ends after.events) ≡ t → is_in i (ends after.events) ≡ is_in i (ends m.events)
        by_ended false at = at ∙ sym (still_open (relation c) c.plans core.session.good m k i at)
        by_ended true at = at ∙ ⊎_elim (λ before. sym before) (λ now'. absurd (no_end now')) (ended_before (relation c) cs m k i at)

    abbrev instance_by : Bool → ProcessState → Option InstanceState
    instance_by t s = if t then Some (record { course = course cs i; state = s }) else None

    abbrev seat_by : Option InstanceState → Option Piece → Option Lost → Option Beginning → SeatState
    seat_by x r l b = record { instance = x; out = option_map (λ (q : Piece). q.number) r; lost = option_map (λ (y : Lost). y.piece.number) l; began = option_map (λ (y : Beginning). y.began) b }

    pub seat_frame : has_begun (advance (relation c) (courses_in c) (moment_of c) k) i ≡ has_begun (moment_of c) i → seat_of (courses_in c) (advance (relation c) (courses_in c) (moment_of c) k) i ≡ seat_of (courses_in c) (moment_of c) i
    seat_frame begun =
        ap (λ t. seat_by (instance_by t (process_state cs after i)) (running_of after i) (lost_by after i) (beginning_of after i)) active_stays
        ∙ (ap (λ s. seat_by (instance_by (is_active m.events i) s) (running_of after i) (lost_by after i) (beginning_of after i)) (others begun).1
        ∙ (ap (λ o. seat_by (instance_of cs m i) o (lost_by after i) (beginning_of after i)) (others begun).0
        ∙ (ap (λ o. seat_by (instance_of cs m i) (running_of m i) o (beginning_of after i)) (lost_stays m i (relation c) cs k begun)
        ∙ ap (λ o. seat_by (instance_of cs m i) (running_of m i) (lost_by m i) o) (beginning_stays m i (relation c) cs k begun))))
