-- The end of a piece answers what it answered before.
use Rattle.std.proofs.Common.{◌≡◌, ℕ, ◌+◌, ◌≤◌, Bool, true, false, not, cond, eqb, ◌&&◌, if◌then◌else◌, List, [], ◌∷◌, length, filter, sym, refl, ap, ◌∙◌, subst, arith}
use Rattle.std.specs.Prelude.{Option, Some, None, find}
use Rattle.std.specs.Bool.{IsTrue}
use Rattle.std.specs.List.{list_any}
use Rattle.std.specs.Option.{option_map}
use Rattle.std.proofs.lemmas.Bool.{and_from, eqb-true}
use Rattle.std.proofs.lemmas.List.{length-append}
use Rattle.std.proofs.lemmas.Option.{same_Some}
use Rattle.process_tree.specs.declared.play.Outcome.{Outcome}
use Rattle.process_tree.specs.declared.play.Outcome.TheVariants.{Done, Refused}
use Rattle.process_tree.specs.declared.plan.Plan.{Plan}
use Rattle.schedule_model.specs.declared.event.Event.{Event}
use Rattle.schedule_model.specs.Course.{Course}
use Rattle.schedule_model.specs.Conflict.{ConflictRelation}
use Rattle.schedule_model.specs.Histories.{is_active}
use Rattle.machine_model.specs.declared.kept.Kept.TheVariants.{Refuse}
use Rattle.machine_model.specs.declared.kept.Work.TheVariants.{End}
use Rattle.machine_model.specs.declared.replies.PieceState.TheVariants.{Out}
use Rattle.machine_model.specs.Advance.{Machine, advance}
use Rattle.machine_model.specs.Laws.{IsSession}
use Rattle.machine_model.specs.Moment.{Lost, Moment, Piece, has_begun}
use Rattle.machine_model.specs.Pieces.{dropped_at, dropped_or_over, event_of_lost, hands, piece_of, refusals, refused_pieces, runs, state_of}
use Rattle.machine_model.specs.ProcessState.{refusal_by, tries_in}
use Rattle.machine_model.specs.Progress.{Task, same_work}
use Rattle.machine_model.specs.Replies.{Finish, effected, finish_by, finish_piece, finish_reply, out_finish, refusal_reply, refused, refused_unless_end}
use Rattle.machine_model.specs.Runs.{is_no_end, may_be_kept, now}
use Rattle.machine_model.specs.State.{tries_by}
use Rattle.forgetting_model.specs.Moments.{IsLeftOf, renumbered_lost, renumbered_piece}
use Rattle.forgetting_model.specs.Remaining.{as_before, courses_left, events_of, is_open, number_in, number_since, process_of, remaining, renumbered_event}
use Rattle.forgetting_model.specs.Replies.{ForgettingChangesNoFinish, forgotten, later_finish}
use Rattle.forgetting_model.proofs.LeftMoments.{begun-left, piece_of-by, positive, refused-left}
use Rattle.forgetting_model.proofs.Mapped.{any-mapped, length-mapped}
use Rattle.forgetting_model.proofs.Mirrored.{find-mapped, find-passes, times_refused}
use Rattle.forgetting_model.proofs.MomentLaws.{all_legal, are, known, known_since, leads, legal, own}

filter_step : {X : Type 0} (x : X) (ys xs : List X) (t : Bool) → length ys ≤ length xs → length (cond t (x ∷ ys) ys) ≤ length (x ∷ xs)
filter_step x ys xs true less = omega arith
filter_step x ys xs false less = omega arith

pub filter_less : {X : Type 0} (p : X → Bool) (xs : List X) → length (filter p xs) ≤ length xs
filter_less p [] = omega arith
filter_less p (x ∷ xs) = filter_step x (filter p xs) xs (p x) (filter_less p xs)

lost_event : (f : ℕ → ℕ) (o : Option Lost) → event_of_lost (option_map (renumbered_lost f) o) ≡ event_of_lost o
lost_event f None = refl
lost_event f (Some l) = refl

module _ (table : ConflictRelation) (plans : List Plan) (s : Machine) (h : List Event) (n : Moment) (session : IsSession table plans s) (left : IsLeftOf h (now table s) n) where
  abbrev m : Moment
  m = now table s

  abbrev since : List Course
  since = courses_left s.courses h

  -- each event stands so many places later
  pub places : length (now table s).events ≡ forgotten h + length n.events
  places =
      let less : length (remaining h) ≤ length h = subst (λ n. n ≤ length h) (sym (length-mapped (renumbered_event (number_since h)) (events_of (is_open h) h))) (filter_less (λ e. is_open h (process_of e)) h) in
      let one : length m.events ≡ length h + length (as_before h left.followed) = ap length left.whole ∙ length-append h (as_before h left.followed) in
      let two : length (as_before h left.followed) ≡ length left.followed = length-mapped (renumbered_event (number_in h)) left.followed in
      let three : length n.events ≡ length (remaining h) + length left.followed = ap length left.rest ∙ length-append (remaining h) left.followed in
      omega arith

  pub runs_alike : (x : ℕ) → runs (now table s) x ≡ runs n x
  runs_alike x =
      ap (list_any (λ (p : Piece). eqb p.number x)) left.out ∙ any-mapped (renumbered_piece (number_in h)) (λ (p : Piece). eqb p.number x) (λ (p : Piece). eqb p.number x) n.out (λ p. refl)

  pub dropped_alike : (x : ℕ) → dropped_at (now table s) x ≡ dropped_at n x
  dropped_alike x =
      sym (ap event_of_lost (ap (find (λ (l : Lost). eqb l.piece.number x)) left.lost
      ∙ find-mapped (renumbered_lost (number_since h)) (λ (l : Lost). eqb l.piece.number x) (λ (l : Lost). eqb l.piece.number x) m.lost (λ l. refl))
      ∙ lost_event (number_since h) (find (λ (l : Lost). eqb l.piece.number x) m.lost))

  -- A refusal of a piece that is out.
  module _ (x : ℕ) (p : Piece) (at : piece_of m.kept x ≡ Some p) (goes : IsTrue (is_active m.events p.process)) (no_end : same_work p.work End ≡ false) (out : runs m x ≡ true) where
    abbrev k : ℕ
    k = number_since h p.process

    may : IsTrue (may_be_kept table s.courses m (Refuse x))
    may = and_from (runs m x) (is_no_end (piece_of m.kept x)) out (ap is_no_end at ∙ ap not no_end)

    after_left : IsLeftOf h (advance table s.courses m (Refuse x)) (advance table since n (Refuse x))
    after_left = leads table plans s h n session left (Refuse x) may

    back : number_in h (number_since h p.process) ≡ p.process
    back = known table plans s h n session left p.process goes

    active_k : IsTrue (is_active n.events (number_since h p.process))
    active_k = known_since table plans s h n session left p.process goes

    some : 1 ≤ number_since h p.process
    some = positive table s.courses h (legal table plans s h n session left) m n left (all_legal table plans s h n session left) (number_since h p.process) active_k

    pub refusal_alike : refusal_reply s.courses (advance table s.courses m (Refuse x)) p ≡ refusal_reply since (advance table since n (Refuse x)) (renumbered_piece (number_since h) p)
    refusal_alike =
        let A = advance table s.courses m (Refuse x) in
        let B = advance table since n (Refuse x) in
        sym (ap (λ i. refusal_by (tries_by s.courses i p.step p.work) (refusals A.kept i p.step p.work) (has_begun A i)) back)
        ∙ (ap (λ c. refusal_by (tries_in c p.step p.work) (refusals A.kept (number_in h k) p.step p.work) (has_begun A (number_in h k))) ((are table plans s h n session left).same k active_k)
        ∙ (ap (λ r. refusal_by (tries_by since k p.step p.work) r (has_begun A (number_in h k)))
        (times_refused (number_in h k) p.step p.work (refused_pieces A.kept)
        ∙ (ap (λ ts. length (filter (λ (t : Task). eqb t.step p.step && same_work t.work p.work) ts)) (refused-left table s.courses h (legal table plans s h n session left) A B after_left k some)
        ∙ sym (times_refused k p.step p.work (refused_pieces B.kept))))
        ∙ ap (λ t. refusal_by (tries_by since k p.step p.work) (refusals B.kept k p.step p.work) t) (begun-left table s.courses h (legal table plans s h n session left) A B after_left k some)))

  out_by : (x : ℕ) (p : Piece) → piece_of m.kept x ≡ Some p → runs m x ≡ true → IsTrue (is_active m.events p.process) → (t : Bool) → same_work p.work End ≡ t
      → refused_unless_end table s.courses m (record { number = x; process = p.process; step = p.step; work = p.work }) t
      ≡ later_finish (forgotten h) (refused_unless_end table since n (record { number = x; process = number_since h p.process; step = p.step; work = p.work }) t)
  out_by x p at out goes true is = refl
  out_by x p at out goes false is = ap (λ r. refused r) (refusal_alike x p at goes is out)

  out_alike : (x : ℕ) (p : Piece) → piece_of m.kept x ≡ Some p → p.number ≡ x → runs m x ≡ true → IsTrue (is_active m.events p.process) → (outcome : Outcome)
      → out_finish table s.courses m p outcome ≡ later_finish (forgotten h) (out_finish table since n (renumbered_piece (number_since h) p) outcome)
  out_alike x p at number out goes Done = ap (λ e. effected e) (let same = places in let next : length m.events + 1 ≡ forgotten h + (length n.events + 1) = omega arith in next)
  out_alike x p at number out goes Refused =
      subst (λ y. refused_unless_end table s.courses m (record { number = y; process = p.process; step = p.step; work = p.work }) (same_work p.work End)
      ≡ later_finish (forgotten h) (refused_unless_end table since n (record { number = y; process = number_since h p.process; step = p.step; work = p.work }) (same_work p.work End)))
      (sym number) (out_by x p at out goes (same_work p.work End) refl)

  dropped_same : (a b : Finish) (d : Option ℕ) → finish_by a (dropped_or_over d) ≡ later_finish (forgotten h) (finish_by b (dropped_or_over d))
  dropped_same a b None = refl
  dropped_same a b (Some e) = refl

  module _ (x : ℕ) (outcome : Outcome) (p : Piece) (at : piece_of m.kept x ≡ Some p) where
    number_is : p.number ≡ x
    number_is = eqb-true p.number x (find-passes (λ (q : Piece). eqb q.number x) (hands m.kept) p at)

    runs_goes : runs m x ≡ true → IsTrue (is_active m.events p.process)
    runs_goes out =
        let q = own table plans s h n session left x out in
        let same : q.piece ≡ p = same_Some q.piece p (sym q.found ∙ at) in
        ap (λ (r : Piece). is_active m.events r.process) (sym same) ∙ q.active

    by_state : (t : Bool) → runs m x ≡ t
        → finish_by (out_finish table s.courses m p outcome) (if t then Out else dropped_or_over (dropped_at m x))
        ≡ later_finish (forgotten h) (finish_by (out_finish table since n (renumbered_piece (number_since h) p) outcome) (if t then Out else dropped_or_over (dropped_at n x)))
    by_state true out = out_alike x p at number_is out (runs_goes out) outcome
    by_state false none =
        ap (λ d. finish_by (out_finish table s.courses m p outcome) (dropped_or_over d)) (dropped_alike x)
        ∙ dropped_same (out_finish table s.courses m p outcome) (out_finish table since n (renumbered_piece (number_since h) p) outcome) (dropped_at n x)

    piece_alike : finish_piece table s.courses m outcome (Some p) ≡ later_finish (forgotten h) (finish_piece table since n outcome (Some (renumbered_piece (number_since h) p)))
    piece_alike =
        ap (λ y. finish_by (out_finish table s.courses m p outcome) (state_of m y)) number_is
        ∙ (by_state (runs m x) refl
        ∙ (ap (λ t. later_finish (forgotten h) (finish_by (out_finish table since n (renumbered_piece (number_since h) p) outcome) (if t then Out else dropped_or_over (dropped_at n x)))) (runs_alike x)
        ∙ ap (λ y. later_finish (forgotten h) (finish_by (out_finish table since n (renumbered_piece (number_since h) p) outcome) (state_of n y))) (sym number_is)))

  by_piece : (x : ℕ) (outcome : Outcome) (o : Option Piece) → piece_of m.kept x ≡ o
      → finish_piece table s.courses m outcome o ≡ later_finish (forgotten h) (finish_piece table since n outcome (option_map (renumbered_piece (number_since h)) o))
  by_piece x outcome None at = refl
  by_piece x outcome (Some p) at = piece_alike x outcome p at

  pub finishes : (x : ℕ) (outcome : Outcome) → finish_reply table s.courses m x outcome ≡ later_finish (forgotten h) (finish_reply table since n x outcome)
  finishes x outcome =
      by_piece x outcome (piece_of m.kept x) refl
      ∙ ap (λ o. later_finish (forgotten h) (finish_piece table since n outcome o)) (sym (ap (λ ks. piece_of ks x) left.kept ∙ piece_of-by (number_since h) m.kept x))

pub forgetting_changes_no_finish : ForgettingChangesNoFinish
forgetting_changes_no_finish table plans s h n x outcome session left = finishes table plans s h n session left x outcome
