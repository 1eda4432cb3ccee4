-- A request for any piece makes the same victims, and then answers what it answered before.
use Rattle.std.proofs.Common.{◌≡◌, ℕ, zero, suc, true, ◌&&◌, List, [], ◌∷◌, ◌++◌, length, map, sym, refl, ap, ◌∙◌, subst}
use Rattle.std.specs.Prelude.{Option, Some, None}
use Rattle.std.specs.Bool.{IsTrue}
use Rattle.std.specs.Option.{option_map}
use Rattle.std.proofs.lemmas.Bool.{and_from, eq-eqb}
use Rattle.process_tree.specs.declared.plan.Plan.{Plan}
use Rattle.schedule_model.specs.declared.event.Event.{Event}
use Rattle.schedule_model.specs.Course.{Course}
use Rattle.schedule_model.specs.Conflict.{ConflictRelation}
use Rattle.schedule_model.specs.Histories.{active, is_active}
use Rattle.schedule_model.proofs.Active.{is_active-is_in}
use Rattle.machine_model.specs.declared.kept.Kept.{Kept}
use Rattle.machine_model.specs.declared.kept.Kept.TheVariants.{Victim}
use Rattle.machine_model.specs.Advance.{Machine, advance, advance_all}
use Rattle.machine_model.specs.Laws.{IsSession}
use Rattle.machine_model.specs.Moment.{Moment, opening_moment}
use Rattle.machine_model.specs.Replies.{all_victims, next_reply, victim_then, victims}
use Rattle.machine_model.specs.Runs.{goes_on_from, is_victim, may_be_kept, now}
use Rattle.machine_model.specs.State.{victim_of}
use Rattle.machine_model.proofs.SessionCalls.{session-longer}
use Rattle.machine_model.proofs.Snoc.{advance_all-append, goes_on-append}
use Rattle.machine_model.proofs.Victims.{victim-is}
use Rattle.forgetting_model.specs.Moments.{IsLeftOf, renumbered_kept}
use Rattle.forgetting_model.specs.Remaining.{courses_left, is_open, number_in, number_since}
use Rattle.forgetting_model.specs.Replies.{ForgettingChangesNoRequest, renumbered_next}
use Rattle.forgetting_model.proofs.LeftMoments.{apart, positive, since-old}
use Rattle.forgetting_model.proofs.Mapped.{length-mapped}
use Rattle.forgetting_model.proofs.Mirrored.{is_active-left}
use Rattle.forgetting_model.proofs.MomentLaws.{all_legal, are, leads, legal, victim-alike}
use Rattle.forgetting_model.proofs.RepliesAlike.{next_replies}

module _ (table : ConflictRelation) (plans : List Plan) (h : List Event) where
  -- the session after these victims of it, and what is left behind as many
  record AfterVictims (s : Machine) (n : Moment) (vs ws : List Kept) : Type 0 where
    pub same : ws ≡ map (renumbered_kept (number_since h)) vs
    pub later : Machine
    pub session : IsSession table plans later
    pub at : now table later ≡ advance_all table s.courses (now table s) vs
    pub courses : later.courses ≡ s.courses
    pub left : IsLeftOf h (now table later) (advance_all table (courses_left s.courses h) n ws)

  abbrev more : Machine → ℕ → Machine
  more s i = record { opening = s.opening; courses = s.courses; kept = s.kept ++ Victim i ∷ []; served = s.served }

  module _ (s : Machine) (n : Moment) (session : IsSession table plans s) (left : IsLeftOf h (now table s) n) where
    abbrev m : Moment
    m = now table s

    abbrev since : List Course
    since = courses_left s.courses h

    module _ (k : ℕ) (is : victim_of table s.courses (now table s) ≡ Some (number_in h k)) where
      may : IsTrue (may_be_kept table s.courses (now table s) (Victim (number_in h k)))
      may = ap (is_victim (number_in h k)) is ∙ eq-eqb (number_in h k) (number_in h k) refl

      active_k : IsTrue (is_active n.events k)
      active_k =
          sym (is_active-left (number_in h) (apart table s.courses h (legal table plans s h n session left)) (is_open h) table s.courses since m n (are table plans s h n session left) k)
          ∙ (sym (is_active-is_in m.events (number_in h k)) ∙ (victim-is table s.courses m (number_in h k) is).0)

      back : number_since h (number_in h k) ≡ k
      back = since-old table s.courses h (legal table plans s h n session left) k (positive table s.courses h (legal table plans s h n session left) m n left (all_legal table plans s h n session left) k active_k)

      now_more : now table (more s (number_in h k)) ≡ advance table s.courses (now table s) (Victim (number_in h k))
      now_more = advance_all-append table s.courses (opening_moment s.opening) s.kept (Victim (number_in h k) ∷ [])

      more_session : IsSession table plans (more s (number_in h k))
      more_session =
          session-longer table plans s (Victim (number_in h k) ∷ []) s.served session (refl, tt)
          (goes_on-append table s.courses (opening_moment s.opening) s.kept (Victim (number_in h k) ∷ [])
          ∙ and_from (goes_on_from table s.courses (opening_moment s.opening) s.kept) (may_be_kept table s.courses m (Victim (number_in h k)) && true) session.run
          (and_from (may_be_kept table s.courses m (Victim (number_in h k))) true may refl))

      more_left : IsLeftOf h (now table (more s (number_in h k))) (advance table since n (Victim k))
      more_left =
          subst (λ o. IsLeftOf h o (advance table since n (Victim k))) (sym now_more)
          (subst (λ j. IsLeftOf h (advance table s.courses m (Victim (number_in h k))) (advance table since n (Victim j))) back
          (leads table plans s h n session left (Victim (number_in h k)) may))

      after_one : (c : ℕ) → AfterVictims (more s (number_in h k)) (advance table since n (Victim k)) (victims c table s.courses (now table (more s (number_in h k)))) (victims c table since (advance table since n (Victim k)))
          → AfterVictims s n (Victim (number_in h k) ∷ victims c table s.courses (advance table s.courses m (Victim (number_in h k)))) (Victim k ∷ victims c table since (advance table since n (Victim k)))
      after_one c rest = record {
        same = ap (λ j. Victim j ∷ victims c table since (advance table since n (Victim k))) (sym back)
            ∙ ap (λ vs. Victim (number_since h (number_in h k)) ∷ vs) (rest.same ∙ ap (λ o. map (renumbered_kept (number_since h)) (victims c table s.courses o)) now_more);
        later = rest.later;
        session = rest.session;
        at = rest.at ∙ ap (λ o. advance_all table s.courses o (victims c table s.courses o)) now_more;
        courses = rest.courses;
        left = rest.left;
      }

  by_victim : (c : ℕ) (s : Machine) (n : Moment) → IsSession table plans s → IsLeftOf h (now table s) n → (o : Option ℕ) → victim_of table s.courses (now table s) ≡ option_map (number_in h) o
      → ((t : Machine) (q : Moment) → t.courses ≡ s.courses → IsSession table plans t → IsLeftOf h (now table t) q → AfterVictims t q (victims c table t.courses (now table t)) (victims c table (courses_left t.courses h) q))
      → AfterVictims s n (victim_then (λ i. victims c table s.courses (advance table s.courses (now table s) (Victim i))) (option_map (number_in h) o))
      (victim_then (λ i. victims c table (courses_left s.courses h) (advance table (courses_left s.courses h) n (Victim i))) o)
  by_victim c s n session left None is rest = record { same = refl; later = s; session = session; at = refl; courses = refl; left = left }
  by_victim c s n session left (Some k) is rest =
      after_one s n session left k is c (rest (more s (number_in h k)) (advance table (courses_left s.courses h) n (Victim k)) refl (more_session s n session left k is) (more_left s n session left k is))

  after_victims : (c : ℕ) (s : Machine) (n : Moment) → IsSession table plans s → IsLeftOf h (now table s) n → AfterVictims s n (victims c table s.courses (now table s)) (victims c table (courses_left s.courses h) n)
  after_victims zero s n session left = record { same = refl; later = s; session = session; at = refl; courses = refl; left = left }
  after_victims (suc c) s n session left =
      let same = (victim-alike table plans s h n session left).2 in
      subst (λ o. AfterVictims s n (victim_then (λ i. victims c table s.courses (advance table s.courses (now table s) (Victim i))) o) (victims (suc c) table (courses_left s.courses h) n)) (sym same)
      (by_victim c s n session left (victim_of table (courses_left s.courses h) n) same (λ t q courses session' left'. after_victims c t q session' left'))

pub forgetting_changes_no_request : ForgettingChangesNoRequest
forgetting_changes_no_request table plans s h n served served' session left serves =
    let count : length (active (now table s).events) ≡ length (active n.events) = ap length (victim-alike table plans s h n session left).0 ∙ length-mapped (number_in h) (active n.events) in
    let vs = victims (length (active (now table s).events)) table s.courses (now table s) in
    let since = courses_left s.courses h in
    let all = after_victims table plans h (length (active (now table s).events)) s n session left in
    let fewer : victims (length (active (now table s).events)) table since n ≡ all_victims table since n = ap (λ c. victims c table since n) count in
    let left' : IsLeftOf h (now table all.later) (advance_all table since n (all_victims table since n)) = subst (λ ws. IsLeftOf h (now table all.later) (advance_all table since n ws)) fewer all.left in
    let reply = next_replies table plans all.later h (advance_all table since n (all_victims table since n)) all.session left' served served' serves in (
      sym fewer ∙ all.same,
      ap (λ o. next_reply table s.courses o served) (sym all.at)
          ∙ (ap (λ cs. next_reply table cs (now table all.later) served) (sym all.courses)
          ∙ (reply ∙ ap (λ cs. renumbered_next (number_in h) (next_reply table (courses_left cs h) (advance_all table since n (all_victims table since n)) served')) all.courses)),
    )
