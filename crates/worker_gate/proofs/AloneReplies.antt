-- What a request for any piece is answered while none is out.
use Rattle.std.proofs.Common.{◌≡◌, ◌∙◌, ℕ, zero, suc, Bool, true, false, eqb, List, [], ◌∷◌, ◌++◌, length, find, Option, Some, None, refl, ap, sym, subst, arith}
use Rattle.std.proofs.lemmas.Bool.{eqb-true, false≢true}
use Rattle.schedule_model.specs.Conflict.{ConflictRelation}
use Rattle.schedule_model.specs.Course.{Course}
use Rattle.schedule_model.specs.Histories.{active}
use Rattle.machine_model.specs.declared.kept.Kept.{Kept}
use Rattle.machine_model.specs.declared.kept.Kept.TheVariants.{Victim}
use Rattle.machine_model.specs.Advance.{advance, advance_all}
use Rattle.machine_model.specs.CallLaws.{IsStuck}
use Rattle.machine_model.specs.Laws.{IsSession}
use Rattle.machine_model.specs.Calls.{Reply, next, next_is, next_kept, next_served}
use Rattle.machine_model.specs.Moment.{Moment}
use Rattle.machine_model.specs.Replies.{BlockedProcess, Handed, Next, all_ended, all_victims, chosen, next_reply, none_free_by_active, none_free_by_running, piece_of_free, rotation, stuck, victim_then, victims, wait}
use Rattle.machine_model.specs.State.{is_free, victim_of}
use Rattle.machine_model.proofs.Snoc.{advance_all-append}
use Rattle.machine_model.proofs.Going.{stuck_is_exact}
use Rattle.machine_model.proofs.Victims.{victims_run_dry}
use Rattle.process_core.specs.Answers.{after_call, answer_in}
use Rattle.process_core.specs.Cores.{CoreState, courses_in, history_of, machine_of, moment_of, relation}
use Rattle.worker_gate.specs.Running.{NothingRuns}
use Rattle.worker_gate.proofs.IdleMoments.{hand_out, moment_with, victims_idle}

abbrev is_wait : Next → Bool
is_wait (wait w) = true
is_wait (chosen d) = false
is_wait all_ended = false
is_wait (stuck i) = false

abbrev is_ended : Next → Bool
is_ended all_ended = true
is_ended (wait w) = false
is_ended (chosen d) = false
is_ended (stuck i) = false

abbrev next_in : Reply → Next → Next
next_in (next_is r) other = r
next_in r other = other

module _ (table : ConflictRelation) (courses : List Course) (m : Moment) (served : ℕ) where
  -- while nothing is out there is no wait,
  no_wait_by : m.out ≡ [] → (o : Option ℕ) (a : Bool) → is_wait (piece_of_free courses m (none_free_by_active table courses m served a) o) ≡ false
  no_wait_by idle (Some i) a = refl
  no_wait_by idle None true = refl
  no_wait_by idle None false = ap (λ ps. is_wait (none_free_by_running table courses m served (eqb (length ps) 0))) idle

  no_wait : m.out ≡ [] → (w : Option BlockedProcess) → next_reply table courses m served ≡ wait w → ⊥
  no_wait idle w is = false≢true (sym (no_wait_by idle (find (is_free table courses m) (rotation m served)) (eqb (length (active m.events)) 0)) ∙ ap is_wait is)

  none_listed : (xs : List ℕ) → eqb (length xs) 0 ≡ true → xs ≡ []
  none_listed [] is = refl
  none_listed (x ∷ xs) is = let e = eqb-true (length (x ∷ xs)) 0 is in absurd (omega arith)

  not_ended_running : (t : Bool) → is_ended (none_free_by_running table courses m served t) ≡ false
  not_ended_running true = refl
  not_ended_running false = refl

  -- and all have ended only where none is active
  ended_by : (o : Option ℕ) (a : Bool) → eqb (length (active m.events)) 0 ≡ a → piece_of_free courses m (none_free_by_active table courses m served a) o ≡ all_ended → active m.events ≡ []
  ended_by (Some i) a at is = absurd (false≢true (ap is_ended is))
  ended_by None true at is = none_listed (active m.events) at
  ended_by None false at is = absurd (false≢true (sym (not_ended_running (eqb (length m.out) 0)) ∙ ap is_ended is))

  ended_active : next_reply table courses m served ≡ all_ended → active m.events ≡ []
  ended_active is = ended_by (find (is_free table courses m) (rotation m served)) (eqb (length (active m.events)) 0) refl is

  none_more : (n : ℕ) → victim_of table courses m ≡ None → victims n table courses m ≡ []
  none_more zero none = refl
  none_more (suc n) none = ap (victim_then (λ i. victims n table courses (advance table courses m (Victim i)))) none

module _ (old new : CoreState) (is : new ≡ after_call old next) where
  abbrev here : Moment
  here = advance_all (relation old) (courses_in old) (moment_of old) (all_victims (relation old) (courses_in old) (moment_of old))

  abbrev made : List Kept
  made = all_victims (relation old) (courses_in old) (moment_of old)

  module _ (r : Next) (replied : next_is r ≡ (answer_in old next).reply) where
    pub told : next_reply (relation old) (courses_in old) here old.served ≡ r
    told = sym (ap (λ x. next_in x r) replied)

    -- what is kept
    pub kept_next : new.kept ≡ old.kept ++ (made ++ next_kept r)
    kept_next = ap (λ (c : CoreState). c.kept) is ∙ ap (λ x. old.kept ++ (made ++ next_kept x)) told

    -- the moment after it
    moment_next : moment_of new ≡ advance_all (relation old) (courses_in old) here (next_kept r)
    moment_next =
        moment_with old new (made ++ next_kept r) (ap (λ (c : CoreState). c.conflicts) is) (ap (λ (c : CoreState). c.plans) is) (ap (λ (c : CoreState). c.opening) is) kept_next
        ∙ advance_all-append (relation old) (courses_in old) (moment_of old) made (next_kept r)

  idle_here : NothingRuns old → here.out ≡ []
  idle_here idle = victims_idle (relation old) (courses_in old) (length (active (moment_of old).events)) (moment_of old) idle

  -- While no piece is out, none has to be waited for,
  pub no_wait_alone : NothingRuns old → (w : Option BlockedProcess) → next_is (wait w) ≡ (answer_in old next).reply → ⊥
  no_wait_alone idle w replied = no_wait (relation old) (courses_in old) here old.served (idle_here idle) w (told (wait w) replied)

  -- one that is handed out is out alone,
  pub alone_out : NothingRuns old → (d : Handed) → next_is (chosen d) ≡ (answer_in old next).reply → (moment_of new).out ≡ d.piece ∷ []
  alone_out idle d replied = ap (λ (m : Moment). m.out) (moment_next (chosen d) replied) ∙ hand_out (relation old) (courses_in old) here d (idle_here idle)

  -- all have ended where it is said so,
  pub all_have_ended : next_is all_ended ≡ (answer_in old next).reply → active (history_of new) ≡ []
  all_have_ended replied = ap (λ (m : Moment). active m.events) (moment_next all_ended replied) ∙ ended_active (relation old) (courses_in old) here old.served (told all_ended replied)

  -- and who is stuck stays so.
  pub stuck_again : (i : ℕ) → next_is (stuck i) ≡ (answer_in old next).reply → (answer_in new next).reply ≡ next_is (stuck i)
  stuck_again i replied =
      let table = relation old in
      let courses = courses_in old in
      let same_moment = moment_next (stuck i) replied in
      let same_served : new.served ≡ old.served = ap (λ (c : CoreState). c.served) is ∙ ap (next_served old.served) (told (stuck i) replied) in
      let dry = none_more table courses here old.served (length (active here.events)) (victims_run_dry table courses (moment_of old)).0 in
      ap (λ t. next_is (next_reply t (courses_in new) (advance_all t (courses_in new) (moment_of new) (all_victims t (courses_in new) (moment_of new))) new.served)) (ap relation is)
      ∙ (ap (λ cs. next_is (next_reply table cs (advance_all table cs (moment_of new) (all_victims table cs (moment_of new))) new.served)) (ap courses_in is)
      ∙ (ap (λ m. next_is (next_reply table courses (advance_all table courses m (all_victims table courses m)) new.served)) same_moment
      ∙ (ap (λ n. next_is (next_reply table courses (advance_all table courses here (all_victims table courses here)) n)) same_served
      ∙ (ap (λ vs. next_is (next_reply table courses (advance_all table courses here vs) old.served)) dry ∙ ap next_is (told (stuck i) replied)))))

  -- which the machine is at this moment, since nobody can go.
  pub stuck_stays : IsSession (relation old) old.plans (machine_of old) → (i : ℕ) → next_is (stuck i) ≡ (answer_in old next).reply
      → IsStuck (relation new) (courses_in new) (moment_of new) i
  stuck_stays session i replied =
      subst (λ t. IsStuck t (courses_in new) (moment_of new) i) (sym (ap relation is))
      (subst (λ cs. IsStuck (relation old) cs (moment_of new) i) (sym (ap courses_in is))
      (subst (λ m. IsStuck (relation old) (courses_in old) m i) (sym (moment_next (stuck i) replied)) ((stuck_is_exact (relation old) old.plans (machine_of old) session i).0 (sym replied))))
