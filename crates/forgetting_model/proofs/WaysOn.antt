-- Each way on of a legal history names who is carried, or starts later: so its numbers lead there and back.
use Rattle.std.proofs.Common.{◌≡◌, ◌⊎◌, inl, inr, ⊎_elim, ℕ, ◌+◌, ◌<◌, ◌≤◌, Bool, true, false, not, eqb, ltb, List, [], ◌∷◌, ◌++◌, length, sym, refl, ap, ◌∙◌, subst, arith, append-nil}
use Rattle.std.specs.Bool.{IsTrue}
use Rattle.std.proofs.lemmas.Bool.{and_parts, and_from, eqb-true, false≢true, lt-ltb, or_cases, or_left, or_right}
use Rattle.std.proofs.lemmas.List.{length-append}
use Rattle.schedule_model.specs.declared.event.Event.{Event}
use Rattle.schedule_model.specs.declared.event.Event.TheVariants.{Start, Act, End}
use Rattle.schedule_model.specs.Course.{Course}
use Rattle.schedule_model.specs.Conflict.{ConflictRelation}
use Rattle.schedule_model.specs.Histories.{active, ends, is_active, is_in, starts}
use Rattle.schedule_model.specs.Legal.{goes_legally, is_legal, may_come}
use Rattle.schedule_model.proofs.Acting.{act_active, end_active, order_of}
use Rattle.schedule_model.proofs.Active.{is_active-is_in}
use Rattle.schedule_model.proofs.Appends.{ends-append, is_in-append, starts-append}
use Rattle.schedule_model.proofs.Induction.{each_passes-append}
use Rattle.schedule_model.proofs.Members.{Among}
use Rattle.forgetting_model.specs.Remaining.{as_before, as_since, is_open, number_in, number_since, process_of}
use Rattle.forgetting_model.specs.Laws.{EachWayOnIsMet}
use Rattle.forgetting_model.proofs.Lives.{there_and_back}
use Rattle.forgetting_model.proofs.Numbers.{IsKnownIn, old-new}

module _ (table : ConflictRelation) (courses : List Course) (h : List Event) where
  abbrev before : ℕ
  before = length (starts h)

  -- what is so of each history that h goes on to
  record GoesOn (g : List Event) : Type 0 where
    pub more : before ≤ length (starts g)
    pub started : (i : ℕ) → IsTrue (is_in i (starts g)) → IsTrue (is_in i (starts h)) ⊎ (before < i)
    pub ended : (i : ℕ) → IsTrue (is_in i (ends h)) → IsTrue (is_in i (ends g))

  -- who started and hasn't ended is known
  known_open : (g : List Event) → GoesOn g → (i : ℕ) → IsTrue (is_active g i) → IsKnownIn before (active h) i
  known_open g on i goes =
      let parts = and_parts (is_in i (starts g)) (not (is_in i (ends g))) goes in
      ⊎_elim
      (λ was. or_left (is_in i (active h)) (ltb before i) (is_active-is_in h i ∙ and_from (is_in i (starts h)) (is_open h i) was (by_end parts.1 (is_in i (ends h)) refl)))
      (λ later. or_right (is_in i (active h)) (ltb before i) (lt-ltb before i later))
      (on.started i parts.0)
    where
      by_end : not (is_in i (ends g)) ≡ true → (t : Bool) → is_in i (ends h) ≡ t → is_open h i ≡ true
      by_end open' true ended = absurd (false≢true (ap not (sym (on.ended i ended)) ∙ open'))
      by_end open' false out = ap not out

  known_event : (g : List Event) (e : Event) → GoesOn g → IsTrue (may_come table courses g e) → IsKnownIn before (active h) (process_of e)
  known_event g (Start i) on may =
      let next = eqb-true i (length (starts g) + 1) (order_of table courses g (Start i) may) in
      let more = on.more in
      or_right (is_in i (active h)) (ltb before i) (lt-ltb before i (omega arith))
  known_event g (Act e) on may = known_open g on e.process (act_active table courses g e may)
  known_event g (End i) on may = known_open g on i (end_active table courses g i may)

  ended_still : (g : List Event) (e : Event) (i : ℕ) → IsTrue (is_in i (ends g)) → IsTrue (is_in i (ends (g ++ e ∷ [])))
  ended_still g e i is = ap (is_in i) (ends-append g (e ∷ [])) ∙ (is_in-append i (ends g) (ends (e ∷ [])) ∙ or_left (is_in i (ends g)) (is_in i (ends (e ∷ []))) is)

  goes_on : (g : List Event) (e : Event) → GoesOn g → IsTrue (may_come table courses g e) → GoesOn (g ++ e ∷ [])
  goes_on g (Start k) on may = record {
    more = let same = ap length (starts-append g (Start k ∷ [])) ∙ length-append (starts g) (k ∷ []) in let more = on.more in omega arith;
    started = λ i is. by_part i (or_cases (is_in i (starts g)) (is_in i (k ∷ [])) (sym (ap (is_in i) (starts-append g (Start k ∷ [])) ∙ is_in-append i (starts g) (k ∷ [])) ∙ is));
    ended = λ i is. ended_still g (Start k) i (on.ended i is);
  }
    where
      by_this : (i : ℕ) → (eqb i k ≡ true) ⊎ (false ≡ true) → IsTrue (is_in i (starts h)) ⊎ (before < i)
      by_this i (inl same) =
          let is = eqb-true i k same in
          let next = eqb-true k (length (starts g) + 1) (order_of table courses g (Start k) may) in
          let more = on.more in
          inr (omega arith)
      by_this i (inr none) = absurd (false≢true none)

      by_part : (i : ℕ) → (is_in i (starts g) ≡ true) ⊎ (is_in i (k ∷ []) ≡ true) → IsTrue (is_in i (starts h)) ⊎ (before < i)
      by_part i (inl was) = on.started i was
      by_part i (inr now) = by_this i (or_cases (eqb i k) false now)
  goes_on g (Act e) on may =
      let same = starts-append g (Act e ∷ []) ∙ append-nil (starts g) in
      record {
        more = let same' = ap length same in let more = on.more in omega arith;
        started = λ i is. on.started i (sym (ap (is_in i) same) ∙ is);
        ended = λ i is. ended_still g (Act e) i (on.ended i is);
      }
  goes_on g (End k) on may =
      let same = starts-append g (End k ∷ []) ∙ append-nil (starts g) in
      record {
        more = let same' = ap length same in let more = on.more in omega arith;
        started = λ i is. on.started i (sym (ap (is_in i) same) ∙ is);
        ended = λ i is. ended_still g (End k) i (on.ended i is);
      }

  known_each : (g u : List Event) → GoesOn g → IsTrue (goes_legally table courses g u) → (e : Event) → Among e u → IsKnownIn before (active h) (process_of e)
  known_each g [] on goes e none = absurd none
  known_each g (x ∷ u) on goes e (inl here) =
      subst (λ y. IsKnownIn before (active h) (process_of y)) here
      (known_event g x on (and_parts (may_come table courses g x) (goes_legally table courses (g ++ x ∷ []) u) goes).0)
  known_each g (x ∷ u) on goes e (inr later) =
      let parts = and_parts (may_come table courses g x) (goes_legally table courses (g ++ x ∷ []) u) goes in
      known_each (g ++ x ∷ []) u (goes_on g x on parts.0) parts.1 e later

  pub ways_on : (u : List Event) → IsTrue (is_legal table courses (h ++ u)) → as_before h (as_since h u) ≡ u
  ways_on u legal =
      there_and_back (number_in h) (number_since h) u
      (λ e among. old-new before (active h) (process_of e)
      (known_each h u (record { more = omega arith; started = λ i is. inl is; ended = λ i is. is })
      (and_parts (is_legal table courses h) (goes_legally table courses h u) (sym (each_passes-append (may_come table courses) [] h u) ∙ legal)).1 e among))

pub each_way_on_is_met : EachWayOnIsMet
each_way_on_is_met = ways_on
