-- Forgetting twice is forgetting once.
use Rattle.std.proofs.Common.{◌≡◌, inl, inr, ℕ, zero, suc, ◌+◌, ◌≤◌, Bool, true, false, not, eqb, List, [], ◌∷◌, ◌++◌, length, map, sym, refl, ap, ◌∙◌, arith}
use Rattle.std.specs.Bool.{IsTrue}
use Rattle.std.proofs.lemmas.Bool.{eq-eqb, eqb-true, false≢true, or_left}
use Rattle.schedule_model.specs.declared.event.Event.{Event}
use Rattle.schedule_model.specs.declared.event.Event.TheVariants.{Start, Act, End}
use Rattle.schedule_model.specs.Course.{Course}
use Rattle.schedule_model.specs.Conflict.{ConflictRelation, IsSymmetric}
use Rattle.schedule_model.specs.Histories.{active, ends, is_in, starts}
use Rattle.schedule_model.specs.Legal.{is_legal}
use Rattle.schedule_model.proofs.Appends.{ends-append, is_in-append}
use Rattle.schedule_model.proofs.Members.{Among}
use Rattle.schedule_model.proofs.Snoc.{filter_through}
use Rattle.forgetting_model.specs.Remaining.{as_before, carried_at, courses_left, events_of, is_open, number_in, number_since, process_of, remaining, renumbered, renumbered_event}
use Rattle.forgetting_model.specs.Laws.{ForgettingTwiceIsForgettingOnce}
use Rattle.forgetting_model.proofs.ClearBefore.{same_active}
use Rattle.forgetting_model.proofs.Dropped.{ended-kept}
use Rattle.forgetting_model.proofs.Invisible.{next_before, next_since, opens}
use Rattle.forgetting_model.proofs.LeftMoments.{since_is}
use Rattle.forgetting_model.proofs.Lives.{numbers-apart, numbers-open, whole-open}
use Rattle.forgetting_model.proofs.Mapped.{filter-mapped}
use Rattle.forgetting_model.proofs.Numbers.{carried-past}
use Rattle.forgetting_model.proofs.RemainsLegal.{what_remains_goes_on_alike}
use Rattle.forgetting_model.proofs.Renumbered.{active-by, ends-by, is_in-by}

-- numbers after numbers
after_event : (f g p : ℕ → ℕ) (e : Event) → f (g (process_of e)) ≡ p (process_of e) → renumbered_event f (renumbered_event g e) ≡ renumbered_event p e
after_event f g p (Start i) same = ap (λ k. Start k) same
after_event f g p (Act e) same = ap (λ k. Act (record { process = k; step = e.step; op = e.op; key = e.key; undo = e.undo })) same
after_event f g p (End i) same = ap (λ k. End k) same

after_numbers : (f g p : ℕ → ℕ) (h : List Event) → ((e : Event) → Among e h → f (g (process_of e)) ≡ p (process_of e)) → renumbered f (renumbered g h) ≡ renumbered p h
after_numbers f g p [] same = refl
after_numbers f g p (e ∷ h) same =
    ap (λ x. x ∷ renumbered f (renumbered g h)) (after_event f g p e (same e (inl refl))) ∙ ap (λ xs. renumbered_event p e ∷ xs) (after_numbers f g p h (λ x is. same x (inr is)))

process_by : (f : ℕ → ℕ) (e : Event) → process_of (renumbered_event f e) ≡ f (process_of e)
process_by f (Start i) = refl
process_by f (Act e) = refl
process_by f (End i) = refl

-- numbers that are equal to the same ones from 1 on are equal
same_number : (a b : ℕ) → ((k : ℕ) → 1 ≤ k → eqb a k ≡ eqb b k) → a ≡ b
same_number zero zero same = refl
same_number zero (suc b) same =
    let is : eqb zero (suc b) ≡ true = same (suc b) (omega arith) ∙ eq-eqb (suc b) (suc b) refl in eqb-true zero (suc b) is
same_number (suc a) b same =
    let is : eqb b (suc a) ≡ true = sym (same (suc a) (omega arith)) ∙ eq-eqb (suc a) (suc a) refl in sym (eqb-true b (suc a) is)

module _ (table : ConflictRelation) (courses : List Course) (h u : List Event) (symmetric : IsSymmetric table) (legal : IsTrue (is_legal table courses h)) (goes : IsTrue (is_legal table courses (h ++ as_before h u))) where
  abbrev H : List Event
  H = h ++ as_before h u

  abbrev R : List Event
  R = remaining h ++ u

  since_legal : IsTrue (is_legal table (courses_left courses h) (remaining h ++ u))
  since_legal = what_remains_goes_on_alike table courses h u symmetric legal ∙ goes

  actives : active (h ++ as_before h u) ≡ map (number_in h) (active (remaining h ++ u))
  actives =
      sym (same_active table courses H (is_open h) (opens table courses h legal u goes))
      ∙ (ap active (whole-open table courses h legal u) ∙ active-by (number_in h) (numbers-apart table courses h legal) R)

  -- the number that follows the carried ones
  carried_by : (xs : List ℕ) (k : ℕ) → carried_at (map (number_in h) xs) (length (starts (h ++ as_before h u))) k ≡ number_in h (carried_at xs (length (starts (remaining h ++ u))) k)
  carried_by [] k =
      let one = next_before table courses h legal u in
      let two = next_since table courses h legal u in
      let past = carried-past (length (starts h)) (active h) (length (starts u) + k) in
      let place : length (starts (remaining h ++ u)) + suc k ≡ suc (length (active h) + (length (starts u) + k)) = omega arith in
      (let sum : length (starts (h ++ as_before h u)) + suc k ≡ length (starts h) + suc (length (starts u) + k) = omega arith in sum)
      ∙ (sym past ∙ ap (number_in h) (sym place))
  carried_by (x ∷ xs) zero = refl
  carried_by (x ∷ xs) (suc k) = carried_by xs k

  pub numbers : (k : ℕ) → number_in (h ++ as_before h u) k ≡ number_in h (number_in (remaining h ++ u) k)
  numbers zero = refl
  numbers (suc k) =
      ap (λ is. carried_at is (length (starts (h ++ as_before h u))) k) actives ∙ carried_by (active (remaining h ++ u)) k

  -- the number since of number k is that of k in what remains
  since_twice : (k : ℕ) → number_since (h ++ as_before h u) (number_in h k) ≡ number_since (remaining h ++ u) k
  since_twice k =
      same_number (number_since H (number_in h k)) (number_since R k)
      (λ j some. since_is table courses H goes (number_in h k) j some
      ∙ (ap (eqb (number_in h k)) (numbers j)
      ∙ (numbers-apart table courses h legal k (number_in R j)
      ∙ sym (since_is table (courses_left courses h) R since_legal k j some))))

  -- who has ended in the whole has in what remains
  open_twice : (k : ℕ) → is_open (h ++ as_before h u) (number_in h k) ≡ is_open (remaining h ++ u) k
  open_twice k =
      ap not (sym (ended-kept (is_open h) H (number_in h k) (numbers-open table courses h legal k))
      ∙ (ap (λ g. is_in (number_in h k) (ends g)) (whole-open table courses h legal u)
      ∙ (ap (is_in (number_in h k)) (ends-by (number_in h) R) ∙ is_in-by (number_in h) (numbers-apart table courses h legal) k (ends R))))

  open_before : (i : ℕ) → is_open (h ++ as_before h u) i ≡ true → is_open h i ≡ true
  open_before i opens' = by_end (is_in i (ends h)) refl
    where
      by_end : (t : Bool) → is_in i (ends h) ≡ t → is_open h i ≡ true
      by_end false out = ap not out
      by_end true ended =
          let still : is_in i (ends (h ++ as_before h u)) ≡ true = ap (is_in i) (ends-append h (as_before h u)) ∙ (is_in-append i (ends h) (ends (as_before h u)) ∙ or_left (is_in i (ends h)) (is_in i (ends (as_before h u))) ended) in
          absurd (false≢true (sym (ap not still) ∙ opens'))

  still_open : events_of (is_open (h ++ as_before h u)) (h ++ as_before h u) ≡ as_before h (events_of (is_open (remaining h ++ u)) (remaining h ++ u))
  still_open =
      sym (filter_through (λ e. is_open H (process_of e)) (λ e. is_open h (process_of e)) H (λ e is. open_before (process_of e) is))
      ∙ (ap (events_of (is_open H)) (whole-open table courses h legal u)
      ∙ filter-mapped (renumbered_event (number_in h)) (λ e. is_open H (process_of e)) (λ e. is_open R (process_of e)) R
      (λ e. ap (is_open H) (process_by (number_in h) e) ∙ open_twice (process_of e)))

  pub remains : remaining (h ++ as_before h u) ≡ remaining (remaining h ++ u)
  remains =
      ap (renumbered (number_since H)) still_open
      ∙ after_numbers (number_since H) (number_in h) (number_since R) (events_of (is_open R) R) (λ e among. since_twice (process_of e))

pub forgetting_twice_is_forgetting_once : ForgettingTwiceIsForgettingOnce
forgetting_twice_is_forgetting_once table courses h u symmetric legal goes = (numbers table courses h u symmetric legal goes, remains table courses h u symmetric legal goes)
