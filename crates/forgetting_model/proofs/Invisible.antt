-- Forgetting is invisible: an event may come after what remains exactly where it may come after the whole.
use Rattle.std.proofs.Common.{◌≡◌, ℕ, zero, suc, ◌+◌, ◌≤◌, Bool, true, false, not, eqb, ◌&&◌, ◌||◌, List, [], ◌∷◌, ◌++◌, length, sym, refl, ap, ◌∙◌, subst, arith, append-nil, append_assoc}
use Rattle.std.specs.Bool.{IsTrue}
use Rattle.std.proofs.lemmas.Bool.{and_parts, false≢true}
use Rattle.std.proofs.lemmas.List.{length-append, map-append}
use Rattle.process_tree.specs.declared.entry.Entry.{Entry}
use Rattle.schedule_model.specs.declared.event.Event.{Event}
use Rattle.schedule_model.specs.declared.event.Event.TheVariants.{Start, Act, End}
use Rattle.schedule_model.specs.Course.{Course}
use Rattle.schedule_model.specs.Conflict.{ConflictRelation, IsSymmetric}
use Rattle.schedule_model.specs.Histories.{active, ends, is_active, is_in, starts}
use Rattle.schedule_model.specs.Legal.{goes_legally, is_clear, is_legal, may_come}
use Rattle.schedule_model.specs.OwnOrder.{keeps_order}
use Rattle.schedule_model.proofs.Appends.{ends-append, is_in-append, starts-append}
use Rattle.schedule_model.proofs.Induction.{passes-push}
use Rattle.schedule_model.proofs.Prefixes.{legal-numbered}
use Rattle.forgetting_model.specs.Remaining.{as_before, courses_left, events_of, is_open, number_in, number_since, process_of, remaining, renumbered_entry, renumbered_event}
use Rattle.forgetting_model.specs.Laws.{ForgettingIsInvisible}
use Rattle.forgetting_model.proofs.ClearBefore.{clear_before}
use Rattle.forgetting_model.proofs.ComesBy.{SameCourses, act_comes-by, end_comes-by}
use Rattle.forgetting_model.proofs.Dropped.{act_order-kept, end_order-kept, starts-of, was_active}
use Rattle.forgetting_model.proofs.Lives.{numbers-apart, numbers-open, whole-open}
use Rattle.forgetting_model.proofs.Mapped.{length-mapped}
use Rattle.forgetting_model.proofs.Numbers.{carried-past, course-left}
use Rattle.forgetting_model.proofs.Renumbered.{is_active-by, starts-by}
use Rattle.forgetting_model.proofs.StillClear.{still_clear}

-- two tests are one where each gives the other
both_alike : (a b : Bool) → (a ≡ true → b ≡ true) → (b ≡ true → a ≡ true) → a ≡ b
both_alike true b there back = sym (there refl)
both_alike false true there back = absurd (false≢true (back refl))
both_alike false false there back = refl

and_alike : (k a b : Bool) → (k ≡ true → a ≡ b) → (k && a) ≡ (k && b)
and_alike true a b same = same refl
and_alike false a b same = refl

module _ (table : ConflictRelation) (courses : List Course) (h : List Event) (legal : IsTrue (is_legal table courses h)) where
  module _ (u : List Event) where
    abbrev H : List Event
    H = h ++ as_before h u

    abbrev R : List Event
    R = remaining h ++ u

    -- how many have started
    starts_left : length (starts (remaining h)) ≡ length (active h)
    starts_left =
        ap length (starts-by (number_since h) (events_of (is_open h) h))
        ∙ (length-mapped (number_since h) (starts (events_of (is_open h) h)) ∙ ap length (starts-of (is_open h) h))

    pub next_since : length (starts (remaining h ++ u)) + 1 ≡ suc (length (active h) + length (starts u))
    next_since =
        ap (λ n. n + 1) (ap length (starts-append (remaining h) u) ∙ length-append (starts (remaining h)) (starts u))
        ∙ (ap (λ n. (n + length (starts u)) + 1) starts_left
        ∙ (let same : (length (active h) + length (starts u)) + 1 ≡ suc (length (active h) + length (starts u)) = omega arith in same))

    pub next_before : length (starts (h ++ as_before h u)) + 1 ≡ length (starts h) + suc (length (starts u))
    next_before =
        ap (λ n. n + 1) (ap length (starts-append h (as_before h u)) ∙ (length-append (starts h) (starts (as_before h u))
        ∙ ap (λ n. length (starts h) + n) (ap length (starts-by (number_in h) u) ∙ length-mapped (number_in h) (starts u))))
        ∙ (let same : (length (starts h) + length (starts u)) + 1 ≡ length (starts h) + suc (length (starts u)) = omega arith in same)

    -- the next number since is the next number before
    next_number : number_in h (length (starts (remaining h ++ u)) + 1) ≡ length (starts (h ++ as_before h u)) + 1
    next_number =
        ap (number_in h) next_since ∙ (carried-past (length (starts h)) (active h) (length (starts u)) ∙ sym next_before)

    start_alike : (k : ℕ) → may_come table (courses_left courses h) (remaining h ++ u) (Start k) ≡ may_come table courses (h ++ as_before h u) (Start (number_in h k))
    start_alike k =
        ap (λ t. t && true)
        (sym (numbers-apart table courses h legal k (length (starts (remaining h ++ u)) + 1)) ∙ ap (eqb (number_in h k)) next_number)

    module _ (goes : IsTrue (is_legal table courses (h ++ as_before h u))) where
      pub opens : (i : ℕ) → IsTrue (is_active (h ++ as_before h u) i) → is_open h i ≡ true
      opens i active = by_end (is_in i (ends h)) refl
        where
          by_end : (t : Bool) → is_in i (ends h) ≡ t → is_open h i ≡ true
          by_end false out = ap not out
          by_end true ended =
              let still : is_in i (ends (h ++ as_before h u)) ≡ true = ap (is_in i) (ends-append h (as_before h u)) ∙ (is_in-append i (ends h) (ends (as_before h u)) ∙ ap (λ t. t || is_in i (ends (as_before h u))) ended) in
              absurd (false≢true (ap not (sym still) ∙ (and_parts (is_in i (starts (h ++ as_before h u))) (not (is_in i (ends (h ++ as_before h u)))) active).1))

      -- whoever is active since has a number from 1 on
      pub active_positive : (k : ℕ) → IsTrue (is_active (remaining h ++ u) k) → 1 ≤ k
      active_positive zero active =
          let there : IsTrue (is_active (events_of (is_open h) (h ++ as_before h u)) zero) =
          ap (λ g. is_active g zero) (whole-open table courses h legal u) ∙ (is_active-by (number_in h) (numbers-apart table courses h legal) (remaining h ++ u) zero ∙ active) in
          let was = was_active (is_open h) (h ++ as_before h u) zero there in
          (legal-numbered table courses (h ++ as_before h u) goes zero (and_parts (is_in zero (starts (h ++ as_before h u))) (not (is_in zero (ends (h ++ as_before h u)))) was).0).0
      active_positive (suc k) active = omega arith

      pub courses_alike : SameCourses (number_in h) (numbers-apart table courses h legal) courses (courses_left courses h) (remaining h ++ u)
      courses_alike k goes' = course-left courses (length (starts h)) (active h) k (active_positive k goes')

      module _ (symmetric : IsSymmetric table) where
        -- what the ended leave alone
        open_alike : (e : Event) → is_open h (process_of e) ≡ true → keeps_order courses (events_of (is_open h) (h ++ as_before h u)) e ≡ keeps_order courses (h ++ as_before h u) e
            → may_come table courses (events_of (is_open h) (h ++ as_before h u)) e ≡ may_come table courses (h ++ as_before h u) e
        open_alike e stays order =
            ap (λ t. t && is_clear table courses (events_of (is_open h) (h ++ as_before h u)) e) order
            ∙ and_alike (keeps_order courses (h ++ as_before h u) e) (is_clear table courses (events_of (is_open h) (h ++ as_before h u)) e) (is_clear table courses (h ++ as_before h u) e)
            (λ keeps. both_alike (is_clear table courses (events_of (is_open h) (h ++ as_before h u)) e) (is_clear table courses (h ++ as_before h u) e)
            (clear_before table courses (h ++ as_before h u) (is_open h) opens symmetric goes e stays keeps)
            (still_clear table courses (h ++ as_before h u) (is_open h) e stays))

        act_alike : (e : Entry) → may_come table (courses_left courses h) (remaining h ++ u) (Act e) ≡ may_come table courses (h ++ as_before h u) (Act (renumbered_entry (number_in h) e))
        act_alike e =
            sym (act_comes-by (number_in h) (numbers-apart table courses h legal) courses (courses_left courses h) (remaining h ++ u) courses_alike table e)
            ∙ (ap (λ g. may_come table courses g (Act (renumbered_entry (number_in h) e))) (sym (whole-open table courses h legal u))
            ∙ open_alike (Act (renumbered_entry (number_in h) e)) (numbers-open table courses h legal e.process)
            (act_order-kept (is_open h) courses (h ++ as_before h u) (renumbered_entry (number_in h) e) (numbers-open table courses h legal e.process)))

        end_alike : (i : ℕ) → may_come table (courses_left courses h) (remaining h ++ u) (End i) ≡ may_come table courses (h ++ as_before h u) (End (number_in h i))
        end_alike i =
            sym (end_comes-by (number_in h) (numbers-apart table courses h legal) courses (courses_left courses h) (remaining h ++ u) courses_alike table i)
            ∙ (ap (λ g. may_come table courses g (End (number_in h i))) (sym (whole-open table courses h legal u))
            ∙ open_alike (End (number_in h i)) (numbers-open table courses h legal i)
            (end_order-kept (is_open h) courses (h ++ as_before h u) (number_in h i) (numbers-open table courses h legal i)))

        pub comes_alike : (e : Event) → may_come table (courses_left courses h) (remaining h ++ u) e ≡ may_come table courses (h ++ as_before h u) (renumbered_event (number_in h) e)
        comes_alike (Start k) = start_alike k
        comes_alike (Act e) = act_alike e
        comes_alike (End i) = end_alike i

pub forgetting_is_invisible : ForgettingIsInvisible
forgetting_is_invisible table courses h u e symmetric legal goes = comes_alike table courses h legal u goes symmetric e

-- What remains goes on legally exactly as the whole does.
module _ (table : ConflictRelation) (courses : List Course) (h : List Event) (symmetric : IsSymmetric table) (legal : IsTrue (is_legal table courses h)) where
  one_more : (g : List Event) (e : Event) → as_before h (g ++ e ∷ []) ≡ as_before h g ++ renumbered_event (number_in h) e ∷ []
  one_more g e = map-append (renumbered_event (number_in h)) g (e ∷ [])

  on_step : (g : List Event) (e : Event) (u : List Event) (t : Bool) → IsTrue (is_legal table courses (h ++ as_before h g))
      → may_come table courses (h ++ as_before h g) (renumbered_event (number_in h) e) ≡ t
      → (IsTrue (is_legal table courses (h ++ as_before h (g ++ e ∷ [])))
      → goes_legally table (courses_left courses h) (remaining h ++ (g ++ e ∷ [])) u ≡ goes_legally table courses (h ++ as_before h (g ++ e ∷ [])) (as_before h u))
      → (t && goes_legally table (courses_left courses h) ((remaining h ++ g) ++ e ∷ []) u) ≡ (t && goes_legally table courses ((h ++ as_before h g) ++ renumbered_event (number_in h) e ∷ []) (as_before h u))
  on_step g e u false goes may rest = refl
  on_step g e u true goes may rest =
      let whole : (h ++ as_before h g) ++ renumbered_event (number_in h) e ∷ [] ≡ h ++ as_before h (g ++ e ∷ []) = append_assoc h (as_before h g) (renumbered_event (number_in h) e ∷ []) ∙ ap (λ xs. h ++ xs) (sym (one_more g e)) in
      ap (λ b. goes_legally table (courses_left courses h) b u) (append_assoc (remaining h) g (e ∷ []))
      ∙ (rest (subst (λ b. IsTrue (is_legal table courses b)) whole (passes-push (may_come table courses) (h ++ as_before h g) (renumbered_event (number_in h) e) goes may))
      ∙ ap (λ b. goes_legally table courses b (as_before h u)) (sym whole))

  goes_on_alike : (g u : List Event) → IsTrue (is_legal table courses (h ++ as_before h g))
      → goes_legally table (courses_left courses h) (remaining h ++ g) u ≡ goes_legally table courses (h ++ as_before h g) (as_before h u)
  goes_on_alike g [] goes = refl
  goes_on_alike g (e ∷ u) goes =
      ap (λ t. t && goes_legally table (courses_left courses h) ((remaining h ++ g) ++ e ∷ []) u) (comes_alike table courses h legal g goes symmetric e)
      ∙ on_step g e u (may_come table courses (h ++ as_before h g) (renumbered_event (number_in h) e)) goes refl (goes_on_alike (g ++ e ∷ []) u)

  pub after_both : (u : List Event) → goes_legally table (courses_left courses h) (remaining h) u ≡ goes_legally table courses h (as_before h u)
  after_both u =
      ap (λ b. goes_legally table (courses_left courses h) b u) (sym (append-nil (remaining h)))
      ∙ (goes_on_alike [] u (subst (λ b. IsTrue (is_legal table courses b)) (sym (append-nil h)) legal)
      ∙ ap (λ b. goes_legally table courses b (as_before h u)) (append-nil h))
