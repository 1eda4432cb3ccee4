-- What remains of a legal history is legal.
use Rattle.std.proofs.Common.{◌≡◌, ℕ, zero, suc, ◌+◌, ◌≤◌, Bool, true, false, not, cond, ltb, ◌&&◌, ◌||◌, List, [], ◌∷◌, ◌++◌, length, filter, sym, refl, ap, ◌∙◌, subst, arith, append-nil, append_assoc}
use Rattle.std.specs.Bool.{IsTrue}
use Rattle.std.proofs.lemmas.Bool.{and_left, and_parts, and_from, eq-eqb, eqb-true, or_left}
use Rattle.std.proofs.lemmas.List.{map-append}
use Rattle.std.proofs.lemmas.List.Elements.{filter-append}
use Rattle.process_tree.specs.declared.entry.Entry.{Entry}
use Rattle.schedule_model.specs.declared.event.Event.{Event}
use Rattle.schedule_model.specs.declared.event.Event.TheVariants.{Start, Act, End}
use Rattle.schedule_model.specs.Course.{Course}
use Rattle.schedule_model.specs.Conflict.{ConflictRelation}
use Rattle.schedule_model.specs.Histories.{active, ends, is_active, is_in, starts}
use Rattle.schedule_model.specs.Legal.{goes_legally, is_clear, is_legal, may_come}
use Rattle.schedule_model.specs.OwnOrder.{keeps_order}
use Rattle.schedule_model.proofs.Acting.{act_active, clear_of, end_active, order_of}
use Rattle.schedule_model.proofs.Active.{is_active-is_in, is_in-filter}
use Rattle.schedule_model.proofs.Appends.{is_in-append, starts-append}
use Rattle.schedule_model.proofs.Induction.{each_passes-append, passes-push}
use Rattle.schedule_model.proofs.Legal.{is_legal-prefix}
use Rattle.schedule_model.proofs.Members.{among-filter}
use Rattle.schedule_model.proofs.Prefixes.{legal-numbered}
use Rattle.forgetting_model.specs.Remaining.{as_before, courses_left, events_of, is_open, number_in, number_since, place_among, process_of, remaining, renumbered, renumbered_entry, renumbered_event}
use Rattle.forgetting_model.specs.Laws.{WhatRemainsGoesOnAlike, WhatRemainsIsLegal}
use Rattle.forgetting_model.proofs.ComesBy.{SameCourses, act_comes-by, end_comes-by}
use Rattle.forgetting_model.proofs.Dropped.{act_order-kept, end_order-kept, starts-of, was_active}
use Rattle.forgetting_model.proofs.Invisible.{after_both}
use Rattle.forgetting_model.proofs.Lives.{back_event, events-started, numbers-apart, open_known, there_and_back}
use Rattle.forgetting_model.proofs.Mapped.{length-mapped}
use Rattle.forgetting_model.proofs.Numbers.{course-left, old-new, place-split}
use Rattle.forgetting_model.proofs.Renumbered.{is_active-by, starts-by}
use Rattle.forgetting_model.proofs.StillClear.{still_clear}

module _ (table : ConflictRelation) (courses : List Course) (h : List Event) (legal : IsTrue (is_legal table courses h)) where
  -- what remains of a beginning
  abbrev pub part : List Event → List Event
  part g = renumbered (number_since h) (events_of (is_open h) g)

  module _ (g k : List Event) (is : h ≡ g ++ k) where
    begins : IsTrue (is_legal table courses g)
    begins = is_legal-prefix table courses g k (subst (λ f. IsTrue (is_legal table courses f)) is legal)

    started_in : (i : ℕ) → IsTrue (is_in i (starts g)) → IsTrue (is_in i (starts h))
    started_in i started =
        ap (λ f. is_in i (starts f)) is ∙ (ap (is_in i) (starts-append g k) ∙ (is_in-append i (starts g) (starts k) ∙ or_left (is_in i (starts g)) (is_in i (starts k)) started))

    known : (i : ℕ) → IsTrue (is_in i (starts g)) → is_open h i ≡ true → number_in h (number_since h i) ≡ i
    known i started opens = old-new (length (starts h)) (active h) i (open_known table courses h legal i (started_in i started) opens)

    part-back : as_before h (part g) ≡ events_of (is_open h) g
    part-back =
        there_and_back (number_in h) (number_since h) (events_of (is_open h) g)
        (λ e among.
        let found = among-filter (λ e. is_open h (process_of e)) e g among in
        known (process_of e) (events-started table courses g begins e found.0) found.1)

    positive : (i : ℕ) → IsTrue (is_active (part g) i) → 1 ≤ i
    positive zero goes =
        let there : IsTrue (is_active (events_of (is_open h) g) zero) = ap (λ f. is_active f zero) (sym part-back) ∙ (is_active-by (number_in h) (numbers-apart table courses h legal) (part g) zero ∙ goes) in
        let was = was_active (is_open h) g zero there in
        (legal-numbered table courses g begins zero (and_parts (is_in zero (starts g)) (not (is_in zero (ends g))) was).0).0
    positive (suc i) goes = omega arith

    courses_alike : SameCourses (number_in h) (numbers-apart table courses h legal) courses (courses_left courses h) (part g)
    courses_alike i goes = course-left courses (length (starts h)) (active h) i (positive i goes)

    act_comes : (e : Entry) → IsTrue (is_in e.process (starts g)) → is_open h e.process ≡ true → IsTrue (may_come table courses g (Act e)) → IsTrue (may_come table (courses_left courses h) (part g) (Act (renumbered_entry (number_since h) e)))
    act_comes e started stays may =
        let f = renumbered_entry (number_since h) e in
        sym (act_comes-by (number_in h) (numbers-apart table courses h legal) courses (courses_left courses h) (part g) courses_alike table f)
        ∙ (ap (λ x. may_come table courses (as_before h (part g)) x) (back_event (number_in h) (number_since h) (Act e) (known e.process started stays))
        ∙ (ap (λ x. may_come table courses x (Act e)) part-back
        ∙ and_from (keeps_order courses (events_of (is_open h) g) (Act e)) (is_clear table courses (events_of (is_open h) g) (Act e))
        (act_order-kept (is_open h) courses g e stays ∙ order_of table courses g (Act e) may) (still_clear table courses g (is_open h) (Act e) stays (clear_of table courses g (Act e) may))))

    end_comes : (i : ℕ) → IsTrue (is_in i (starts g)) → is_open h i ≡ true → IsTrue (may_come table courses g (End i)) → IsTrue (may_come table (courses_left courses h) (part g) (End (number_since h i)))
    end_comes i started stays may =
        sym (end_comes-by (number_in h) (numbers-apart table courses h legal) courses (courses_left courses h) (part g) courses_alike table (number_since h i))
        ∙ (ap (λ x. may_come table courses (as_before h (part g)) x) (back_event (number_in h) (number_since h) (End i) (known i started stays))
        ∙ (ap (λ x. may_come table courses x (End i)) part-back
        ∙ and_from (keeps_order courses (events_of (is_open h) g) (End i)) (is_clear table courses (events_of (is_open h) g) (End i))
        (end_order-kept (is_open h) courses g i stays ∙ order_of table courses g (End i) may) (still_clear table courses g (is_open h) (End i) stays (clear_of table courses g (End i) may))))

  -- A start takes the next number of those that go on.
  module _ (g k : List Event) (i : ℕ) (is : h ≡ g ++ Start i ∷ k) (may : IsTrue (may_come table courses g (Start i))) (stays : is_open h i ≡ true) where
    abbrev first : List ℕ
    first = filter (is_open h) (starts g)

    split : active h ≡ first ++ i ∷ filter (is_open h) (starts k)
    split =
        ap (λ xs. filter (is_open h) xs) (ap starts is ∙ starts-append g (Start i ∷ k))
        ∙ (filter-append (is_open h) (starts g) (i ∷ starts k)
        ∙ ap (λ t. first ++ cond t (i ∷ filter (is_open h) (starts k)) (filter (is_open h) (starts k))) stays)

    next : i ≡ length (starts g) + 1
    next = eqb-true i (length (starts g) + 1) (order_of table courses g (Start i) may)

    new_here : is_in i (starts g) ≡ false
    new_here = by_test (is_in i (starts g)) refl
      where
        by_test : (t : Bool) → is_in i (starts g) ≡ t → is_in i (starts g) ≡ false
        by_test true there =
            let high = (legal-numbered table courses g (begins g (Start i ∷ k) is) i there).1 in
            let at = next in
            absurd (omega arith)
        by_test false out = out

    place : number_since h i ≡ suc (length first)
    place =
        ap (λ t. cond t (suc (place_among (active h) (length (starts h)) i)) zero)
        (or_left (is_in i (active h)) (ltb (length (starts h)) i)
        (is_active-is_in h i ∙ and_from (is_in i (starts h)) (is_open h i)
        (ap (λ f. is_in i (starts f)) is ∙ (ap (is_in i) (starts-append g (Start i ∷ k)) ∙ (is_in-append i (starts g) (i ∷ starts k)
        ∙ (ap (λ t. is_in i (starts g) || (t || is_in i (starts k))) (eq-eqb i i refl) ∙ or_true (is_in i (starts g))))))
        stays))
        ∙ ap suc (ap (λ cs. place_among cs (length (starts h)) i) split
        ∙ place-split (length (starts h)) i first (filter (is_open h) (starts k)) (is_in-filter (is_open h) i (starts g) ∙ and_left (is_in i (starts g)) (is_open h i) new_here))
      where
        or_true : (t : Bool) → (t || true) ≡ true
        or_true true = refl
        or_true false = refl

    start_comes : IsTrue (may_come table (courses_left courses h) (part g) (Start (number_since h i)))
    start_comes =
        ap (λ t. t && true)
        (eq-eqb (number_since h i) (length (starts (part g)) + 1)
        (place ∙ ((let same : suc (length first) ≡ length first + 1 = omega arith in same) ∙ ap (λ n. n + 1) (sym (ap length (starts-by (number_since h) (events_of (is_open h) g)) ∙ (length-mapped (number_since h) (starts (events_of (is_open h) g)) ∙ ap length (starts-of (is_open h) g)))))))

  part-more : (g : List Event) (e : Event) (t : Bool) → is_open h (process_of e) ≡ t → part (g ++ e ∷ []) ≡ part g ++ renumbered (number_since h) (cond t (e ∷ []) [])
  part-more g e t is =
      ap (renumbered (number_since h)) (filter-append (λ e. is_open h (process_of e)) g (e ∷ []) ∙ ap (λ t. events_of (is_open h) g ++ cond t (e ∷ []) []) is)
      ∙ map-append (renumbered_event (number_since h)) (events_of (is_open h) g) (cond t (e ∷ []) [])

  event_comes : (g : List Event) (e : Event) (k : List Event) → h ≡ g ++ e ∷ k → IsTrue (may_come table courses g e) → is_open h (process_of e) ≡ true
      → IsTrue (may_come table (courses_left courses h) (part g) (renumbered_event (number_since h) e))
  event_comes g (Start i) k is may stays = start_comes g k i is may stays
  event_comes g (Act e) k is may stays = act_comes g (Act e ∷ k) is e (and_parts (is_in e.process (starts g)) (not (is_in e.process (ends g))) (act_active table courses g e may)).0 stays may
  event_comes g (End i) k is may stays = end_comes g (End i ∷ k) is i (and_parts (is_in i (starts g)) (not (is_in i (ends g))) (end_active table courses g i may)).0 stays may

  parts_go : (g k : List Event) → h ≡ g ++ k → IsTrue (goes_legally table courses g k) → IsTrue (is_legal table (courses_left courses h) (part g)) → IsTrue (is_legal table (courses_left courses h) (part (g ++ k)))
  parts_go g [] is goes has = subst (λ f. IsTrue (is_legal table (courses_left courses h) (part f))) (sym (append-nil g)) has
  parts_go g (e ∷ k) is goes has =
      let parts = and_parts (may_come table courses g e) (goes_legally table courses (g ++ e ∷ []) k) goes in
      subst (λ f. IsTrue (is_legal table (courses_left courses h) (part f))) (append_assoc g (e ∷ []) k)
      (parts_go (g ++ e ∷ []) k (is ∙ sym (append_assoc g (e ∷ []) k)) parts.1 (by_test (is_open h (process_of e)) refl parts.0))
    where
      by_test : (t : Bool) → is_open h (process_of e) ≡ t → IsTrue (may_come table courses g e) → IsTrue (is_legal table (courses_left courses h) (part (g ++ e ∷ [])))
      by_test true stays may =
          subst (λ f. IsTrue (is_legal table (courses_left courses h) f)) (sym (part-more g e true stays))
          (passes-push (may_come table (courses_left courses h)) (part g) (renumbered_event (number_since h) e) has (event_comes g e k is may stays))
      by_test false goes may =
          subst (λ f. IsTrue (is_legal table (courses_left courses h) f)) (sym (part-more g e false goes ∙ append-nil (part g))) has

  pub remains_legal : IsTrue (is_legal table (courses_left courses h) (remaining h))
  remains_legal = parts_go [] h refl legal refl

pub what_remains_is_legal : WhatRemainsIsLegal
what_remains_is_legal = remains_legal

pub what_remains_goes_on_alike : WhatRemainsGoesOnAlike
what_remains_goes_on_alike table courses h u symmetric legal =
    each_passes-append (may_come table (courses_left courses h)) [] (remaining h) u
    ∙ (ap (λ t. t && goes_legally table (courses_left courses h) (remaining h) u) (remains_legal table courses h legal)
    ∙ (after_both table courses h symmetric legal u
    ∙ (sym (ap (λ t. t && goes_legally table courses h (as_before h u)) legal) ∙ sym (each_passes-append (may_come table courses) [] h (as_before h u)))))
