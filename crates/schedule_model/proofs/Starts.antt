-- Those that started in a legal history have rising numbers, so the active ones differ.
use Rattle.std.proofs.Common.{◌≡◌, ℕ, ◌+◌, ◌<◌, Bool, true, false, not, cond, eqb, ltb, List, [], ◌∷◌, ◌++◌, filter, length, sym, refl, ap, ◌∙◌, subst, arith, append-nil}
use Rattle.std.specs.Bool.{IsTrue}
use Rattle.std.specs.List.{list_all}
use Rattle.std.proofs.lemmas.Bool.{and_parts, and_from, or_left, or_right, eq-eqb, eqb-true, ne_eqb, ltb-true, lt-ltb}
use Rattle.schedule_model.specs.declared.event.Event.{Event}
use Rattle.schedule_model.specs.declared.event.Event.TheVariants.{Start, Act, End}
use Rattle.schedule_model.specs.Course.{Course}
use Rattle.schedule_model.specs.Conflict.{ConflictRelation}
use Rattle.schedule_model.specs.Histories.{active, is_in, starts, ends}
use Rattle.schedule_model.specs.Legal.{is_clear, may_come, is_legal}
use Rattle.schedule_model.proofs.Induction.{by_legal}
use Rattle.schedule_model.proofs.Appends.{starts-append}
use Rattle.schedule_model.proofs.Apart.{list_all-filter}
use Rattle.schedule_model.proofs.Rising.{Rising, Rising-push}
use Rattle.schedule_model.proofs.Prefixes.{Numbered, legal-numbered}

all_below : (xs : List ℕ) (k : ℕ) → ((i : ℕ) → IsTrue (is_in i xs) → i < k) → IsTrue (list_all (λ d. ltb d k) xs)
all_below [] k below = refl
all_below (x ∷ xs) k below =
    and_from (ltb x k) (list_all (λ d. ltb d k) xs) (lt-ltb x k (below x (or_left (eqb x x) (is_in x xs) (eq-eqb x x refl))))
    (all_below xs k (λ i is. below i (or_right (eqb i x) (is_in i xs) is)))

module _ (table : ConflictRelation) (courses : List Course) where
  started_after : (h : List Event) (e : Event) → Numbered h → Rising (starts h) → IsTrue (may_come table courses h e) → Rising (starts (h ++ e ∷ []))
  started_after h (Start k) numbered rising may =
      let next = eqb-true k (length (starts h) + 1) (and_parts (eqb k (length (starts h) + 1)) (is_clear table courses h (Start k)) may).0 in
      subst Rising (sym (starts-append h (Start k ∷ [])))
      (Rising-push (starts h) k rising (all_below (starts h) k (λ i is. let bounds = numbered i is in let high = bounds.1 in omega arith)))
  started_after h (Act e) numbered rising may = subst Rising (sym (starts-append h (Act e ∷ []) ∙ append-nil (starts h))) rising
  started_after h (End k) numbered rising may = subst Rising (sym (starts-append h (End k ∷ []) ∙ append-nil (starts h))) rising

  -- the numbers of those that started rise
  pub starts-rising : (h : List Event) → IsTrue (is_legal table courses h) → Rising (starts h)
  starts-rising h legal = by_legal table courses (λ g. Rising (starts g)) (λ g e before may rising. started_after g e (legal-numbered table courses g before) rising may) tt h legal

  kept_rising_step : (p : ℕ → Bool) (x : ℕ) (xs : List ℕ) (t : Bool) → IsTrue (list_all (λ y. ltb x y) xs) → Rising (filter p xs) → Rising (cond t (x ∷ filter p xs) (filter p xs))
  kept_rising_step p x xs true above rest = (list_all-filter (λ y. ltb x y) p xs above, rest)
  kept_rising_step p x xs false above rest = rest

  kept_rising : (p : ℕ → Bool) (xs : List ℕ) → Rising xs → Rising (filter p xs)
  kept_rising p [] rising = tt
  kept_rising p (x ∷ xs) rising = kept_rising_step p x xs (p x) rising.0 (kept_rising p xs rising.1)

  -- and those of the active ones
  pub active-rising : (h : List Event) → IsTrue (is_legal table courses h) → Rising (active h)
  active-rising h legal = kept_rising (λ i. not (is_in i (ends h))) (starts h) (starts-rising h legal)

  above_apart : (i : ℕ) (xs : List ℕ) → IsTrue (list_all (λ y. ltb i y) xs) → IsTrue (list_all (λ k. not (eqb i k)) xs)
  above_apart i [] all = refl
  above_apart i (x ∷ xs) all =
      let parts = and_parts (ltb i x) (list_all (λ y. ltb i y) xs) all in
      let less = ltb-true i x parts.0 in
      and_from (not (eqb i x)) (list_all (λ k. not (eqb i k)) xs) (ap not (ne_eqb i x (λ same. omega arith))) (above_apart i xs parts.1)

  -- the first active process isn't among the others
  pub active-apart : (h : List Event) (i : ℕ) (others : List ℕ) → IsTrue (is_legal table courses h) → active h ≡ i ∷ others → IsTrue (list_all (λ k. not (eqb i k)) others)
  active-apart h i others legal first = above_apart i others (subst Rising first (active-rising h legal)).0
