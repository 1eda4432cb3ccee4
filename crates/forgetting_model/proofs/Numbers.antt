-- The numbers of processes before and since: they rise together, and each leads back to the other.
use Rattle.std.proofs.Common.{◌≡◌, ◌⊎◌, inl, inr, ℕ, zero, suc, ◌+◌, ◌-◌, ◌<◌, ◌≤◌, Bool, true, false, cond, eqb, ltb, ◌||◌, List, [], ◌∷◌, ◌++◌, length, map, drop, sym, refl, ap, ◌∙◌, arith}
use Rattle.std.specs.Prelude.{slice_index_or}
use Rattle.std.specs.Bool.{IsTrue}
use Rattle.std.specs.List.{list_all}
use Rattle.std.proofs.lemmas.Bool.{and_parts, eq-eqb, eqb-false, eqb-true, false≢true, ltb-false, ltb-true, ne_eqb, or_cases}
use Rattle.schedule_model.specs.Course.{Course, course, no_course}
use Rattle.schedule_model.specs.Histories.{is_in}
use Rattle.schedule_model.proofs.Members.{Among}
use Rattle.schedule_model.proofs.Rising.{Rising}
use Rattle.forgetting_model.specs.Remaining.{carried_at, new_number, old_number, place_among}
use Rattle.forgetting_model.proofs.Renumbered.{AreApart}

-- carried numbers: they rise, and lie from 1 to the number of processes that started before
pub record AreCarried (before : ℕ) (cs : List ℕ) : Type 0 where
  pub rising : Rising cs
  pub low : (i : ℕ) → Among i cs → 1 ≤ i
  pub high : (i : ℕ) → Among i cs → i ≤ before

pub carried_rest : (before c : ℕ) (cs : List ℕ) → AreCarried before (c ∷ cs) → AreCarried before cs
carried_rest before c cs are = record { rising = are.rising.1; low = λ i is. are.low i (inr is); high = λ i is. are.high i (inr is) }

pub carried-above : (before c k : ℕ) (cs : List ℕ) → IsTrue (list_all (λ y. ltb c y) cs) → c ≤ before → c < carried_at cs before k
carried-above before c k [] all low = omega arith
carried-above before c zero (i ∷ is) all low = ltb-true c i (and_parts (ltb c i) (list_all (λ y. ltb c y) is) all).0
carried-above before c (suc k) (i ∷ is) all low = carried-above before c k is (and_parts (ltb c i) (list_all (λ y. ltb c y) is) all).1 low

carried-rises : (before : ℕ) (cs : List ℕ) (a b : ℕ) → AreCarried before cs → a < b → carried_at cs before a < carried_at cs before b
carried-rises before [] a b are less = omega arith
carried-rises before (c ∷ cs) zero zero are less = absurd (omega arith)
carried-rises before (c ∷ cs) zero (suc b) are less = carried-above before c b cs are.rising.0 (are.high c (inl refl))
carried-rises before (c ∷ cs) (suc a) zero are less = absurd (omega arith)
carried-rises before (c ∷ cs) (suc a) (suc b) are less = carried-rises before cs a b (carried_rest before c cs are) (omega arith)

carried-positive : (before : ℕ) (cs : List ℕ) (k : ℕ) → AreCarried before cs → 0 < carried_at cs before k
carried-positive before [] k are = omega arith
carried-positive before (c ∷ cs) zero are = let low = are.low c (inl refl) in omega arith
carried-positive before (c ∷ cs) (suc k) are = carried-positive before cs k (carried_rest before c cs are)

-- the numbers of before rise with those since
pub old-rises : (before : ℕ) (cs : List ℕ) (a b : ℕ) → AreCarried before cs → a < b → old_number cs before a < old_number cs before b
old-rises before cs zero zero are less = absurd (omega arith)
old-rises before cs zero (suc b) are less = carried-positive before cs b are
old-rises before cs (suc a) zero are less = absurd (omega arith)
old-rises before cs (suc a) (suc b) are less = carried-rises before cs a b are (omega arith)

-- numbers that rise together are apart together
pub rises-apart : (f : ℕ → ℕ) → ((a b : ℕ) → a < b → f a < f b) → AreApart f
rises-apart f rises a b = by_test (eqb a b) refl
  where
    by_less : eqb a b ≡ false → f a ≡ f b → (s t : Bool) → ltb a b ≡ s → ltb b a ≡ t → ⊥
    by_less other same true t less more = let l = rises a b (ltb-true a b less) in omega arith
    by_less other same false true less more = let l = rises b a (ltb-true b a more) in omega arith
    by_less other same false false less more =
        let l = ltb-false a b less in
        let m = ltb-false b a more in
        eqb-false a b other (omega arith)

    by_test : (t : Bool) → eqb a b ≡ t → eqb (f a) (f b) ≡ t
    by_test true same = eq-eqb (f a) (f b) (ap f (eqb-true a b same))
    by_test false other = ne_eqb (f a) (f b) (λ same. by_less other same (ltb a b) (ltb b a) refl refl)

pub old-apart : (before : ℕ) (cs : List ℕ) → AreCarried before cs → AreApart (old_number cs before)
old-apart before cs are = rises-apart (old_number cs before) (λ a b. old-rises before cs a b are)

-- the first number after the carried ones
pub carried-past : (before : ℕ) (cs : List ℕ) (k : ℕ) → carried_at cs before (length cs + k) ≡ before + suc k
carried-past before [] k = ap (λ n. before + suc n) (let same : zero + k ≡ k = omega arith in same)
carried-past before (c ∷ cs) k =
    ap (carried_at (c ∷ cs) before) (let same : suc (length cs) + k ≡ suc (length cs + k) = omega arith in same) ∙ carried-past before cs k

-- each number of before is one of the carried or later
pub carried-or_later : (before : ℕ) (cs : List ℕ) (k : ℕ) → Among (carried_at cs before k) cs ⊎ (before < carried_at cs before k)
carried-or_later before [] k = inr (omega arith)
carried-or_later before (c ∷ cs) zero = inl (inl refl)
carried-or_later before (c ∷ cs) (suc k) = by_rest (carried-or_later before cs k)
  where
    by_rest : Among (carried_at cs before k) cs ⊎ (before < carried_at cs before k) → Among (carried_at cs before k) (c ∷ cs) ⊎ (before < carried_at cs before k)
    by_rest (inl there) = inl (inr there)
    by_rest (inr later) = inr later

-- where a process stands among the carried ones, and those that start later, is where its number was
later_known : (before i c : ℕ) (cs : List ℕ) → eqb i c ≡ false → (is_in i (c ∷ cs) ≡ true) ⊎ (before < i) → (is_in i cs ≡ true) ⊎ (before < i)
later_known before i c cs other (inr later) = inr later
later_known before i c cs other (inl is) = by_part (or_cases (eqb i c) (is_in i cs) is)
  where
    by_part : (eqb i c ≡ true) ⊎ (is_in i cs ≡ true) → (is_in i cs ≡ true) ⊎ (before < i)
    by_part (inl same) = absurd (false≢true (sym other ∙ same))
    by_part (inr there) = inl there

place_step : (before i c : ℕ) (cs : List ℕ) (t : Bool) → eqb i c ≡ t → (eqb i c ≡ false → carried_at cs before (place_among cs before i) ≡ i)
    → carried_at (c ∷ cs) before (cond t zero (suc (place_among cs before i))) ≡ i
place_step before i c cs true same rest = sym (eqb-true i c same)
place_step before i c cs false other rest = rest other

pub place-carried : (before : ℕ) (cs : List ℕ) (i : ℕ) → (is_in i cs ≡ true) ⊎ (before < i) → carried_at cs before (place_among cs before i) ≡ i
place-carried before [] i (inl none) = absurd (false≢true none)
place-carried before [] i (inr later) = omega arith
place-carried before (c ∷ cs) i known =
    place_step before i c cs (eqb i c) refl (λ other. place-carried before cs i (later_known before i c cs other known))

-- a process is carried, or starts later
abbrev pub IsKnownIn : ℕ → List ℕ → ℕ → Type 0
IsKnownIn before cs i = IsTrue (is_in i cs || ltb before i)

known_cases : (before : ℕ) (cs : List ℕ) (i : ℕ) → IsKnownIn before cs i → (is_in i cs ≡ true) ⊎ (before < i)
known_cases before cs i known = by_part (or_cases (is_in i cs) (ltb before i) known)
  where
    by_part : (is_in i cs ≡ true) ⊎ (ltb before i ≡ true) → (is_in i cs ≡ true) ⊎ (before < i)
    by_part (inl there) = inl there
    by_part (inr later) = inr (ltb-true before i later)

-- so its number since leads back to it
pub old-new : (before : ℕ) (cs : List ℕ) (i : ℕ) → IsKnownIn before cs i → old_number cs before (new_number cs before i) ≡ i
old-new before cs i known =
    ap (λ t. old_number cs before (cond t (suc (place_among cs before i)) zero)) known
    ∙ place-carried before cs i (known_cases before cs i known)

-- a number stands where the list is split at it
split_step : (before c i : ℕ) (cs ds : List ℕ) (t : Bool) → (t || is_in i cs) ≡ false → (is_in i cs ≡ false → place_among (cs ++ i ∷ ds) before i ≡ length cs)
    → cond t zero (suc (place_among (cs ++ i ∷ ds) before i)) ≡ suc (length cs)
split_step before c i cs ds true out rest = absurd (false≢true (sym out))
split_step before c i cs ds false out rest = ap suc (rest out)

pub place-split : (before i : ℕ) (cs ds : List ℕ) → is_in i cs ≡ false → place_among (cs ++ i ∷ ds) before i ≡ length cs
place-split before i [] ds out = ap (λ t. cond t zero (suc (place_among ds before i))) (eq-eqb i i refl)
place-split before i (c ∷ cs) ds out = split_step before c i cs ds (eqb i c) out (place-split before i cs ds)

-- Courses: that of each number is that of the number before.

dropped_at : (xs : List Course) (n k : ℕ) → slice_index_or (drop n xs) k no_course ≡ slice_index_or xs (n + k) no_course
dropped_at xs zero k = ap (λ m. slice_index_or xs m no_course) (let same : k ≡ zero + k = omega arith in same)
dropped_at [] (suc n) k = refl
dropped_at (x ∷ xs) (suc n) k = dropped_at xs n k ∙ ap (λ m. slice_index_or (x ∷ xs) m no_course) (let same : suc (n + k) ≡ suc n + k = omega arith in same)

left_at : (courses : List Course) (before : ℕ) (cs : List ℕ) (k : ℕ) → slice_index_or (map (course courses) cs ++ drop before courses) k no_course ≡ course courses (carried_at cs before k)
left_at courses before [] k = dropped_at courses before k ∙ ap (λ m. slice_index_or courses m no_course) (let same : before + k ≡ (before + suc k) - 1 = omega arith in same)
left_at courses before (c ∷ cs) zero = refl
left_at courses before (c ∷ cs) (suc k) = left_at courses before cs k

pub course-left : (courses : List Course) (before : ℕ) (cs : List ℕ) (k : ℕ) → 1 ≤ k → course courses (old_number cs before k) ≡ course (map (course courses) cs ++ drop before courses) k
course-left courses before cs zero some = absurd (omega arith)
course-left courses before cs (suc k) some =
    sym (left_at courses before cs k) ∙ ap (λ m. slice_index_or (map (course courses) cs ++ drop before courses) m no_course) (let same : k ≡ suc k - 1 = omega arith in same)
