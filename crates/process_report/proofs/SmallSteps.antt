-- The places of steps that apply are within the list, and a printed trace has few steps.
use Rattle.std.proofs.Common.{◌≡◌, ◌⊎◌, inl, inr, ℕ, zero, suc, ◌+◌, ◌-◌, ◌*◌, ◌<◌, ◌≤◌, Bool, true, false, cond, ◌&&◌, nat_eq, nat_lt, nat_le, List, [], ◌∷◌, ◌++◌, length, length-append, take, drop, Option, Some, None, sym, refl, ap, ◌∙◌, subst, arith}
use Rattle.std.specs.Option.{option_map}
use Rattle.std.proofs.lemmas.Bool.{and_parts, ltb-true, leb-true}
use Rattle.process_tree.specs.declared.entry.Entry.{Entry}
use Rattle.schedule_model.specs.declared.trace_step.TraceStep.{TraceStep}
use Rattle.schedule_model.specs.declared.trace_step.TraceStep.TheVariants.{Move, Cancel}
use Rattle.schedule_model.specs.Conflict.{ConflictRelation}
use Rattle.schedule_model.specs.Reduction.{can_change, exchanged, cancelled, and_then, carried_on, carried_back, applied, applied_all}
use Rattle.schedule_model.specs.PrintedTrace.{without, first_undo, place_taken_back, move_between, cancel_one, cancel_phase, first_to_end, serial_phase, trace_of}
use Rattle.schedule_model.proofs.Members.{Among}
use Rattle.trace_verify.proofs.StepsApplied.{length-applied}
use Rattle.process_report.proofs.OtherSections.{IsPrintableStep}

module _ (table : ConflictRelation) where
  exchanged-within : (at : ℕ) (xs ys : List Entry) → exchanged table at xs ≡ Some ys → (at < length xs) × (length ys ≡ length xs)
  exchanged-within at [] ys e = absurd (cc)
  exchanged-within zero (a ∷ xs) ys e = absurd (cc)
  exchanged-within (suc zero) (a ∷ []) ys e = absurd (cc)
  exchanged-within (suc zero) (a ∷ b ∷ xs) ys e = by (can_change table a b) e
    where
      by : (t : Bool) → cond t (Some (b ∷ a ∷ xs)) None ≡ Some ys → (1 < length (a ∷ b ∷ xs)) × (length ys ≡ length (a ∷ b ∷ xs))
      by true g = let same : b ∷ a ∷ xs ≡ ys = cc in (omega arith, ap length (sym same))
      by false g = absurd (cc)
  exchanged-within (suc (suc at)) (a ∷ xs) ys e = by (exchanged table (suc at) xs) (λ zs g. exchanged-within (suc at) xs zs g) e
    where
      by : (o : Option (List Entry)) → ((zs : List Entry) → o ≡ Some zs → (suc at < length xs) × (length zs ≡ length xs)) → option_map (λ zs. a ∷ zs) o ≡ Some ys
          → (suc (suc at) < length (a ∷ xs)) × (length ys ≡ length (a ∷ xs))
      by None rest g = absurd (cc)
      by (Some zs) rest g =
          let same : a ∷ zs ≡ ys = cc in
          let one = rest zs refl in
          let long = one.0 in
          (omega (arith, long), ap length (sym same) ∙ ap suc one.1)

  cancelled-within : (at : ℕ) (xs ys : List Entry) → cancelled at xs ≡ Some ys → at < length xs
  cancelled-within at [] ys e = absurd (cc)
  cancelled-within zero (a ∷ xs) ys e = absurd (cc)
  cancelled-within (suc zero) (a ∷ []) ys e = absurd (cc)
  cancelled-within (suc zero) (a ∷ b ∷ xs) ys e = omega arith
  cancelled-within (suc (suc at)) (a ∷ xs) ys e = by (cancelled (suc at) xs) (λ zs g. cancelled-within (suc at) xs zs g) e
    where
      by : (o : Option (List Entry)) → ((zs : List Entry) → o ≡ Some zs → suc at < length xs) → option_map (λ zs. a ∷ zs) o ≡ Some ys → suc (suc at) < length (a ∷ xs)
      by None rest g = absurd (cc)
      by (Some zs) rest g = let less = rest zs refl in omega (arith, less)

  on-within : (n from : ℕ) (xs ys : List Entry) → carried_on table n from xs ≡ Some ys → (n ≡ 0) ⊎ (from + n ≤ length xs)
  on-within zero from xs ys e = inl refl
  on-within (suc n) from xs ys e = by (exchanged table from xs) refl (λ zs g. on-within n (from + 1) zs ys g) e
    where
      both : (zs : List Entry) → exchanged table from xs ≡ Some zs → (n ≡ 0) ⊎ (from + 1 + n ≤ length zs) → (suc n ≡ 0) ⊎ (from + suc n ≤ length xs)
      both zs is (inl none) = let one = (exchanged-within from xs zs is).0 in inr (omega (arith, one, none))
      both zs is (inr more) = let one = (exchanged-within from xs zs is).1 in inr (omega (arith, one, more))

      by : (o : Option (List Entry)) → exchanged table from xs ≡ o → ((zs : List Entry) → carried_on table n (from + 1) zs ≡ Some ys → (n ≡ 0) ⊎ (from + 1 + n ≤ length zs))
          → and_then o (carried_on table n (from + 1)) ≡ Some ys → (suc n ≡ 0) ⊎ (from + suc n ≤ length xs)
      by None is rest g = absurd (cc)
      by (Some zs) is rest g = both zs is (rest zs g)

  one-small : (s : TraceStep) (xs ys : List Entry) → length xs ≤ 32768 → applied table s xs ≡ Some ys → IsPrintableStep s
  one-small (Cancel at) xs ys few e = let less = cancelled-within at xs ys e in omega (arith, less, few)
  one-small (Move from to) xs ys few e = by (nat_lt from to) refl e
    where
      reach : from < to → (to - from ≡ 0) ⊎ (from + (to - from) ≤ length xs) → (from ≤ 4294967295) × (to ≤ 4294967295)
      reach less (inl none) = absurd (omega (arith, less, none))
      reach less (inr far) = (omega (arith, less, far, few), omega (arith, less, far, few))

      back : (t : Bool) → (nat_lt to from && nat_le from (length xs)) ≡ t → cond t (carried_back table (from - to) from xs) None ≡ Some ys → (from ≤ 4294967295) × (to ≤ 4294967295)
      back true is g =
          let parts = and_parts (nat_lt to from) (nat_le from (length xs)) is in
          let less = ltb-true to from parts.0 in
          let far = leb-true from (length xs) parts.1 in
          (omega (arith, less, far, few), omega (arith, less, far, few))
      back false is g = absurd (cc)

      by : (t : Bool) → nat_lt from to ≡ t → cond t (carried_on table (to - from) from xs) (cond (nat_lt to from && nat_le from (length xs)) (carried_back table (from - to) from xs) None) ≡ Some ys
          → (from ≤ 4294967295) × (to ≤ 4294967295)
      by true is g = reach (ltb-true from to is) (on-within (to - from) from xs ys g)
      by false is g = back (nat_lt to from && nat_le from (length xs)) refl g

  pub steps-small : (ss : List TraceStep) (xs ys : List Entry) → length xs ≤ 32768 → applied_all table ss xs ≡ Some ys → (s : TraceStep) → Among s ss → IsPrintableStep s
  steps-small [] xs ys few e s is = absurd is
  steps-small (x ∷ ss) xs ys few e s is = by (applied table x xs) refl (λ zs g. steps-small ss zs ys g) e is
    where
      by : (o : Option (List Entry)) → applied table x xs ≡ o → ((zs : List Entry) → length zs ≤ 32768 → applied_all table ss zs ≡ Some ys → (s : TraceStep) → Among s ss → IsPrintableStep s)
          → and_then o (applied_all table ss) ≡ Some ys → Among s (x ∷ ss) → IsPrintableStep s
      by None one rest g there = absurd (cc)
      by (Some zs) one rest g (inl here) = subst (IsPrintableStep) here (one-small x xs zs few one)
      by (Some zs) one rest g (inr later) = let short = length-applied table x xs zs one in rest zs (omega (arith, short, few)) g s later

-- The printed trace has at most two steps for each undo and one for each entry.

drop-less : (m : ℕ) (xs : List Entry) → length (drop m xs) ≤ length xs
drop-less zero [] = omega arith
drop-less zero (x ∷ xs) = omega arith
drop-less (suc m) [] = omega arith
drop-less (suc m) (x ∷ xs) = let less = drop-less m xs in omega (arith, less)

parted-less : (k m : ℕ) (xs : List Entry) → k ≤ m → length (take k xs ++ drop m xs) ≤ length xs
parted-less zero m [] le = drop-less m []
parted-less zero m (x ∷ xs) le = drop-less m (x ∷ xs)
parted-less (suc k) zero xs le = absurd (omega arith)
parted-less (suc k) (suc m) [] le = omega arith
parted-less (suc k) (suc m) (x ∷ xs) le = let less = parted-less k m xs (omega arith) in omega (arith, less)

without-less : (at : ℕ) (xs : List Entry) → length (without at xs) ≤ length xs
without-less at xs = parted-less (at - 1) at xs (omega arith)

between-few : (from to : ℕ) → length (move_between from to) ≤ 1
between-few from to = by (nat_eq from to)
  where
    by : (t : Bool) → length (cond t [] (Move from to ∷ [])) ≤ 1
    by true = omega arith
    by false = omega arith

cancels-few : (n : ℕ) (es : List Entry) → (length (cancel_phase n es).steps ≤ 2 * n) × (length (cancel_phase n es).list ≤ length es)
cancels-few zero es = (omega arith, omega arith)
cancels-few (suc n) es = by (first_undo es) (λ xs. cancels-few n xs)
  where
    by : (o : Option ℕ) → ((xs : List Entry) → (length (cancel_phase n xs).steps ≤ 2 * n) × (length (cancel_phase n xs).list ≤ length xs))
        → (length (cancel_one (cancel_phase n) es o).steps ≤ 2 * suc n) × (length (cancel_one (cancel_phase n) es o).list ≤ length es)
    by None rest = (omega arith, omega arith)
    by (Some u) rest =
        let f = place_taken_back u es in
        let left = without f (without u es) in
        let later = rest left in
        let one = between-few f (u - 1) in
        let steps = length-append (move_between f (u - 1)) (Cancel (u - 1) ∷ []) in
        let all = length-append (move_between f (u - 1) ++ Cancel (u - 1) ∷ []) (cancel_phase n left).steps in
        let less = without-less u es in
        let more = without-less f (without u es) in
        (omega (arith, later.0, one, steps, all), omega (arith, later.1, less, more))

serials-few : (n : ℕ) (order : List ℕ) (t : ℕ) (es : List Entry) → length (serial_phase n order t es).steps ≤ n
serials-few zero order t es = omega arith
serials-few (suc n) order t es =
    let k = first_to_end order es in
    let one = between-few (t + k - 1) t in
    let rest = serials-few n order (t + 1) (without k es) in
    let all = length-append (move_between (t + k - 1) t) (serial_phase n order (t + 1) (without k es)).steps in
    omega (arith, one, rest, all)

pub trace-few : (order : List ℕ) (es : List Entry) → length (trace_of order es).steps ≤ 3 * length es
trace-few order es =
    let first = cancel_phase (length es) es in
    let few = cancels-few (length es) es in
    let later = serials-few (length first.list) order 1 first.list in
    let all = length-append first.steps (serial_phase (length first.list) order 1 first.list).steps in
    omega (arith, few.0, few.1, later, all)
