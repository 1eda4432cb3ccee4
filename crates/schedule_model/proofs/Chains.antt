-- Trace steps that apply are exchanges of neighbours and cancels, one after another.
use Rattle.std.proofs.Common.{◌≡◌, inl, inr, ℕ, zero, suc, ◌+◌, ◌-◌, Bool, true, false, cond, ◌&&◌, List, [], ◌∷◌, length, Option, Some, None, sym, refl, ap, ◌∙◌, subst, nat_lt, nat_le}
use Rattle.std.specs.Option.{option_map}
use Rattle.process_tree.specs.declared.entry.Entry.{Entry}
use Rattle.schedule_model.specs.declared.trace_step.TraceStep.{TraceStep}
use Rattle.schedule_model.specs.declared.trace_step.TraceStep.TheVariants.{Move, Cancel}
use Rattle.schedule_model.specs.Conflict.{ConflictRelation}
use Rattle.schedule_model.specs.Reduction.{can_change, is_pair, IsExchange, IsCancel, IsReduced, AreReduced, no_step, step_first, exchanged, cancelled, and_then, carried_on, carried_back, applied, applied_all}
use Rattle.schedule_model.specs.Laws.{AppliedStepsReduce}

some_same : (xs ys : List Entry) → Some xs ≡ Some ys → xs ≡ ys
some_same xs ys e = cc

module _ (table : ConflictRelation) where
  -- one list of steps after another
  pub reduced-append : {xs ys zs : List Entry} → AreReduced table xs ys → AreReduced table ys zs → AreReduced table xs zs
  reduced-append no_step more = more
  reduced-append (step_first one rest) more = step_first one (reduced-append rest more)

  pub reduced-one : {xs ys : List Entry} → IsReduced table xs ys → AreReduced table xs ys
  reduced-one one = step_first one no_step

  reduced-to : {xs ys zs : List Entry} → AreReduced table xs ys → ys ≡ zs → AreReduced table xs zs
  reduced-to steps same = subst (AreReduced table _) same steps

  exchange-first : (a b : Entry) (xs ys : List Entry) (c : Bool) → can_change table a b ≡ c → cond c (Some (b ∷ a ∷ xs)) None ≡ Some ys → IsExchange table (a ∷ b ∷ xs) ys
  exchange-first a b xs ys true is e = ([], xs, a, b, refl, sym (some_same (b ∷ a ∷ xs) ys e), is)
  exchange-first a b xs ys false is e = absurd (cc)

  exchange-later : (a : Entry) (xs ys : List Entry) (o : Option (List Entry)) → ((zs : List Entry) → o ≡ Some zs → IsExchange table xs zs)
      → option_map (λ zs. a ∷ zs) o ≡ Some ys → IsExchange table (a ∷ xs) ys
  exchange-later a xs ys None rest e = absurd (cc)
  exchange-later a xs ys (Some zs) rest e =
      let one = rest zs refl in
      (a ∷ one.0, one.1, one.2, one.3, ap (λ es. a ∷ es) one.4, sym (some_same (a ∷ zs) ys e) ∙ ap (λ es. a ∷ es) one.5, one.6)

  exchanged_is : (at : ℕ) (xs ys : List Entry) → exchanged table at xs ≡ Some ys → IsExchange table xs ys
  exchanged_is at [] ys e = absurd (cc)
  exchanged_is zero (a ∷ xs) ys e = absurd (cc)
  exchanged_is (suc zero) (a ∷ []) ys e = absurd (cc)
  exchanged_is (suc zero) (a ∷ b ∷ xs) ys e = exchange-first a b xs ys (can_change table a b) refl e
  exchanged_is (suc (suc at)) (a ∷ xs) ys e = exchange-later a xs ys (exchanged table (suc at) xs) (λ zs f. exchanged_is (suc at) xs zs f) e

  cancel-first : (a b : Entry) (xs ys : List Entry) (c : Bool) → is_pair a b ≡ c → cond c (Some xs) None ≡ Some ys → IsCancel (a ∷ b ∷ xs) ys
  cancel-first a b xs ys true is e = ([], xs, a, b, refl, sym (some_same xs ys e), is)
  cancel-first a b xs ys false is e = absurd (cc)

  cancel-later : (a : Entry) (xs ys : List Entry) (o : Option (List Entry)) → ((zs : List Entry) → o ≡ Some zs → IsCancel xs zs)
      → option_map (λ zs. a ∷ zs) o ≡ Some ys → IsCancel (a ∷ xs) ys
  cancel-later a xs ys None rest e = absurd (cc)
  cancel-later a xs ys (Some zs) rest e =
      let one = rest zs refl in
      (a ∷ one.0, one.1, one.2, one.3, ap (λ es. a ∷ es) one.4, sym (some_same (a ∷ zs) ys e) ∙ ap (λ es. a ∷ es) one.5, one.6)

  cancelled_is : (at : ℕ) (xs ys : List Entry) → cancelled at xs ≡ Some ys → IsCancel xs ys
  cancelled_is at [] ys e = absurd (cc)
  cancelled_is zero (a ∷ xs) ys e = absurd (cc)
  cancelled_is (suc zero) (a ∷ []) ys e = absurd (cc)
  cancelled_is (suc zero) (a ∷ b ∷ xs) ys e = cancel-first a b xs ys (is_pair a b) refl e
  cancelled_is (suc (suc at)) (a ∷ xs) ys e = cancel-later a xs ys (cancelled (suc at) xs) (λ zs f. cancelled_is (suc at) xs zs f) e

  -- one step that gives a list, and then others that lead on from it
  then_steps : (f : List Entry → Option (List Entry)) (xs ys : List Entry) (o : Option (List Entry)) → ((zs : List Entry) → o ≡ Some zs → AreReduced table xs zs)
      → ((zs : List Entry) → f zs ≡ Some ys → AreReduced table zs ys) → and_then o f ≡ Some ys → AreReduced table xs ys
  then_steps f xs ys None first rest e = absurd (cc)
  then_steps f xs ys (Some zs) first rest e = reduced-append (first zs refl) (rest zs e)

  pub carried_on_is : (n from : ℕ) (xs ys : List Entry) → carried_on table n from xs ≡ Some ys → AreReduced table xs ys
  carried_on_is zero from xs ys e = reduced-to no_step (some_same xs ys e)
  carried_on_is (suc n) from xs ys e =
      then_steps (carried_on table n (from + 1)) xs ys (exchanged table from xs) (λ zs f. reduced-one (inl (exchanged_is from xs zs f))) (λ zs f. carried_on_is n (from + 1) zs ys f) e

  pub carried_back_is : (n from : ℕ) (xs ys : List Entry) → carried_back table n from xs ≡ Some ys → AreReduced table xs ys
  carried_back_is zero from xs ys e = reduced-to no_step (some_same xs ys e)
  carried_back_is (suc n) from xs ys e =
      then_steps (carried_back table n (from - 1)) xs ys (exchanged table (from - 1) xs) (λ zs f. reduced-one (inl (exchanged_is (from - 1) xs zs f))) (λ zs f. carried_back_is n (from - 1) zs ys f) e

  moved_is : (from to : ℕ) (xs ys : List Entry) (less more : Bool)
      → cond less (carried_on table (to - from) from xs) (cond more (carried_back table (from - to) from xs) None) ≡ Some ys → AreReduced table xs ys
  moved_is from to xs ys true more e = carried_on_is (to - from) from xs ys e
  moved_is from to xs ys false true e = carried_back_is (from - to) from xs ys e
  moved_is from to xs ys false false e = absurd (cc)

  -- a trace step that applies is such steps
  pub applied_is : (s : TraceStep) (xs ys : List Entry) → applied table s xs ≡ Some ys → AreReduced table xs ys
  applied_is (Move from to) xs ys e = moved_is from to xs ys (nat_lt from to) (nat_lt to from && nat_le from (length xs)) e
  applied_is (Cancel at) xs ys e = reduced-one (inr (cancelled_is at xs ys e))

pub applied-steps_reduce : AppliedStepsReduce
applied-steps_reduce table [] xs ys e = reduced-to table (no_step) (some_same xs ys e)
applied-steps_reduce table (s ∷ ss) xs ys e =
    then_steps table (applied_all table ss) xs ys (applied table s xs) (λ zs f. applied_is table s xs zs f) (λ zs f. applied-steps_reduce table ss zs ys f) e
