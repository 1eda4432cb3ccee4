-- What steps that apply keep of a list.
use Rattle.std.proofs.Common.{◌≡◌, inl, inr, ℕ, ◌+◌, ◌≤◌, List, [], ◌∷◌, ◌++◌, length, length-append, Some, None, sym, ap, ◌∙◌, subst, arith}
use Rattle.process_tree.specs.declared.entry.Entry.{Entry}
use Rattle.process_tree.specs.Order.{Each}
use Rattle.schedule_model.specs.declared.trace_step.TraceStep.{TraceStep}
use Rattle.schedule_model.specs.Conflict.{ConflictRelation}
use Rattle.schedule_model.specs.Reduction.{IsReduced, AreReduced, no_step, step_first, applied}
use Rattle.schedule_model.proofs.Chains.{applied_is}
use Rattle.trace_verify.specs.Verdicts.{Outcome, refused, goes_on, outcome_from}

module _ (P : Entry → Type 0) where
  each-append : (xs ys : List Entry) → Each P xs → Each P ys → Each P (xs ++ ys)
  each-append [] ys are also = also
  each-append (x ∷ xs) ys are also = (are.0, each-append xs ys are.1 also)

  each-front : (xs ys : List Entry) → Each P (xs ++ ys) → Each P xs
  each-front [] ys are = tt
  each-front (x ∷ xs) ys are = (are.0, each-front xs ys are.1)

  each-behind : (xs ys : List Entry) → Each P (xs ++ ys) → Each P ys
  each-behind [] ys are = are
  each-behind (x ∷ xs) ys are = each-behind xs ys are.1

module _ (table : ConflictRelation) (P : Entry → Type 0) where
  -- a step loses no property that each entry has
  one-kept : (xs ys : List Entry) → IsReduced table xs ys → Each P xs → Each P ys
  one-kept xs ys (inl one) are =
      let whole : Each P (one.0 ++ one.2 ∷ one.3 ∷ one.1) = subst (Each P) one.4 are in
      let front = each-front P one.0 (one.2 ∷ one.3 ∷ one.1) whole in
      let behind = each-behind P one.0 (one.2 ∷ one.3 ∷ one.1) whole in
      subst (Each P) (sym one.5) (each-append P one.0 (one.3 ∷ one.2 ∷ one.1) front (behind.1.0, (behind.0, behind.1.1)))
  one-kept xs ys (inr one) are =
      let whole : Each P (one.0 ++ one.2 ∷ one.3 ∷ one.1) = subst (Each P) one.4 are in
      let front = each-front P one.0 (one.2 ∷ one.3 ∷ one.1) whole in
      let behind = each-behind P one.0 (one.2 ∷ one.3 ∷ one.1) whole in
      subst (Each P) (sym one.5) (each-append P one.0 one.1 front behind.1.1)

  pub each-kept : (xs ys : List Entry) → AreReduced table xs ys → Each P xs → Each P ys
  each-kept xs ys no_step are = are
  each-kept xs ys (step_first {ys = zs} one rest) are = each-kept zs ys rest (one-kept xs zs one are)

  pub each-applied : (s : TraceStep) (xs ys : List Entry) → applied table s xs ≡ Some ys → Each P xs → Each P ys
  each-applied s xs ys e are = each-kept xs ys (applied_is table s xs ys e) are

module _ (table : ConflictRelation) where
  -- nor makes a list longer
  one-length : (xs ys : List Entry) → IsReduced table xs ys → length ys ≤ length xs
  one-length xs ys (inl one) =
      let was : length xs ≡ length one.0 + length (one.2 ∷ one.3 ∷ one.1) = ap length one.4 ∙ length-append one.0 (one.2 ∷ one.3 ∷ one.1) in
      let is : length ys ≡ length one.0 + length (one.3 ∷ one.2 ∷ one.1) = ap length one.5 ∙ length-append one.0 (one.3 ∷ one.2 ∷ one.1) in
      omega (arith, was, is)
  one-length xs ys (inr one) =
      let was : length xs ≡ length one.0 + length (one.2 ∷ one.3 ∷ one.1) = ap length one.4 ∙ length-append one.0 (one.2 ∷ one.3 ∷ one.1) in
      let is : length ys ≡ length one.0 + length one.1 = ap length one.5 ∙ length-append one.0 one.1 in
      omega (arith, was, is)

  lengths : (xs ys : List Entry) → AreReduced table xs ys → length ys ≤ length xs
  lengths xs ys no_step = omega arith
  lengths xs ys (step_first {ys = zs} one rest) =
      let first = one-length xs zs one in
      let later = lengths zs ys rest in
      omega (arith, first, later)

  pub length-applied : (s : TraceStep) (xs ys : List Entry) → applied table s xs ≡ Some ys → length ys ≤ length xs
  length-applied s xs ys e = lengths xs ys (applied_is table s xs ys e)

  -- steps go on where the first applies
  pub outcome-next : (s : TraceStep) (rest after : List TraceStep) (n : ℕ) (xs ys : List Entry) (all : Outcome) → rest ≡ s ∷ after → applied table s xs ≡ Some ys
      → outcome_from table n rest xs ≡ all → outcome_from table (n + 1) after ys ≡ all
  outcome-next s rest after n xs ys all is one so_far =
      sym (ap (goes_on n (outcome_from table (n + 1) after)) one) ∙ (sym (ap (λ ss. outcome_from table n ss xs) is) ∙ so_far)

  -- and stop where it doesn't
  pub outcome-here : (s : TraceStep) (rest after : List TraceStep) (n : ℕ) (xs : List Entry) (all : Outcome) → rest ≡ s ∷ after → applied table s xs ≡ None
      → outcome_from table n rest xs ≡ all → all ≡ refused n
  outcome-here s rest after n xs all is none so_far =
      sym so_far ∙ (ap (λ ss. outcome_from table n ss xs) is ∙ ap (goes_on n (outcome_from table (n + 1) after)) none)
