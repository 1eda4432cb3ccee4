-- What comes of steps, and which is refused.
use Rattle.std.proofs.Common.{◌≡◌, ℕ, ◌+◌, List, [], ◌∷◌, ◌++◌, length, Option, Some, None, refl, ap, ◌∙◌, arith}
use Rattle.process_tree.specs.declared.entry.Entry.{Entry}
use Rattle.schedule_model.specs.declared.trace_step.TraceStep.{TraceStep}
use Rattle.schedule_model.specs.Conflict.{ConflictRelation}
use Rattle.schedule_model.specs.Reduction.{applied, applied_all, and_then}
use Rattle.trace_verify.specs.Verdicts.{last_list, refused, goes_on, outcome_from}

-- all steps apply
pub came-to : (table : ConflictRelation) (n : ℕ) (steps : List TraceStep) (xs ys : List Entry) → outcome_from table n steps xs ≡ last_list ys → applied_all table steps xs ≡ Some ys
came-to table n [] xs ys e = let same_list : xs ≡ ys = cc in ap Some same_list
came-to table n (s ∷ steps) xs ys e = by (applied table s xs) (λ zs. came-to table (n + 1) steps zs ys) e
  where
    by : (o : Option (List Entry)) → ((zs : List Entry) → outcome_from table (n + 1) steps zs ≡ last_list ys → applied_all table steps zs ≡ Some ys)
        → goes_on n (outcome_from table (n + 1) steps) o ≡ last_list ys → and_then o (applied_all table steps) ≡ Some ys
    by None rest f = absurd (cc)
    by (Some zs) rest f = rest zs f

-- and where all apply, no step is refused
pub comes-to : (table : ConflictRelation) (n : ℕ) (steps : List TraceStep) (xs ys : List Entry) → applied_all table steps xs ≡ Some ys → outcome_from table n steps xs ≡ last_list ys
comes-to table n [] xs ys e = let same_list : xs ≡ ys = cc in ap last_list same_list
comes-to table n (s ∷ steps) xs ys e = by (applied table s xs) (λ zs. comes-to table (n + 1) steps zs ys) e
  where
    by : (o : Option (List Entry)) → ((zs : List Entry) → applied_all table steps zs ≡ Some ys → outcome_from table (n + 1) steps zs ≡ last_list ys)
        → and_then o (applied_all table steps) ≡ Some ys → goes_on n (outcome_from table (n + 1) steps) o ≡ last_list ys
    by None rest f = absurd (cc)
    by (Some zs) rest f = rest zs f

-- a step is the first that doesn't apply
pub record FirstRefused (table : ConflictRelation) (n : ℕ) (steps : List TraceStep) (xs : List Entry) (k : ℕ) : Type 0 where
  pub list : List Entry
  pub before : List TraceStep
  pub step : TraceStep
  pub behind : List TraceStep
  pub split : steps ≡ before ++ step ∷ behind
  pub counted : k ≡ length before + n
  pub applies : applied_all table before xs ≡ Some list
  pub none : applied table step list ≡ None

pub refused-at : (table : ConflictRelation) (n : ℕ) (steps : List TraceStep) (xs : List Entry) (k : ℕ) → outcome_from table n steps xs ≡ refused k → FirstRefused table n steps xs k
refused-at table n [] xs k e = absurd (cc)
refused-at table n (s ∷ steps) xs k e = by (applied table s xs) refl (λ zs. refused-at table (n + 1) steps zs k) e
  where
    by : (o : Option (List Entry)) → applied table s xs ≡ o → ((zs : List Entry) → outcome_from table (n + 1) steps zs ≡ refused k → FirstRefused table (n + 1) steps zs k)
        → goes_on n (outcome_from table (n + 1) steps) o ≡ refused k → FirstRefused table n (s ∷ steps) xs k
    by None is rest f =
        let same_number : n ≡ k = cc in
        record { list = xs; before = []; step = s; behind = steps; split = refl; counted = omega (arith, same_number); applies = refl; none = is }
    by (Some zs) is rest f =
        let later = rest zs f in
        record {
          list = later.list;
          before = s ∷ later.before;
          step = later.step;
          behind = later.behind;
          split = ap (λ ss. s ∷ ss) later.split;
          counted = omega (arith, later.counted);
          applies = ap (λ o. and_then o (applied_all table later.before)) is ∙ later.applies;
          none = later.none;
        }
