-- Binding step after step.
use Rattle.commute_table.specs.Document.{number_from, number_of}
use Rattle.process_tree.specs.Making.{same_text}
use Rattle.process_tree.specs.Order.{Each}
use Rattle.std.proofs.Common.{◌≡◌, ℕ, ◌+◌, ◌≤◌, List, [], ◌∷◌, ◌++◌, length, get_or, drop, Some, Result, Ok, Err, refl, sym, ap, ◌∙◌, ◌<◌, Bool, true, false, Option, None, arith, length-append, subst, if◌then◌else◌}
use Rattle.std.specs.List.{slice_get}
use Rattle.std.proofs.lemmas.List.{drop_more, drop_all}
use Rattle.std.proofs.lemmas.Option.{slice_get_within, slice_get-get_or}
use Rattle.process_tree.specs.declared.step.Step.{Step}
use Rattle.commute_table.specs.declared.op.Op.{Op}
use Rattle.commute_table.specs.declared.errors.BindError.{BindError}
use Rattle.commute_table.specs.declared.errors.BindError.TheVariants.{UnknownOp, NoMemory}
use Rattle.commute_table.specs.Binding.{Fails, ◌>>=◌, number_or_unknown, number_bound, numbers_bound}

-- the steps from the n-th on
steps_from : (steps : List Step) (n : ℕ) (s : Step) → slice_get steps n ≡ Some s → drop n steps ≡ s ∷ drop (n + 1) steps
steps_from steps n s e =
    let lt = slice_get_within steps n s e in
    let is : get_or steps n s ≡ s = some_is (get_or steps n s) s (sym (slice_get-get_or steps n s lt) ∙ e) in
    drop_more steps n s lt ∙ ap (λ (x : Step). x ∷ drop (n + 1) steps) is
  where
    some_is : (x y : Step) → Some x ≡ Some y → x ≡ y
    some_is x y e = cc

pub bound_next : (ops : List Op) (steps : List Step) (n k : ℕ) (s : Step) (done : List ℕ) (total : Result (List ℕ) BindError) → slice_get steps n ≡ Some s → number_bound ops s.op ≡ Ok k
    → numbers_bound ops done (drop n steps) ≡ total → numbers_bound ops (done ++ k ∷ []) (drop (n + 1) steps) ≡ total
unfolding numbers_bound
bound_next ops steps n k s done total e found h =
    let one : numbers_bound ops done (drop n steps) ≡ numbers_bound ops (done ++ k ∷ []) (drop (n + 1) steps) = rw (steps_from steps n s e, found) refl in
    sym one ∙ h

pub bound_fail : (error : BindError) (ops : List Op) (steps : List Step) (n : ℕ) (s : Step) (done : List ℕ) (total : Result (List ℕ) BindError) → slice_get steps n ≡ Some s → Fails error (number_bound ops s.op)
    → numbers_bound ops done (drop n steps) ≡ total → Fails error total
unfolding numbers_bound
bound_fail NoMemory ops steps n s done total e failed h = tt
bound_fail (UnknownOp name) ops steps n s done total e failed h =
    let one : numbers_bound ops done (drop n steps) ≡ Err (UnknownOp name) = rw (steps_from steps n s e, failed) refl in
    sym h ∙ one

pub bound_all : (ops : List Op) (steps : List Step) (n : ℕ) (done : List ℕ) (total : Result (List ℕ) BindError) → length steps ≤ n → numbers_bound ops done (drop n steps) ≡ total → total ≡ Ok done
unfolding numbers_bound
bound_all ops steps n done total le h = sym h ∙ rw (drop_all n steps le) refl

-- a number that is found is that of an operation
number_within : (n : ℕ) (ops : List Op) (name : List ℕ) (k : ℕ) → number_from n ops name ≡ Some k → k < n + length ops
number_within n [] name k e = absurd (cc)
number_within n (o ∷ ops) name k e = by_test (same_text o.name name) refl (λ f. number_within (n + 1) ops name k f)
  where
    by_test : (b : Bool) → same_text o.name name ≡ b → (number_from (n + 1) ops name ≡ Some k → k < n + 1 + length ops) → k < n + length (o ∷ ops)
    by_test true is rest =
        let found : Some n ≡ Some k = sym (ap (λ b. if b then Some n else number_from (n + 1) ops name) is) ∙ e in
        let same : n ≡ k = cc in
        omega arith
    by_test false is rest = omega (arith, rest (sym (ap (λ b. if b then Some n else number_from (n + 1) ops name) is) ∙ e))

one_more_within : (m : ℕ) (ks : List ℕ) (k : ℕ) → Each (λ n. n < m) ks → k < m → Each (λ n. n < m) (ks ++ k ∷ [])
one_more_within m [] k each one = (one, tt)
one_more_within m (x ∷ ks) k each one = (each.0, one_more_within m ks k each.1 one)

-- there is one number for each step, and each is that of an operation
pub bound_counts : (ops : List Op) (steps : List Step) (done all : List ℕ) → numbers_bound ops done steps ≡ Ok all → Each (λ n. n < length ops) done
    → (length all ≡ length done + length steps) × Each (λ n. n < length ops) all
unfolding numbers_bound
bound_counts ops [] done all e within =
    let same : done ≡ all = cc in
    (omega (arith, ap length same), subst (Each (λ n. n < length ops)) same within)
bound_counts ops (s ∷ steps) done all e within = by_number (number_of ops s.op) refl (λ k f w. bound_counts ops steps (done ++ k ∷ []) all f w)
  where
    go_on : Option ℕ → Result (List ℕ) BindError
    go_on o = number_or_unknown s.op o >>= (λ n. numbers_bound ops (done ++ n ∷ []) steps)

    by_number : (o : Option ℕ) → number_of ops s.op ≡ o
        → ((k : ℕ) → numbers_bound ops (done ++ k ∷ []) steps ≡ Ok all → Each (λ n. n < length ops) (done ++ k ∷ []) → (length all ≡ length (done ++ k ∷ []) + length steps) × Each (λ n. n < length ops) all)
        → (length all ≡ length done + length (s ∷ steps)) × Each (λ n. n < length ops) all
    by_number None is rest = let failed : Err (UnknownOp s.op) ≡ Ok all = sym (ap go_on is) ∙ e in absurd (cc)
    by_number (Some k) is rest =
        let low = number_within 0 ops s.op k is in
        let more = rest k (sym (ap go_on is) ∙ e) (one_more_within (length ops) done k within (omega (arith, low))) in
        (omega (arith, more.0, length-append done (k ∷ [])), more.1)
