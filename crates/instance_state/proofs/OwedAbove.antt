-- What a process owes first is above each step that it did or was refused.
use Rattle.std.proofs.Common.{◌≡◌, ⊎_elim, subst, ℕ, ◌+◌, ◌<◌, ◌≤◌, max, zero, suc, true, false, List, [], ◌∷◌, ◌++◌, length, take, Option, Some, None, refl, sym, ap, ◌∙◌, arith, append_assoc, nat_eq, if◌then◌else◌}
use Rattle.std.proofs.lemmas.Bool.{cases_lt, cases_Bool}
use Rattle.process_tree.specs.Laws.{IsTreeShape, IsInWay}
use Rattle.process_tree.specs.Order.{IsLaidOut, has}
use Rattle.process_tree.specs.Shape.{commits_after, Shape, branch_to, first_of, fixed_len, goes_on_to, greatest, next_steps, last_after, last_path, with_rest}
use Rattle.process_tree.specs.Recovery.{forward}
use Rattle.process_tree.specs.Termination.{IsWellFormed}
use Rattle.process_tree.proofs.Branches.{has_here}
use Rattle.process_tree.proofs.Classes.{owed_commits, owed_not_left}
use Rattle.process_tree.proofs.Fixed.{fixed_more}
use Rattle.process_tree.proofs.InTurn.{goes_up, goes_within, greatest_is}
use Rattle.process_tree.proofs.Intervals.{Begins, begins_from, begins_to}
use Rattle.process_tree.proofs.LastPath.{greatest_ge}
use Rattle.process_tree.proofs.Onward.{onward, goes_along, goes_on, branch_from}
use Rattle.process_tree.proofs.TreeLaws.{paths_lie_in_order, ways_are_intervals}
use Rattle.schedule_model.proofs.Undoing.{owed_without}
use Rattle.instance_state.proofs.Lists.{SplitAt, length_push, split_at, take_all}
use Rattle.instance_state.proofs.NextWays.{begins_one, begins_push, onward_first}

-- each step of what is done goes on from those before it
pub goes_at : (t : Shape) (w : List ℕ) (d k : ℕ) → goes_on_to t w d ≡ true → (s : SplitAt k w) → goes_on_to t (take k w) s.here ≡ true
goes_at t w d k on s =
    let along = goes_along t w d on in
    goes_on t (take k w) s.here along.0 along.1 (onward_first (take k w) s.rest along.0 s.here d (sym (ap (λ l. onward l along.0) s.is) ∙ along.2))

-- a step behind an earlier way is below a later way
pub behind_is_less : (t : Shape) → IsTreeShape t → (w : List ℕ) (d e k : ℕ) → goes_on_to t w d ≡ true → (s : SplitAt k w) → goes_on_to t (take k w) e ≡ true → s.here < e → d < e
behind_is_less t tree w d e k on s other less = ⊎_elim (λ lt. lt) (λ le. absurd (crossing le)) (cases_lt d e)
  where
    laid : IsLaidOut (length t.kinds) t.paths
    laid = paths_lie_in_order t tree

    u : List ℕ
    u = take k w

    x : ℕ
    x = s.here

    x_in : IsInWay t u x x
    x_in = begins_to (u ++ x ∷ []) (branch_to t x ++ x ∷ [])
        (subst (λ l. Begins (u ++ x ∷ []) (l ++ x ∷ [])) (sym (branch_from t u x laid.in_order laid.rising (goes_at t w d k on s))) (begins_push u [] x))

    d_in : IsInWay t u x d
    d_in = begins_to (u ++ x ∷ []) (branch_to t d ++ d ∷ [])
        (subst (Begins (u ++ x ∷ [])) (sym (append_assoc u (x ∷ s.rest) (d ∷ [])) ∙ ap (λ l. l ++ d ∷ []) (sym s.is ∙ sym (branch_from t w d laid.in_order laid.rising on))) (begins_push u (s.rest ++ d ∷ []) x))

    crossing : e ≤ d → ⊥
    crossing le =
        let e_in = ways_are_intervals t tree u x x e d (goes_within t (length t.kinds) w d laid.within on) x_in d_in (omega (arith, less)) le in
        let same = begins_one u x e (subst (λ l. Begins (u ++ x ∷ []) (l ++ e ∷ [])) (branch_from t u e laid.in_order laid.rising other) (begins_from (u ++ x ∷ []) (branch_to t e ++ e ∷ []) e_in)) in
        absurd (omega (arith, less))

first_has : (xs : List ℕ) (e : ℕ) → first_of xs ≡ Some e → has e xs ≡ true
first_has [] e is = absurd (cc)
first_has (x ∷ xs) e is = has_here e x xs (cc)

-- what is owed first is the last way from what is fixed
pub owed_is_last : (t : Shape) (w : List ℕ) (e : ℕ) → first_of (forward t w) ≡ Some e → (0 < fixed_len t w) × (greatest (next_steps t (take (fixed_len t w) w)) ≡ Some e)
owed_is_last t w e is = ⊎_elim (λ none. absurd (let f = sym (ap (λ c. first_of (if c then [] else last_after t (take (fixed_len t w) w))) none) ∙ is in cc)) (λ some. by_count (length t.kinds) refl some) (cases_Bool (nat_eq (fixed_len t w) 0))
  where
    first_rest : (rest : ℕ → List ℕ) (o : Option ℕ) → first_of (with_rest rest o) ≡ o
    first_rest rest None = refl
    first_rest rest (Some d) = refl

    not_zero : (n : ℕ) → nat_eq n 0 ≡ false → 0 < n
    not_zero zero f = absurd (cc)
    not_zero (suc n) f = omega arith

    by_count : (n : ℕ) → length t.kinds ≡ n → nat_eq (fixed_len t w) 0 ≡ false → (0 < fixed_len t w) × (greatest (next_steps t (take (fixed_len t w) w)) ≡ Some e)
    by_count n count some =
        let owed = sym (ap (λ c. first_of (if c then [] else last_after t (take (fixed_len t w) w))) some) ∙ is in
        (not_zero (fixed_len t w) some, by_fuel n (sym (ap (λ k. first_of (last_path k t (take (fixed_len t w) w))) count) ∙ owed))
      where
        by_fuel : (n : ℕ) → first_of (last_path n t (take (fixed_len t w) w)) ≡ Some e → greatest (next_steps t (take (fixed_len t w) w)) ≡ Some e
        by_fuel zero f = absurd (cc)
        by_fuel (suc n) f = sym (first_rest (λ d. last_path n t (take (fixed_len t w) w ++ d ∷ [])) (greatest (next_steps t (take (fixed_len t w) w)))) ∙ f

-- a step that isn't owed, and goes on, is below what is owed first
pub owed_above : (t : Shape) → IsTreeShape t → IsWellFormed t → (w : List ℕ) (d e : ℕ) → goes_on_to t w d ≡ true → (has d (forward t w) ≡ true → ⊥) → first_of (forward t w) ≡ Some e → d < e
owed_above t tree well w d e on free is =
    ⊎_elim
    (λ lt.
    let s = split_at f w lt in
    let le = greatest_ge (next_steps t (take f w)) e s.here last (goes_at t w d f on s) in
    behind_is_less t tree w d e f on s other (lower s.here e le (λ same. owed_not_left t (paths_lie_in_order t tree) well w s.here s.rest s.is (ap (λ n. has n (forward t w)) same ∙ owed))))
    (λ le.
    let here = take_all w f le in
    let most = greatest_ge (next_steps t (take f w)) e d last (ap (λ v. goes_on_to t v d) here ∙ on) in
    lower d e most (λ same. free (ap (λ n. has n (forward t w)) same ∙ owed)))
    (cases_lt f (length w))
  where
    f : ℕ
    f = fixed_len t w

    last : greatest (next_steps t (take f w)) ≡ Some e
    last = (owed_is_last t w e is).1

    other : goes_on_to t (take f w) e ≡ true
    other = greatest_is (next_steps t (take f w)) e last

    owed : has e (forward t w) ≡ true
    owed = first_has (forward t w) e is

    lower : (a b : ℕ) → a ≤ b → (a ≡ b → ⊥) → a < b
    lower a b le apart = omega arith

-- the bound is no greater than what is owed first
abbrev pub IsBelowOwed : Shape → List ℕ → ℕ → Type 0
IsBelowOwed t w bound = (e : ℕ) → first_of (forward t w) ≡ Some e → bound ≤ e

pub below_done : (t : Shape) → IsTreeShape t → IsWellFormed t → (w : List ℕ) (d bound : ℕ) → goes_on_to t w d ≡ true → bound ≤ d → IsBelowOwed t w bound → IsBelowOwed t (w ++ d ∷ []) (max bound (d + 1))
below_done t tree well w d bound on le below e is =
    ⊎_elim
    (λ commit.
    let all : fixed_len t (w ++ d ∷ []) ≡ length w + 1 = fixed_more t w d ∙ ap (λ c. if c then length w + 1 else fixed_len t w) commit in
    let count = length_push w d in
    let last = (owed_is_last t (w ++ d ∷ []) e is).1 in
    let next = ap (λ v. goes_on_to t v e) (sym (take_all (w ++ d ∷ []) (fixed_len t (w ++ d ∷ [])) (omega arith))) ∙ greatest_is (next_steps t (take (fixed_len t (w ++ d ∷ [])) (w ++ d ∷ []))) e last in
    let up = goes_up t w d e (paths_lie_in_order t tree).rising next in
    omega (arith, up, le))
    (λ stays.
    let same = fixed_more t w d ∙ ap (λ c. if c then length w + 1 else fixed_len t w) stays in
    let before = sym (ap first_of (owed_without t w d same)) ∙ is in
    let up = owed_above t tree well w d e on (λ owed. let f = sym stays ∙ owed_commits t (paths_lie_in_order t tree) well w d owed in absurd (cc)) before in
    omega (arith, up, le))
    (cases_Bool (commits_after t w d))
