-- What is reached: the least closed set, and where walks lead.
use Rattle.std.proofs.Common.{◌≡◌, ℕ, zero, suc, ◌+◌, ◌≤◌, ◌<◌, ◌⊎◌, inl, inr, Bool, true, false, not, eqb, ◌||◌, ◌&&◌, List, [], ◌∷◌, length, filter, sym, refl, ap, ◌∙◌, subst, arith}
use Rattle.std.specs.List.{list_any}
use Rattle.std.specs.Bool.{IsTrue}
use Rattle.std.proofs.lemmas.Bool.{eqb-true, eq-eqb, false≢true, or_left, or_right, or_cases, and_from, cases_Bool}
use Rattle.schedule_model.specs.Histories.{is_in}
use Rattle.schedule_model.specs.Graph.{Arrow, spread, spread_by, reached, leads, IsLeast, Walk, one_arrow, and_then}
use Rattle.schedule_model.proofs.Active.{is_in-filter}
use Rattle.schedule_model.proofs.Legal.{both-left, both-right}
use Rattle.schedule_model.proofs.Counts.{length_filter-more, all_pass, filter_same-in}

any_head : (p : ℕ → Bool) (j x : ℕ) (xs : List ℕ) → (is_in j xs ≡ true → list_any p xs ≡ true) → p j ≡ true
    → (eqb j x ≡ true) ⊎ (is_in j xs ≡ true) → (p x || list_any p xs) ≡ true
any_head p j x xs rest has (inl same) = or_left (p x) (list_any p xs) (ap p (sym (eqb-true j x same)) ∙ has)
any_head p j x xs rest has (inr later) = or_right (p x) (list_any p xs) (rest later)

-- one that is listed passes: some one does
pub any-is_in : (p : ℕ → Bool) (j : ℕ) (xs : List ℕ) → is_in j xs ≡ true → p j ≡ true → list_any p xs ≡ true
any-is_in p j [] is has = absurd (false≢true is)
any-is_in p j (x ∷ xs) is has = any_head p j x xs (λ later. any-is_in p j xs later has) has (or_cases (eqb j x) (is_in j xs) is)

-- some one passes: it is listed
pub is_in-any : (p : ℕ → Bool) (xs : List ℕ) → list_any p xs ≡ true → (j : ℕ) × (is_in j xs ≡ true) × (p j ≡ true)
is_in-any p [] is = absurd (false≢true is)
is_in-any p (x ∷ xs) is = by_head (or_cases (p x) (list_any p xs) is) (is_in-any p xs)
  where
    by_head : (p x ≡ true) ⊎ (list_any p xs ≡ true) → (list_any p xs ≡ true → (j : ℕ) × (is_in j xs ≡ true) × (p j ≡ true))
        → (j : ℕ) × (is_in j (x ∷ xs) ≡ true) × (p j ≡ true)
    by_head (inl here) rest = (x, or_left (eqb x x) (is_in x xs) (eq-eqb x x refl), here)
    by_head (inr later) rest = let found = rest later in (found.0, or_right (eqb found.0 x) (is_in found.0 xs) found.1, found.2)

module _ (arrow : Arrow) (all : List ℕ) where
  -- k is in the set, or an arrow leads to it from there
  abbrev grown : List ℕ → ℕ → Bool
  grown set k = is_in k set || list_any (λ j. arrow j k) set

  abbrev Closed : List ℕ → Type 0
  Closed set = (j k : ℕ) → IsTrue (is_in j set) → IsTrue (is_in k all) → IsTrue (arrow j k) → IsTrue (is_in k set)

  in_spread : (set : List ℕ) (k : ℕ) → is_in k (spread arrow all set) ≡ (is_in k all && grown set k)
  in_spread set k = is_in-filter (grown set) k all

  -- what is listed stays in
  stays_in : (set : List ℕ) (k : ℕ) → IsTrue (is_in k all) → IsTrue (is_in k set) → IsTrue (is_in k (spread arrow all set))
  stays_in set k among is = in_spread set k ∙ and_from (is_in k all) (grown set k) among (or_left (is_in k set) (list_any (λ j. arrow j k) set) is)

  stays_by : (n : ℕ) (set : List ℕ) (k : ℕ) → IsTrue (is_in k all) → IsTrue (is_in k set) → IsTrue (is_in k (spread_by n arrow all set))
  stays_by zero set k among is = is
  stays_by (suc n) set k among is = stays_in (spread_by n arrow all set) k among (stays_by n set k among is)

  by_reason : (P : ℕ → Type 0) (before : List ℕ) → ((k : ℕ) → IsTrue (is_in k before) → P k)
      → ((j k : ℕ) → P j → IsTrue (is_in k all) → IsTrue (arrow j k) → P k)
      → (k : ℕ) → IsTrue (is_in k all) → (is_in k before ≡ true) ⊎ (list_any (λ j. arrow j k) before ≡ true) → P k
  by_reason P before was closed k among (inl is) = was k is
  by_reason P before was closed k among (inr led) = let from = is_in-any (λ j. arrow j k) before led in closed from.0 k (was from.0 from.1) among from.2

  -- what holds of the set, and of whatever an arrow leads to from where it holds, holds of all that is in
  holds_by : (P : ℕ → Type 0) (n : ℕ) (set : List ℕ) → ((k : ℕ) → IsTrue (is_in k set) → P k)
      → ((j k : ℕ) → P j → IsTrue (is_in k all) → IsTrue (arrow j k) → P k)
      → (k : ℕ) → IsTrue (is_in k (spread_by n arrow all set)) → P k
  holds_by P zero set begins closed k is = begins k is
  holds_by P (suc n) set begins closed k is =
      let found = sym (in_spread (spread_by n arrow all set) k) ∙ is in
      by_reason P (spread_by n arrow all set) (holds_by P n set begins closed) closed k (both-left (is_in k all) (grown (spread_by n arrow all set) k) found)
      (or_cases (is_in k (spread_by n arrow all set)) (list_any (λ j. arrow j k) (spread_by n arrow all set)) (both-right (is_in k all) (grown (spread_by n arrow all set) k) found))

  -- an arrow leads to one that isn't in
  abbrev grows : List ℕ → Bool
  grows set = list_any (λ k. not (is_in k set) && grown set k) all

  abbrev count : List ℕ → ℕ
  count set = length (filter (λ k. is_in k set) all)

  in_or_led : (set : List ℕ) (j k : ℕ) → grows set ≡ false → IsTrue (is_in j set) → IsTrue (is_in k all) → IsTrue (arrow j k)
      → (is_in k set ≡ true) ⊎ (is_in k set ≡ false) → IsTrue (is_in k set)
  in_or_led set j k still is among a (inl in') = in'
  in_or_led set j k still is among a (inr out) =
      absurd (false≢true (sym still ∙ any-is_in (λ i. not (is_in i set) && grown set i) k all among
      (rw out (any-is_in (λ i. arrow i k) j set is a))))

  closed_if_still : (set : List ℕ) → grows set ≡ false → Closed set
  closed_if_still set still j k is among a = in_or_led set j k still is among a (cases_Bool (is_in k set))

  count_grows : (set : List ℕ) → grows set ≡ true → count set < count (spread arrow all set)
  count_grows set more =
      rw (filter_same-in (λ k. is_in k (spread arrow all set)) (grown set) all (λ k among. in_spread set k ∙ ap (λ b. b && grown set k) among))
      (length_filter-more (λ k. is_in k set) (grown set) all (λ k is. or_left (is_in k set) (list_any (λ j. arrow j k) set) is) more)

  -- what is led to from a closed set was in it
  was_in : (set : List ℕ) → Closed set → (k : ℕ) → IsTrue (is_in k (spread arrow all set)) → IsTrue (is_in k set)
  was_in set closed k is = holds_by (λ i. IsTrue (is_in i set)) 1 set (λ i in'. in') closed k is

  closed_spread : (set : List ℕ) → Closed set → Closed (spread arrow all set)
  closed_spread set closed j k is among a = stays_in set k among (closed j k (was_in set closed j is) among a)

  closed_or_more : (n : ℕ) (set : List ℕ) → n ≤ count set → (grows set ≡ true) ⊎ (grows set ≡ false)
      → Closed (spread arrow all set) ⊎ (n + 1 ≤ count (spread arrow all set))
  closed_or_more n set many (inl more) = let l = count_grows set more in inr (omega arith)
  closed_or_more n set many (inr still) = inl (closed_spread set (closed_if_still set still))

  next_round : (n : ℕ) (set : List ℕ) → Closed set ⊎ (n ≤ count set) → Closed (spread arrow all set) ⊎ (n + 1 ≤ count (spread arrow all set))
  next_round n set (inl closed) = inl (closed_spread set closed)
  next_round n set (inr many) = closed_or_more n set many (cases_Bool (grows set))

  -- after n rounds the set is closed, or has n processes
  closed_or_many : (n : ℕ) (set : List ℕ) → Closed (spread_by n arrow all set) ⊎ (n ≤ count (spread_by n arrow all set))
  closed_or_many zero set = inr (omega arith)
  closed_or_many (suc n) set = subst (λ (m : ℕ). Closed (spread_by (suc n) arrow all set) ⊎ (m ≤ count (spread_by (suc n) arrow all set))) (omega arith) (next_round n (spread_by n arrow all set) (closed_or_many n set))

  at_last : (set : List ℕ) → Closed set ⊎ (length all ≤ count set) → Closed set
  at_last set (inl closed) j k is among a = closed j k is among a
  at_last set (inr many) j k is among a = all_pass (λ i. is_in i set) all k many among

  -- all that is reached is closed
  pub reached_closed : (set : List ℕ) → Closed (reached arrow all set)
  reached_closed set = at_last (reached arrow all set) (closed_or_many (length all) set)

  -- all that is reached from some of these processes is the least closed set that has them
  pub reached_least : (begun : List ℕ) → ((k : ℕ) → IsTrue (is_in k begun) → IsTrue (is_in k all)) → IsLeast arrow all begun (reached arrow all begun)
  reached_least begun among = record {
    begins = λ k is. stays_by (length all) begun k (among k is) is;
    closed = reached_closed begun;
    least = λ other begins closed k is. holds_by (λ i. IsTrue (is_in i other)) (length all) begun begins closed k is;
  }

  first_arrow : (i k : ℕ) → IsTrue (is_in k (filter (arrow i) all)) → Walk arrow all i k
  first_arrow i k is = let found = sym (is_in-filter (arrow i) k all) ∙ is in one_arrow (both-left (is_in k all) (arrow i k) found) (both-right (is_in k all) (arrow i k) found)

  -- where it is said that a walk leads, one does
  pub walk-from_leads : (i k : ℕ) → IsTrue (leads arrow all i k) → Walk arrow all i k
  walk-from_leads i k is = holds_by (λ j. Walk arrow all i j) (length all) (filter (arrow i) all) (first_arrow i) (λ j l w among a. and_then w among a) k is

  -- and where a walk leads, it is said
  pub leads-from_walk : {i k : ℕ} → Walk arrow all i k → IsTrue (leads arrow all i k)
  leads-from_walk (one_arrow {i = i} {k = k} among a) =
      stays_by (length all) (filter (arrow i) all) k among (is_in-filter (arrow i) k all ∙ and_from (is_in k all) (arrow i k) among a)
  leads-from_walk (and_then {i = i} {j = j} {k = k} w among a) = reached_closed (filter (arrow i) all) j k (leads-from_walk w) among a
