-- Who comes back to where it began, by walks and by ways.
use Rattle.std.proofs.Common.{◌≡◌, ◌⊎◌, inl, inr, ℕ, zero, suc, ◌<◌, ◌≤◌, ◌+◌, Bool, true, false, ◌||◌, List, [], ◌∷◌, ◌++◌, length, filter, sym, ◌∙◌, arith, length-append}
use Rattle.std.specs.Bool.{IsTrue}
use Rattle.std.specs.List.{list_any}
use Rattle.std.proofs.lemmas.Bool.{false≢true, cases_Bool, or_cases, and_parts}
use Rattle.schedule_model.specs.Histories.{is_in}
use Rattle.schedule_model.specs.Graph.{Arrow, spread_by, leads, Walk, one_arrow, and_then}
use Rattle.schedule_model.proofs.Active.{is_in-filter}
use Rattle.schedule_model.proofs.Walks.{any-is_in, is_in-any, leads-from_walk}
use Rattle.dependence_model.specs.Dependence.{goes_round}
use Rattle.dependence_model.specs.Audited.{ComesBack, IsToldCycle}
use Rattle.audit_core.specs.Arrows.{HasAll, AreShortest, IsLeastBack, columns}

module _ (arrow : Arrow) where
  comes_back-more : (i j k : ℕ) (ks : List ℕ) → ComesBack arrow j i ks → IsTrue (arrow j k) → ComesBack arrow k i (ks ++ j ∷ [])
  comes_back-more i j k [] back a = (back, a)
  comes_back-more i j k (l ∷ ks) back a = (back.0, comes_back-more l j k ks back.1 a)

  module _ (all : List ℕ) (i : ℕ) where
    -- a way from i to k through no more than n others
    abbrev Way : ℕ → ℕ → Type 0
    Way n k = (ks : List ℕ) × (length ks ≤ n) × ComesBack arrow k i ks

    way_further : (n j k : ℕ) → IsTrue (arrow j k) → Way n j → Way (suc n) k
    way_further n j k a way =
        let long = length-append way.0 (j ∷ []) in
        (way.0 ++ j ∷ [], omega (arith, long, way.1), comes_back-more i j k way.0 way.2 a)

    way_by : (n k : ℕ) → IsTrue (is_in k (spread_by n arrow all (filter (arrow i) all))) → Way n k
    way_by zero k is = ([], omega arith, (and_parts (is_in k all) (arrow i k) (sym (is_in-filter (arrow i) k all) ∙ is)).1)
    way_by (suc n) k is =
        by (λ there. way_by n k there) (λ j there. way_by n j there)
        (or_cases (is_in k before) (list_any (λ j. arrow j k) before) (and_parts (is_in k all) (is_in k before || list_any (λ j. arrow j k) before)
        (sym (is_in-filter (λ l. is_in l before || list_any (λ j. arrow j l) before) k all) ∙ is)).1)
      where
        before : List ℕ
        before = spread_by n arrow all (filter (arrow i) all)

        by : (IsTrue (is_in k before) → Way n k) → ((j : ℕ) → IsTrue (is_in j before) → Way n j)
            → (is_in k before ≡ true) ⊎ (list_any (λ j. arrow j k) before ≡ true) → Way (suc n) k
        by same from (inl there) = let way = same there in (way.0, omega (arith, way.1), way.2)
        by same from (inr led) = let j = is_in-any (λ j. arrow j k) before led in way_further n j.0 k j.2 (from j.0 j.1)

    -- where no way back is so short, no walk leads back
    pub leads-none : (most : ℕ) → length all ≤ most → ((ks : List ℕ) → ComesBack arrow i i ks → most < length ks) → leads arrow all i i ≡ false
    leads-none most few long = by (cases_Bool (leads arrow all i i))
      where
        by : (leads arrow all i i ≡ true) ⊎ (leads arrow all i i ≡ false) → leads arrow all i i ≡ false
        by (inr none) = none
        by (inl is) =
            let way = way_by (length all) i is in
            let more = long way.0 way.2 in
            absurd (omega (arith, few, way.1, more))

  module _ (all : List ℕ) (has_all : HasAll arrow all) where
    walk_further : (i k first : ℕ) (ks : List ℕ) → Walk arrow all i k → ComesBack arrow first k ks → Walk arrow all i first
    walk_further i k first [] walk back = and_then walk (has_all.target k first back) back
    walk_further i k first (j ∷ ks) walk back = walk_further i j first ks (and_then walk (has_all.target k j back.0) back.0) back.1

    walk_back : (i first : ℕ) (ks : List ℕ) → ComesBack arrow first i ks → Walk arrow all i first
    walk_back i first [] back = one_arrow (has_all.target i first back) back
    walk_back i first (j ∷ ks) back = walk_further i j first ks (one_arrow (has_all.target i j back.0) back.0) back.1

    -- the last arrow of a way back leads to the first
    comes_to : (i first : ℕ) (ks : List ℕ) → ComesBack arrow first i ks → IsTrue (is_in first all)
    comes_to i first [] back = has_all.target i first back
    comes_to i first (j ∷ ks) back = comes_to j first ks back.1

    pub goes_round-back : (first : ℕ) (ks : List ℕ) → ComesBack arrow first first ks → goes_round arrow all ≡ true
    goes_round-back first ks back = any-is_in (λ i. leads arrow all i i) first all (comes_to first first ks back) (leads-from_walk arrow all (walk_back first first ks back))

    -- where no walk leads back from any, none goes round
    pub goes_round-none : ((i : ℕ) → i < columns → leads arrow all i i ≡ false) → goes_round arrow all ≡ false
    goes_round-none none = by (cases_Bool (goes_round arrow all))
      where
        by : (goes_round arrow all ≡ true) ⊎ (goes_round arrow all ≡ false) → goes_round arrow all ≡ false
        by (inr no') = no'
        by (inl is) = let i = is_in-any (λ i. leads arrow all i i) all is in absurd (false≢true (sym (none i.0 (has_all.few i.0 i.1)) ∙ i.2))

  -- the cycle that is told
  pub told : (all : List ℕ) (first : ℕ) (sets : List (List Bool)) (cycle others : List ℕ) → ((i : ℕ) → i < first → leads arrow all i i ≡ false)
      → AreShortest arrow first sets → cycle ≡ first ∷ others → length others + 1 ≡ length sets → IsLeastBack arrow first first (length others) others
      → IsToldCycle arrow all cycle
  told all first sets cycle others before shortest is count least = record {
    first = first;
    others = others;
    is = is;
    comes_back = least.comes_back;
    least_process = before;
    fewest = λ ks back. (let most = shortest.fewest ks back in omega (arith, most, count));
    least = least.least;
  }
