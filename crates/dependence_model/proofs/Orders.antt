-- Where no walk comes back, the computed order has each process, once, behind those that have to come before it.
use Rattle.std.proofs.Common.{◌≡◌, ⊎_elim, ℕ, zero, suc, ◌≤◌, ◌<◌, Bool, true, false, not, cond, eqb, ◌&&◌, List, [], ◌∷◌, length, filter, Option, Some, None, sym, refl, ap, ◌∙◌, subst, arith}
use Rattle.std.specs.List.{list_any}
use Rattle.std.specs.Bool.{IsTrue}
use Rattle.std.proofs.lemmas.Bool.{and_from, and_parts, or_left, or_right, or_cases, eqb-true, eq-eqb, false≢true, not-true}
use Rattle.schedule_model.specs.Graph.{Arrow, leads, one_arrow, and_then}
use Rattle.schedule_model.specs.Histories.{is_in}
use Rattle.schedule_model.proofs.Active.{is_in-filter}
use Rattle.schedule_model.proofs.Counts.{length_filter-more, length_filter-most}
use Rattle.schedule_model.proofs.Walks.{any-is_in, is_in-any, walk-from_leads, leads-from_walk}
use Rattle.dependence_model.specs.declared.placed.Placed.{Placed}
use Rattle.dependence_model.specs.Dependence.{must_precede, processes_of, goes_round, left_of}
use Rattle.dependence_model.specs.SerialOrder.{AreDistinct, Respects, first_free, then_others, ordered}
use Rattle.dependence_model.specs.Laws.{OrderIsComputed}

-- what no listed one passes
none-listed : (p : ℕ → Bool) (j : ℕ) (xs : List ℕ) → list_any p xs ≡ false → IsTrue (is_in j xs) → p j ≡ false
none-listed p j xs none is = by_test (p j) refl
  where
    by_test : (t : Bool) → p j ≡ t → p j ≡ false
    by_test true passes = absurd (false≢true (sym none ∙ any-is_in p j xs is passes))
    by_test false fails = fails

-- the first is listed, and no arrow leads to it
module _ (arrow : Arrow) where
  abbrev IsFree : List ℕ → ℕ → Type 0
  IsFree rest k = list_any (λ j. arrow j k) rest ≡ false

  free-found : (rest xs : List ℕ) (i : ℕ) → first_free arrow rest xs ≡ Some i → IsTrue (is_in i xs) × IsFree rest i
  free-found rest [] i is = absurd (cc)
  free-found rest (x ∷ xs) i is = by_test (list_any (λ j. arrow j x) rest) refl is (λ later. free-found rest xs i later)
    where
      by_test : (t : Bool) → list_any (λ j. arrow j x) rest ≡ t → cond t (first_free arrow rest xs) (Some x) ≡ Some i
          → (first_free arrow rest xs ≡ Some i → IsTrue (is_in i xs) × IsFree rest i) → IsTrue (is_in i (x ∷ xs)) × IsFree rest i
      by_test true led found later = let l = later found in (or_right (eqb i x) (is_in i xs) l.0, l.1)
      by_test false free found later =
          let same : x ≡ i = cc in
          (or_left (eqb i x) (is_in i xs) (eq-eqb i x (sym same)), subst (IsFree rest) same free)

  -- where there is none, an arrow leads to each
  free-none : (rest xs : List ℕ) (k : ℕ) → first_free arrow rest xs ≡ None → IsTrue (is_in k xs) → IsFree rest k → ⊥
  free-none rest [] k is listed free = false≢true listed
  free-none rest (x ∷ xs) k is listed free = by_test (list_any (λ j. arrow j x) rest) refl is (λ later in'. free-none rest xs k later in' free)
    where
      by_test : (t : Bool) → list_any (λ j. arrow j x) rest ≡ t → cond t (first_free arrow rest xs) (Some x) ≡ None
          → (first_free arrow rest xs ≡ None → IsTrue (is_in k xs) → ⊥) → ⊥
      by_test true led none later =
          ⊎_elim (λ here. false≢true (sym free ∙ (ap (λ l. list_any (λ j. arrow j l) rest) (eqb-true k x here) ∙ led))) (λ there. later none there)
          (or_cases (eqb k x) (is_in k xs) listed)
      by_test false free none later = absurd (cc)

module _ (arrow : Arrow) (all : List ℕ) (none : goes_round arrow all ≡ false) where
  abbrev IsPart : List ℕ → Type 0
  IsPart rest = (k : ℕ) → IsTrue (is_in k rest) → IsTrue (is_in k all)

  -- how many of these lead to i
  abbrev leading : List ℕ → ℕ → ℕ
  leading rest i = length (filter (λ j. leads arrow all j i) rest)

  -- fewer lead to one from which an arrow leads to i
  fewer : (rest : List ℕ) → IsPart rest → (i j : ℕ) → IsTrue (is_in i rest) → IsTrue (is_in j rest) → IsTrue (arrow j i) → leading rest j < leading rest i
  fewer rest part i j is_i is_j a =
      length_filter-more (λ k. leads arrow all k j) (λ k. leads arrow all k i) rest
      (λ k leads_j. leads-from_walk arrow all (and_then (walk-from_leads arrow all k j leads_j) (part i is_i) a))
      (any-is_in (λ k. not (leads arrow all k j) && leads arrow all k i) j rest is_j
      (and_from (not (leads arrow all j j)) (leads arrow all j i) (ap not (none-listed (λ k. leads arrow all k k) j all none (part j is_j)))
      (leads-from_walk arrow all (one_arrow (part i is_i) a))))

  -- one to which none leads, or else one further back along an arrow
  free-or_back : (rest : List ℕ) → IsPart rest → (i : ℕ) → IsTrue (is_in i rest) → (t : Bool) → list_any (λ j. arrow j i) rest ≡ t
      → ((j : ℕ) → IsTrue (is_in j rest) → leading rest j < leading rest i → (k : ℕ) × IsTrue (is_in k rest) × IsFree arrow rest k)
      → (k : ℕ) × IsTrue (is_in k rest) × IsFree arrow rest k
  free-or_back rest part i is false free back = (i, is, free)
  free-or_back rest part i is true led back =
      let from = is_in-any (λ j. arrow j i) rest led in back from.0 from.1 (fewer rest part i from.0 is from.1 from.2)

  -- so there is one to which none leads
  free-one : (n : ℕ) (rest : List ℕ) → IsPart rest → (i : ℕ) → IsTrue (is_in i rest) → leading rest i ≤ n → (k : ℕ) × IsTrue (is_in k rest) × IsFree arrow rest k
  free-one zero rest part i is few = free-or_back rest part i is (list_any (λ j. arrow j i) rest) refl (λ j is_j less. absurd (omega arith))
  free-one (suc n) rest part i is few =
      free-or_back rest part i is (list_any (λ j. arrow j i) rest) refl (λ j is_j less. free-one n rest part j is_j (omega arith))

  -- The computed order of some of these.
  record IsOrderOf (rest order : List ℕ) : Type 0 where
    distinct : AreDistinct order
    has : (k : ℕ) → IsTrue (is_in k rest) → IsTrue (is_in k order)
    only : (k : ℕ) → IsTrue (is_in k order) → IsTrue (is_in k rest)
    respects : Respects arrow order

  abbrev others : ℕ → List ℕ → List ℕ
  others i rest = filter (λ k. not (eqb k i)) rest

  in-others : (i k : ℕ) (rest : List ℕ) → IsTrue (is_in k (others i rest)) → IsTrue (is_in k rest) × (eqb k i ≡ false)
  in-others i k rest is =
      let parts = and_parts (is_in k rest) (not (eqb k i)) (sym (is_in-filter (λ j. not (eqb j i)) k rest) ∙ is) in
      (parts.0, not-true (eqb k i) parts.1)

  to-others : (i k : ℕ) (rest : List ℕ) → IsTrue (is_in k rest) → eqb k i ≡ false → IsTrue (is_in k (others i rest))
  to-others i k rest is other = is_in-filter (λ j. not (eqb j i)) k rest ∙ and_from (is_in k rest) (not (eqb k i)) is (ap not other)

  fewer-others : (i : ℕ) (rest : List ℕ) → IsTrue (is_in i rest) → length (others i rest) < length rest
  fewer-others i rest is =
      let more = length_filter-more (λ k. not (eqb k i)) (λ k. true) rest (λ k passes. refl)
      (any-is_in (λ k. not (not (eqb k i)) && true) i rest is (and_from (not (not (eqb i i))) true (ap (λ t. not (not t)) (eq-eqb i i refl)) refl)) in
      let most = length_filter-most (λ k. true) rest in
      omega arith

  first-and_others : (i : ℕ) (rest order : List ℕ) → IsTrue (is_in i rest) → IsFree arrow rest i → IsOrderOf (others i rest) order → IsOrderOf rest (i ∷ order)
  first-and_others i rest order is free rest_is = record {
    distinct = (by_test (is_in i order) refl, rest_is.distinct);
    has = λ k listed. by_number k listed (eqb k i) refl;
    only = λ k listed. ⊎_elim (λ same. subst (λ l. IsTrue (is_in l rest)) (sym (eqb-true k i same)) is)
        (λ later. (in-others i k rest (rest_is.only k later)).0) (or_cases (eqb k i) (is_in k order) listed);
    respects = (λ j later. none-listed (λ l. arrow l i) j rest free (in-others i j rest (rest_is.only j later)).0, rest_is.respects);
  }
    where
      by_test : (t : Bool) → is_in i order ≡ t → is_in i order ≡ false
      by_test false out = out
      by_test true in' = absurd (false≢true (sym (in-others i i rest (rest_is.only i in')).1 ∙ eq-eqb i i refl))

      by_number : (k : ℕ) → IsTrue (is_in k rest) → (t : Bool) → eqb k i ≡ t → IsTrue (is_in k (i ∷ order))
      by_number k listed true same = or_left (eqb k i) (is_in k order) same
      by_number k listed false other = or_right (eqb k i) (is_in k order) (rest_is.has k (to-others i k rest listed other))

  no-one : (order : List ℕ) → order ≡ [] → IsOrderOf [] order
  no-one order is = subst (IsOrderOf []) (sym is) (record { distinct = tt; has = λ k listed. listed; only = λ k listed. listed; respects = tt })

  in-order : (n : ℕ) (rest : List ℕ) → IsPart rest → length rest ≤ n → IsOrderOf rest (ordered n arrow rest)
  in-order zero [] part short = no-one [] refl
  in-order zero (x ∷ rest) part short = absurd (omega arith)
  in-order (suc n) [] part short = no-one [] refl
  in-order (suc n) (x ∷ rest) part short =
      by_first (first_free arrow (x ∷ rest) (x ∷ rest)) refl (λ some part' less. in-order n some part' less)
    where
      by_first : (o : Option ℕ) → first_free arrow (x ∷ rest) (x ∷ rest) ≡ o
          → ((some : List ℕ) → IsPart some → length some ≤ n → IsOrderOf some (ordered n arrow some)) → IsOrderOf (x ∷ rest) (then_others (ordered n arrow) (x ∷ rest) o)
      by_first None is later =
          let free = free-one (leading (x ∷ rest) x) (x ∷ rest) part x (or_left (eqb x x) (is_in x rest) (eq-eqb x x refl)) (omega arith) in
          absurd (free-none arrow (x ∷ rest) (x ∷ rest) free.0 is free.1 free.2)
      by_first (Some i) is later =
          let found = free-found arrow (x ∷ rest) (x ∷ rest) i is in
          let less = fewer-others i (x ∷ rest) found.0 in
          first-and_others i (x ∷ rest) (ordered n arrow (others i (x ∷ rest))) found.0 found.1
          (later (others i (x ∷ rest)) (λ k listed. part k (in-others i k (x ∷ rest) listed).0) (omega arith))

processes-length : (xs : List Placed) → length (processes_of xs) ≡ length xs
processes-length [] = refl
processes-length (x ∷ xs) = ap suc (processes-length xs)

pub order-computed : OrderIsComputed
order-computed table es none =
    let left = left_of table es in
    let order = in-order (must_precede table left) (processes_of left) none (length left) (processes_of left) (λ k is. is) (let l = processes-length left in omega arith) in
    record { distinct = order.distinct; has_all = order.has; respects = order.respects }
