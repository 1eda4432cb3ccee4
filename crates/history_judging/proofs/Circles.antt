-- Marks that have all to which walks lead from a process, and nothing else.
use Rattle.std.proofs.Common.{◌≡◌, ◌⊎◌, inl, inr, ℕ, Bool, true, false, not, eqb, ◌&&◌, ◌||◌, List, map, sym, refl, ap, ◌∙◌}
use Rattle.std.specs.Bool.{IsTrue}
use Rattle.std.specs.List.{list_any}
use Rattle.std.proofs.lemmas.Bool.{and_from, and_parts, eq-eqb, eqb-true, false≢true, not-true, or_cases, or_left, or_right}
use Rattle.process_tree.specs.Entries.{access_of}
use Rattle.process_tree.specs.declared.entry.Entry.{Entry}
use Rattle.schedule_model.specs.Conflict.{ConflictRelation, conflict}
use Rattle.schedule_model.specs.Graph.{Arrow, Walk, one_arrow, and_then}
use Rattle.schedule_model.specs.Histories.{is_in}
use Rattle.schedule_model.proofs.Members.{in_map, is_in-among, not_any}
use Rattle.schedule_model.proofs.Walks.{leads-from_walk, walk-from_leads}
use Rattle.history_judging.specs.Conflicting.{arrow_among, closes_circle, in_turn, is_closed, leads_among, conflicts_with_any}
use Rattle.history_judging.proofs.Pairs.{Pair, pair_of}
use Rattle.history_judging.proofs.Marks.{leads_out}
use Rattle.schedule_rules.proofs.ListTests.{any-same, both_ways, none_of_all, not_passed}

-- what is kept along each arrow is kept along a walk
pub along : (P : ℕ → Type 0) (arrow : Arrow) (all : List ℕ) → ((j k : ℕ) → IsTrue (arrow j k) → P j → P k) → {i k : ℕ} → Walk arrow all i k → P i → P k
along P arrow all step (one_arrow {i = i} {k = k} among a) from = step i k a from
along P arrow all step (and_then {j = j} {k = k} w among a) from = step j k a (along P arrow all step w from)

module _ (table : ConflictRelation) (es : List Entry) where
  abbrev arrow : Arrow
  arrow = arrow_among table es

  abbrev all : List ℕ
  all = map (λ (e : Entry). e.process) es

  -- an arrow doesn't lead out of a closed set
  stays_in : (p : ℕ → Bool) → is_closed table p es ≡ true → (j k : ℕ) → IsTrue (arrow j k) → p j ≡ true → p k ≡ true
  stays_in p closed j k a in' = by_test (p k) refl
    where
      by_test : (t : Bool) → p k ≡ t → p k ≡ true
      by_test true there = there
      by_test false away =
          let pair = pair_of (λ x y. eqb x.process j && (eqb y.process k && conflict table x y)) es a in
          let x = pair.first in
          let y = pair.second in
          let one = and_parts (eqb x.process j) (eqb y.process k && conflict table x y) pair.is in
          let two = and_parts (eqb y.process k) (conflict table x y) one.1 in
          let out : leads_out table p x y ≡ true =
          and_from (p x.process) (not (p y.process) && conflict table x y) (ap p (eqb-true x.process j one.0) ∙ in')
          (and_from (not (p y.process)) (conflict table x y) (ap not (ap p (eqb-true y.process k two.0) ∙ away)) two.1) in
          absurd (false≢true (sym (not-true (in_turn (leads_out table p) es) closed) ∙ pair.in_turn (leads_out table p) out))

  -- a process itself and all to which walks lead from it
  abbrev reach : ℕ → ℕ → Bool
  reach i k = eqb k i || leads_among table es i k

  walk_on : (i j k : ℕ) → (eqb j i ≡ true) ⊎ (leads_among table es i j ≡ true) → IsTrue (is_in k all) → IsTrue (arrow j k) → leads_among table es i k ≡ true
  walk_on i j k (inl here) among a = leads-from_walk arrow all (one_arrow among (ap (λ n. arrow n k) (sym (eqb-true j i here)) ∙ a))
  walk_on i j k (inr led) among a = leads-from_walk arrow all (and_then (walk-from_leads arrow all i j led) among a)

  -- no arrow leads out of these
  reach_closed : (i : ℕ) → is_closed table (reach i) es ≡ true
  reach_closed i = ap not (not_passed (in_turn (leads_out table (reach i)) es) (λ is. none (pair_of (leads_out table (reach i)) es is)))
    where
      none : Pair (leads_out table (reach i)) es → ⊥
      none pair =
          let x = pair.first in
          let y = pair.second in
          let one = and_parts (reach i x.process) (not (reach i y.process) && conflict table x y) pair.is in
          let two = and_parts (not (reach i y.process)) (conflict table x y) one.1 in
          let a : arrow x.process y.process ≡ true =
          pair.in_turn (λ u v. eqb u.process x.process && (eqb v.process y.process && conflict table u v))
          (and_from (eqb x.process x.process) (eqb y.process y.process && conflict table x y) (eq-eqb x.process x.process refl)
          (and_from (eqb y.process y.process) (conflict table x y) (eq-eqb y.process y.process refl) two.1)) in
          let led = walk_on i x.process y.process (or_cases (eqb x.process i) (leads_among table es i x.process) one.0) (is_in-among y.process all (in_map (λ (e : Entry). e.process) y es pair.second_there)) a in
          false≢true (sym (not-true (reach i y.process) two.0) ∙ or_right (eqb y.process i) (leads_among table es i y.process) led)

  module _ (i : ℕ) (marked : ℕ → Bool) (own : marked i ≡ true) (closed : is_closed table marked es ≡ true)
      (only : (p : ℕ → Bool) → p i ≡ true → is_closed table p es ≡ true → (k : ℕ) → marked k ≡ true → p k ≡ true) where
    -- what is marked, but for the process itself, is what walks lead to
    marked-leads : (k : ℕ) → (k ≡ i → ⊥) → marked k ≡ leads_among table es i k
    marked-leads k other =
        both_ways (marked k) (leads_among table es i k)
        (λ is. by_reach (or_cases (eqb k i) (leads_among table es i k) (only (reach i) (or_left (eqb i i) (leads_among table es i i) (eq-eqb i i refl)) (reach_closed i) k is)))
        (λ led. along (λ n. marked n ≡ true) arrow all (stays_in marked closed) (walk-from_leads arrow all i k led) own)
      where
        by_reach : (eqb k i ≡ true) ⊎ (leads_among table es i k ≡ true) → leads_among table es i k ≡ true
        by_reach (inl same) = absurd (other (eqb-true k i same))
        by_reach (inr led) = led

    by_conflict : (b x : Entry) → b.process ≡ i → (t : Bool) → conflict table b x ≡ t → (t && marked x.process) ≡ (t && leads_among table es b.process x.process)
    by_conflict b x same false is = refl
    by_conflict b x same true is =
        marked-leads x.process (λ here. apart (eq-eqb b.process x.process (same ∙ sym here))) ∙ ap (λ n. leads_among table es n x.process) (sym same)
      where
        apart : eqb b.process x.process ≡ true → ⊥
        apart here = false≢true (sym (ap (λ t. not t && table (access_of b) (access_of x)) here) ∙ is)

    -- a step conflicts with an entry of a marked process exactly where it closes a circle
    pub marked-circle : (b : Entry) → b.process ≡ i → list_any (λ x. conflict table b x && marked x.process) es ≡ closes_circle table es b
    marked-circle b same =
        any-same (λ x. conflict table b x && marked x.process) (λ x. conflict table b x && leads_among table es b.process x.process) es (λ x is. by_conflict b x same (conflict table b x) refl)

  -- what conflicts with nothing closes no circle
  pub no_circle : (b : Entry) → conflicts_with_any table b es ≡ false → closes_circle table es b ≡ false
  no_circle b none = not_any (λ x. conflict table b x && leads_among table es b.process x.process) es (λ x is. ap (λ t. t && leads_among table es b.process x.process) (none_of_all (conflict table b) x es none is))
