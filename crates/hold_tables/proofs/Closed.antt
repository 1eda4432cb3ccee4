-- Marks that are closed are where walks lead.
use Rattle.std.proofs.Common.{◌≡◌, ◌<◌, ◌≤◌, ◌⊎◌, inl, inr, ℕ, Bool, true, false, ◌||◌, ◌&&◌, List, [], ◌∷◌, length, slice_index_or, sym, refl, ap, ◌∙◌, subst, arith, ◌+◌}
use Rattle.std.specs.Bool.{⊤}
use Rattle.std.specs.Prelude.{nat_eq, nat_lt}
use Rattle.std.proofs.lemmas.Bool.{or_cases, or_left, or_right, and_parts, and_from, eqb-true, eqb-false}
use Rattle.process_tree.specs.Conflicts.{do_conflict}
use Rattle.process_tree.specs.Order.{Each}
use Rattle.schedule_model.specs.Graph.{Arrow, Walk, one_arrow, and_then}
use Rattle.schedule_model.specs.Holdings.{holders, reaches}
use Rattle.schedule_model.proofs.Walks.{leads-from_walk, walk-from_leads}
use Rattle.hold_tables.specs.Tables.{OpenProcess, Tables, holdings_of, holds_nothing, is_open}
use Rattle.hold_tables.specs.Kept.{AreTidy}
use Rattle.hold_tables.specs.Places.{place_of}
use Rattle.hold_tables.specs.Walks.{TellWalks, told}
use Rattle.bit_rows.specs.Cells.{cell}
use Rattle.hold_tables.specs.Counts.{TellCounts, arrow_at, count_at}
use Rattle.hold_tables.specs.Arrows.{IsClosed, arrows_in}
use Rattle.bit_rows.specs.Cells.{IsPassed}
use Rattle.hold_tables.proofs.Extended.{place_within}
use Rattle.hold_tables.proofs.Places.{at_place, number-at, place-is}
use Rattle.hold_tables.proofs.Tidy.{each_numbered}
use Rattle.hold_tables.proofs.Pairs.{arrow_counted}
use Rattle.hold_tables.proofs.Reaching.{graph-is, holder-number, number-holder, same_truth, walk_on}
use Rattle.hold_tables.proofs.SameGraph.{graph_of}

-- what is known of marks once the first so many places were passed
pub record IsPassedUpTo (n : ℕ) (old new : List (List Bool)) : Type 0 where
  pub count : length new ≡ length old
  pub more : (a b : ℕ) → a < length old → b < length old → cell old a b ≡ true → cell new a b ≡ true
  pub through : (a m b : ℕ) → m < n → a < length old → m < length old → b < length old → cell new a m ≡ true → cell new m b ≡ true
      → cell new a b ≡ true
  pub least : (led : Arrow)
      → ((a m b : ℕ) → a < length old → m < length old → b < length old → led a m ≡ true → led m b ≡ true → led a b ≡ true)
      → ((a b : ℕ) → a < length old → b < length old → cell old a b ≡ true → led a b ≡ true)
      → (a b : ℕ) → a < length old → b < length old → cell new a b ≡ true → led a b ≡ true

pub none_passed : (marks : List (List Bool)) → IsPassedUpTo 0 marks marks
none_passed marks = record {
  count = refl;
  more = λ a b from to is. is;
  through = λ a m b less. absurd (omega (arith, less));
  least = λ led on within. within;
}

pub all_passed : (n : ℕ) (old new : List (List Bool)) → length old ≤ n → IsPassedUpTo n old new → IsClosed (length old) (cell old) new
all_passed n old new all is = record {
  count = is.count;
  more = is.more;
  through = λ a m b from mid to. is.through a m b (omega (arith, mid, all)) from mid to;
  least = is.least;
}

module _ (n : ℕ) (old mid new : List (List Bool)) (few : length old ≤ 256) (at : n < length old) (before : IsPassedUpTo n old mid) (passed : IsPassed n mid new) where
  small : (b : ℕ) → b < length old → b < 256
  small b to = omega (arith, to, few)

  within : (a : ℕ) → a < length old → a < length mid
  within a from = let same = before.count in omega (arith, from, same)

  is_cell : (a b : ℕ) → a < length old → b < length old → cell new a b ≡ (cell mid a b || (cell mid a n && cell mid n b))
  is_cell a b from to = passed.1 a b (within a from) (small b to)

  stays : (a b : ℕ) → a < length old → b < length old → cell mid a b ≡ true → cell new a b ≡ true
  stays a b from to is = is_cell a b from to ∙ or_left (cell mid a b) (cell mid a n && cell mid n b) is

  over : (a b : ℕ) → a < length old → b < length old → cell mid a n ≡ true → cell mid n b ≡ true → cell new a b ≡ true
  over a b from to first second = is_cell a b from to ∙ or_right (cell mid a b) (cell mid a n && cell mid n b) (and_from (cell mid a n) (cell mid n b) first second)

  abbrev Was : ℕ → ℕ → Type 0
  Was a b = (cell mid a b ≡ true) ⊎ ((cell mid a n ≡ true) × (cell mid n b ≡ true))

  was : (a b : ℕ) → a < length old → b < length old → cell new a b ≡ true → Was a b
  was a b from to is = by (or_cases (cell mid a b) (cell mid a n && cell mid n b) (sym (is_cell a b from to) ∙ is))
    where
      by : (cell mid a b ≡ true) ⊎ ((cell mid a n && cell mid n b) ≡ true) → Was a b
      by (inl here) = inl here
      by (inr both) = inr (and_parts (cell mid a n) (cell mid n b) both)

  -- to the place that is passed, and from it, nothing is added
  to_passed : (a : ℕ) → a < length old → cell new a n ≡ true → cell mid a n ≡ true
  to_passed a from is = by (was a n from at is)
    where
      by : Was a n → cell mid a n ≡ true
      by (inl here) = here
      by (inr both) = both.0

  from_passed : (b : ℕ) → b < length old → cell new n b ≡ true → cell mid n b ≡ true
  from_passed b to is = by (was n b at to is)
    where
      by : Was n b → cell mid n b ≡ true
      by (inl here) = here
      by (inr both) = both.1

  earlier : (a m b : ℕ) → m < n → a < length old → m < length old → b < length old → cell new a m ≡ true → cell new m b ≡ true → cell new a b ≡ true
  earlier a m b less from between to first second = by (was a m from between first) (was m b between to second)
    where
      by : Was a m → Was m b → cell new a b ≡ true
      by (inl x) (inl y) = stays a b from to (before.through a m b less from between to x y)
      by (inl x) (inr y) = over a b from to (before.through a m n less from between at x y.0) y.1
      by (inr x) (inl y) = over a b from to x.0 (before.through n m b less at between to x.1 y)
      by (inr x) (inr y) = over a b from to x.0 y.1

  -- one place more is passed
  pub one_passed : IsPassedUpTo (n + 1) old new
  one_passed = record {
    count = passed.0 ∙ before.count;
    more = λ a b from to is. stays a b from to (before.more a b from to is);
    through = λ a m b less from between to first second. by a m b from between to first second (nat_eq m n) refl less;
    least = λ led on inside a b from to is. kept led on inside a b from to (was a b from to is);
  }
    where
      by : (a m b : ℕ) → a < length old → m < length old → b < length old → cell new a m ≡ true → cell new m b ≡ true → (t : Bool) → nat_eq m n ≡ t → m < n + 1 → cell new a b ≡ true
      by a m b from between to first second true is less =
          let same = eqb-true m n is in
          over a b from to (to_passed a from (subst (λ k. cell new a k ≡ true) same first)) (from_passed b to (subst (λ k. cell new k b ≡ true) same second))
      by a m b from between to first second false is less =
          let other = eqb-false m n is in
          earlier a m b (omega (arith, other, less)) from between to first second

      kept : (led : Arrow) → ((a m b : ℕ) → a < length old → m < length old → b < length old → led a m ≡ true → led m b ≡ true → led a b ≡ true)
          → ((a b : ℕ) → a < length old → b < length old → cell old a b ≡ true → led a b ≡ true)
          → (a b : ℕ) → a < length old → b < length old → Was a b → led a b ≡ true
      kept led on inside a b from to (inl here) = before.least led on inside a b from to here
      kept led on inside a b from to (inr both) = on a n b from at to (before.least led on inside a n from at both.0) (before.least led on inside n b at to both.1)

-- marks that are closed over the marks of arrows are closed over the arrows
pub closed_over : (n : ℕ) (arrow : Arrow) (mid new : List (List Bool)) → length mid ≡ n → ((a b : ℕ) → a < n → b < n → cell mid a b ≡ arrow a b) → IsClosed (length mid) (cell mid) new → IsClosed n arrow new
closed_over n arrow mid new count same closed =
    let is = subst (λ m. IsClosed m (cell mid) new) count closed in
    record {
      count = is.count;
      more = λ a b from to a_is. is.more a b from to (same a b from to ∙ a_is);
      through = is.through;
      least = λ led on within. is.least led on (λ a b from to marked. within a b from to (sym (same a b from to) ∙ marked));
    }

module _ (t : Tables) (tidy : AreTidy t) (counts : List (List ℕ)) (walks : List (List Bool)) (tells : TellCounts t counts) (closed : IsClosed (length counts) (arrow_at counts) walks) where
  -- the number of the process at a place
  abbrev number_at : ℕ → ℕ
  number_at a = (slice_index_or t.processes a (holds_nothing 0 0)).process

  abbrev led : Arrow
  led i k = reaches (do_conflict t.conflicts) (holdings_of t) i k

  rows_of : length counts ≡ length t.processes
  rows_of = tells.rows.0

  placed : (a : ℕ) → a < length counts → a < length t.processes
  placed a within = let same = rows_of in omega (arith, same, within)

  open_at : (a : ℕ) → a < length counts → is_open t (number_at a) ≡ true
  open_at a within = number-at (number_at a) t.processes a (holds_nothing 0 0) (placed a within) refl

  place_at : (a : ℕ) → a < length counts → a ≡ place_of (number_at a) t.processes
  place_at a within = place-is (number_at a) t.processes a (holds_nothing 0 0) tidy.numbered (placed a within) refl

  within_rows : (i : ℕ) → is_open t i ≡ true → place_of i t.processes < length counts
  within_rows i here = let less = place_within t.processes i here in let same = rows_of in omega (arith, less, same)

  number_of : (i : ℕ) → is_open t i ≡ true → number_at (place_of i t.processes) ≡ i
  number_of i here = ap (λ (r : OpenProcess). r.process) (at_place i t.processes (holds_nothing 0 0) here) ∙ (each_numbered (λ (r : OpenProcess). ⊤) i t.processes here (all t.processes)).1
    where
      all : (rows : List OpenProcess) → Each (λ (r : OpenProcess). ⊤) rows
      all [] = tt
      all (r ∷ rows) = (tt, all rows)

  arrow_led : (j k : ℕ) → is_open t k ≡ true → arrows_in t j k ≡ true → led j k ≡ true
  arrow_led j k there a = leads-from_walk (graph_of t) (holders (holdings_of t)) (one_arrow (holder-number k t.net t.processes there) (graph-is t tidy j k ∙ a))

  led_on : (i j k : ℕ) → led i j ≡ true → led j k ≡ true → led i k ≡ true
  led_on i j k first second =
      leads-from_walk (graph_of t) (holders (holdings_of t)) (walk_on (graph_of t) (holders (holdings_of t))
      (walk-from_leads (graph_of t) (holders (holdings_of t)) i j first) (walk-from_leads (graph_of t) (holders (holdings_of t)) j k second))

  -- what is marked at two places is where a walk leads
  marked_led : (a b : ℕ) → a < length counts → b < length counts → cell walks a b ≡ true → led (number_at a) (number_at b) ≡ true
  marked_led = closed.least (λ a b. led (number_at a) (number_at b)) (λ a m b from mid to. led_on (number_at a) (number_at m) (number_at b))
      (λ a b from to is. arrow_led (number_at a) (number_at b) (open_at b to)
      (sym (arrow_counted t (number_at a) (number_at b)) ∙ ap (nat_lt 0) (sym (tells.tell (number_at a) (number_at b) (open_at a from) (open_at b to))
      ∙ ap (λ n. count_at counts n (place_of (number_at b) t.processes)) (sym (place_at a from)) ∙ ap (count_at counts a) (sym (place_at b to))) ∙ is))

  told_led : (i k : ℕ) → is_open t i ≡ true → is_open t k ≡ true → told t.processes walks i k ≡ true → led i k ≡ true
  told_led i k here there is =
      subst (λ n. led n k ≡ true) (number_of i here) (subst (λ n. led (number_at (place_of i t.processes)) n ≡ true) (number_of k there)
      (marked_led (place_of i t.processes) (place_of k t.processes) (within_rows i here) (within_rows k there) is))

  arrow_told : (j k : ℕ) → is_open t j ≡ true → is_open t k ≡ true → arrows_in t j k ≡ true → told t.processes walks j k ≡ true
  arrow_told j k here there a = closed.more (place_of j t.processes) (place_of k t.processes) (within_rows j here) (within_rows k there) (ap (nat_lt 0) (tells.tell j k here there) ∙ arrow_counted t j k ∙ a)

  walk_told : {i k : ℕ} → is_open t i ≡ true → Walk (graph_of t) (holders (holdings_of t)) i k → (is_open t k ≡ true) × (told t.processes walks i k ≡ true)
  walk_told {i} {k} here (one_arrow among a) =
      let there = number-holder k t.net t.processes among in
      (there, arrow_told i k here there (sym (graph-is t tidy i k) ∙ a))
  walk_told {i} {k} here (and_then {j = j} walk among a) =
      let there = number-holder k t.net t.processes among in
      let first = walk_told here walk in (
        there,
        closed.through (place_of i t.processes) (place_of j t.processes) (place_of k t.processes) (within_rows i here) (within_rows j first.0) (within_rows k there) first.1
            (arrow_told j k first.0 there (sym (graph-is t tidy j k) ∙ a)),
      )

  -- so closed marks of the arrows tell where walks lead
  pub closed_tells : TellWalks t walks
  closed_tells = record {
    rows = (closed.count ∙ tells.rows.0, tells.rows.1);
    tell = λ i k here there. same_truth (told t.processes walks i k) (led i k) (told_led i k here there) (λ is. (walk_told here (walk-from_leads (graph_of t) (holders (holdings_of t)) i k is)).1);
  }
