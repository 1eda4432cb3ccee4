-- Pairs of conflicting entries: what one entry more makes, which arrows they are, and how many there may be.
use Rattle.std.proofs.Common.{◌≡◌, ◌≤◌, ◌+◌, ◌*◌, ℕ, Bool, true, false, ◌||◌, ◌&&◌, List, [], ◌∷◌, ◌++◌, length, sym, refl, ap, ◌∙◌, arith}
use Rattle.std.specs.Prelude.{nat_eq, nat_lt}
use Rattle.std.specs.List.{list_any}
use Rattle.std.proofs.lemmas.Bool.{ltb-true, ltb-false, lt-ltb, le-ltb}
use Rattle.std.proofs.lemmas.List.{append-nil}
use Rattle.process_tree.specs.declared.entry.Entry.{Entry}
use Rattle.process_tree.specs.Conflicts.{do_conflict}
use Rattle.schedule_model.specs.Conflict.{ConflictRelation, IsSymmetric, conflict}
use Rattle.schedule_model.specs.Histories.{of_process}
use Rattle.schedule_model.proofs.Conflicts.{conflict-flipped}
use Rattle.hold_tables.specs.Arrows.{arrows_in}
use Rattle.hold_tables.specs.Counts.{pair, pairs_by, pairs_from, pairs_in, pairs_of_entry, pairs_to}
use Rattle.bit_rows.specs.Cells.{one_if}
use Rattle.hold_tables.specs.Tables.{Tables}
use Rattle.hold_tables.specs.Walks.{arrows_by, arrows_from, conflicts_with, steps_under_way}
use Rattle.hold_tables.proofs.Arrows.{any_later, none_first}
use Rattle.hold_tables.proofs.Marks.{neither_of}

module _ (table : ConflictRelation) (i k : ℕ) where
  -- the pairs of an entry with some and then with others
  pub by_append : (x : Entry) (ys zs : List Entry) → pairs_by table x (ys ++ zs) i k ≡ pairs_by table x ys i k + pairs_by table x zs i k
  by_append x [] zs = omega arith
  by_append x (y ∷ ys) zs = let rest = by_append x ys zs in omega (arith, rest)

  -- a step more under way
  pub under_more : (front : List Entry) (e : Entry) (back es : List Entry) → pairs_from table (front ++ e ∷ back) es i k ≡ pairs_from table (front ++ back) es i k + pairs_to table es e i k
  under_more front e back [] = omega arith
  under_more front e back (x ∷ es) =
      let rest = under_more front e back es in
      let now = by_append x es (front ++ e ∷ back) in
      let now_behind = by_append x front (e ∷ back) in
      let was = by_append x es (front ++ back) in
      let was_behind = by_append x front back in
      omega (arith, rest, now, now_behind, was, was_behind)

  -- a net entry more
  pub net_more : (running front : List Entry) (x : Entry) (back : List Entry)
      → pairs_from table running (front ++ x ∷ back) i k ≡ pairs_from table running (front ++ back) i k + pairs_of_entry table running front x back i k
  net_more running [] x back = let both = by_append x back running in omega (arith, both)
  net_more running (y ∷ front) x back =
      let rest = net_more running front x back in
      let now = by_append y (front ++ x ∷ back) running in
      let now_behind = by_append y front (x ∷ back) in
      let was = by_append y (front ++ back) running in
      let was_behind = by_append y front back in
      omega (arith, rest, now, now_behind, was, was_behind)

  -- a step that was under way is in the net
  pub settled_more : (front : List Entry) (e : Entry) (back es : List Entry)
      → pairs_from table (front ++ back) (es ++ e ∷ []) i k ≡ pairs_from table (front ++ e ∷ back) es i k + pairs_by table e (front ++ back) i k
  settled_more front e back es =
      let net = net_more (front ++ back) es e [] in
      let under = under_more front e back es in
      let same = ap (λ es. pairs_from table (front ++ back) es i k) (append-nil es) in
      omega (arith, net, under, same)

  -- entries that don't conflict are no pair
  pub no_conflict : (x y : Entry) → conflict table x y ≡ false → pair table x y i k ≡ 0
  no_conflict x y none =
      ap (λ t. one_if (nat_eq x.process i && (nat_eq y.process k && t))) none ∙ ap (λ t. one_if (nat_eq x.process i && t)) (none_first (nat_eq y.process k))
      ∙ ap one_if (none_first (nat_eq x.process i))

  -- nor are entries of other processes a pair of these
  pub other_first : (x y : Entry) → nat_eq x.process i ≡ false → pair table x y i k ≡ 0
  other_first x y other = ap (λ t. one_if (t && (nat_eq y.process k && conflict table x y))) other

  pub other_last : (x y : Entry) → nat_eq y.process k ≡ false → pair table x y i k ≡ 0
  other_last x y other = ap (λ t. one_if (nat_eq x.process i && (t && conflict table x y))) other ∙ ap one_if (none_first (nat_eq x.process i))

  pub other_by : (x : Entry) (ys : List Entry) → nat_eq x.process i ≡ false → pairs_by table x ys i k ≡ 0
  other_by x [] other = refl
  other_by x (y ∷ ys) other = let rest = other_by x ys other in let none = other_first x y other in omega (arith, rest, none)

  -- an entry that conflicts with none of these makes no pairs with them
  pub none_to : IsSymmetric table → (es : List Entry) (e : Entry) → conflicts_with table es e ≡ false → pairs_to table es e i k ≡ 0
  none_to both [] e none = refl
  none_to both (x ∷ es) e none =
      let parts = neither_of (conflict table e x) (conflicts_with table es e) none in
      let rest = none_to both es e parts.1 in
      let first = no_conflict x e (conflict-flipped table both e x parts.0) in
      omega (arith, rest, first)

-- there are some of two kinds, where there are some of the one or of the other
some_of : (a b : ℕ) → nat_lt 0 (a + b) ≡ (nat_lt 0 a || nat_lt 0 b)
some_of a b = by (nat_lt 0 a) (nat_lt 0 b) refl refl
  where
    by : (s t : Bool) → nat_lt 0 a ≡ s → nat_lt 0 b ≡ t → nat_lt 0 (a + b) ≡ (nat_lt 0 a || nat_lt 0 b)
    by true t first second = let some = ltb-true 0 a first in lt-ltb 0 (a + b) (omega (arith, some)) ∙ sym (ap (λ s. s || nat_lt 0 b) first)
    by false true first second = let some = ltb-true 0 b second in lt-ltb 0 (a + b) (omega (arith, some)) ∙ sym (ap (λ s. s || nat_lt 0 b) first ∙ second)
    by false false first second =
        let none = ltb-false 0 a first in
        let other = ltb-false 0 b second in
        le-ltb 0 (a + b) (omega (arith, none, other)) ∙ sym (ap (λ s. s || nat_lt 0 b) first ∙ second)

some_if : (b : Bool) → nat_lt 0 (one_if b) ≡ b
some_if true = refl
some_if false = refl

module _ (table : ConflictRelation) (i k : ℕ) where
  by_arrow : (x : Entry) (ys : List Entry) → nat_lt 0 (pairs_by table x ys i k) ≡ arrows_by table x ys i k
  by_arrow x [] = sym (none_first (nat_eq x.process i))
  by_arrow x (y ∷ ys) =
      some_of (pair table x y i k) (pairs_by table x ys i k) ∙ ap (λ t. t || nat_lt 0 (pairs_by table x ys i k)) (some_if (nat_eq x.process i && (nat_eq y.process k && conflict table x y)))
      ∙ ap ((nat_eq x.process i && (nat_eq y.process k && conflict table x y)) ||◌) (by_arrow x ys)
      ∙ sym (any_later (nat_eq x.process i) (nat_eq y.process k && conflict table x y) (list_any (λ y. nat_eq y.process k && conflict table x y) ys))

  -- an arrow is where there are pairs
  pub from_arrow : (running es : List Entry) → nat_lt 0 (pairs_from table running es i k) ≡ arrows_from table running es i k
  from_arrow running [] = refl
  from_arrow running (x ∷ es) =
      some_of (pairs_by table x (es ++ running) i k) (pairs_from table running es i k) ∙ ap (λ t. t || nat_lt 0 (pairs_from table running es i k)) (by_arrow x (es ++ running))
      ∙ ap (arrows_by table x (es ++ running) i k ||◌) (from_arrow running es)

  at_most_one : (b : Bool) → one_if b ≤ 1
  at_most_one true = omega arith
  at_most_one false = omega arith

  -- an entry has no more pairs than the other process has entries
  by_few : (x : Entry) (ys : List Entry) → pairs_by table x ys i k ≤ length (of_process k ys)
  by_few x [] = omega arith
  by_few x (y ∷ ys) = by (nat_eq y.process k) refl (by_few x ys)
    where
      by : (b : Bool) → nat_eq y.process k ≡ b → pairs_by table x ys i k ≤ length (of_process k ys) → pairs_by table x (y ∷ ys) i k ≤ length (of_process k (y ∷ ys))
      by true is rest =
          let one = at_most_one (nat_eq x.process i && (nat_eq y.process k && conflict table x y)) in
          let longer : length (of_process k (y ∷ ys)) ≡ length (of_process k ys) + 1 = rw is (omega arith) in
          omega (arith, one, longer, rest)
      by false is rest =
          let none = other_last table i k x y is in
          let same : length (of_process k (y ∷ ys)) ≡ length (of_process k ys) = rw is refl in
          omega (arith, none, same, rest)

  own_first : (n : ℕ) (e : Entry) (es : List Entry) → length (of_process n es) ≤ length (of_process n (e ∷ es))
  own_first n e es = by (nat_eq e.process n) refl
    where
      by : (b : Bool) → nat_eq e.process n ≡ b → length (of_process n es) ≤ length (of_process n (e ∷ es))
      by true is = rw is (omega arith)
      by false is = rw is (omega arith)

  -- so there are no more pairs than entries of the one, times those of the other
  pub from_few : (running es : List Entry) → length (of_process k (es ++ running)) ≤ 65536 → pairs_from table running es i k ≤ length (of_process i es) * 65536
  from_few running [] few = omega arith
  from_few running (x ∷ es) few =
      let fewer = own_first k x (es ++ running) in
      by (nat_eq x.process i) refl (omega (arith, fewer, few)) (from_few running es (omega (arith, fewer, few)))
    where
      by : (b : Bool) → nat_eq x.process i ≡ b → length (of_process k (es ++ running)) ≤ 65536 → pairs_from table running es i k ≤ length (of_process i es) * 65536
          → pairs_from table running (x ∷ es) i k ≤ length (of_process i (x ∷ es)) * 65536
      by true is few rest = let own = by_few x (es ++ running) in rw is (omega (arith, own, few, rest))
      by false is few rest = let none = other_by table i k x (es ++ running) is in rw is (omega (arith, none, rest))

-- an arrow is where the tables make pairs
pub arrow_counted : (t : Tables) (j k : ℕ) → nat_lt 0 (pairs_in t j k) ≡ arrows_in t j k
arrow_counted t j k = from_arrow (do_conflict t.conflicts) j k (steps_under_way t.processes) t.net
