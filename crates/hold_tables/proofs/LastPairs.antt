-- The pairs that go with the last entry of a process.
use Rattle.std.proofs.Common.{◌≡◌, ◌≤◌, ◌+◌, ℕ, zero, suc, Bool, true, false, not, ◌&&◌, List, [], ◌∷◌, ◌++◌, take, drop, Some, sym, refl, ap, ◌∙◌, arith}
use Rattle.std.specs.Prelude.{if◌then◌else◌, nat_eq, remove}
use Rattle.process_tree.specs.declared.entry.Entry.{Entry}
use Rattle.process_tree.specs.Order.{Each}
use Rattle.process_tree.specs.Conflicts.{Table, do_conflict}
use Rattle.process_tree.proofs.Tables.{do_conflict-symmetric}
use Rattle.schedule_model.specs.Conflict.{ConflictRelation, conflict}
use Rattle.hold_tables.specs.Walks.{conflicts_with}
use Rattle.hold_tables.specs.Changes.{has_entry, without_last}
use Rattle.hold_tables.specs.Counts.{pairs_by, pairs_from, pairs_of_entry, pairs_of_last}
use Rattle.hold_tables.specs.Places.{last_place}
use Rattle.hold_tables.proofs.Marks.{neither_of}
use Rattle.hold_tables.proofs.Pairs.{by_append, net_more, no_conflict, none_to}
use Rattle.std.specs.List.{list_any}
use Rattle.std.proofs.lemmas.List.Folds.{list_any-append}
use Rattle.hold_tables.proofs.Places.{last_away}

-- a list is what stands before a place, and the rest
whole_at : (n : ℕ) (es : List Entry) → es ≡ take n es ++ drop n es
whole_at zero es = refl
whole_at (suc n) [] = refl
whole_at (suc n) (e ∷ es) = ap (e ∷◌) (whole_at n es)

without_at : (n : ℕ) (es : List Entry) (x : Entry) (back : List Entry) → drop n es ≡ x ∷ back → remove es n ≡ take n es ++ back
without_at zero [] x back is = absurd cc
without_at (suc n) [] x back is = absurd cc
without_at zero (e ∷ es) x back is = let same : es ≡ back = cc in same
without_at (suc n) (e ∷ es) x back is = ap (e ∷◌) (without_at n es x back is)

-- what stands before the last entry of a process, and behind it
pub last_parts : (i : ℕ) (es : List Entry) (place : ℕ) (front rest : List Entry) (x : Entry) (back : List Entry) → last_place i es ≡ Some place → front ≡ take place es → rest ≡ drop place es → rest ≡ x ∷ back
    → (es ≡ front ++ x ∷ back) × (without_last i es ≡ front ++ back)
last_parts i es place front rest x back last front_is rest_is is = (
  whole_at place es ∙ ap (take place es ++◌) (sym rest_is ∙ is) ∙ ap (λ f. f ++ x ∷ back) (sym front_is),
  (last_away i es place last).2 ∙ without_at place es x back (sym rest_is ∙ is) ∙ ap (λ f. f ++ back) (sym front_is),
)

-- what is true of each is true of the parts
pub each_parts : (P : Entry → Type 0) (front : List Entry) (x : Entry) (back : List Entry) → Each P (front ++ x ∷ back) → Each P front × P x × Each P back
each_parts P [] x back each = (tt, each.0, each.1)
each_parts P (e ∷ front) x back each = let rest = each_parts P front x back each.1 in ((each.0, rest.0), rest.1, rest.2)

module _ (table : ConflictRelation) (running : List Entry) (i j k : ℕ) where
  -- they are those of the entry
  pub last_pairs : (es front : List Entry) (x : Entry) (back : List Entry) → es ≡ front ++ x ∷ back → without_last i es ≡ front ++ back
      → pairs_of_last table running i es j k ≡ pairs_of_entry table running front x back j k
  last_pairs es front x back whole rest =
      let all = ap (λ fs. pairs_from table running fs j k) whole in
      let left = ap (λ fs. pairs_from table running fs j k) rest in
      let more = net_more table j k running front x back in
      omega (arith, all, left, more)

  -- where there is none, none go
  pub no_last_pairs : (es : List Entry) → without_last i es ≡ es → pairs_of_last table running i es j k ≡ 0
  no_last_pairs es same = let all = ap (λ fs. pairs_from table running fs j k) same in omega (arith, all)

  by_fewer : (x : Entry) (es : List Entry) → pairs_by table x (without_last i es) j k ≤ pairs_by table x es j k
  by_fewer x [] = omega arith
  by_fewer x (e ∷ es) = by (nat_eq e.process i && not (has_entry i es)) (by_fewer x es)
    where
      by : (b : Bool) → pairs_by table x (without_last i es) j k ≤ pairs_by table x es j k → pairs_by table x (if b then es else e ∷ without_last i es) j k ≤ pairs_by table x (e ∷ es) j k
      by true rest = omega arith
      by false rest = omega (arith, rest)

  fewer : (es : List Entry) → pairs_from table running (without_last i es) j k ≤ pairs_from table running es j k
  fewer [] = omega arith
  fewer (e ∷ es) = by (nat_eq e.process i && not (has_entry i es)) (fewer es)
    where
      by : (b : Bool) → pairs_from table running (without_last i es) j k ≤ pairs_from table running es j k → pairs_from table running (if b then es else e ∷ without_last i es) j k ≤ pairs_from table running (e ∷ es) j k
      by true rest = omega arith
      by false rest =
          let less = by_fewer e es in
          let now = by_append table j k e (without_last i es) running in
          let was = by_append table j k e es running in
          omega (arith, rest, less, now, was)

  -- with them, what is left is all
  pub with_last : (es : List Entry) → pairs_from table running es j k ≡ pairs_from table running (without_last i es) j k + pairs_of_last table running i es j k
  with_last es = let less = fewer es in omega (arith, less)

none_behind : (table : Table) (x : Entry) (ys : List Entry) → conflicts_with (do_conflict table) ys x ≡ false → (i k : ℕ) → pairs_by (do_conflict table) x ys i k ≡ 0
none_behind table x [] none i k = refl
none_behind table x (y ∷ ys) none i k =
    let parts = neither_of (conflict (do_conflict table) x y) (conflicts_with (do_conflict table) ys x) none in
    let first = no_conflict (do_conflict table) i k x y parts.0 in
    let rest = none_behind table x ys parts.1 i k in
    omega (arith, first, rest)

-- an entry that conflicts with none of the net makes pairs with what is under way alone
pub quiet_entry : (table : Table) (running front : List Entry) (x : Entry) (back : List Entry) → conflicts_with (do_conflict table) (front ++ x ∷ back) x ≡ false → (i k : ℕ)
    → pairs_of_entry (do_conflict table) running front x back i k ≡ pairs_by (do_conflict table) x running i k
quiet_entry table running front x back none i k =
    let p = conflict (do_conflict table) x in
    let parts = neither_of (list_any p front) (list_any p (x ∷ back)) (sym (list_any-append p front (x ∷ back)) ∙ none) in
    let first = none_to (do_conflict table) i k (do_conflict-symmetric table) front x parts.0 in
    let last = none_behind table x back (neither_of (p x) (list_any p back) parts.1).1 i k in
    omega (arith, first, last)
