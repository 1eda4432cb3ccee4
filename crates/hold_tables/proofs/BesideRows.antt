-- Rows of bits by operation: which operations have a row, and what all rows tell of one operation.
use Rattle.std.proofs.Common.{◌≡◌, ◌≢◌, ◌⊎◌, inl, inr, ◌<◌, ℕ, Bool, true, false, ◌||◌, List, [], ◌∷◌, sym, refl, ap, ◌∙◌, arith}
use Rattle.std.specs.Prelude.{nat_eq, nat_le, nat_lt, slice_index_or}
use Rattle.std.specs.List.{list_any}
use Rattle.std.proofs.lemmas.Bool.{eq-eqb, eqb-true, false≢true, le-leb, lt-leb, ltb-false, ltb-true, ne_eqb, or_cases, or_left, or_parts, or_right}
use Rattle.schedule_model.specs.Histories.{is_in}
use Rattle.process_tree.specs.Conflicts.{Table, operations_in}
use Rattle.process_tree.specs.Order.{Each}
use Rattle.hold_tables.specs.declared.operations.Beside.{Beside}
use Rattle.bit_rows.specs.Cells.{cell}
use Rattle.hold_tables.specs.Operations.{AreHolders, IsClearOf, IsRowOf, KeepOps, has_row, is_held_at, is_row_against, may_be_against, may_conflict, row_of}
use Rattle.hold_tables.proofs.Reaching.{same_truth}

pub row_small : (op : ℕ) → row_of op < 257
row_small op = omega arith

-- an operation that has one of the first rows is that of the row
pub own_row : (op k : ℕ) → k < 256 → nat_eq (row_of op) k ≡ true → op ≡ k
own_row op k less is = let same = eqb-true (row_of op) k is in omega (arith, same, less)

-- one of these rows is had by the operation that it is numbered with
same_row : (op k : ℕ) → k < 256 → nat_eq (row_of op) k ≡ nat_eq k op
same_row op k less =
    same_truth (nat_eq (row_of op) k) (nat_eq k op) (λ is. eq-eqb k op (sym (own_row op k less is)))
    (λ is. let same = eqb-true k op is in let row : row_of op ≡ k = omega (arith, same, less) in eq-eqb (row_of op) k row)

pub row_is_in : (k : ℕ) (ops : List ℕ) → k < 256 → has_row k ops ≡ is_in k ops
row_is_in k [] less = refl
row_is_in k (op ∷ ops) less = ap (λ b. b || has_row k ops) (same_row op k less) ∙ ap (nat_eq k op ||◌) (row_is_in k ops less)

-- a row that one of these operations has, each of which is of the table, is one of the table
pub each_row : (table : Table) (k : ℕ) (ops : List ℕ) → Each (λ op. op < operations_in table) ops → has_row k ops ≡ true → IsRowOf table k
each_row table k [] each is = absurd (false≢true is)
each_row table k (op ∷ ops) each is = by (or_cases (nat_eq (row_of op) k) (has_row k ops) is) (each_row table k ops each.1)
  where
    by : (nat_eq (row_of op) k ≡ true) ⊎ (has_row k ops ≡ true) → (has_row k ops ≡ true → IsRowOf table k) → IsRowOf table k
    by (inl here) rest = let same = eqb-true (row_of op) k here in let own = each.0 in (omega (arith, same), omega (arith, same, own))
    by (inr later) rest = rest later

-- an operation may be against one where its row may
against_row : (table : Table) (op x : ℕ) → is_row_against table op (row_of x) ≡ may_be_against table op x
against_row table op x = by (nat_lt x 256) refl
  where
    by : (t : Bool) → nat_lt x 256 ≡ t → is_row_against table op (row_of x) ≡ may_be_against table op x
    by true is =
        let less = ltb-true x 256 is in
        let own : row_of x ≡ x = omega (arith, less) in
        let other : x ≢ 256 = omega (arith, less) in
        ap (is_row_against table op) own ∙ ap (λ b. b || may_conflict table op x) (ne_eqb x 256 other ∙ sym (lt-leb 256 x less))
    by false is =
        let past = ltb-false x 256 is in
        let last : row_of x ≡ 256 = omega (arith, past) in
        ap (is_row_against table op) last ∙ sym (ap (λ b. b || may_conflict table op x) (le-leb 256 x past))

module _ (table : Table) (op : ℕ) where
  -- one of these operations has a row that may be against it
  op_of_row : (ops : List ℕ) (k : ℕ) → has_row k ops ≡ true → is_row_against table op k ≡ true → list_any (may_be_against table op) ops ≡ true
  op_of_row [] k has against = absurd (false≢true has)
  op_of_row (x ∷ ops) k has against = by (or_cases (nat_eq (row_of x) k) (has_row k ops) has) (λ later. op_of_row ops k later against)
    where
      by : (nat_eq (row_of x) k ≡ true) ⊎ (has_row k ops ≡ true) → (has_row k ops ≡ true → list_any (may_be_against table op) ops ≡ true) → list_any (may_be_against table op) (x ∷ ops) ≡ true
      by (inl here) rest =
          or_left (may_be_against table op x) (list_any (may_be_against table op) ops)
          (sym (against_row table op x) ∙ ap (is_row_against table op) (eqb-true (row_of x) k here) ∙ against)
      by (inr later) rest = or_right (may_be_against table op x) (list_any (may_be_against table op) ops) (rest later)

  row_of_op : (ops : List ℕ) → list_any (may_be_against table op) ops ≡ true → (k : ℕ) × (has_row k ops ≡ true) × (is_row_against table op k ≡ true)
  row_of_op [] is = absurd (false≢true is)
  row_of_op (x ∷ ops) is = by (or_cases (may_be_against table op x) (list_any (may_be_against table op) ops) is) (row_of_op ops)
    where
      by : (may_be_against table op x ≡ true) ⊎ (list_any (may_be_against table op) ops ≡ true)
          → (list_any (may_be_against table op) ops ≡ true → (k : ℕ) × (has_row k ops ≡ true) × (is_row_against table op k ≡ true))
          → (k : ℕ) × (has_row k (x ∷ ops) ≡ true) × (is_row_against table op k ≡ true)
      by (inl here) rest = (row_of x, or_left (nat_eq (row_of x) (row_of x)) (has_row (row_of x) ops) (eq-eqb (row_of x) (row_of x) refl), against_row table op x ∙ here)
      by (inr later) rest = let (k, has, against) = rest later in (k, or_right (nat_eq (row_of x) k) (has_row k ops) has, against)

  -- who holds something is found at a place by the operations there
  pub held_ops : (b : Beside) (who : List Bool) → AreHolders table b op who → (p : ℕ) (ops : List ℕ) → ((k : ℕ) → is_held_at b k p ≡ has_row k ops)
      → slice_index_or who p false ≡ list_any (may_be_against table op) ops
  held_ops b who holders p ops tells =
      same_truth (slice_index_or who p false) (list_any (may_be_against table op) ops)
      (λ is. let (k, held, against) = holders.only p is in op_of_row ops k (sym (tells k) ∙ held) against)
      (λ is. let (k, has, against) = row_of_op ops is in holders.all k p (tells k ∙ has) against)

-- where no row with something may be against an operation, none of those that have something in their rows conflicts with it
clear_each : (table : Table) (op : ℕ) (ops : List ℕ) (bits : List (List Bool)) → ((k : ℕ) → has_row k ops ≡ true → (p : ℕ) × (cell bits k p ≡ true)) → IsClearOf table op bits
    → list_any (may_conflict table op) ops ≡ false
clear_each table op [] bits covers clear = refl
clear_each table op (x ∷ ops) bits covers clear =
    let there = covers (row_of x) (or_left (nat_eq (row_of x) (row_of x)) (has_row (row_of x) ops) (eq-eqb (row_of x) (row_of x) refl)) in
    let none : may_be_against table op x ≡ false = sym (against_row table op x) ∙ clear (row_of x) there.0 (row_small x) there.1 in
    ap (λ b. b || list_any (may_conflict table op) ops) (or_parts (nat_le 256 x) (may_conflict table op x) none).1
    ∙ clear_each table op ops bits (λ k is. covers k (or_right (nat_eq (row_of x) k) (has_row k ops) is)) clear

pub clear_ops : (table : Table) (op : ℕ) (ops : List ℕ) (bits : List (List Bool)) → KeepOps table ops bits → IsClearOf table op bits → list_any (may_conflict table op) ops ≡ false
clear_ops table op ops bits keeps clear = clear_each table op ops bits keeps.covers clear
