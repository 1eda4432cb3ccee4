-- The pair that is found is the least one.
use Rattle.std.proofs.Common.{◌≡◌, ⊎_elim, ℕ, zero, suc, ◌+◌, ◌-◌, ◌<◌, ◌≤◌, Bool, true, false, not, eqb, ltb, ◌&&◌, ◌∷◌, length, Option, Some, None, refl, sym, ap, ◌∙◌, arith, if◌then◌else◌}
use Rattle.std.proofs.lemmas.Bool.{and_parts, eqb-true, eq-eqb, ne_eqb, eqb-false, false≢true, ltb-true, or_cases, cases_lt}
use Rattle.process_tree.specs.Blocks.{numbers_from}
use Rattle.process_tree.specs.Conflicts.{mode_of}
use Rattle.process_tree.proofs.Tables.{mode_of-symmetric}
use Rattle.commute_table.specs.declared.op.Verb.{Verb}
use Rattle.commute_table.specs.declared.op.Verb.TheVariants.{Add, Take, Look, Put, Hold, Free}
use Rattle.commute_table.specs.declared.catalog.Catalog.{Catalog}
use Rattle.value_conflict.specs.ValueConflict.{FirstCommuting, FirstCommutingIsExact, comes_before, commute, conflict_in_value, first_among, first_with, is_commuting, is_never, op_at, or_else}

-- Conflict in value is the same either way.

same_either_way : (a b : ℕ) (t : Bool) → eqb a b ≡ t → eqb b a ≡ t
same_either_way a b true is = eq-eqb b a (sym (eqb-true a b is))
same_either_way a b false is = ne_eqb b a (λ same. eqb-false a b is (sym same))

same_verb : (a b : Verb) → commute a b ≡ true → a ≡ b
same_verb Add Add is = refl
same_verb Add Take is = absurd (false≢true is)
same_verb Add Look is = absurd (false≢true is)
same_verb Add Put is = absurd (false≢true is)
same_verb Add Hold is = absurd (false≢true is)
same_verb Add Free is = absurd (false≢true is)
same_verb Take Add is = absurd (false≢true is)
same_verb Take Take is = refl
same_verb Take Look is = absurd (false≢true is)
same_verb Take Put is = absurd (false≢true is)
same_verb Take Hold is = absurd (false≢true is)
same_verb Take Free is = absurd (false≢true is)
same_verb Look Add is = absurd (false≢true is)
same_verb Look Take is = absurd (false≢true is)
same_verb Look Look is = refl
same_verb Look Put is = absurd (false≢true is)
same_verb Look Hold is = absurd (false≢true is)
same_verb Look Free is = absurd (false≢true is)
same_verb Put b is = absurd (false≢true is)
same_verb Hold b is = absurd (false≢true is)
same_verb Free b is = absurd (false≢true is)

commute-symmetric : (a b : Verb) → commute a b ≡ commute b a
commute-symmetric a b = by (commute a b) (commute b a) refl refl
  where
    by : (s t : Bool) → commute a b ≡ s → commute b a ≡ t → commute a b ≡ commute b a
    by true t one two = let same = same_verb a b one in ap (λ v. commute v b) same ∙ ap (commute b) (sym same)
    by false true one two = let same = same_verb b a two in ap (λ v. commute v b) (sym same) ∙ ap (commute b) same
    by false false one two = one ∙ sym two

commuting-symmetric : (c : Catalog) (a b : ℕ) → is_commuting c a b ≡ is_commuting c b a
commuting-symmetric c a b =
    ap (λ t. (t && not (commute (op_at c.ops a).verb (op_at c.ops b).verb)) && is_never (mode_of c.conflicts a b))
    (sym (same_either_way (op_at c.ops a).subsystem (op_at c.ops b).subsystem (eqb (op_at c.ops a).subsystem (op_at c.ops b).subsystem) refl))
    ∙ (ap (λ t. (eqb (op_at c.ops b).subsystem (op_at c.ops a).subsystem && not t) && is_never (mode_of c.conflicts a b)) (commute-symmetric (op_at c.ops a).verb (op_at c.ops b).verb)
    ∙ ap (λ m. conflict_in_value (op_at c.ops b) (op_at c.ops a) && is_never m) (mode_of-symmetric c.conflicts a b))

-- what a pair that is found has first, and second
abbrev first_of : Option (ℕ × ℕ) → ℕ
first_of None = 0
first_of (Some pair) = pair.0

abbrev second_of : Option (ℕ × ℕ) → ℕ
second_of None = 0
second_of (Some pair) = pair.1

abbrev some_pair : ℕ → ℕ → Option (ℕ × ℕ)
some_pair a b = Some (a, b)

pair-same : (a b x y : ℕ) → some_pair a b ≡ some_pair x y → (a ≡ x) × (b ≡ y)
pair-same a b x y is = (ap first_of is, ap second_of is)

module _ (c : Catalog) where
  -- What is found with one operation.

  with-none : (a m k : ℕ) → first_with c a (numbers_from m k) ≡ None → (b : ℕ) → m ≤ b → b < m + k → is_commuting c a b ≡ false
  with-none a m zero none b low high = absurd (omega arith)
  with-none a m (suc k) none b low high = by (is_commuting c a m) refl (with-none a (m + 1) k)
    where
      by : (t : Bool) → is_commuting c a m ≡ t → (first_with c a (numbers_from (m + 1) k) ≡ None → (d : ℕ) → m + 1 ≤ d → d < m + 1 + k → is_commuting c a d ≡ false)
          → is_commuting c a b ≡ false
      by true is rest =
          absurd (let told : Some (a, m) ≡ None = sym (ap (λ t. if t then Some (a, m) else first_with c a (numbers_from (m + 1) k)) is) ∙ none in cc)
      by false is rest =
          ⊎_elim
          (λ later. rest (sym (ap (λ t. if t then Some (a, m) else first_with c a (numbers_from (m + 1) k)) is) ∙ none) b (omega arith) (omega arith))
          (λ here. ap (is_commuting c a) (let same : b ≡ m = omega arith in same) ∙ is)
          (cases_lt m b)

  -- the pair is of this operation, and none before is so
  record WithFound (a m k x y : ℕ) : Type 0 where
    own : x ≡ a
    low : m ≤ y
    high : y < m + k
    is : is_commuting c a y ≡ true
    least : (b : ℕ) → m ≤ b → b < y → is_commuting c a b ≡ false

  with-some : (a m k x y : ℕ) → first_with c a (numbers_from m k) ≡ Some (x, y) → WithFound a m k x y
  with-some a m zero x y some = absurd (let none : None ≡ Some (x, y) = some in cc)
  with-some a m (suc k) x y some = by (is_commuting c a m) refl (with-some a (m + 1) k x y)
    where
      by : (t : Bool) → is_commuting c a m ≡ t → (first_with c a (numbers_from (m + 1) k) ≡ Some (x, y) → WithFound a (m + 1) k x y) → WithFound a m (suc k) x y
      by true is rest =
          let told : Some (a, m) ≡ Some (x, y) = sym (ap (λ t. if t then Some (a, m) else first_with c a (numbers_from (m + 1) k)) is) ∙ some in
          let one = (pair-same a m x y told).0 in
          let two = (pair-same a m x y told).1 in
          record { own = sym one; low = omega arith; high = omega arith; is = ap (is_commuting c a) (sym two) ∙ is; least = λ b low high. absurd (omega arith) }
      by false is rest =
          let f = rest (sym (ap (λ t. if t then Some (a, m) else first_with c a (numbers_from (m + 1) k)) is) ∙ some) in
          record {
            own = f.own;
            low = let low = f.low in omega arith;
            high = let high = f.high in omega arith;
            is = f.is;
            least = λ b low high. ⊎_elim (λ later. f.least b (omega arith) high) (λ here. ap (is_commuting c a) (let same : b ≡ m = omega arith in same) ∙ is) (cases_lt m b);
          }

  -- What is found among all.

  among-none : (m k : ℕ) → first_among c (numbers_from m k) ≡ None → (a b : ℕ) → m ≤ a → a ≤ b → b < m + k → is_commuting c a b ≡ false
  among-none m zero none a b low order high = absurd (omega arith)
  among-none m (suc k) none a b low order high = by (first_with c m (numbers_from m (suc k))) refl (among-none (m + 1) k)
    where
      by : (o : Option (ℕ × ℕ)) → first_with c m (numbers_from m (suc k)) ≡ o
          → (first_among c (numbers_from (m + 1) k) ≡ None → (d e : ℕ) → m + 1 ≤ d → d ≤ e → e < m + 1 + k → is_commuting c d e ≡ false) → is_commuting c a b ≡ false
      by (Some pair) is rest = absurd (let told : Some pair ≡ None = sym (ap (λ o. or_else o (first_among c (numbers_from (m + 1) k))) is) ∙ none in cc)
      by None is rest =
          ⊎_elim
          (λ later. rest (sym (ap (λ o. or_else o (first_among c (numbers_from (m + 1) k))) is) ∙ none) a b (omega arith) order (omega arith))
          (λ here. ap (λ x. is_commuting c x b) (let same : a ≡ m = omega arith in same) ∙ with-none m m (suc k) is b (omega arith) high)
          (cases_lt m a)

  record AmongFound (m k x y : ℕ) : Type 0 where
    low : m ≤ x
    order : x ≤ y
    high : y < m + k
    is : is_commuting c x y ≡ true
    least : (d e : ℕ) → m ≤ d → d ≤ e → e < m + k → comes_before d e x y ≡ true → is_commuting c d e ≡ false

  among-some : (m k x y : ℕ) → first_among c (numbers_from m k) ≡ Some (x, y) → AmongFound m k x y
  among-some m zero x y some = absurd (let none : None ≡ Some (x, y) = some in cc)
  among-some m (suc k) x y some = by (first_with c m (numbers_from m (suc k))) refl (among-some (m + 1) k x y)
    where
      by : (o : Option (ℕ × ℕ)) → first_with c m (numbers_from m (suc k)) ≡ o → (first_among c (numbers_from (m + 1) k) ≡ Some (x, y) → AmongFound (m + 1) k x y) → AmongFound m (suc k) x y
      by (Some pair) is rest =
          let told : Some pair ≡ Some (x, y) = sym (ap (λ o. or_else o (first_among c (numbers_from (m + 1) k))) is) ∙ some in
          let f = with-some m m (suc k) x y (is ∙ told) in
          let own = f.own in
          let low = f.low in
          record {
            low = omega (arith, own);
            order = omega (arith, own, low);
            high = f.high;
            is = ap (λ z. is_commuting c z y) own ∙ f.is;
            least = λ d e d_low ordered high before.
                ⊎_elim
                (λ less. let below = ltb-true d x less in absurd (omega (arith, own)))
                (λ same.
                let parts = and_parts (eqb d x) (ltb e y) same in
                let is_own = eqb-true d x parts.0 ∙ own in
                let below = ltb-true e y parts.1 in
                ap (λ z. is_commuting c z e) is_own ∙ f.least e (omega (arith, is_own)) below)
                (or_cases (ltb d x) (eqb d x && ltb e y) before);
          }
      by None is rest =
          let f = rest (sym (ap (λ o. or_else o (first_among c (numbers_from (m + 1) k))) is) ∙ some) in
          let f_low = f.low in
          let f_high = f.high in
          record {
            low = omega arith;
            order = f.order;
            high = omega arith;
            is = f.is;
            least = λ d e d_low ordered high before.
                ⊎_elim
                (λ later. f.least d e (omega arith) ordered (omega arith) before)
                (λ here. ap (λ z. is_commuting c z e) (let same : d ≡ m = omega arith in same) ∙ with-none m m (suc k) is e (omega arith) high)
                (cases_lt m d);
          }

  pub first-is_exact : FirstCommuting c
  first-is_exact = record {
    none = λ none a b a_in b_in.
        ⊎_elim
        (λ over. commuting-symmetric c a b ∙ among-none 0 (length c.ops) none b a (omega arith) (omega arith) (omega (arith, a_in)))
        (λ order. among-none 0 (length c.ops) none a b (omega arith) order (omega (arith, b_in)))
        (cases_lt b a);
    some = λ a b some.
        let f = among-some 0 (length c.ops) a b some in
        record { ordered = f.order; there = (let high = f.high in omega arith); is = f.is; least = λ d e order high before. f.least d e (omega arith) order (omega arith) before };
  }

-- A number less to look at.

numbers-step : (b n : ℕ) → b < n → numbers_from b (n - b) ≡ b ∷ numbers_from (b + 1) (n - (b + 1))
numbers-step b n low = ap (numbers_from b) (let same : n - b ≡ suc (n - (b + 1)) = omega arith in same)

pub with-step : (c : Catalog) (a b n : ℕ) → b < n → is_commuting c a b ≡ false
    → first_with c a (numbers_from b (n - b)) ≡ first_with c a (numbers_from (b + 1) (n - (b + 1)))
with-step c a b n low is = ap (first_with c a) (numbers-step b n low) ∙ ap (λ t. if t then Some (a, b) else first_with c a (numbers_from (b + 1) (n - (b + 1)))) is

pub among-step : (c : Catalog) (a n : ℕ) → a < n → first_with c a (numbers_from a (n - a)) ≡ None
    → first_among c (numbers_from a (n - a)) ≡ first_among c (numbers_from (a + 1) (n - (a + 1)))
among-step c a n low none =
    ap (first_among c) (numbers-step a n low)
    ∙ ap (λ o. or_else o (first_among c (numbers_from (a + 1) (n - (a + 1))))) (sym (ap (first_with c a) (numbers-step a n low)) ∙ none)

pub first_commuting-is_exact : FirstCommutingIsExact
first_commuting-is_exact c = first-is_exact c
