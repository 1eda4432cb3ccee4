-- Modes by name, in whichever order two operations are named.
use Rattle.std.proofs.Common.{◌≡◌, ◌∙◌, ◌⊎◌, ◌<◌, ◌≤◌, ◌&&◌, ◌||◌, ◌+◌, ℕ, Bool, true, false, if◌then◌else◌, List, Option, Some, None, inl, inr, nat_eq, refl, sym, ap, arith, eqb-true}
use Rattle.std.proofs.lemmas.Bool.Decides.{nat_tests}
use Rattle.std.proofs.lemmas.Bool.{true≢false, cases_lt}
use Rattle.process_tree.specs.Conflicts.{Table, is_same_pair}
use Rattle.process_tree.specs.declared.conflicts.Mode.{Mode}
use Rattle.process_tree.proofs.Tables.{mode_of-symmetric}
use Rattle.commute_table.specs.declared.catalog.Catalog.{Catalog}
use Rattle.commute_table.specs.declared.op.Op.{Op}
use Rattle.named_conflicts.specs.Under.{mode_at, named_mode, number_under}

turned : (t : Table) (o p : Option ℕ) → mode_at t o p ≡ mode_at t p o
turned t None None = refl
turned t None (Some b) = refl
turned t (Some a) None = refl
turned t (Some a) (Some b) = mode_of-symmetric t a b

named_turned : (c : Catalog) (ops : List Op) (a b : ℕ) → named_mode c ops a b ≡ named_mode c ops b a
named_turned c ops a b = turned c.conflicts (number_under c.ops ops a) (number_under c.ops ops b)

-- what a pair that is another by numbers is
pair_of : (a b x y : ℕ) → is_same_pair a b x y ≡ true → ((a ≡ x) × (b ≡ y)) ⊎ ((a ≡ y) × (b ≡ x))
pair_of a b x y is = by (nat_eq a x) (nat_eq b y) (nat_eq a y) (nat_eq b x) refl refl refl refl is
  where
    by : (p q r s : Bool) → nat_eq a x ≡ p → nat_eq b y ≡ q → nat_eq a y ≡ r → nat_eq b x ≡ s → ((p && q) || (r && s)) ≡ true → ((a ≡ x) × (b ≡ y)) ⊎ ((a ≡ y) × (b ≡ x))
    by true true r s ax by' ay bx is = inl (eqb-true a x ax, eqb-true b y by')
    by true false true true ax by' ay bx is = inr (eqb-true a y ay, eqb-true b x bx)
    by true false true false ax by' ay bx is = absurd cc
    by true false false s ax by' ay bx is = absurd cc
    by false q true true ax by' ay bx is = inr (eqb-true a y ay, eqb-true b x bx)
    by false q true false ax by' ay bx is = absurd cc
    by false q false s ax by' ay bx is = absurd cc

-- one with the same numbers is the pair
pair_is : (a b x y : ℕ) → a ≡ x → b ≡ y → is_same_pair a b x y ≡ true
pair_is a b x y p q = grind (arith, nat_tests)

module _ (c : Catalog) (ops : List Op) where
  -- so it has the same mode by name
  same_named : (a b x y : ℕ) → is_same_pair a b x y ≡ true → named_mode c ops a b ≡ named_mode c ops x y
  same_named a b x y is = by (pair_of a b x y is)
    where
      by : ((a ≡ x) × (b ≡ y)) ⊎ ((a ≡ y) × (b ≡ x)) → named_mode c ops a b ≡ named_mode c ops x y
      by (inl (p, q)) = ap (λ k. named_mode c ops k b) p ∙ ap (λ k. named_mode c ops x k) q
      by (inr (p, q)) = ap (λ k. named_mode c ops k b) p ∙ (ap (λ k. named_mode c ops y k) q ∙ named_turned c ops y x)

  -- Where a and b are given their mode by name, a pair that they are has it, and any other that had it.
  pub given_named : (mode now : Mode) (a b x y : ℕ) → mode ≡ named_mode c ops a b → (is_same_pair a b x y ≡ false → now ≡ named_mode c ops x y)
      → (if is_same_pair a b x y then mode else now) ≡ named_mode c ops x y
  given_named mode now a b x y gives had = by (is_same_pair a b x y) refl
    where
      by : (s : Bool) → is_same_pair a b x y ≡ s → (if s then mode else now) ≡ named_mode c ops x y
      by true is = gives ∙ same_named a b x y is
      by false is = had is

  -- The next place of row a: what was named before it is, and so is the place itself.
  pub row_goes_on : (mode now : Mode) (a b x y : ℕ) (Old : Type 0) → mode ≡ named_mode c ops a b
      → (((x ≡ a) × (y < b)) ⊎ Old → now ≡ named_mode c ops x y)
      → ((x ≡ a) × (y < b + 1)) ⊎ Old → (if is_same_pair a b x y then mode else now) ≡ named_mode c ops x y
  row_goes_on mode now a b x y Old gives before (inr old) = given_named mode now a b x y gives (λ other. before (inr old))
  row_goes_on mode now a b x y Old gives before (inl (here, low)) = by (cases_lt y b)
    where
      by : (y < b) ⊎ (b ≤ y) → (if is_same_pair a b x y then mode else now) ≡ named_mode c ops x y
      by (inl less) = given_named mode now a b x y gives (λ other. before (inl (here, less)))
      by (inr at) =
          let last : b ≡ y = omega (arith, low, at) in
          given_named mode now a b x y gives (λ other. absurd (true≢false (sym (pair_is a b x y (sym here) last) ∙ other)))

-- a pair of numbers below a bound is no pair of which one isn't
pub pair_below : (n a b x y : ℕ) → a < n → b < n → (n ≤ x) ⊎ (n ≤ y) → is_same_pair a b x y ≡ false
pair_below n a b x y la lb (inl far) = grind (arith, nat_tests)
pair_below n a b x y la lb (inr far) = grind (arith, nat_tests)
