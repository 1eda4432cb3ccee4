-- The least block: there is one where there is a block, it is one of them, and none of them is less.
use Rattle.std.proofs.Common.{◌≡◌, ◌⊎◌, inl, inr, ℕ, ◌<◌, Bool, true, false, eqb, ltb, if◌then◌else◌, ◌&&◌, List, [], ◌∷◌, Option, Some, None, IfSome, sym, refl, ◌∙◌, arith}
use Rattle.std.proofs.lemmas.Option.{none-some}
use Rattle.std.proofs.lemmas.Bool.{and_parts, and_left, or_cases, or_parts, or_from, or_left, ltb-true, ltb-false, lt-ltb, le-ltb, eqb-true, eq-eqb, ne_eqb, cases_order, false≢true}
use Rattle.machine_model.specs.declared.blocked.Blocked.{Blocked}
use Rattle.machine_model.specs.Blocks.{least_block, lesser, is_less, less_then, rule_number}

-- One number, and then what follows it.

same_then : (a b : ℕ) (r : Bool) → a ≡ b → less_then a b r ≡ r
same_then a b r same = rw (le-ltb a b (omega arith), eq-eqb a b same) refl

-- what is less is less in the first number, or the same and less in what follows
less_cases : (a b : ℕ) (r : Bool) → less_then a b r ≡ true → (a < b) ⊎ ((a ≡ b) × (r ≡ true))
less_cases a b r is = by_first (or_cases (ltb a b) _ is)
  where
    by_first : (ltb a b ≡ true) ⊎ ((eqb a b && r) ≡ true) → (a < b) ⊎ ((a ≡ b) × (r ≡ true))
    by_first (inl less) = inl (ltb-true a b less)
    by_first (inr same) = let parts = and_parts (eqb a b) r same in inr (eqb-true a b parts.0, parts.1)

-- what isn't less is greater in the first number, or the same and not less in what follows
not_less_cases : (a b : ℕ) (r : Bool) → less_then a b r ≡ false → (b < a) ⊎ ((a ≡ b) × (r ≡ false))
not_less_cases a b r is = by_order (cases_order a b)
  where
    parts : (ltb a b ≡ false) × ((eqb a b && r) ≡ false)
    parts = or_parts (ltb a b) _ is

    by_order : (a ≡ b) ⊎ ((a < b) ⊎ (b < a)) → (b < a) ⊎ ((a ≡ b) × (r ≡ false))
    by_order (inl same) = inr (same, sym (same_then a b r same) ∙ is)
    by_order (inr (inl less)) = absurd (false≢true (sym parts.0 ∙ lt-ltb a b less))
    by_order (inr (inr greater)) = inl greater

less_first : (a b : ℕ) (r : Bool) → a < b → less_then a b r ≡ true
less_first a b r less = or_left (ltb a b) _ (lt-ltb a b less)

greater_first : (a b : ℕ) (r : Bool) → b < a → less_then a b r ≡ false
greater_first a b r greater = or_from (ltb a b) _ (le-ltb a b (omega arith)) (and_left (eqb a b) r (ne_eqb a b (λ same. omega arith)))

-- c isn't less than b, and y is: then y is less than c
level_past : (y b c : ℕ) (ryb rcb ryc : Bool) → (rcb ≡ false → ryb ≡ true → ryc ≡ true)
    → less_then c b rcb ≡ false → less_then y b ryb ≡ true → less_then y c ryc ≡ true
level_past y b c ryb rcb ryc rest not is = by_both (not_less_cases c b rcb not) (less_cases y b ryb is)
  where
    by_both : (b < c) ⊎ ((c ≡ b) × (rcb ≡ false)) → (y < b) ⊎ ((y ≡ b) × (ryb ≡ true)) → less_then y c ryc ≡ true
    by_both (inl above) (inl less) = less_first y c ryc (omega arith)
    by_both (inl above) (inr same) = let e = same.0 in less_first y c ryc (omega arith)
    by_both (inr at) (inl less) = let e = at.0 in less_first y c ryc (omega arith)
    by_both (inr at) (inr same) = same_then y c ryc (same.0 ∙ sym at.0) ∙ rest at.1 same.1

-- what is less isn't greater
level_one_way : (a b : ℕ) (r s : Bool) → (r ≡ true → s ≡ false) → less_then a b r ≡ true → less_then b a s ≡ false
level_one_way a b r s rest is = by_cases (less_cases a b r is)
  where
    by_cases : (a < b) ⊎ ((a ≡ b) × (r ≡ true)) → less_then b a s ≡ false
    by_cases (inl less) = greater_first b a s less
    by_cases (inr same) = same_then b a s (sym same.0) ∙ rest same.1

ltb_past : (y b c : ℕ) → ltb c b ≡ false → ltb y b ≡ true → ltb y c ≡ true
ltb_past y b c not is = let l = ltb-false c b not in let m = ltb-true y b is in lt-ltb y c (omega arith)

ltb_one_way : (a b : ℕ) → ltb a b ≡ true → ltb b a ≡ false
ltb_one_way a b is = let l = ltb-true a b is in le-ltb b a (omega arith)

-- Blocks.

abbrev by_rules : Blocked → Blocked → Bool
by_rules a b = ltb (rule_number a.rule) (rule_number b.rule)

abbrev by_own : Blocked → Blocked → Bool
by_own a b = less_then a.own b.own (by_rules a b)

abbrev by_other : Blocked → Blocked → Bool
by_other a b = less_then a.other b.other (by_own a b)

pub is_less-past : (y b c : Blocked) → is_less c b ≡ false → is_less y b ≡ true → is_less y c ≡ true
is_less-past y b c = level_past y.on b.on c.on (by_other y b) (by_other c b) (by_other y c)
    (level_past y.other b.other c.other (by_own y b) (by_own c b) (by_own y c)
    (level_past y.own b.own c.own (by_rules y b) (by_rules c b) (by_rules y c)
    (ltb_past (rule_number y.rule) (rule_number b.rule) (rule_number c.rule))))

pub is_less-one_way : (a b : Blocked) → is_less a b ≡ true → is_less b a ≡ false
is_less-one_way a b = level_one_way a.on b.on (by_other a b) (by_other b a)
    (level_one_way a.other b.other (by_own a b) (by_own b a)
    (level_one_way a.own b.own (by_rules a b) (by_rules b a)
    (ltb_one_way (rule_number a.rule) (rule_number b.rule))))

not_itself : (b : Blocked) → (t : Bool) → is_less b b ≡ t → is_less b b ≡ false
not_itself b true is = is_less-one_way b b is
not_itself b false is = is

-- each of these blocks has it
abbrev pub Each : (Blocked → Type 0) → List Blocked → Type 0
Each P [] = Unit {0}
Each P (b ∷ bs) = P b × Each P bs

pub Each-weaker : (P Q : Blocked → Type 0) (bs : List Blocked) → ((b : Blocked) → P b → Q b) → Each P bs → Each Q bs
Each-weaker P Q [] h all = tt
Each-weaker P Q (b ∷ bs) h all = (h b all.0, Each-weaker P Q bs h all.1)

lesser-has : (P : Blocked → Type 0) (b : Blocked) (o : Option Blocked) → P b → IfSome o P → IfSome (lesser b o) P
lesser-has P b None this rest = this
lesser-has P b (Some c) this rest = by_test (is_less c b)
  where
    by_test : (t : Bool) → IfSome (if t then Some c else Some b) P
    by_test true = rest
    by_test false = this

-- what each block has, the least one has
pub least-has : (P : Blocked → Type 0) (bs : List Blocked) → Each P bs → IfSome (least_block bs) P
least-has P [] all = tt
least-has P (b ∷ bs) all = lesser-has P b (least_block bs) all.0 (least-has P bs all.1)

-- no block of the list is less
abbrev pub IsLeastOf : List Blocked → Blocked → Type 0
IsLeastOf bs b = Each (λ c. is_less c b ≡ false) bs

lesser-least : (b : Blocked) (bs : List Blocked) (o : Option Blocked) → (o ≡ None → bs ≡ []) → IfSome o (IsLeastOf bs) → IfSome (lesser b o) (IsLeastOf (b ∷ bs))
lesser-least b bs None empty rest = (not_itself b (is_less b b) refl, rw (empty refl) tt)
lesser-least b bs (Some c) empty rest = by_test (is_less c b) refl
  where
    keep : is_less c b ≡ false → (y : Blocked) → is_less y c ≡ false → (t : Bool) → is_less y b ≡ t → is_less y b ≡ false
    keep not y above true is = absurd (false≢true (sym above ∙ is_less-past y b c not is))
    keep not y above false is = is

    by_test : (t : Bool) → is_less c b ≡ t → IfSome (if t then Some c else Some b) (IsLeastOf (b ∷ bs))
    by_test true is = (is_less-one_way c b is, rest)
    by_test false is = (not_itself b (is_less b b) refl, Each-weaker (λ y. is_less y c ≡ false) (λ y. is_less y b ≡ false) bs (λ y above. keep is y above (is_less y b) refl) rest)

no_lesser : (b : Blocked) (o : Option Blocked) → lesser b o ≡ None → ⊥
no_lesser b None is = none-some b (sym is)
no_lesser b (Some c) is = by_test (is_less c b) is
  where
    by_test : (t : Bool) → (if t then Some c else Some b) ≡ None → ⊥
    by_test true e = none-some c (sym e)
    by_test false e = none-some b (sym e)

-- there is no least block only where there is none
pub least-none : (bs : List Blocked) → least_block bs ≡ None → bs ≡ []
least-none [] is = refl
least-none (b ∷ bs) is = absurd (no_lesser b (least_block bs) is)

-- the least block is the least
pub least-least : (bs : List Blocked) → IfSome (least_block bs) (IsLeastOf bs)
least-least [] = tt
least-least (b ∷ bs) = lesser-least b bs (least_block bs) (least-none bs) (least-least bs)
