-- The lesser of two blocks: in any order, and joined in any way.
use Rattle.std.proofs.Common.{◌≡◌, ◌⊎◌, inl, inr, ℕ, zero, suc, ◌<◌, Bool, true, false, eqb, ltb, if◌then◌else◌, ◌&&◌, List, [], ◌∷◌, ◌++◌, Option, Some, None, sym, refl, ap, ◌∙◌, arith}
use Rattle.std.proofs.lemmas.Bool.{or_parts, ltb-false, lt-ltb, eq-eqb, cases_order, false≢true}
use Rattle.machine_model.specs.declared.blocked.Blocked.{Blocked}
use Rattle.machine_model.specs.declared.blocked.Rule.{Rule}
use Rattle.machine_model.specs.declared.blocked.Rule.TheVariants.{A0, A1, A2, A3, A4, A5}
use Rattle.machine_model.specs.Blocks.{is_less, least_block, less_then, lesser, rule_number}
use Rattle.machine_model.proofs.Least.{is_less-one_way, is_less-past}
use Rattle.admission.specs.Least.{lesser_of}

-- two numbers of which neither comes first are the same, and so is what follows
neither : (a b : ℕ) (r s : Bool) → less_then a b r ≡ false → less_then b a s ≡ false → (a ≡ b) × (r ≡ false) × (s ≡ false)
neither a b r s there back = by (cases_order a b)
  where
    first : (ltb a b ≡ false) × ((eqb a b && r) ≡ false)
    first = or_parts (ltb a b) _ there

    second : (ltb b a ≡ false) × ((eqb b a && s) ≡ false)
    second = or_parts (ltb b a) _ back

    by : (a ≡ b) ⊎ ((a < b) ⊎ (b < a)) → (a ≡ b) × (r ≡ false) × (s ≡ false)
    by (inl same) = (same, sym (ap (λ t. t && r) (eq-eqb a b same)) ∙ first.1, sym (ap (λ t. t && s) (eq-eqb b a (sym same))) ∙ second.1)
    by (inr (inl less)) = absurd (false≢true (sym first.0 ∙ lt-ltb a b less))
    by (inr (inr greater)) = absurd (false≢true (sym second.0 ∙ lt-ltb b a greater))

same_number : (a b : ℕ) → ltb a b ≡ false → ltb b a ≡ false → a ≡ b
same_number a b there back = let l = ltb-false a b there in let g = ltb-false b a back in omega arith

-- the rule of a number
abbrev rules : ℕ → Rule
rules zero = A0
rules (suc zero) = A1
rules (suc (suc zero)) = A2
rules (suc (suc (suc zero))) = A3
rules (suc (suc (suc (suc zero)))) = A4
rules (suc (suc (suc (suc (suc n))))) = A5

rules-number : (r : Rule) → rules (rule_number r) ≡ r
rules-number A0 = refl
rules-number A1 = refl
rules-number A2 = refl
rules-number A3 = refl
rules-number A4 = refl
rules-number A5 = refl

alike : (a b : Blocked) → a.on ≡ b.on → a.other ≡ b.other → a.own ≡ b.own → a.rule ≡ b.rule → a ≡ b
alike a b on other own rule =
    ap (λ n. record { on = n; other = a.other; own = a.own; rule = a.rule }) on
    ∙ ap (λ n. record { on = b.on; other = n; own = a.own; rule = a.rule }) other
    ∙ ap (λ n. record { on = b.on; other = b.other; own = n; rule = a.rule }) own
    ∙ ap (λ r. record { on = b.on; other = b.other; own = b.own; rule = r }) rule

-- two blocks of which neither is less are one
same_block : (a b : Blocked) → is_less a b ≡ false → is_less b a ≡ false → a ≡ b
same_block a b there back =
    let on = neither a.on b.on _ _ there back in
    let other = neither a.other b.other _ _ on.1 on.2 in
    let own = neither a.own b.own _ _ other.1 other.2 in
    alike a b on.0 other.0 own.0 (sym (rules-number a.rule) ∙ ap rules (same_number (rule_number a.rule) (rule_number b.rule) own.1 own.2) ∙ rules-number b.rule)

abbrev pick : (a b : Blocked) → Bool → Option Blocked
pick a b t = if t then Some b else Some a

-- the lesser of two is the same in either order
lesser-either : (a b : Blocked) → lesser a (Some b) ≡ lesser b (Some a)
lesser-either a b = by (is_less b a) (is_less a b) refl refl
  where
    by : (s t : Bool) → is_less b a ≡ s → is_less a b ≡ t → pick a b s ≡ pick b a t
    by true true s t = absurd (false≢true (sym (is_less-one_way b a s) ∙ t))
    by true false s t = refl
    by false true s t = refl
    by false false s t = ap Some (same_block a b t s)

-- what is less than a lesser is less
less_on : (a b c : Blocked) → is_less c b ≡ true → is_less b a ≡ true → is_less c a ≡ true
less_on a b c first second = is_less-past c b a (is_less-one_way b a second) first

-- three blocks, joined in either way
lesser-thrice : (a b c : Blocked) → lesser_of (lesser a (Some b)) (Some c) ≡ lesser a (lesser b (Some c))
lesser-thrice a b c = by (is_less b a) (is_less c b) refl refl
  where
    third : (t : Bool) → is_less c a ≡ t → is_less c b ≡ false → is_less b a ≡ false → pick a c t ≡ Some a
    third true less not above = absurd (false≢true (sym not ∙ is_less-past c a b above less))
    third false less not above = refl

    by : (s t : Bool) → is_less b a ≡ s → is_less c b ≡ t → lesser_of (lesser a (Some b)) (Some c) ≡ lesser a (lesser b (Some c))
    by true true s t = rw (s, t, less_on a b c t s) refl
    by true false s t = rw (s, t, s) refl
    by false true s t = rw (s, t) refl
    by false false s t = rw (s, t, s) (third (is_less c a) refl t s)

pub either : (x y : Option Blocked) → lesser_of x y ≡ lesser_of y x
either None None = refl
either None (Some b) = refl
either (Some a) None = refl
either (Some a) (Some b) = lesser-either a b

pub thrice : (x y z : Option Blocked) → lesser_of (lesser_of x y) z ≡ lesser_of x (lesser_of y z)
thrice None y z = refl
thrice (Some a) None z = refl
thrice (Some a) (Some b) None = none_last (lesser a (Some b))
  where
    none_last : (x : Option Blocked) → lesser_of x None ≡ x
    none_last None = refl
    none_last (Some a) = refl
thrice (Some a) (Some b) (Some c) = lesser-thrice a b c

pub with_none : (x : Option Blocked) → lesser_of x None ≡ x
with_none None = refl
with_none (Some a) = refl

-- the two in the middle change places
pub middle : (a b c d : Option Blocked) → lesser_of (lesser_of a b) (lesser_of c d) ≡ lesser_of (lesser_of a c) (lesser_of b d)
middle a b c d =
    thrice a b (lesser_of c d)
    ∙ ap (lesser_of a) (sym (thrice b c d) ∙ ap (λ x. lesser_of x d) (either b c) ∙ thrice c b d)
    ∙ sym (thrice a c (lesser_of b d))

-- the first two change places
pub first_two : (a b c : Option Blocked) → lesser_of a (lesser_of b c) ≡ lesser_of b (lesser_of a c)
first_two a b c = sym (thrice a b c) ∙ ap (λ x. lesser_of x c) (either a b) ∙ thrice b a c

-- the least of two lists joined is the lesser of their least
pub least-append : (xs ys : List Blocked) → least_block (xs ++ ys) ≡ lesser_of (least_block xs) (least_block ys)
least-append [] ys = refl
least-append (x ∷ xs) ys = ap (lesser x) (least-append xs ys) ∙ sym (thrice (Some x) (least_block xs) (least_block ys))
