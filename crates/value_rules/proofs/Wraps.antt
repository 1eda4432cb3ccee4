-- Sums that wrap: two of them in either order, and one taken back.
use Rattle.std.proofs.Common.{◌≡◌, Bool, true, false, sym, ap, ◌∙◌, subst, w64}
use Rattle.std.proofs.Math.IntN.{ℤ, ◌+ℤ◌, neg_ℤ, +ℤ_comm, +ℤ_assoc, +ℤ-neg_ℤ_cancel, -ℤ-+ℤ_cancel}
use Rattle.std.specs.Prelude.{FitsSigned}
use Rattle.std.specs.Int.{int_wrap, int_wrapping_add, int_wrapping_sub}
use Rattle.std.proofs.lemmas.Int.{wrapping_add_is, wrapping_sub_is, int_wrap-add_left, int_wrap_fits, SFits-int_wrap}

abbrev pub Fits : ℤ → Type 0
Fits v = FitsSigned w64 v

-- what is added: an amount, or its opposite where it is taken back
abbrev pub delta : Bool → ℤ → ℤ
delta false a = a
delta true a = neg_ℤ a

-- a sum, or a difference
abbrev pub moved : Bool → ℤ → ℤ → ℤ
moved false v a = int_wrapping_add w64 v a
moved true v a = int_wrapping_sub w64 v a

pub moved-is : (t : Bool) (v a : ℤ) → Fits v → Fits a → moved t v a ≡ int_wrap w64 (v +ℤ delta t a)
moved-is false v a f g = wrapping_add_is w64 v a f g
moved-is true v a f g = wrapping_sub_is w64 v a f g

pub moved-fits : (t : Bool) (v a : ℤ) → Fits v → Fits a → Fits (moved t v a)
moved-fits t v a f g = subst Fits (sym (moved-is t v a f g)) (SFits-int_wrap w64 (v +ℤ delta t a))

pub moved-twice : (s t : Bool) (v a b : ℤ) → Fits v → Fits a → Fits b → moved t (moved s v a) b ≡ int_wrap w64 (v +ℤ delta s a +ℤ delta t b)
moved-twice s t v a b f g h =
    moved-is t (moved s v a) b (moved-fits s v a f g) h
    ∙ (ap (λ x. int_wrap w64 (x +ℤ delta t b)) (moved-is s v a f g) ∙ int_wrap-add_left w64 (v +ℤ delta s a) (delta t b))

pub moves-commute : (s t : Bool) (v a b : ℤ) → Fits v → Fits a → Fits b → moved t (moved s v a) b ≡ moved s (moved t v b) a
moves-commute s t v a b f g h =
    moved-twice s t v a b f g h
    ∙ (ap (int_wrap w64) (+ℤ_assoc v (delta s a) (delta t b) ∙ (ap (λ x. v +ℤ x) (+ℤ_comm (delta s a) (delta t b)) ∙ sym (+ℤ_assoc v (delta t b) (delta s a))))
    ∙ sym (moved-twice t s v b a f h g))

pub added_back : (v a : ℤ) → Fits v → Fits a → moved true (moved false v a) a ≡ v
added_back v a f g = moved-twice false true v a a f g g ∙ (ap (int_wrap w64) (+ℤ-neg_ℤ_cancel v a) ∙ int_wrap_fits w64 v f)

pub taken_back : (v a : ℤ) → Fits v → Fits a → moved false (moved true v a) a ≡ v
taken_back v a f g = moved-twice true false v a a f g g ∙ (ap (int_wrap w64) (-ℤ-+ℤ_cancel v a) ∙ int_wrap_fits w64 v f)
