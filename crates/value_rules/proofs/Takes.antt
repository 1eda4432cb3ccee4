-- Takes that aren't barred, one after the other, aren't in the other order.
use Rattle.std.proofs.Common.{◌≡◌, ℕ, ◌+◌, ◌-◌, ◌≤◌, Bool, true, false, cond, refl, sym, ap, ◌∙◌, w64, arith}
use Rattle.std.proofs.Math.IntN.{ℤ, pos, negsuc, ◌-ℤ◌, +ℤ-neg_ℤ_cancel}
use Rattle.std.specs.Prelude.{int_lt, FitsSigned}
use Rattle.std.specs.Int.{int_wrap, int_wrapping_sub}
use Rattle.std.proofs.lemmas.Bool.{false≢true, le-ltb, ltb-false}
use Rattle.std.proofs.lemmas.Int.{fits_signed_from_abs, int_wrap_fits, wrapping_sub_is}
use Rattle.commute_table.specs.declared.op.Verb.TheVariants.{Add, Take, Look}
use Rattle.resource_box.specs.declared.call.Call.{Call}
use Rattle.resource_box.specs.declared.call.Kind.{Kind}
use Rattle.resource_box.specs.Table.{applied_at, bars, bars_at, takes}
use Rattle.value_rules.specs.Ledgers.{made_of}

abbrev Fits : ℤ → Type 0
Fits v = FitsSigned w64 v

less_fits : (n k : ℕ) → k ≤ n → Fits (pos n) → Fits (pos k)
less_fits n k le fits = fits_signed_from_abs w64 (pos k) (let below = fits.sfits in omega (arith, below))

-- a take that isn't barred leaves what is there less its amount
take-leaves : (n m : ℕ) → m ≤ n → Fits (pos n) → Fits (pos m) → int_wrapping_sub w64 (pos n) (pos m) ≡ pos (n - m)
take-leaves n m le f g =
    wrapping_sub_is w64 (pos n) (pos m) f g
    ∙ (ap (λ k. int_wrap w64 (pos k -ℤ pos m)) (let same : n ≡ n - m + m = omega arith in same)
    ∙ (ap (int_wrap w64) (+ℤ-neg_ℤ_cancel (pos (n - m)) (pos m)) ∙ int_wrap_fits w64 (pos (n - m)) (less_fits n (n - m) (omega arith) f)))

pub takes-swap : (v a b : ℤ) → Fits v → Fits a → Fits b → int_lt a (pos 0) ≡ false → int_lt b (pos 0) ≡ false
    → int_lt v a ≡ false → int_lt (int_wrapping_sub w64 v a) b ≡ false
    → (int_lt v b ≡ false) × (int_lt (int_wrapping_sub w64 v b) a ≡ false)
takes-swap v (negsuc a) b f g h a_low b_low one two = absurd (false≢true (sym a_low))
takes-swap v (pos a) (negsuc b) f g h a_low b_low one two = absurd (false≢true (sym b_low))
takes-swap (negsuc n) (pos a) (pos b) f g h a_low b_low one two = absurd (false≢true (sym one))
takes-swap (pos n) (pos a) (pos b) f g h a_low b_low one two =
    let a_in = ltb-false n a one in
    let b_in = ltb-false (n - a) b (sym (ap (λ v. int_lt v (pos b)) (take-leaves n a a_in f g)) ∙ two) in (
      le-ltb n b (omega (arith, a_in, b_in)),
      ap (λ v. int_lt v (pos a)) (take-leaves n b (omega (arith, a_in, b_in)) f h) ∙ le-ltb (n - b) a (omega (arith, a_in, b_in)),
    )

-- whether a look or an add is barred doesn't depend on the value
pub bars-look : (kind : Kind) (c : Call) (v w : ℤ) → c.verb ≡ Look → bars kind c v ≡ bars kind c w
bars-look kind c v w is =
    ap (λ verb. cond (takes kind verb) (bars_at verb c.amount v) true) is ∙ sym (ap (λ verb. cond (takes kind verb) (bars_at verb c.amount w) true) is)

pub bars-add : (kind : Kind) (c : Call) (v w : ℤ) → c.verb ≡ Add → bars kind c v ≡ bars kind c w
bars-add kind c v w is =
    ap (λ verb. cond (takes kind verb) (bars_at verb c.amount v) true) is ∙ sym (ap (λ verb. cond (takes kind verb) (bars_at verb c.amount w) true) is)

-- when a take is barred, and what it makes of a value
pub take_free : (kind : Kind) (c : Call) (v : ℤ) → c.verb ≡ Take → bars kind c v ≡ false → (takes kind Take ≡ true) × (int_lt v c.amount ≡ false)
take_free kind c v is free = by (takes kind Take) (sym (ap (λ verb. cond (takes kind verb) (bars_at verb c.amount v) true) is) ∙ free)
  where
    by : (t : Bool) → cond t (int_lt v c.amount) true ≡ false → (t ≡ true) × (int_lt v c.amount ≡ false)
    by true free' = (refl, free')
    by false free' = absurd (false≢true (sym free'))

pub free_take : (kind : Kind) (c : Call) (v : ℤ) → c.verb ≡ Take → takes kind Take ≡ true → int_lt v c.amount ≡ false → bars kind c v ≡ false
free_take kind c v is taken free =
    ap (λ verb. cond (takes kind verb) (bars_at verb c.amount v) true) is ∙ (ap (λ t. cond t (int_lt v c.amount) true) taken ∙ free)

pub take_made : (kind : Kind) (c : Call) (u : Bool) (v w : ℤ) → c.verb ≡ Take → u ≡ false → takes kind Take ≡ true → made_of kind c u v w ≡ int_wrapping_sub w64 v c.amount
take_made kind c u v w is step taken =
    ap (λ b. made_of kind c b v w) step
    ∙ (ap (λ verb. cond (takes kind verb) (applied_at verb c.amount v) v) is ∙ ap (λ t. cond t (int_wrapping_sub w64 v c.amount) v) taken)
