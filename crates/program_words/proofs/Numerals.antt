-- A number in decimals is accepted by the parsers of arguments.
use Rattle.std.proofs.Common.{◌≡◌, ◌∙◌, ◌<◌, ◌≤◌, ◌^◌, ℕ, Bool, true, false, [], ◌∷◌, drop, cond, refl, ap, arith, ◌==◌}
use Rattle.std.specs.Prelude.{pos, decimal}
use Rattle.std.specs.Str.Parse.{IsNumeral, digits_value, signed_digits_value, without_leading_plus, without_leading_sign}
use Rattle.std.proofs.lemmas.Bool.{ne_eqb}
use Rattle.std.proofs.lemmas.Int.{ints}
use Rattle.std.proofs.lemmas.Str.Parse.{digit_from_value}
use Rattle.std.proofs.lemmas.Fmt.{decimal_is_IsNumeral}
use Rattle.clap.specs.Walk.{Text}
use Rattle.clap.specs.Values.{IsSignedIn}
use Rattle.clap.specs.ValueTests.{accepts}
use Rattle.clap.specs.declared.builder.value_parser.ValueParser.TheVariants as vp
use Rattle.clap.proofs.ValueTestLemmas.{Accepts-accepts}

-- digits, and neither sign before them
pub record IsPlainNumber (t : Text) (n : ℕ) : Type 0 where
  pub first : ℕ
  pub rest : Text
  pub is : t ≡ first ∷ rest
  pub minus : (first == 45) ≡ false
  pub plus : without_leading_plus t ≡ t
  pub numeral : IsNumeral 10 t
  pub value : digits_value 10 t ≡ n

plain_number : (t : Text) (n : ℕ) → IsNumeral 10 t → digits_value 10 t ≡ n → IsPlainNumber t n
plain_number [] n numeral value = absurd (omega (arith, numeral.0))
plain_number (d ∷ ds) n numeral value =
    let plus : (d == 43) ≡ false = ne_eqb _ _ (λ e. omega (arith, digit_from_value d numeral.1.0)) in
    record {
      first = d;
      rest = ds;
      is = refl;
      minus = ne_eqb _ _ (λ e. omega (arith, digit_from_value d numeral.1.0));
      plus = ap (λ (b : Bool). drop (cond b 1 0) (d ∷ ds)) plus;
      numeral = numeral;
      value = value;
    }

pub decimal_is : (n : ℕ) → n < 2 ^ 64 → IsPlainNumber (decimal n) n
decimal_is n small = plain_number (decimal n) n (decimal_is_IsNumeral n small).0 (decimal_is_IsNumeral n small).1

signed_in : (low high n d : ℕ) (ds : Text) → (d == 45) ≡ false → without_leading_plus (d ∷ ds) ≡ d ∷ ds → IsNumeral 10 (d ∷ ds) → digits_value 10 (d ∷ ds) ≡ n
    → low ≤ n → n ≤ high → n < 2 ^ 63 → IsSignedIn (pos low) (pos high) (d ∷ ds)
signed_in low high n d ds minus plus numeral value least most small =
    let sign : without_leading_sign (d ∷ ds) ≡ d ∷ ds = ap (λ (b : Bool). cond b ds (without_leading_plus (d ∷ ds))) minus ∙ plus in
    let number : signed_digits_value 10 (d ∷ ds) ≡ pos n = rw minus (ap pos (ap (digits_value 10) plus ∙ value)) in
    (rw sign numeral, rw number (record { sfits = omega arith }), rw number (omega (arith, ints)), rw number (omega (arith, ints)))

pub signed_accepted : (low high n : ℕ) (t : Text) → IsPlainNumber t n → low ≤ n → n ≤ high → n < 2 ^ 63 → accepts false (vp.Signed (pos low) (pos high)) t ≡ true
signed_accepted low high n t p least most small =
    rw p.is (Accepts-accepts false (vp.Signed (pos low) (pos high)) (p.first ∷ p.rest)
    (signed_in low high n p.first p.rest p.minus (rw p.is at p.plus) (rw p.is at p.numeral) (rw p.is at p.value) least most small))

pub unsigned_accepted : (n : ℕ) (t : Text) → IsPlainNumber t n → n ≤ 18446744073709551615 → accepts false (vp.Unsigned 0 18446744073709551615) t ≡ true
unsigned_accepted n t p most =
    Accepts-accepts false (vp.Unsigned 0 18446744073709551615) t
    (rw p.plus p.numeral, rw (p.plus, p.value) (omega arith), omega arith, rw (p.plus, p.value) most)
