-- Numbers that are written without a sign or a leading zero.
use Rattle.std.proofs.Common.{◌≡◌, ◌≢◌, ◌⊎◌, inl, inr, ℕ, ◌<◌, ◌^◌, List, length, get_or, decimal, Result, Ok, sym, ap, arith, zero, suc, lit<}
use Rattle.std.specs.Str.Parse.{AllDigits, digits_value, ParsesUnsigned}
use Rattle.std.specs.Str.{IsUtf8}
use Rattle.std.proofs.lemmas.Str.{IsUtf8-from_ascii}
use Rattle.std.proofs.lemmas.Str.Parse.{IsNumeralModel, numerals_by_value, tells_digits, not_in_digits, parse_plain}
use Rattle.std.proofs.lemmas.Fmt.{digits_decimal, decimal_nonempty, first_decimal, decimal_digit, IsAscii-decimal, decimal-digits_value}
use Rattle.std.proofs.lemmas.Result.{OkIff-at_ok}

own : IsNumeralModel (AllDigits 10) (digits_value 10)
own = numerals_by_value (AllDigits 10) tells_digits

first_is_digit : (n : ℕ) → n < 2 ^ 64 → get_or (decimal n) 0 0 ≢ 43
first_is_digit n small = not_in_digits own (decimal n) 43 (digits_decimal own n small) (λ r. omega arith) 0 (decimal_nonempty n small)

-- no number begins with a minus
pub first_is_no_minus : (n : ℕ) → n < 2 ^ 64 → get_or (decimal n) 0 0 ≢ 45
first_is_no_minus n small = not_in_digits own (decimal n) 45 (digits_decimal own n small) (λ r. omega arith) 0 (decimal_nonempty n small)

no_leading_zero : (n : ℕ) → n < 2 ^ 64 → get_or (decimal n) 0 0 ≡ 48 → length (decimal n) ≡ 1
no_leading_zero zero small e = ap length (decimal_digit 0 (lit< tt))
no_leading_zero (suc n) small e = absurd (omega (arith, first_decimal (suc n) (omega arith) small))

-- a padded word writes no number
pub padded_is_no_number : (bs : List ℕ) (n : ℕ) → n < 2 ^ 64 → bs ≡ decimal n → (get_or bs 0 0 ≡ 43) ⊎ ((get_or bs 0 0 ≡ 48) × (length bs ≢ 1)) → ⊥
padded_is_no_number bs n small e (inl plus) = first_is_digit n small (rw (← e) plus)
padded_is_no_number bs n small e (inr zeros) = zeros.1 (rw e (no_leading_zero n small (rw (← e) zeros.0)))

pub number_is_text : (bs : List ℕ) (n : ℕ) → n < 2 ^ 64 → bs ≡ decimal n → IsUtf8 bs
number_is_text bs n small e = rw e (IsUtf8-from_ascii (decimal n) (IsAscii-decimal n small))

-- what parses and isn't padded is the number's own writing
pub parsed_is_decimal : {E : Type 0} (bs : List ℕ) (r : Result ℕ E) (n : ℕ) → ParsesUnsigned 64 10 bs r → r ≡ Ok n → get_or bs 0 0 ≢ 43 → (get_or bs 0 0 ≡ 48 → length bs ≡ 1) → bs ≡ decimal n
parsed_is_decimal bs r n h is plus zeros =
    let got = OkIff-at_ok r _ _ n (parse_plain own 64 bs r h plus) is in
    rw got.1 (sym (decimal-digits_value own bs got.0.0 got.0.1 zeros got.0.2))

-- what is written for a number is digits
pub all_digits : (n : ℕ) → n < 2 ^ 64 → AllDigits 10 (decimal n)
all_digits n small = digits_decimal own n small
