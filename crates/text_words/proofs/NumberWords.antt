-- Words that pass the tests of numbers.
use Rattle.std.proofs.Common.{◌≡◌, ◌≢◌, ◌≤◌, ◌<◌, ◌^◌, ℕ, zero, suc, ℤ, pos, negsuc, List, [], ◌∷◌, length, Bool, true, false, not, ◌&&◌, nat_eq, nat_le, get_or, decimal, Option, Some, None, IfSome, IfNone, is_some, sym, refl, ap, arith, ◌∙◌, if◌then◌else◌}
use Rattle.std.specs.Fmt.{signed_decimal}
use Rattle.std.specs.Str.Parse.{digits_value}
use Rattle.std.specs.Cmp.Lexicographic.{same_text}
use Rattle.std.proofs.lemmas.Bool.{and_parts, and_from, and_right, leb-true, le-leb, ltb-true, lt-ltb, eq-eqb, eqb-true, ne_eqb, not-true}
use Rattle.std.proofs.lemmas.Fmt.{decimal_is_IsNumeral, decimal_nonempty}
use Rattle.process_tree.specs.Making.{same_text as are_same, is_amount}
use Rattle.text_words.specs.Numbers.{is_number, is_key, is_amount_word}
use Rattle.text_words.proofs.Numerals.{first_is_no_minus}

-- the digits of a number have its value
pub value_of_decimal : (n : ℕ) → n < 2 ^ 64 → digits_value 10 (decimal n) ≡ n
value_of_decimal n small = (decimal_is_IsNumeral n small).1

-- a text is the same as itself
pub are_same-refl : (xs : List ℕ) → are_same xs xs ≡ true
are_same-refl [] = refl
are_same-refl (x ∷ xs) = and_from (nat_eq x x) (are_same xs xs) (eq-eqb x x refl) (are_same-refl xs)

-- what is written for a number passes
pub number_passes : (most : ℕ) (w : List ℕ) (n : ℕ) → n < 2 ^ 64 → w ≡ decimal n → n ≤ most → is_number most w ≡ true
number_passes most w n small e le =
    rw (e, value_of_decimal n small) (and_from (nat_le n most) (are_same (decimal n) (decimal n)) (le-leb n most le) (are_same-refl (decimal n)))

-- what passes is written for its value
pub passed_is_number : (most : ℕ) (w : List ℕ) → is_number most w ≡ true → (w ≡ decimal (digits_value 10 w)) × (digits_value 10 w ≤ most)
passed_is_number most w e =
    let parts = and_parts (nat_le (digits_value 10 w) most) (are_same w (decimal (digits_value 10 w))) e in
    (same_text w (decimal (digits_value 10 w)) (sym parts.1), leb-true (digits_value 10 w) most parts.0)

no_number : (most : ℕ) (w : List ℕ) (b : Bool) → is_number most w ≡ b → ((n : ℕ) → n ≤ most → w ≢ decimal n) → false ≡ b
no_number most w true e none =
    let passed = passed_is_number most w e in absurd (none (digits_value 10 w) passed.1 passed.0)
no_number most w false e none = refl

-- an answer that is a number exactly where the word writes one agrees with the test
pub answers_test : (o : Option ℕ) (most : ℕ) (w : List ℕ) → most < 2 ^ 64 → IfSome o (λ n. (w ≡ decimal n) × (n ≤ most)) → IfNone o ((n : ℕ) → n ≤ most → w ≢ decimal n) → is_some o ≡ is_number most w
answers_test (Some n) most w small some none = sym (number_passes most w n (omega (arith, some.1)) some.0 some.1)
answers_test None most w small some none = no_number most w (is_number most w) refl none

-- behind a minus, 0 doesn't pass
pub zero_fails : (most : ℕ) (w : List ℕ) → w ≡ decimal 0 → false ≡ (is_number most w && not (nat_eq (digits_value 10 w) 0))
zero_fails most w e = sym (and_right (is_number most w) (not (nat_eq (digits_value 10 w) 0)) (rw (e, value_of_decimal 0 (omega arith)) refl))

-- and a number above 0 does
pub above_zero_passes : (most : ℕ) (w : List ℕ) (n : ℕ) → n < 2 ^ 64 → w ≡ decimal n → n ≤ most → n ≢ 0 → true ≡ (is_number most w && not (nat_eq (digits_value 10 w) 0))
above_zero_passes most w n small e le some =
    sym (and_from (is_number most w) (not (nat_eq (digits_value 10 w) 0)) (number_passes most w n small e le) (rw (e, value_of_decimal n small, ne_eqb n 0 some) refl))

-- what is written for a key passes
pub key_passes : (k : ℕ) → k ≤ 4294967295 → is_key (decimal k) ≡ true
key_passes k le = number_passes 4294967295 (decimal k) k (omega arith) refl le

-- without a minus, an amount is a number
no_minus : (w : List ℕ) → 0 < length w → get_or w 0 0 ≢ 45 → is_amount_word w ≡ is_number 1000000000 w
no_minus [] some first = absurd (omega arith)
no_minus (b ∷ bs) some first = rw (ne_eqb b 45 first) refl

-- what is written for an amount passes
pub amount_passes : (z : ℤ) → is_amount z ≡ true → is_amount_word (signed_decimal z) ≡ true
amount_passes (pos n) e =
    let le = leb-true n 1000000000 e in
    no_minus (decimal n) (decimal_nonempty n (omega arith)) (first_is_no_minus n (omega arith))
    ∙ number_passes 1000000000 (decimal n) n (omega arith) refl le
amount_passes (negsuc n) e =
    let lt = ltb-true n 1000000000 e in
    sym (above_zero_passes 1000000000 (decimal (suc n)) (suc n) (omega arith) refl (omega arith) (λ zero. omega arith))

-- a word for an amount writes one
pub amount_found : (w : List ℕ) → is_amount_word w ≡ true → (z : ℤ) × (w ≡ signed_decimal z) × (is_amount z ≡ true)
amount_found [] e = absurd (cc)
amount_found (b ∷ bs) e = by_sign (nat_eq b 45) refl
  where
    negative : (n : ℕ) → bs ≡ decimal n → n ≤ 1000000000 → nat_eq n 0 ≡ false → b ≡ 45 → (z : ℤ) × (b ∷ bs ≡ signed_decimal z) × (is_amount z ≡ true)
    negative zero is le some sign = absurd (cc)
    negative (suc n) is le some sign = (negsuc n, ap (λ x. x ∷ bs) sign ∙ ap (λ xs. 45 ∷ xs) is, lt-ltb n 1000000000 (omega arith))

    by_sign : (c : Bool) → nat_eq b 45 ≡ c → (z : ℤ) × (b ∷ bs ≡ signed_decimal z) × (is_amount z ≡ true)
    by_sign true is =
        let tests : (is_number 1000000000 bs && not (nat_eq (digits_value 10 bs) 0)) ≡ true = sym (ap (λ c. if c then is_number 1000000000 bs && not (nat_eq (digits_value 10 bs) 0) else is_number 1000000000 (b ∷ bs)) is) ∙ e in
        let parts = and_parts (is_number 1000000000 bs) (not (nat_eq (digits_value 10 bs) 0)) tests in
        let number = passed_is_number 1000000000 bs parts.0 in
        negative (digits_value 10 bs) number.0 number.1 (not-true (nat_eq (digits_value 10 bs) 0) parts.1) (eqb-true b 45 is)
    by_sign false is =
        let test : is_number 1000000000 (b ∷ bs) ≡ true = sym (ap (λ c. if c then is_number 1000000000 bs && not (nat_eq (digits_value 10 bs) 0) else is_number 1000000000 (b ∷ bs)) is) ∙ e in
        let number = passed_is_number 1000000000 (b ∷ bs) test in
        (pos (digits_value 10 (b ∷ bs)), number.0, le-leb (digits_value 10 (b ∷ bs)) 1000000000 number.1)
