-- The words of a line.
use Rattle.std.proofs.Common.{◌≡◌, ◌≤◌, ◌<◌, ◌^◌, ℕ, ℤ, pos, negsuc, List, [], ◌∷◌, ◌++◌, length, Bool, true, false, not, ◌&&◌, ◌||◌, nat_le, decimal, refl, ap, arith, ◌∙◌, suc, append_assoc, ◌⊎◌, inl, inr, nat_eq}
use Rattle.std.specs.Bool.{⊤}
use Rattle.std.specs.List.{list_all}
use Rattle.std.specs.Fmt.{signed_decimal}
use Rattle.std.specs.Str.Parse.{AllDigits}
use Rattle.std.proofs.lemmas.Bool.{and_parts, and_from, not-true, ne_eqb, leb-true, ltb-true, eqb-true}
use Rattle.std.proofs.lemmas.Str.Parse.{digit_at}
use Rattle.std.proofs.lemmas.Fmt.{decimal_nonempty}
use Rattle.process_tree.specs.Name.{is_letter, is_name_byte, is_name}
use Rattle.process_tree.specs.Making.{is_amount}
use Rattle.text_words.specs.Words.{is_blank, words_of, onto_first}
use Rattle.process_text.specs.Canonical.{spaced, line_of}
use Rattle.text_words.proofs.Numerals.{all_digits}

-- no byte of it is blank
abbrev pub is_solid : List ℕ → Bool
is_solid w = list_all (λ b. not (is_blank b)) w

-- a word: a byte, and no blank
abbrev pub is_plain : List ℕ → Bool
is_plain [] = false
is_plain (b ∷ bs) = is_solid (b ∷ bs)

-- each of these is a word
abbrev pub ArePlain : List (List ℕ) → Type 0
ArePlain [] = ⊤
ArePlain (w ∷ ws) = (is_plain w ≡ true) × ArePlain ws

pub plain_both : (vs ws : List (List ℕ)) → ArePlain vs → ArePlain ws → ArePlain (vs ++ ws)
plain_both [] ws first then = then
plain_both (v ∷ vs) ws first then = (first.0, plain_both vs ws first.1 then)

-- from 33 on no byte is blank
pub above_blank : (b : ℕ) → 33 ≤ b → is_blank b ≡ false
unfolding is_blank
above_blank b le = rw (ne_eqb b 32 (λ e. omega arith), ne_eqb b 9 (λ e. omega arith), ne_eqb b 10 (λ e. omega arith), ne_eqb b 13 (λ e. omega arith)) refl

space_is_blank : is_blank 32 ≡ true
unfolding is_blank
space_is_blank = refl

line_feed_is_blank : is_blank 10 ≡ true
unfolding is_blank
line_feed_is_blank = refl

-- a word with a blank behind it
word_then : (w : List ℕ) (c : ℕ) (rest : List ℕ) → is_plain w ≡ true → is_blank c ≡ true → words_of (w ++ c ∷ rest) ≡ w ∷ words_of (c ∷ rest)
word_then [] c rest plain blank = absurd (cc)
word_then (b ∷ []) c rest plain blank =
    let first : is_blank b ≡ false = not-true (is_blank b) (and_parts (not (is_blank b)) true plain).0 in
    simp (first, blank) refl
word_then (b ∷ d ∷ ds) c rest plain blank =
    let parts = and_parts (not (is_blank b)) (is_solid (d ∷ ds)) plain in
    let first : is_blank b ≡ false = not-true (is_blank b) parts.0 in
    let second : is_blank d ≡ false = not-true (is_blank d) (and_parts (not (is_blank d)) (is_solid ds) parts.1).0 in
    simp (first, second) (ap (onto_first b) (simp second at (word_then (d ∷ ds) c rest parts.1 blank)))

-- a word with more of its line behind it
word_in_front : (w : List ℕ) (ws : List (List ℕ)) → is_plain w ≡ true → words_of (w ++ (spaced ws ++ 10 ∷ [])) ≡ w ∷ words_of (spaced ws ++ 10 ∷ [])
word_in_front w [] plain = word_then w 10 [] plain line_feed_is_blank
word_in_front w (v ∷ vs) plain = word_then w 32 ((v ++ spaced vs) ++ 10 ∷ []) plain space_is_blank

-- words with a space before each
words_of-spaced : (ws : List (List ℕ)) → ArePlain ws → words_of (spaced ws ++ 10 ∷ []) ≡ ws
words_of-spaced [] plain = simp line_feed_is_blank refl
words_of-spaced (w ∷ ws) plain =
    simp space_is_blank (ap words_of (append_assoc w (spaced ws) (10 ∷ [])) ∙ word_in_front w ws plain.0 ∙ ap (λ vs. w ∷ vs) (words_of-spaced ws plain.1))

-- the words of a line
pub words_of-line : (ws : List (List ℕ)) → ArePlain ws → words_of (line_of ws) ≡ ws
words_of-line [] plain = simp line_feed_is_blank refl
words_of-line (w ∷ ws) plain =
    ap words_of (append_assoc w (spaced ws) (10 ∷ [])) ∙ word_in_front w ws plain.0 ∙ ap (λ vs. w ∷ vs) (words_of-spaced ws plain.1)

or_cases : (a b c : Bool) → (a || b || c) ≡ true → (a ≡ true) ⊎ ((b ≡ true) ⊎ (c ≡ true))
or_cases true b c e = inl refl
or_cases false true c e = inr (inl refl)
or_cases false false true e = inr (inr refl)
or_cases false false false e = absurd (cc)

pub three : (a b c : Bool) → (a && b && c) ≡ true → (a ≡ true) × (b ≡ true) × (c ≡ true)
three true true true e = (refl, refl, refl)
three true true false e = absurd (cc)
three true false c e = absurd (cc)
three false b c e = absurd (cc)

-- a byte of a name is no blank
name_byte_is_solid : (b : ℕ) → is_name_byte b ≡ true → not (is_blank b) ≡ true
name_byte_is_solid b e = by_case (or_cases (is_letter b) (nat_le 48 b && nat_le b 57) (nat_eq b 95) e)
  where
    by_case : (is_letter b ≡ true) ⊎ (((nat_le 48 b && nat_le b 57) ≡ true) ⊎ (nat_eq b 95 ≡ true)) → not (is_blank b) ≡ true
    by_case (inl letter) = ap not (above_blank b (omega (arith, leb-true 97 b (and_parts (nat_le 97 b) (nat_le b 122) letter).0)))
    by_case (inr (inl digit)) = ap not (above_blank b (omega (arith, leb-true 48 b (and_parts (nat_le 48 b) (nat_le b 57) digit).0)))
    by_case (inr (inr line)) = ap not (above_blank b (omega (arith, eqb-true b 95 line)))

names_are_solid : (bs : List ℕ) → list_all is_name_byte bs ≡ true → is_solid bs ≡ true
names_are_solid [] e = refl
names_are_solid (b ∷ bs) e =
    let parts = and_parts (is_name_byte b) (list_all is_name_byte bs) e in
    and_from (not (is_blank b)) (is_solid bs) (name_byte_is_solid b parts.0) (names_are_solid bs parts.1)

-- a name is a word
pub name_is_plain : (w : List ℕ) → is_name w ≡ true → is_plain w ≡ true
name_is_plain [] e = absurd (cc)
name_is_plain (b ∷ bs) e = names_are_solid (b ∷ bs) (three (is_letter b) (list_all is_name_byte (b ∷ bs)) (nat_le (length (b ∷ bs)) 32) e).1

digits_are_solid : (ds : List ℕ) → AllDigits 10 ds → is_solid ds ≡ true
digits_are_solid [] e = refl
digits_are_solid (d ∷ ds) e =
    let first = digit_at (d ∷ ds) 0 e (omega arith) in
    and_from (not (is_blank d)) (is_solid ds) (ap not (above_blank d (omega (arith, first)))) (digits_are_solid ds e.1)

solid_is_plain : (w : List ℕ) → 0 < length w → is_solid w ≡ true → is_plain w ≡ true
solid_is_plain [] some e = absurd (omega arith)
solid_is_plain (b ∷ bs) some e = e

-- a number is a word
pub number_is_plain : (n : ℕ) → n < 2 ^ 64 → is_plain (decimal n) ≡ true
number_is_plain n small = solid_is_plain (decimal n) (decimal_nonempty n small) (digits_are_solid (decimal n) (all_digits n small))

-- an amount is a word
pub amount_is_plain : (z : ℤ) → is_amount z ≡ true → is_plain (signed_decimal z) ≡ true
amount_is_plain (pos n) e = let le = leb-true n 1000000000 e in number_is_plain n (omega arith)
amount_is_plain (negsuc n) e =
    let lt = ltb-true n 1000000000 e in
    and_from (not (is_blank 45)) (is_solid (decimal (suc n))) (ap not (above_blank 45 (omega arith))) (digits_are_solid (decimal (suc n)) (all_digits (suc n) (omega arith)))
