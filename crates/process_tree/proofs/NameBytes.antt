-- The bytes of names are letters, digits and underscores.
use Rattle.std.proofs.Common.{◌≡◌, ℕ, zero, suc, ◌<◌, List, [], ◌∷◌, true, ◌&&◌, ◌||◌, nat_le, nat_eq, length, arith, ◌⊎◌, inl, inr}
use Rattle.std.specs.Str.{IsAscii}
use Rattle.std.specs.List.{list_all}
use Rattle.std.proofs.lemmas.Bool.{and_parts, or_cases, leb-true, eqb-true}
use Rattle.process_tree.specs.Name.{is_letter, is_name_byte, is_name}

name_byte_is_ascii : (b : ℕ) → is_name_byte b ≡ true → b < 128
name_byte_is_ascii b e = by_last (or_cases (is_letter b || (nat_le 48 b && nat_le b 57)) (nat_eq b 95) e)
  where
    by_case : (is_letter b ≡ true) ⊎ ((nat_le 48 b && nat_le b 57) ≡ true) → b < 128
    by_case (inl letter) = omega (arith, leb-true b 122 (and_parts (nat_le 97 b) (nat_le b 122) letter).1)
    by_case (inr digit) = omega (arith, leb-true b 57 (and_parts (nat_le 48 b) (nat_le b 57) digit).1)

    by_last : ((is_letter b || (nat_le 48 b && nat_le b 57)) ≡ true) ⊎ (nat_eq b 95 ≡ true) → b < 128
    by_last (inl other) = by_case (or_cases (is_letter b) (nat_le 48 b && nat_le b 57) other)
    by_last (inr line) = omega (arith, eqb-true b 95 line)

bytes_are_ascii : (bs : List ℕ) → list_all is_name_byte bs ≡ true → IsAscii bs
bytes_are_ascii [] e i = omega arith
bytes_are_ascii (b ∷ bs) e zero = name_byte_is_ascii b (and_parts (is_name_byte b) (list_all is_name_byte bs) e).0
bytes_are_ascii (b ∷ bs) e (suc i) = bytes_are_ascii bs (and_parts (is_name_byte b) (list_all is_name_byte bs) e).1 i

-- so a name is text
pub name_is_ascii : (w : List ℕ) → is_name w ≡ true → IsAscii w
name_is_ascii [] e = absurd (cc)
name_is_ascii (b ∷ bs) e =
    let first = and_parts (is_letter b && list_all is_name_byte (b ∷ bs)) (nat_le (length (b ∷ bs)) 32) e in
    bytes_are_ascii (b ∷ bs) (and_parts (is_letter b) (list_all is_name_byte (b ∷ bs)) first.0).1
