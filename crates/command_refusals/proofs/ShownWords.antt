-- What is printed of a word is printable ASCII.
use Rattle.std.proofs.Common.{◌≡◌, ℕ, zero, suc, ◌<◌, ◌≤◌, List, [], ◌∷◌, Bool, true, false, nat_le, map, take, length, refl, sym, arith, if◌then◌else◌}
use Rattle.std.specs.Str.{IsAscii}
use Rattle.std.specs.List.{list_all}
use Rattle.std.proofs.lemmas.List.{take_all}
use Rattle.std.proofs.lemmas.Bool.{and_parts, leb-true}
use Rattle.command_refusals.specs.Shown.{is_shown, shown_byte}

by_byte : (c : ℕ) (is : Bool) → is_shown c ≡ is → is_shown (if is then c else 63) ≡ true
by_byte c true e = e
by_byte c false e = refl

pub shown_bytes : (cs : List ℕ) → list_all is_shown (map shown_byte cs) ≡ true
shown_bytes [] = refl
shown_bytes (c ∷ cs) = rw (by_byte c (is_shown c) refl) (shown_bytes cs)

shown_is_ascii : (c : ℕ) → is_shown c ≡ true → c < 128
shown_is_ascii c e = omega (arith, leb-true c 126 (and_parts (nat_le 32 c) (nat_le c 126) e).1)

pub shown_are_ascii : (cs : List ℕ) → list_all is_shown cs ≡ true → IsAscii cs
shown_are_ascii [] e i = omega arith
shown_are_ascii (c ∷ cs) e zero = shown_is_ascii c (and_parts (is_shown c) (list_all is_shown cs) e).0
shown_are_ascii (c ∷ cs) e (suc i) = shown_are_ascii cs (and_parts (is_shown c) (list_all is_shown cs) e).1 i

-- a short word is its own beginning
pub short_word : (w : List ℕ) → length w ≤ 64 → w ≡ take 64 w
short_word w short = sym (take_all 64 w short)
