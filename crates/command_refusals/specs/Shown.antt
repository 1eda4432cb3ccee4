-- Words of a document as they are printed.
use Rattle.std.specs.Prelude.{ℕ, List, Bool, ◌&&◌, nat_le, map, take, if◌then◌else◌}

-- a byte that is printed as it is: from space to `~`
abbrev pub is_shown : ℕ → Bool
is_shown c = nat_le 32 c && nat_le c 126

-- any other is printed as `?`
abbrev pub shown_byte : ℕ → ℕ
shown_byte c = if is_shown c then c else 63

-- a word is cut after 64 bytes
abbrev pub shown_word : List ℕ → List ℕ
shown_word word = map shown_byte (take 64 word)
