-- Which texts are names.
use Rattle.std.specs.Prelude.{ℕ, List, [], ◌∷◌, Bool, false, length, nat_le, ◌==◌, ◌&&◌, ◌||◌, codes}
use Rattle.std.specs.List.{list_all}
use Rattle.process_tree.specs.declared.name.NameError.{NameError}
use Rattle.process_tree.specs.declared.name.NameError.TheVariants.{BadName, NoMemory}

-- a to z
abbrev pub is_letter : ℕ → Bool
is_letter b = nat_le 97 b && nat_le b 122

-- a to z, 0 to 9 or an underscore
abbrev pub is_name_byte : ℕ → Bool
is_name_byte b = is_letter b || (nat_le 48 b && nat_le b 57) || (b == 95)

-- one to 32 of these, of which the first is a letter
abbrev pub is_name : List ℕ → Bool
is_name [] = false
is_name (b ∷ bs) = is_letter b && list_all is_name_byte (b ∷ bs) && nat_le (length (b ∷ bs)) 32

-- how an error reads
abbrev pub text_of : NameError → List ℕ
text_of BadName = codes "no name"
text_of NoMemory = codes "out of memory"
