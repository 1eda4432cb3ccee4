-- Which words write numbers.
use Rattle.std.specs.Prelude.{ℕ, List, [], ◌∷◌, Bool, false, not, nat_le, nat_eq, ◌&&◌, decimal, if◌then◌else◌}
use Rattle.std.specs.Str.Parse.{digits_value}
use Rattle.process_tree.specs.Making.{same_text}

-- the word is what is written for a number of at most `most`, without a sign or a leading zero
abbrev pub is_number : ℕ → List ℕ → Bool
is_number most w = nat_le (digits_value 10 w) most && same_text w (decimal (digits_value 10 w))

-- a key
abbrev pub is_key : List ℕ → Bool
is_key w = is_number 4294967295 w

-- what is written for an amount: a minus stands before a number above 0 alone
abbrev pub is_amount_word : List ℕ → Bool
is_amount_word [] = false
is_amount_word (b ∷ bs) =
    if nat_eq b 45 then is_number 1000000000 bs && not (nat_eq (digits_value 10 bs) 0) else is_number 1000000000 (b ∷ bs)
