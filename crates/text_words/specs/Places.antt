-- Where words stand. Lines and columns count from 1; a column counts bytes since the last line feed.
use Rattle.std.specs.Prelude.{ℕ, ◌+◌, ◌-◌, List, [], ◌∷◌, Bool, true, false, length, nat_eq, if◌then◌else◌, Option, Some, None}
use Rattle.std.specs.List.{slice_get}
use Rattle.text_words.specs.Words.{is_blank, words_of}
use Rattle.text_words.specs.declared.places.Position.{Position}

-- the place of the first byte
abbrev pub start : Position
start = record { line = 1; column = 1 }

-- the place behind a byte
abbrev pub behind : ℕ → Position → Position
behind b at =
    if nat_eq b 10 then (record { line = at.line + 1; column = 1 }) else (record { line = at.line; column = at.column + 1 })

-- the places of the words of what stands from this place on, and last the place behind its last byte. A word begins at a byte
-- that is no blank and doesn't continue a word
abbrev pub places : Bool → Position → List ℕ → List Position
places in_word at [] = at ∷ []
places in_word at (b ∷ bs) =
    if is_blank b then places false (behind b at) bs
    else (if in_word then places true (behind b at) bs else at ∷ places true (behind b at) bs)

-- one of these places, or the beginning if there are not so many
abbrev pub nth_place : ℕ → List Position → Position
nth_place n ps = or_start (slice_get ps n)
  where
    or_start : Option Position → Position
    or_start None = start
    or_start (Some p) = p

-- the place of the word behind which as many are left
abbrev pub place_of_word : List ℕ → ℕ → Position
place_of_word bytes left = nth_place (length (words_of bytes) - (left + 1)) (places false start bytes)

-- the place just behind the last byte
abbrev pub place_of_end : List ℕ → Position
place_of_end bytes = nth_place (length (words_of bytes)) (places false start bytes)
