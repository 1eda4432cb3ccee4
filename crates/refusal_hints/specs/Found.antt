-- The word that stands at a place of a text.
use Rattle.std.specs.Prelude.{◌≡◌, ℕ, List, [], ◌∷◌, ◌&&◌, nat_eq, codes, if◌then◌else◌, refl}
use Rattle.text_words.specs.Places.{start, behind}
use Rattle.text_words.specs.Words.{words_of}
use Rattle.text_words.specs.declared.places.Position.{Position}

-- what stands from this line and column on, in a text that begins at this place
abbrev pub rest_from : ℕ → ℕ → Position → List ℕ → List ℕ
rest_from line column at [] = []
rest_from line column at (b ∷ bs) =
    if nat_eq at.line line && nat_eq at.column column then b ∷ bs else rest_from line column (behind b at) bs

-- the first of these words, and nothing where there is none
abbrev pub first_of : List (List ℕ) → List ℕ
first_of [] = []
first_of (w ∷ ws) = w

-- the word there, if one begins there; nothing at the end of the text
abbrev pub word_at : ℕ → ℕ → List ℕ → List ℕ
word_at line column text = first_of (words_of (rest_from line column start text))

-- from the b of two lines on
pub of_a_second_line : rest_from 2 2 start (codes "a\n bc d") ≡ codes "bc d"
of_a_second_line = refl
