-- The words of a text: the longest runs of bytes that are no blank.
use Rattle.std.specs.Prelude.{ℕ, List, [], ◌∷◌, Bool, false, ◌==◌, ◌||◌, ◌+◌, if◌then◌else◌}

-- space, tab, line feed or carriage return
unfoldable pub is_blank : ℕ → Bool
is_blank b = (b == 32) || (b == 9) || (b == 10) || (b == 13)

-- the words, of which the first has one byte more in front
abbrev pub onto_first : ℕ → List (List ℕ) → List (List ℕ)
onto_first b [] = (b ∷ []) ∷ []
onto_first b (w ∷ ws) = (b ∷ w) ∷ ws

-- the words of what begins with b, which is no blank, where these are the words of the rest
abbrev pub with_byte : ℕ → List ℕ → List (List ℕ) → List (List ℕ)
with_byte b [] ws = (b ∷ []) ∷ ws
with_byte b (c ∷ cs) ws = if is_blank c then (b ∷ []) ∷ ws else onto_first b ws

abbrev pub words_of : List ℕ → List (List ℕ)
words_of [] = []
words_of (b ∷ bs) = if is_blank b then words_of bs else with_byte b bs (words_of bs)

-- how many bytes stand before the first blank
abbrev pub word_size : List ℕ → ℕ
word_size [] = 0
word_size (b ∷ bs) = if is_blank b then 0 else word_size bs + 1

-- there is a first word, and it passes this test
abbrev pub begins : (List ℕ → Bool) → List (List ℕ) → Bool
begins passes [] = false
begins passes (w ∷ ws) = passes w
