-- The names of copies: the steps of a process keep their names, and a copy has the first number that makes its name a new one.
use Rattle.std.specs.Prelude.{ℕ, zero, suc, ◌+◌, ◌-◌, ◌||◌, List, [], ◌∷◌, ◌++◌, Bool, length, take, decimal, if◌then◌else◌, Option, Some, None, slice_get}
use Rattle.std.specs.List.{list_any}
use Rattle.process_tree.specs.Making.{same_text}
use Rattle.process_expand.specs.declared.tokens.Role.{Role}
use Rattle.process_expand.specs.declared.tokens.Role.TheVariants.{Begins, Ends, Opens, Divides, Closes, Follows, Kind, Name, Other}
use Rattle.process_expand.specs.declared.tokens.Token.{Token}

-- the word of this number, or nothing
abbrev pub word_at : List (List ℕ) → ℕ → List ℕ
word_at words n = or_none (slice_get words n)
  where
    or_none : Option (List ℕ) → List ℕ
    or_none None = []
    or_none (Some w) = w

-- the word of a token that names a step
abbrev pub name_in : List (List ℕ) → Role → ℕ → List (List ℕ)
name_in words Name n = word_at words n ∷ []
name_in words Begins n = []
name_in words Ends n = []
name_in words Opens n = []
name_in words Divides n = []
name_in words Closes n = []
name_in words Follows n = []
name_in words Kind n = []
name_in words Other n = []

-- the names of steps among these
abbrev pub names_in : List (List ℕ) → List Token → List (List ℕ)
names_in words [] = []
names_in words (t ∷ ts) = name_in words t.role t.number ++ names_in words ts

-- a number behind a name
abbrev pub ending : ℕ → List ℕ
ending n = 95 ∷ decimal n

-- a name with a number, cut so that it has at most 32 bytes
abbrev pub numbered : List ℕ → ℕ → List ℕ
numbered name n = take (32 - length (ending n)) name ++ ending n

-- a name of the text, or one that was given in this process
abbrev pub is_taken : List (List ℕ) → List (List ℕ) → List ℕ → Bool
is_taken all given name = list_any (same_text name) all || list_any (same_text name) given

-- with the first of so many numbers from n on that makes it a new one; the name itself where there is none
unfoldable pub first_free : List (List ℕ) → List (List ℕ) → List ℕ → (count n : ℕ) → List ℕ
first_free all given name zero n = name
first_free all given name (suc count) n =
    if is_taken all given (numbered name n) then first_free all given name count (n + 1) else numbered name n

-- the name that a step has, where these were given to steps in front of it
abbrev pub name_given : List (List ℕ) → List (List ℕ) → List ℕ → List ℕ
name_given all given name = if list_any (same_text name) given then first_free all given name 256 2 else name
