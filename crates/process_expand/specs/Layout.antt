-- How a text is printed: the words of a step, and each word that opens, divides or closes a block, on a line.
use Rattle.std.specs.Prelude.{ℕ, zero, suc, ◌+◌, ◌-◌, List, [], ◌∷◌, ◌++◌}
use Rattle.process_expand.specs.declared.tokens.Role.{Role}
use Rattle.process_expand.specs.declared.tokens.Role.TheVariants.{Begins, Ends, Opens, Divides, Closes, Follows, Kind, Name, Other}
use Rattle.process_expand.specs.declared.tokens.Token.{Token}
use Rattle.process_expand.specs.Naming.{name_given, word_at}

-- two spaces for each block that a line is in
abbrev pub indent : ℕ → List ℕ
indent zero = []
indent (suc depth) = 32 ∷ 32 ∷ indent depth

-- a line feed, and the beginning of a line
abbrev pub new_line : ℕ → List ℕ
new_line depth = 10 ∷ indent depth

-- what stands in front of a word
abbrev pub gap : Role → ℕ → List ℕ
gap Begins depth = []
gap Ends depth = new_line 0
gap Opens depth = new_line depth
gap Divides depth = new_line (depth - 1)
gap Closes depth = new_line (depth - 1)
gap Kind depth = new_line depth
gap Follows depth = 32 ∷ []
gap Name depth = 32 ∷ []
gap Other depth = 32 ∷ []

-- what stands behind it
abbrev pub tail_of : Role → List ℕ
tail_of Ends = 10 ∷ []
tail_of Begins = []
tail_of Opens = []
tail_of Divides = []
tail_of Closes = []
tail_of Follows = []
tail_of Kind = []
tail_of Name = []
tail_of Other = []

-- in how many blocks the next word is
abbrev pub depth_behind : Role → ℕ → ℕ
depth_behind Begins depth = 1
depth_behind Opens depth = depth + 1
depth_behind Closes depth = depth - 1
depth_behind Ends depth = depth
depth_behind Divides depth = depth
depth_behind Follows depth = depth
depth_behind Kind depth = depth
depth_behind Name depth = depth
depth_behind Other depth = depth

-- the word that is printed, where these names are those of the text, and those were given in this process
abbrev pub shown : List (List ℕ) → List (List ℕ) → Role → List ℕ → List ℕ
shown all given Name word = name_given all given word
shown all given Begins word = word
shown all given Ends word = word
shown all given Opens word = word
shown all given Divides word = word
shown all given Closes word = word
shown all given Follows word = word
shown all given Kind word = word
shown all given Other word = word

-- the word of a token that is printed
abbrev pub shown_of : List (List ℕ) → List (List ℕ) → List (List ℕ) → Token → List ℕ
shown_of words all given t = shown all given t.role (word_at words t.number)

-- the names that are given then
abbrev pub given_behind : List (List ℕ) → Role → List ℕ → List (List ℕ)
given_behind given Begins word = []
given_behind given Name word = given ++ word ∷ []
given_behind given Ends word = given
given_behind given Opens word = given
given_behind given Divides word = given
given_behind given Closes word = given
given_behind given Follows word = given
given_behind given Kind word = given
given_behind given Other word = given

-- tokens of these words as they are printed
abbrev pub printed : List (List ℕ) → List (List ℕ) → List (List ℕ) → ℕ → List Token → List ℕ
printed words all given depth [] = []
printed words all given depth (t ∷ ts) =
    gap t.role depth ++ shown_of words all given t ++ tail_of t.role
    ++ printed words all (given_behind given t.role (shown_of words all given t)) (depth_behind t.role depth) ts
