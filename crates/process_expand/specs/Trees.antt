-- What is written, said of trees: at the end of each way of a choice stands what follows the choice.
use Rattle.std.specs.Prelude.{◌≡◌, List, [], ◌∷◌, ◌++◌, ⊤}
use Rattle.process_expand.specs.declared.tokens.Role.{Role}
use Rattle.process_expand.specs.declared.tokens.Role.TheVariants.{Opens, Divides, Closes, Follows, Kind, Name, Other}
use Rattle.process_expand.specs.declared.tokens.Token.{Token}
use Rattle.process_expand.specs.Expansion.{State, in_front}

mutual
  -- a block: words of steps and choices in any order, each choice with the word `then` behind it
  pub data Block : Type 0 where
    ends : Block
    word : Token → Block → Block
    choice : Token → Ways → Token → Block → Block

  -- the ways of a choice, each with the word behind it
  pub data Ways : Type 0 where
    last : Block → Token → Ways
    more : Block → Token → Ways → Ways

abbrev mutual
  -- the words of a block, and these behind them
  pub words_of : Block → List Token → List Token
  words_of ends behind = behind
  words_of (word t b) behind = t ∷ words_of b behind
  words_of (choice opens ways follows b) behind = opens ∷ words_of_ways ways (follows ∷ words_of b behind)

  -- of the ways of a choice
  pub words_of_ways : Ways → List Token → List Token
  words_of_ways (last b closes) behind = words_of b (closes ∷ behind)
  words_of_ways (more b divides ways) behind = words_of b (divides ∷ words_of_ways ways behind)

abbrev mutual
  -- the block with its choices written out, where this stands at its end
  pub written_out : Block → List Token → List Token
  written_out ends rest = rest
  written_out (word t b) rest = t ∷ written_out b rest
  written_out (choice opens ways follows b) rest = opens ∷ written_ways ways (written_out b rest)

  -- each way with this at its end
  pub written_ways : Ways → List Token → List Token
  written_ways (last b closes) rest = written_out b rest ++ closes ∷ []
  written_ways (more b divides ways) rest = written_out b rest ++ divides ∷ written_ways ways rest

-- a word of a step
abbrev pub IsOfStep : Role → Type 0
IsOfStep Kind = ⊤
IsOfStep Name = ⊤
IsOfStep Other = ⊤
IsOfStep r = ⊥

abbrev mutual
  -- each word is what it stands for
  pub HasRoles : Block → Type 0
  HasRoles ends = ⊤
  HasRoles (word t b) = IsOfStep t.role × HasRoles b
  HasRoles (choice opens ways follows b) = (opens.role ≡ Opens) × HaveRoles ways × (follows.role ≡ Follows) × HasRoles b

  pub HaveRoles : Ways → Type 0
  HaveRoles (last b closes) = HasRoles b × (closes.role ≡ Closes)
  HaveRoles (more b divides ways) = HasRoles b × (divides.role ≡ Divides) × HaveRoles ways

-- words that are put in front of a state, the last one first
abbrev pub in_front_all : List Token → State → State
in_front_all [] s = s
in_front_all (t ∷ ts) s = in_front t.role t (in_front_all ts s)

-- In front of what stands at its end, a block is written with its choices written out.
abbrev pub BlocksAreWrittenOut : Type 0
BlocksAreWrittenOut = (b : Block) → HasRoles b → (s : State) → in_front_all (words_of b []) s ≡ record s { text = written_out b s.text }
