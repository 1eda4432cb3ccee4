-- What is written in place of a text: behind each alternative of a choice, what follows the choice.
use Rattle.std.specs.Prelude.{◌≡◌, ◌<◌, ◌+◌, ℕ, List, [], ◌∷◌, ◌++◌}
use Rattle.process_expand.specs.declared.tokens.Role.{Role}
use Rattle.process_expand.specs.declared.tokens.Role.TheVariants.{Begins, Ends, Opens, Divides, Closes, Follows, Kind, Name, Other}
use Rattle.process_expand.specs.declared.tokens.Token.{Token}

-- A choice, or a process, of which the end is written and the beginning isn't yet.
pub record Frame : Type 0 where
  -- what stands behind each of its alternatives
  pub rest : List Token
  -- what is written of it, its last word and the alternatives in front of that
  pub written : List Token

-- What is written from some place of a text on.
pub record State : Type 0 where
  -- in the alternative that the place is in, up to its end, with what follows the choices that it is in
  pub text : List Token
  -- the choices that it is in, the innermost first
  pub frames : List Frame

-- behind the last word
abbrev pub at_end : State
at_end = record { text = []; frames = [] }

-- a word is written where it stands
abbrev pub put : Token → State → State
put t s = record { text = t ∷ s.text; frames = s.frames }

-- a choice has its end here, and what was written from here on follows each alternative of it
abbrev pub close : Token → State → State
close t s = record { text = s.text; frames = record { rest = s.text; written = t ∷ [] } ∷ s.frames }

-- nothing follows a process, and what was written from here on stands behind it
abbrev pub end : Token → State → State
end t s = record { text = []; frames = record { rest = []; written = t ∷ s.text } ∷ s.frames }

-- an alternative has its beginning here, and another one its end
abbrev pub divide : Token → List Token → List Frame → State
divide t text [] = record { text = t ∷ text; frames = [] }
divide t text (f ∷ fs) = record { text = f.rest; frames = record { rest = f.rest; written = t ∷ text ++ f.written } ∷ fs }

-- a choice, or a process, has its beginning here
abbrev pub begin : Token → List Token → List Frame → State
begin t text [] = record { text = t ∷ text; frames = [] }
begin t text (f ∷ fs) = record { text = t ∷ text ++ f.written; frames = fs }

-- what is written from a word on, where this is what is written behind it; `then` itself isn't written
abbrev pub in_front : Role → Token → State → State
in_front Begins t s = begin t s.text s.frames
in_front Opens t s = begin t s.text s.frames
in_front Divides t s = divide t s.text s.frames
in_front Closes t s = close t s
in_front Ends t s = end t s
in_front Follows t s = s
in_front Kind t s = put t s
in_front Name t s = put t s
in_front Other t s = put t s

-- what is written from these words on
abbrev pub state_from : List Token → State
state_from [] = at_end
state_from (t ∷ ts) = in_front t.role t (state_from ts)

-- what is written in place of these words
abbrev pub expanded : List Token → List Token
expanded ts = (state_from ts).text

-- a step has one name
abbrev pub names_one : Role → ℕ
names_one Name = 1
names_one Begins = 0
names_one Ends = 0
names_one Opens = 0
names_one Divides = 0
names_one Closes = 0
names_one Follows = 0
names_one Kind = 0
names_one Other = 0

-- how many steps there are
abbrev pub steps_in : List Token → ℕ
steps_in [] = 0
steps_in (t ∷ ts) = names_one t.role + steps_in ts

-- from some word on, more than 256 steps are written to the end of a process
abbrev pub IsTooLong : List Token → Type 0
IsTooLong ts = (front back : List Token) × (ts ≡ front ++ back) × (256 < steps_in (state_from back).text)
