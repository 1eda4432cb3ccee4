-- How a hint reads.
use Rattle.std.specs.Prelude.{◌≡◌, ℕ, Bool, List, [], ◌++◌, length, nat_eq, Option, Some, None, codes, decimal, if◌then◌else◌}
use Rattle.text_words.specs.declared.places.Position.{Position}
use Rattle.command_refusals.specs.declared.refusal.Refusal.{Refusal}
use Rattle.refusal_hints.specs.Pointing.{IsPoint, nowhere}
use Rattle.refusal_hints.specs.Remedies.{remedy}
use Rattle.refusal_hints.specs.declared.about.About.{About}
use Rattle.refusal_hints.specs.declared.about.About.TheVariants.{Nothing, Found, Front, Operation, Pair, Near}
use Rattle.refusal_hints.specs.declared.about.Point.{Point}
use Rattle.refusal_hints.specs.declared.documents.InputForm.{InputForm}

-- words and a number
abbrev pub number_text : List ℕ → ℕ → List ℕ
number_text words n = words ++ decimal n

-- the beginning of a hint: the place in the input that it is about, if one is known
abbrev pub beginning : Option Position → List ℕ
beginning None = codes "hint: "
beginning (Some at) = number_text (codes "hint: line ") at.line ++ number_text (codes " column ") at.column ++ codes " of the input: "

-- a word between these
unfoldable pub between : List ℕ → List ℕ → List ℕ → List ℕ
between front word back = front ++ word ++ back

abbrev pub is_empty : List ℕ → Bool
is_empty word = nat_eq (length word) 0

-- the word that stands there
abbrev pub found_front : List ℕ → List ℕ
found_front word = if is_empty word then codes "the text ends here; " else between (codes "'") word (codes "' stands here; ")

-- the name of an operation, if it has one
abbrev pub name_front : List ℕ → List ℕ
name_front name = if is_empty name then codes ": " else between (codes " '") name (codes "': ")

-- an operation by its number and its name
abbrev pub operation_front : ℕ → List ℕ → List ℕ
operation_front k name = number_text (codes "operation ") k ++ name_front name

-- two operations by their names
abbrev pub pair_front : List ℕ → List ℕ → List ℕ
pair_front a b = between (codes "operations '") a (codes "' and ") ++ between (codes "'") b (codes "': ")

-- what stands there
abbrev pub front_of : About → List ℕ
front_of Nothing = []
front_of (Found word) = found_front word
front_of Front = codes "the version, or the number of operations: "
front_of (Operation k name) = operation_front k name
front_of (Pair a b) = pair_front a b
front_of (Near name) = []

-- what may be meant
abbrev pub back_of : About → List ℕ
back_of Nothing = []
back_of (Found word) = []
back_of Front = []
back_of (Operation k name) = []
back_of (Pair a b) = []
back_of (Near name) = between (codes "; did you mean '") name (codes "'?")

-- the place, what stands there, what to do about the refusal, and what may be meant
abbrev pub hint_text : Point → Refusal → List ℕ
hint_text p r = beginning p.at ++ front_of p.about ++ remedy p.about r ++ back_of p.about ++ codes "\n"

-- the hint that stands beside a refusal of this input
abbrev pub IsHint : InputForm → List ℕ → Refusal → List ℕ → Type 0
IsHint form input r text = (p : Point) × IsPoint form input r p × (text ≡ hint_text p r)
