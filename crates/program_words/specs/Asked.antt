-- What words ask for, or nothing where they are refused.
use Rattle.std.specs.Prelude.{◌≡◌, ℕ, Bool, false, List, [], ◌∷◌, Option, Some, None, Result, Ok, Err, ⊤}
use Rattle.std.specs.Prelude.{codes}
use Rattle.std.specs.Option.{option_map_or}
use Rattle.std.specs.Str.{bytes_eq}
use Rattle.std.specs.Str.Parse.{digits_value, without_leading_plus}
use Rattle.clap.specs.Walk.{Row, Text, first_of, one_of}
use Rattle.clap.specs.Simple.{App, matches_of}
use Rattle.clap.specs.Faults.{fault_of}
use Rattle.clap.specs.Kinds.{Kinds}
use Rattle.program_words.specs.Apps.{flag_app, flags_app, numbers_app, workers_app}
use Rattle.program_words.specs.declared.refusals.WordsError.{WordsError}
use Rattle.program_words.specs.declared.refusals.WordsError.TheVariants.{BadWords, NoMemory}

-- a value is the one that is asked for, and words are bad exactly where none is
abbrev pub Answers : {X : Type 0} → Option X → Result X WordsError → Type 0
Answers asked (Ok x) = asked ≡ Some x
Answers asked (Err BadWords) = asked ≡ None
Answers asked (Err NoMemory) = ⊤

-- a value, where nothing is wrong
abbrev pub unless : {X : Type 0} → Kinds → X → Option X
unless [] found = Some found
unless (k ∷ ks) found = None

-- what was found, where `clap` takes the words: it refuses them exactly where it finds a fault
abbrev pub taken_as : {X : Type 0} → App → List Text → X → Option X
taken_as app words found = unless (fault_of app words) found

-- the number that `clap` found for an argument: its digits, after a plus sign or none
abbrev pub number_of : Text → List Row → ℕ
number_of id rows = option_map_or (λ t. digits_value 10 (without_leading_plus t)) (one_of id rows) 0

-- nothing more, of a command without arguments
abbrev pub nothing_asked : App → List Text → Option ⊤
nothing_asked app words = taken_as app words tt

-- the text of an option without a value is `true` where it is given
abbrev pub is_true : Option Text → Bool
is_true text = option_map_or (λ t. bytes_eq t (codes "true")) text false

-- whether an option without a value is given
abbrev pub flag_asked : Text → Text → List Text → Option Bool
flag_asked name option words =
    taken_as (flag_app name option) words (is_true (first_of option (matches_of (flag_app name option) words)))

-- whether each of two options without a value is given
abbrev pub flags_asked : Text → Text → Text → List Text → Option (Bool × Bool)
flags_asked name first second words = taken_as (flags_app name first second) words (
  is_true (first_of first (matches_of (flags_app name first second) words)),
  is_true (first_of second (matches_of (flags_app name first second) words)),
)

-- how many workers
abbrev pub workers_asked : Text → List Text → Option ℕ
workers_asked name words = taken_as (workers_app name) words (number_of (codes "workers") (matches_of (workers_app name) words))

-- NUMBER and COUNT
abbrev pub numbers_asked : Text → List Text → Option (ℕ × ℕ)
numbers_asked name words = taken_as (numbers_app name) words (
  number_of (codes "number") (matches_of (numbers_app name) words),
  number_of (codes "count") (matches_of (numbers_app name) words),
)
