-- How commands and their arguments are written.
use Rattle.std.specs.Prelude.{◌≡◌, ◌⊎◌, ◌≤◌, ℕ, Bool, true, false, List, [], ◌∷◌, Some, None, codes, decimal, ⊤}
use Rattle.clap.specs.Walk.{Text}
use Rattle.program_words.specs.Names.{name_text}
use Rattle.program_words.specs.declared.reading.Command.{Command}
use Rattle.program_words.specs.declared.reading.Command.TheVariants as command

-- the words give this number of workers: from 1 to 16, without a leading zero; no word is 1
abbrev pub IsWorkersForm : ℕ → List Text → Type 0
IsWorkersForm workers words =
    ((1 ≤ workers) × (workers ≤ 16) × (words ≡ codes "--workers" ∷ decimal workers ∷ []))
    ⊎ ((workers ≡ 1) × (words ≡ []))

-- the words are these two numbers, the first of 64 bits and the second from 1 to 256, without leading zeros
abbrev pub IsNumbersForm : ℕ → ℕ → List Text → Type 0
IsNumbersForm number count words =
    (number ≤ 18446744073709551615) × (1 ≤ count) × (count ≤ 256) × (words ≡ decimal number ∷ decimal count ∷ [])

-- the words are the name of a command that takes no argument
abbrev pub IsNamed : Text → List Text → Type 0
IsNamed name words = words ≡ name ∷ []

-- they are that of a command with an option without a value, and the option where it is given
abbrev pub IsFlagForm : Text → Text → Bool → List Text → Type 0
IsFlagForm name option true words = words ≡ name ∷ option ∷ []
IsFlagForm name option false words = IsNamed name words

-- they are those of `init`, with its options where they are given
abbrev pub IsInitForm : Bool → Bool → List Text → Type 0
IsInitForm true true words =
    (words ≡ codes "init" ∷ codes "--values" ∷ codes "--strict" ∷ [])
    ⊎ (words ≡ codes "init" ∷ codes "--strict" ∷ codes "--values" ∷ [])
IsInitForm true false words = words ≡ codes "init" ∷ codes "--values" ∷ []
IsInitForm false true words = words ≡ codes "init" ∷ codes "--strict" ∷ []
IsInitForm false false words = IsNamed (codes "init") words

-- the words are a command as it is written
abbrev pub IsCommandForm : Command → List Text → Type 0
IsCommandForm command.Check words = IsNamed (codes "check") words
IsCommandForm command.Expand words = IsNamed (codes "expand") words
IsCommandForm (command.Init values strict) words = IsInitForm values strict words
IsCommandForm (command.Run workers) words = (rest : List Text) × (words ≡ codes "run" ∷ rest) × IsWorkersForm workers rest
IsCommandForm command.Session words = IsNamed (codes "session") words
IsCommandForm command.Serve words = IsNamed (codes "serve") words
IsCommandForm command.Restart words = IsNamed (codes "restart") words
IsCommandForm command.Show words = IsNamed (codes "show") words
IsCommandForm command.Replay words = IsNamed (codes "replay") words
IsCommandForm (command.Audit history) words = IsFlagForm (codes "audit") (codes "--history") history words
IsCommandForm command.Verify words = IsNamed (codes "verify") words
IsCommandForm (command.Gen number count) words = (rest : List Text) × (words ≡ codes "gen" ∷ rest) × IsNumbersForm number count rest
IsCommandForm (command.Bulk number count) words =
    (rest : List Text) × (words ≡ codes "bulk" ∷ rest) × IsNumbersForm number count rest
IsCommandForm (command.Help None) words = IsNamed (codes "help") words ⊎ IsNamed (codes "--help") words ⊎ IsNamed (codes "-h") words
IsCommandForm (command.Help (Some about)) words = words ≡ codes "help" ∷ name_text about ∷ []
IsCommandForm command.Version words = IsNamed (codes "version") words ⊎ IsNamed (codes "--version") words

-- COUNT is from 1 to 256, and there are 1 to 16 workers
abbrev pub IsInRange : Command → Type 0
IsInRange (command.Run workers) = (1 ≤ workers) × (workers ≤ 16)
IsInRange (command.Gen number count) = (1 ≤ count) × (count ≤ 256)
IsInRange (command.Bulk number count) = (1 ≤ count) × (count ≤ 256)
IsInRange c = ⊤
