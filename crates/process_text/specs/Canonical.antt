-- The canonical text of a process: its words on one line, one space between two, and each option exactly where its number
-- isn't the default.
use Rattle.std.specs.Prelude.{ℕ, List, [], ◌∷◌, ◌++◌, Bool, true, false, flat_map, codes, decimal, nat_eq, if◌then◌else◌}
use Rattle.std.specs.Fmt.{signed_decimal}
use Rattle.process_tree.specs.declared.step.Step.{Step}
use Rattle.process_tree.specs.declared.block.Block.{Block}
use Rattle.text_words.specs.declared.marks.Setting.{Setting}
use Rattle.text_words.specs.declared.marks.Mark.TheVariants as marks
use Rattle.text_words.specs.Marks.{kind_word, mark_word, settings, setting_word, default_of, number_of}
use Rattle.process_text.specs.Grammar.{Piece, process, step, mark, pieces_of_process}

-- an option, left out where it has its default
abbrev pub setting_words : Setting → ℕ → List (List ℕ)
setting_words x n = if nat_eq n (default_of x) then [] else setting_word x ∷ decimal n ∷ []

-- these options of a step
abbrev pub settings_words : List Setting → Step → List (List ℕ)
settings_words xs s = flat_map (λ x. setting_words x (number_of x s)) xs

-- what is called
abbrev pub call_words : Step → List (List ℕ)
call_words s = kind_word s.kind ∷ s.name ∷ s.op ∷ decimal s.key ∷ signed_decimal s.amount ∷ []

-- a step
abbrev pub step_words : Step → List (List ℕ)
step_words s = call_words s ++ settings_words (settings s.kind) s

-- a piece
abbrev pub piece_words : Piece → List (List ℕ)
piece_words (process name) = codes "process" ∷ name ∷ []
piece_words (step s) = step_words s
piece_words (mark m) = mark_word m ∷ []

-- pieces, one after another
abbrev pub canonical_words : List Piece → List (List ℕ)
canonical_words ps = flat_map piece_words ps

-- words with a space before each
abbrev pub spaced : List (List ℕ) → List ℕ
spaced ws = flat_map (λ w. 32 ∷ w) ws

-- words on a line, one space between two
abbrev pub line_of : List (List ℕ) → List ℕ
line_of [] = 10 ∷ []
line_of (w ∷ ws) = w ++ spaced ws ++ 10 ∷ []

-- the canonical text of a process with this name and this root block
abbrev pub canonical_text : List ℕ → Block → List ℕ
canonical_text name root = line_of (canonical_words (pieces_of_process name root))

-- `or` before an alternative that isn't the first
abbrev pub divider : Bool → List Piece
divider true = []
divider false = mark marks.Or ∷ []
