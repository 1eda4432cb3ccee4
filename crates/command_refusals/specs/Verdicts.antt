-- Verdicts: what the check says of a process.
use Rattle.std.specs.Prelude.{◌≡◌, ◌⊎◌, ℕ, Bool, false, ◌||◌, List, [], ◌∷◌, ◌++◌, map, slice_index_or, codes, Option, Some, None}
use Rattle.std.specs.Prelude.{is_some, ⊤}
use Rattle.std.specs.List.{join_with_byte}
use Rattle.process_tree.specs.declared.block.Block.{Block}
use Rattle.process_tree.specs.declared.tree.Named.{Named}
use Rattle.process_tree.specs.declared.play.Outcome.{Outcome}
use Rattle.process_tree.specs.declared.play.Outcome.TheVariants.{Done, Refused}
use Rattle.process_tree.specs.Blocks.{outline}
use Rattle.process_tree.specs.Shape.{Shape, shape_of, branch_to}
use Rattle.process_tree.specs.Termination.{Fault, stuck_at, unreachable_at, IsWellFormed, IsFirstFault}

-- what is wrong with a process first, or that nothing is
abbrev pub IsVerdict : Shape → Option Fault → Type 0
IsVerdict t None = IsWellFormed t
IsVerdict t (Some fault) = IsFirstFault t fault

-- the name of a step by its number
abbrev pub step_name : Block → ℕ → List ℕ
step_name root k = slice_index_or (map (λ s. s.name) (outline root).steps) k []

-- the names of the steps from the root to this one, joined by a slash
abbrev pub path_text : Block → ℕ → List ℕ
path_text root b = join_with_byte 47 (map (step_name root) (branch_to (shape_of root) b ++ b ∷ []))

abbrev pub outcome_word : Outcome → List ℕ
outcome_word Done = codes "done"
outcome_word Refused = codes "refused"

-- outcomes with a space between two
abbrev pub outcomes_text : List Outcome → List ℕ
outcomes_text os = join_with_byte 32 (map outcome_word os)

-- what is said of a process of this root
abbrev pub fault_text : Block → Option Fault → List ℕ
fault_text root None = codes ": well-formed\n"
fault_text root (Some (stuck_at b os)) =
    codes ": stuck at " ++ path_text root b ++ codes " after " ++ outcomes_text os ++ codes "\n"
fault_text root (Some (unreachable_at d)) = codes ": unreachable " ++ path_text root d ++ codes "\n"

-- the verdict line of a process
abbrev pub verdict_line : Named → Option Fault → List ℕ
verdict_line p verdict = p.name ++ fault_text p.tree verdict

-- these are the verdicts on these processes in order
abbrev pub AreVerdicts : List Named → List (Option Fault) → Type 0
AreVerdicts [] [] = ⊤
AreVerdicts [] (v ∷ vs) = ⊥
AreVerdicts (p ∷ ps) [] = ⊥
AreVerdicts (p ∷ ps) (v ∷ vs) = IsVerdict (shape_of p.tree) v × AreVerdicts ps vs

-- their lines in order
abbrev pub verdict_lines : List Named → List (Option Fault) → List ℕ
verdict_lines [] vs = []
verdict_lines (p ∷ ps) [] = []
verdict_lines (p ∷ ps) (v ∷ vs) = verdict_line p v ++ verdict_lines ps vs

-- one of them isn't well-formed
abbrev pub any_fault : List (Option Fault) → Bool
any_fault [] = false
any_fault (v ∷ vs) = is_some v || any_fault vs

-- what is said of a process of this root was added, and whether it tells a fault
abbrev pub IsFaultAdded : Block → Bool → List ℕ → List ℕ → Type 0
IsFaultAdded root any old new =
    (v : Option Fault) × IsVerdict (shape_of root) v × (new ≡ old ++ fault_text root v) × (any ≡ is_some v)

-- the line of a process was added
abbrev pub IsLineAdded : Named → Bool → List ℕ → List ℕ → Type 0
IsLineAdded p any old new = (v : Option Fault) × IsVerdict (shape_of p.tree) v × (new ≡ old ++ verdict_line p v) × (any ≡ is_some v)

-- these are the verdict lines of these processes
abbrev pub AreLines : List Named → Bool → List ℕ → Type 0
AreLines ps any lines = (vs : List (Option Fault)) × AreVerdicts ps vs × (lines ≡ verdict_lines ps vs) × (any ≡ any_fault vs)

-- a process that isn't well-formed, and its verdict line
abbrev pub IsBad : Named → Option (List ℕ) → Type 0
IsBad p None = ⊥
IsBad p (Some line) = (fault : Fault) × IsFirstFault (shape_of p.tree) fault × (line ≡ verdict_line p (Some fault))

-- the verdict line of the first process that isn't well-formed, or none where each is
abbrev pub IsFirstVerdict : List Named → Option (List ℕ) → Type 0
IsFirstVerdict [] None = ⊤
IsFirstVerdict [] (Some line) = ⊥
IsFirstVerdict (p ∷ ps) found = IsBad p found ⊎ (IsWellFormed (shape_of p.tree) × IsFirstVerdict ps found)
