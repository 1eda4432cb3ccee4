-- The text of a generated scenario.
use Rattle.std.specs.Prelude.{ℕ, Bool, List, [], ◌∷◌, ◌++◌, nat_eq, flat_map, codes, decimal, if◌then◌else◌}
use Rattle.std.specs.List.{range_with_len}
use Rattle.scenario_gen.specs.declared.generator.Draws.{Draws}
use Rattle.scenario_gen.specs.Draws.{draws_of}

-- the operation of a first step, by what was drawn of three
abbrev pub operation_of : ℕ → List ℕ
operation_of drawn = if nat_eq drawn 0 then codes "add" else (if nat_eq drawn 1 then codes "note" else codes "load")

-- a step: its kind and name, its operation, and the key and the amount that were drawn
abbrev pub step_text : List ℕ → List ℕ → Draws → List ℕ
step_text step operation d = 32 ∷ step ++ 32 ∷ operation ++ 32 ∷ decimal d.key ++ 32 ∷ decimal d.amount

-- one that may be refused once, which stands behind its amount
abbrev pub refusable_text : List ℕ → List ℕ → Bool → Draws → List ℕ
refusable_text step operation once d = step_text step operation d ++ (if once then codes " refuse 1" else [])

-- the beginning of process k, with the two steps in front of its choice
unfoldable pub first_steps_text : ℕ → Draws → List ℕ
first_steps_text k d =
    codes "process g" ++ decimal k ++ step_text (codes "c s1") (operation_of d.operation) d
    ++ step_text (codes "p s2") (codes "pay") d

-- the first alternative of the choice: of eight draws one has its first step refused, and one its second
unfoldable pub first_way_text : Draws → List ℕ
first_way_text d =
    codes " choose" ++ refusable_text (codes "c s3") (codes "load") (nat_eq d.refusal 1) d
    ++ refusable_text (codes "p s4") (codes "haul") (nat_eq d.refusal 0) d ++ step_text (codes "r s5") (codes "note") d

-- the last alternative, and the end
unfoldable pub last_way_text : Draws → List ℕ
last_way_text d = codes " or" ++ step_text (codes "r s6") (codes "mail") d ++ codes " done end\n"

-- process k, in a line
unfoldable pub process_text : ℕ → Draws → List ℕ
process_text k d = first_steps_text k d ++ first_way_text d ++ last_way_text d

-- the processes from 1 to COUNT, each with what is drawn for it
abbrev pub processes_text : ℕ → ℕ → List ℕ
processes_text number count = flat_map (λ k. process_text k (draws_of number k)) (range_with_len 1 count)

-- an empty line, and the table of an operation
abbrev pub operation_text : List ℕ × ℕ × List ℕ → List ℕ
operation_text (name, subsystem, verb) =
    codes "\n[[op]]\nname = \"" ++ name ++ codes "\"\nsubsystem = " ++ decimal subsystem ++ codes "\nverb = \"" ++ verb
    ++ codes "\"\n"

-- the operations in their order: the name, the subsystem and the verb of each
abbrev pub operations : List (List ℕ × ℕ × List ℕ)
operations =
    (codes "add", 0, codes "add")
    ∷ (codes "take", 0, codes "take")
    ∷ (codes "pay", 1, codes "add")
    ∷ (codes "ship", 2, codes "add")
    ∷ (codes "note", 4, codes "put")
    ∷ (codes "book", 6, codes "hold")
    ∷ (codes "load", 2, codes "add")
    ∷ (codes "haul", 2, codes "add")
    ∷ (codes "mail", 3, codes "add")
    ∷ []

-- what stands in front of the processes
abbrev pub head_text : List ℕ
head_text =
    codes "version = 1\n"
    ++ codes "conflicts = [[\"add\", \"take\"], [\"take\", \"take\"], [\"note\", \"note\"], [\"book\", \"book\"]]\n"
    ++ codes "processes = \"\"\"\n"

-- what stands behind them
unfoldable pub tail_text : List ℕ
tail_text = codes "\"\"\"\n" ++ flat_map operation_text operations

-- the scenario that `gen NUMBER COUNT` prints
abbrev pub generated : ℕ → ℕ → List ℕ
generated number count = head_text ++ processes_text number count ++ tail_text
