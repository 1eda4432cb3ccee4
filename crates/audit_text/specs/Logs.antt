-- What a log says: which processes of a scenario started, and what happened, line by line. One space stands between two words of
-- a line.
use Rattle.std.specs.Prelude.{◌≡◌, ℕ, zero, suc, ◌+◌, Bool, true, false, List, [], ◌∷◌, ◌++◌, find, length, map, if◌then◌else◌, codes}
use Rattle.std.specs.Prelude.{Option, Some, None, option_and_then, Result, Ok, Err}
use Rattle.std.specs.List.{slice_get}
use Rattle.std.specs.Option.{option_map}
use denote.Ref.{Bor}
use Rattle.process_tree.specs.Blocks.{outline}
use Rattle.process_tree.specs.Entries.{entry_of, undo_of}
use Rattle.process_tree.specs.Making.{same_text}
use Rattle.process_tree.specs.declared.entry.Entry.{Entry}
use Rattle.process_tree.specs.declared.plan.Plan.{Plan}
use Rattle.schedule_model.specs.declared.event.Event.{Event}
use Rattle.schedule_model.specs.declared.event.Event.TheVariants.{Start, Act, End}
use Rattle.trace_verify.specs.Lines.{cut, of_both}
use Rattle.trace_verify.specs.Forms.{number_of}
use Rattle.session_text.specs.Sessions.{Mark, mark_of}

-- what a log has told, up to some line: the plan of each process that started, in order, and the events
pub record Log : Type 0 where
  pub started : List Plan
  pub events : List Event

-- nothing is told
abbrev pub nothing : Log
nothing = record { started = []; events = [] }

-- the plans that are referred to
abbrev pub plans_in : List (Bor Plan) → List Plan
plans_in ps = map (λ p. p.now) ps

-- a process of this plan starts, with the next number
abbrev pub with_start : Log → Plan → Log
with_start l p = record { started = l.started ++ p ∷ []; events = l.events ++ Start (length l.started + 1) ∷ [] }

-- something takes effect
abbrev pub with_act : Log → Entry → Log
with_act l e = record { started = l.started; events = l.events ++ Act e ∷ [] }

-- process i ends
abbrev pub with_end : Log → ℕ → Log
with_end l i = record { started = l.started; events = l.events ++ End i ∷ [] }

-- the plan of the process of this name
abbrev pub plan_named : List Plan → List ℕ → Option Plan
plan_named plans name = find (λ (p : Plan). same_text p.name name) plans

-- the plan of process i: processes count from 1
abbrev pub plan_at : List Plan → ℕ → Option Plan
plan_at plans zero = None
plan_at plans (suc i) = slice_get plans i

-- the names of the steps of a plan, in text order
abbrev pub names_in : Plan → List (List ℕ)
names_in p = map (λ s. s.name) (outline p.tree).steps

-- which of these names is this one, counted from n
abbrev pub place_from : ℕ → List ℕ → List (List ℕ) → Option ℕ
place_from n name [] = None
place_from n name (x ∷ xs) = if same_text x name then Some n else place_from (n + 1) name xs

-- the step of this name: steps count from 0
abbrev pub step_named : List ℕ → Plan → Option ℕ
step_named name p = place_from 0 name (names_in p)

-- step b of process i takes effect, or its undo does
abbrev pub act_of : Bool → Plan → ℕ → ℕ → Entry
act_of false p i b = entry_of p i b
act_of true p i b = undo_of (entry_of p i b)

-- the same of the step of this name
abbrev pub named_act : Bool → ℕ → List ℕ → Plan → Option Entry
named_act undo i name p = option_map (act_of undo p i) (step_named name p)

-- the same of process i
abbrev pub act_at : List Plan → Bool → List ℕ → ℕ → Option Entry
act_at started undo name i = option_and_then (named_act undo i name) (plan_at started i)

-- `I.STEP`
abbrev pub placed_act : List Plan → Bool → List ℕ → Option Entry
placed_act started undo place = of_both (λ i name. option_and_then (act_at started undo name) (number_of i)) (cut 46 place)

-- process i, if it has started
abbrev pub started_at : List Plan → ℕ → Option ℕ
started_at started i = option_map (λ _. i) (plan_at started i)

-- `I`
abbrev pub process_of : List Plan → List ℕ → Option ℕ
process_of started word = option_and_then (started_at started) (number_of word)

-- What is told then by `start NAME`, `do I.STEP`, `undo I.STEP` or `end I`, by its first word and the rest. The scenario has a
-- process of that name, process I has started, and it has that step.
abbrev pub told_by : List Plan → Log → List ℕ → List ℕ → Option Log
told_by plans l word rest =
    if same_text word (codes "start") then option_map (with_start l) (plan_named plans rest)
    else (if same_text word (codes "do") then option_map (with_act l) (placed_act l.started false rest)
    else (if same_text word (codes "undo") then option_map (with_act l) (placed_act l.started true rest)
    else (if same_text word (codes "end") then option_map (with_end l) (process_of l.started rest) else None)))

-- what is told after one line more, if it has its form; an empty line is passed over
abbrev pub after_line : List Plan → Log → List ℕ → Option Log
after_line plans l [] = Some l
after_line plans l (b ∷ bs) = of_both (told_by plans l) (cut 32 (b ∷ bs))

-- what a log says, or the number of its first bad line
abbrev pub Reading : Type 0
Reading = Result Log ℕ

-- goes on, or line n is bad
abbrev pub on_or_bad : ℕ → (Log → Reading) → Option Log → Reading
on_or_bad n on None = Err n
on_or_bad n on (Some l) = on l

-- what these lines say, of which the first has the number n, behind what was told
abbrev pub log_from : List Plan → Log → ℕ → List (List ℕ) → Reading
log_from plans l n [] = Ok l
log_from plans l n (line ∷ lines) = on_or_bad n (λ m. log_from plans m (n + 1) lines) (after_line plans l line)

-- what the lines behind the mark say; without a mark there are none
abbrev pub log_behind : List Plan → Option Mark → Reading
log_behind plans None = Ok nothing
log_behind plans (Some m) = log_from plans nothing (m.number + 1) m.lines

-- the log of a text, behind a scenario with these plans
abbrev pub log_of : List Plan → List ℕ → Reading
log_of plans text = log_behind plans (mark_of text)

-- what is said of a log when a line is taken: what comes of the line is told then, or nothing comes of it
abbrev pub IsTaken : Option Log → Bool → Log → Type 0
IsTaken comes true new = comes ≡ Some new
IsTaken comes false new = comes ≡ None
