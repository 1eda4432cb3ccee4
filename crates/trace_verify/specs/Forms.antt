-- The forms of the lines of a report. One space stands between two words of a line. In a plain report nothing is said of keys; in a
-- keyed one each entry has its key, and each pair of operations its mode.
use Rattle.std.specs.Prelude.{ℕ, List, Bool, true, false, ◌&&◌, ◌||◌, if◌then◌else◌, Option, Some, None, option_and_then, codes}
use Rattle.std.specs.List.{list_all}
use Rattle.std.specs.Option.{option_map}
use Rattle.std.specs.Str.Parse.{digits_value}
use Rattle.process_tree.specs.Name.{is_name}
use Rattle.process_tree.specs.Making.{same_text}
use Rattle.process_tree.specs.declared.conflicts.Mode.{Mode}
use Rattle.process_tree.specs.declared.conflicts.Mode.TheVariants.{Key, Always}
use Rattle.process_text.specs.Numbers as numbers
use Rattle.schedule_model.specs.declared.trace_step.TraceStep.{TraceStep}
use Rattle.schedule_model.specs.declared.trace_step.TraceStep.TheVariants.{Move, Cancel}
use Rattle.trace_verify.specs.declared.form.Form.{Form}
use Rattle.trace_verify.specs.declared.form.Form.TheVariants.{Plain, Keyed}
use Rattle.trace_verify.specs.Lines.{parts, cut, of_both, both_pass}

-- A step of a process that took effect, or its undo, by the names of the step and of its operation. A plain report has key 0 for
-- all.
pub record NamedAct : Type 0 where
  pub process : ℕ
  pub step : List ℕ
  pub op : List ℕ
  pub key : ℕ
  pub undo : Bool

-- two operations by their names, and when they conflict
pub record Pair : Type 0 where
  pub first : List ℕ
  pub second : List ℕ
  pub mode : Mode

-- the title of the first section, which says the form of the report
abbrev pub first_title : Form → List ℕ
first_title Plain = codes "conflicts"
first_title Keyed = codes "conflicts 2"

-- the form that a first title says
abbrev pub form_of_title : List ℕ → Option Form
form_of_title line =
    if same_text line (first_title Plain) then Some Plain else (if same_text line (first_title Keyed) then Some Keyed else None)

-- what is written for a number from 0 to 4294967295
abbrev pub is_number : List ℕ → Bool
is_number w = numbers.is_number 4294967295 w

-- the number that a word writes
abbrev pub number_of : List ℕ → Option ℕ
number_of w = if is_number w then Some (digits_value 10 w) else None

-- these two with this mode, if they are names
abbrev pub pair_of : List ℕ → List ℕ → Mode → Option Pair
pair_of a b mode = if is_name a && is_name b then Some (record { first = a; second = b; mode = mode }) else None

-- the mode that a word says: `always` or `key`
abbrev pub mode_of_word : List ℕ → Option Mode
mode_of_word w = if same_text w (codes "always") then Some Always else (if same_text w (codes "key") then Some Key else None)

-- A, and what stands behind it: `B` in a plain report, where they conflict always, and `B MODE` in a keyed one
abbrev pub pair_from : Form → List ℕ → List ℕ → Option Pair
pair_from Plain a rest = pair_of a rest Always
pair_from Keyed a rest = of_both (λ b word. option_and_then (pair_of a b) (mode_of_word word)) (cut 32 rest)

-- `A B`, or `A B MODE`
abbrev pub pair_line : Form → List ℕ → Option Pair
pair_line form line = of_both (pair_from form) (cut 32 line)

-- the act of process I at STEP with operation OP on this key
abbrev pub named_act : Bool → List ℕ → ℕ → List ℕ → List ℕ → Option NamedAct
named_act undo op key i step =
    if is_name step && is_name op
    then option_map (λ n. record { process = n; step = step; op = op; key = key; undo = undo }) (number_of i)
    else None

-- `I.STEP`, with operation OP on this key
abbrev pub placed_act : Bool → List ℕ → List ℕ → ℕ → Option NamedAct
placed_act undo place op key = of_both (named_act undo op key) (cut 46 place)

-- `I.STEP`, and what stands behind it: `OP` in a plain report, and `OP KEY` in a keyed one
abbrev pub act_from : Form → Bool → List ℕ → List ℕ → Option NamedAct
act_from Plain undo place rest = placed_act undo place rest 0
act_from Keyed undo place rest = of_both (λ op key. option_and_then (placed_act undo place op) (number_of key)) (cut 32 rest)

-- `I.STEP OP`, or `I.STEP OP KEY`
abbrev pub act_of : Form → Bool → List ℕ → Option NamedAct
act_of form undo text = of_both (act_from form undo) (cut 32 text)

-- `I NAME`
abbrev pub is_start : List ℕ → Bool
is_start text = both_pass (λ i name. is_number i && is_name name) (cut 32 text)

-- a line that has no act, if it has its form
abbrev pub without_act : Bool → Option (Option NamedAct)
without_act good = if good then Some None else None

-- `start I NAME`, `do` or `undo` and an act, or `end I`, by its first word and the rest
abbrev pub event_of : Form → List ℕ → List ℕ → Option (Option NamedAct)
event_of form word rest =
    if same_text word (codes "do") then option_map Some (act_of form false rest)
    else (if same_text word (codes "undo") then option_map Some (act_of form true rest)
    else (if same_text word (codes "start") then without_act (is_start rest)
    else (if same_text word (codes "end") then without_act (is_number rest) else None)))

-- an event: the act that it has, if it has one
abbrev pub event_line : Form → List ℕ → Option (Option NamedAct)
event_line form line = of_both (event_of form) (cut 32 line)

-- `path S1 S2 ..`, with one step at least
abbrev pub is_path : List ℕ → Bool
is_path text = both_pass (λ word steps. same_text word (codes "path") && list_all is_name (parts 32 steps)) (cut 32 text)

-- what became of a process: `path S1 S2 ..`, `nothing` or `active`
abbrev pub is_end : List ℕ → Bool
is_end text = same_text text (codes "nothing") || same_text text (codes "active") || is_path text

-- `NAME` and what became of it
abbrev pub is_named_end : List ℕ → Bool
is_named_end text = both_pass (λ name end. is_name name && is_end end) (cut 32 text)

-- `I NAME` and what became of it
abbrev pub is_end_line : List ℕ → Bool
is_end_line line = both_pass (λ i rest. is_number i && is_named_end rest) (cut 32 line)

-- `refused STEP` or `cascade K`
abbrev pub is_longer_cause : List ℕ → Bool
is_longer_cause text =
    both_pass (λ word rest. (same_text word (codes "refused") && is_name rest)
    || (same_text word (codes "cascade") && is_number rest)) (cut 32 text)

-- why a process began to complete: `abort`, `victim`, `restart`, `refused STEP` or `cascade K`
abbrev pub is_cause : List ℕ → Bool
is_cause text =
    same_text text (codes "abort") || same_text text (codes "victim") || same_text text (codes "restart") || is_longer_cause text

-- `I` and the cause
abbrev pub is_cause_line : List ℕ → Bool
is_cause_line line = both_pass (λ i cause. is_number i && is_cause cause) (cut 32 line)

-- the move from one place to another, if both are numbers
abbrev pub moved : Option ℕ → Option ℕ → Option TraceStep
moved None to = None
moved (Some a) None = None
moved (Some a) (Some b) = Some (Move a b)

-- `FROM TO`
abbrev pub move_of : List ℕ → Option TraceStep
move_of text = of_both (λ from to. moved (number_of from) (number_of to)) (cut 32 text)

-- `AT`
abbrev pub cancel_of : List ℕ → Option TraceStep
cancel_of text = option_map Cancel (number_of text)

-- `move FROM TO` or `cancel AT`, by its first word and the rest
abbrev pub step_of : List ℕ → List ℕ → Option TraceStep
step_of word rest =
    if same_text word (codes "move") then move_of rest else (if same_text word (codes "cancel") then cancel_of rest else None)

-- a step of the trace
abbrev pub step_line : List ℕ → Option TraceStep
step_line line = of_both step_of (cut 32 line)

-- `do` and an act
abbrev pub serial_line : Form → List ℕ → Option NamedAct
serial_line form line = of_both (λ word rest. if same_text word (codes "do") then act_of form false rest else None) (cut 32 line)
