-- The first fault of a text: at each place of it, what its next word does. The first word that doesn't fit is told, or the
-- end of the text where a word is missing.
use Rattle.std.specs.Prelude.{ℕ, ◌+◌, List, [], ◌∷◌, ◌++◌, length, nat_lt, if◌then◌else◌, Option, Some, None, codes}
use Rattle.std.specs.List.{list_any}
use Rattle.process_tree.specs.Name.{is_name}
use Rattle.process_tree.specs.Making.{same_text}
use Rattle.process_tree.specs.declared.step.StepKind.{StepKind}
use Rattle.text_words.specs.Numbers.{is_key, is_amount_word}
use Rattle.text_words.specs.Marks.{settings, setting_word, is_setting_number, meaning, expected_at}
use Rattle.process_text.specs.declared.fault.Fault.{Fault}
use Rattle.process_text.specs.declared.fault.Fault.TheVariants.{Missing, Misfit, Limit, SameName}
use Rattle.text_words.specs.declared.expected.Expected.TheVariants as expects
use Rattle.process_text.specs.declared.fault.What.TheVariants.{Processes, Steps, Nesting, Alternatives}
use Rattle.text_words.specs.declared.marks.Mark.TheVariants.{Choose, Or, Done, End}
use Rattle.text_words.specs.declared.marks.Setting.{Setting}
use Rattle.text_words.specs.declared.marks.At.{At}
use Rattle.text_words.specs.declared.marks.At.TheVariants.{Begin, BehindStep, BehindChoice}
use Rattle.text_words.specs.declared.marks.Next.{Next}
use Rattle.text_words.specs.declared.marks.Next.TheVariants as next

-- What stands before a word.
pub record Before : Type 0 where
  -- the names of the processes
  pub earlier : List (List ℕ)
  -- the names of the steps of this process
  pub names : List (List ℕ)
  -- how many alternatives are begun in each open choice, the innermost first
  pub choices : List ℕ

-- a place of a text
pub data Place : Type 0 where
  between_processes : Place
  at_process_name : Place
  in_block : At → Place
  at_step_name : StepKind → Place
  at_operation : StepKind → Place
  at_key : StepKind → Place
  at_amount : StepKind → Place
  -- behind a step, with the options that may still come
  at_settings : List Setting → Place
  -- behind an option's word
  at_number : Setting → List Setting → Place

-- what a word does: the text goes on at another place, or it is a fault
pub data Turn : Type 0 where
  goes_on : Before → Place → Turn
  stops : Fault → Turn

-- nothing is before the text
abbrev pub nothing : Before
nothing = record { earlier = []; names = []; choices = [] }

-- a process begins
abbrev pub with_process : Before → List ℕ → Before
with_process b name = record { earlier = b.earlier ++ name ∷ []; names = []; choices = [] }

-- a process is over
abbrev pub without_process : Before → Before
without_process b = record { earlier = b.earlier; names = []; choices = [] }

-- a step has its name
abbrev pub with_name : Before → List ℕ → Before
with_name b name = record { earlier = b.earlier; names = b.names ++ name ∷ []; choices = b.choices }

-- these choices are open
abbrev pub with_choices : Before → List ℕ → Before
with_choices b choices = record { earlier = b.earlier; names = b.names; choices = choices }

-- how many alternatives are begun in the innermost open choice; none where no choice is open
abbrev pub begun_in : List ℕ → ℕ
begun_in [] = 0
begun_in (n ∷ outer) = n

-- the choices around the innermost
abbrev pub around : List ℕ → List ℕ
around [] = []
around (n ∷ outer) = outer

-- a name that isn't taken, or else a fault
abbrev pub new_name : List (List ℕ) → List ℕ → Turn → Turn
new_name taken w turn =
    if is_name w then (if list_any (same_text w) taken then stops (SameName w) else turn) else stops (Misfit expects.Name)

-- what comes of a word in a block. There are at most 256 steps in a process, 16 choices open at once, and 2 to 8
-- alternatives in a choice
abbrev pub turn_of : Before → Next → Turn
turn_of b (next.Step k) = if nat_lt (length b.names) 256 then goes_on b (at_step_name k) else stops (Limit Steps)
turn_of b (next.Mark Choose) =
    if nat_lt (length b.choices) 16 then goes_on (with_choices b (1 ∷ b.choices)) (in_block Begin) else stops (Limit Nesting)
turn_of b (next.Mark Or) =
    if nat_lt (begun_in b.choices) 8
    then goes_on (with_choices b ((begun_in b.choices + 1) ∷ around b.choices)) (in_block Begin)
    else stops (Limit Alternatives)
turn_of b (next.Mark Done) =
    if nat_lt 1 (begun_in b.choices)
    then goes_on (with_choices b (around b.choices)) (in_block BehindChoice)
    else stops (Misfit expects.Or)
turn_of b (next.Mark End) = goes_on (without_process b) between_processes
turn_of b (next.Misfit e) = stops (Misfit e)

-- what a word does behind a step, with the options that may still come
abbrev pub turn_behind : Before → List Setting → List ℕ → Turn
turn_behind b [] w = turn_of b (meaning BehindStep (begun_in b.choices) w)
turn_behind b (x ∷ xs) w = if same_text w (setting_word x) then goes_on b (at_number x xs) else turn_behind b xs w

-- what a word does at each place. There are at most 256 processes
abbrev pub turn_at : Before → Place → List ℕ → Turn
turn_at b between_processes w =
    if same_text w (codes "process")
    then (if nat_lt (length b.earlier) 256 then goes_on b at_process_name else stops (Limit Processes))
    else stops (Misfit expects.Process)
turn_at b at_process_name w = new_name b.earlier w (goes_on (with_process b w) (in_block Begin))
turn_at b (in_block at) w = turn_of b (meaning at (begun_in b.choices) w)
turn_at b (at_step_name k) w = new_name b.names w (goes_on (with_name b w) (at_operation k))
turn_at b (at_operation k) w = if is_name w then goes_on b (at_key k) else stops (Misfit expects.Operation)
turn_at b (at_key k) w = if is_key w then goes_on b (at_amount k) else stops (Misfit expects.Key)
turn_at b (at_amount k) w = if is_amount_word w then goes_on b (at_settings (settings k)) else stops (Misfit expects.Amount)
turn_at b (at_settings xs) w = turn_behind b xs w
turn_at b (at_number x xs) w = if is_setting_number x w then goes_on b (at_settings xs) else stops (Misfit expects.Number)

-- the fault, if the text ends at this place
abbrev pub end_at : Place → Option Fault
end_at between_processes = None
end_at at_process_name = Some (Missing expects.Name)
end_at (in_block at) = Some (Missing (expected_at at))
end_at (at_step_name k) = Some (Missing expects.Name)
end_at (at_operation k) = Some (Missing expects.Operation)
end_at (at_key k) = Some (Missing expects.Key)
end_at (at_amount k) = Some (Missing expects.Amount)
end_at (at_settings xs) = Some (Missing expects.Next)
end_at (at_number x xs) = Some (Missing expects.Number)

-- A fault, and how many words stand behind the one that is at fault.
pub record Told : Type 0 where
  pub fault : Fault
  pub left : ℕ

-- a fault in front of these words
abbrev pub told : Fault → List (List ℕ) → Option Told
told f ws = Some (record { fault = f; left = length ws })

-- a fault at the end
abbrev pub told_at_end : Option Fault → Option Told
told_at_end None = None
told_at_end (Some f) = told f []

-- what is told after a turn in front of these words, where `on` tells of going on
abbrev pub told_after : Turn → List (List ℕ) → (Before → Place → Option Told) → Option Told
told_after (goes_on b p) ws on = on b p
told_after (stops f) ws on = told f ws

-- what is told of words at a place: the first fault, if there is one
abbrev pub told_from : Before → Place → List (List ℕ) → Option Told
told_from b p [] = told_at_end (end_at p)
told_from b p (w ∷ ws) = told_after (turn_at b p w) ws (λ c q. told_from c q ws)

-- what is told behind a word that is this in a block
abbrev pub told_behind : Before → Next → List (List ℕ) → Option Told
told_behind b n ws = told_after (turn_of b n) ws (λ c q. told_from c q ws)

-- the first fault of a text of these words, if it has one
abbrev pub first_fault : List (List ℕ) → Option Told
first_fault words = told_from nothing between_processes words
