-- What words mean in a block.
use Rattle.std.specs.Prelude.{◌≡◌, ⊤, ℕ, zero, suc, List, [], ◌∷◌, Bool, true, false, codes, if◌then◌else◌, Option, Some, None}
use Rattle.std.specs.Prelude.{◌&&◌}
use Rattle.std.specs.Str.Parse.{digits_value}
use Rattle.process_tree.specs.Making.{same_text, are_tries, are_refusals}
use Rattle.process_tree.specs.declared.step.Step.{Step}
use Rattle.process_tree.specs.declared.step.StepKind.{StepKind}
use Rattle.process_tree.specs.declared.step.StepKind.TheVariants.{C, P, R, Cr}
use Rattle.text_words.specs.declared.expected.Expected.{Expected}
use Rattle.text_words.specs.declared.expected.Expected.TheVariants as expects
use Rattle.text_words.specs.declared.marks.Mark.{Mark}
use Rattle.text_words.specs.declared.marks.Mark.TheVariants.{Choose, Or, Done, End}
use Rattle.text_words.specs.declared.marks.Setting.{Setting}
use Rattle.text_words.specs.declared.marks.Setting.TheVariants.{Tries, Undo, Refuse, UndoRefuse}
use Rattle.text_words.specs.declared.marks.At.{At}
use Rattle.text_words.specs.declared.marks.At.TheVariants.{Begin, BehindStep, BehindChoice}
use Rattle.text_words.specs.declared.marks.Next.{Next}
use Rattle.text_words.specs.declared.marks.Next.TheVariants as next
use Rattle.text_words.specs.Numbers.{is_number}

-- the word of a kind of step
abbrev pub kind_word : StepKind → List ℕ
kind_word C = codes "c"
kind_word P = codes "p"
kind_word R = codes "r"
kind_word Cr = codes "cr"

-- the kind that a word names
abbrev pub kind_of_word : List ℕ → Option StepKind
kind_of_word w =
    if same_text w (codes "c") then Some C
    else (if same_text w (codes "p") then Some P
    else (if same_text w (codes "r") then Some R
    else (if same_text w (codes "cr") then Some Cr else None)))

-- the words that open, divide and close blocks
abbrev pub mark_word : Mark → List ℕ
mark_word Choose = codes "choose"
mark_word Or = codes "or"
mark_word Done = codes "done"
mark_word End = codes "end"

-- the options of a kind, in their order
abbrev pub settings : StepKind → List Setting
settings C = Undo ∷ Refuse ∷ UndoRefuse ∷ []
settings P = Refuse ∷ []
settings R = Tries ∷ Refuse ∷ []
settings Cr = Tries ∷ Undo ∷ Refuse ∷ UndoRefuse ∷ []

-- the word of an option
abbrev pub setting_word : Setting → List ℕ
setting_word Tries = codes "tries"
setting_word Undo = codes "undo"
setting_word Refuse = codes "refuse"
setting_word UndoRefuse = codes "undorefuse"

-- the number that holds where the option is left out
abbrev pub default_of : Setting → ℕ
default_of Tries = 3
default_of Undo = 3
default_of Refuse = 0
default_of UndoRefuse = 0

-- the number that an option has in a step
abbrev pub number_of : Setting → Step → ℕ
number_of Tries s = s.tries
number_of Undo s = s.undo_tries
number_of Refuse s = s.refuse
number_of UndoRefuse s = s.undo_refuse

-- the numbers that an option takes
abbrev pub takes : Setting → ℕ → Bool
takes Tries n = are_tries n
takes Undo n = are_tries n
takes Refuse n = are_refusals n
takes UndoRefuse n = are_refusals n

-- a word behind the option's word is such a number
abbrev pub is_setting_number : Setting → List ℕ → Bool
is_setting_number x w = is_number 99 w && takes x (digits_value 10 w)

-- a word that may begin a step or a choice
abbrev pub opening : List ℕ → Option Next
opening w = if same_text w (codes "choose") then Some (next.Mark Choose) else begun_by (kind_of_word w)
  where
    begun_by : Option StepKind → Option Next
    begun_by None = None
    begun_by (Some k) = Some (next.Step k)

-- a word that may close a block: `end` closes a process; `or` and `done` close an alternative
abbrev pub closing : ℕ → List ℕ → Option Mark
closing zero w = if same_text w (codes "end") then Some End else None
closing (suc begun) w =
    if same_text w (codes "or") then Some Or else (if same_text w (codes "done") then Some Done else None)

-- whether a word closes a block
abbrev pub closes : ℕ → Mark → Bool
closes zero Choose = false
closes zero Or = false
closes zero Done = false
closes zero End = true
closes (suc begun) Choose = false
closes (suc begun) Or = true
closes (suc begun) Done = true
closes (suc begun) End = false

-- whether a word ends the steps of a block
abbrev pub ends_steps : ℕ → Mark → Bool
ends_steps begun Choose = true
ends_steps begun Or = closes begun Or
ends_steps begun Done = closes begun Done
ends_steps begun End = closes begun End

-- what is expected at a place
abbrev pub expected_at : At → Expected
expected_at Begin = expects.Step
expected_at BehindStep = expects.Next
expected_at BehindChoice = expects.Close

-- the first that is there
abbrev pub or_else : Option Next → Next → Next
or_else None n = n
or_else (Some m) n = m

-- the same of a word that closes
abbrev pub mark_or : Option Mark → Next → Next
mark_or None n = n
mark_or (Some m) n = next.Mark m

-- what a word is at a place, `begun` alternatives being begun in the choice around it
abbrev pub meaning : At → ℕ → List ℕ → Next
meaning Begin begun w = or_else (opening w) (next.Misfit expects.Step)
meaning BehindStep begun w = or_else (opening w) (mark_or (closing begun w) (next.Misfit expects.Next))
meaning BehindChoice begun w = mark_or (closing begun w) (next.Misfit expects.Close)

-- what the word of this is
abbrev pub IsWordOf : ℕ → Next → List ℕ → Type 0
IsWordOf begun (next.Step k) w = w ≡ kind_word k
IsWordOf begun (next.Mark m) w = (w ≡ mark_word m) × (ends_steps begun m ≡ true)
IsWordOf begun (next.Misfit e) w = ⊤
