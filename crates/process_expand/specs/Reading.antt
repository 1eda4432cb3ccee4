-- A text in which `then` may stand behind a choice: its first fault, and what its words are to an expansion.
use Rattle.std.specs.Prelude.{ℕ, ◌+◌, List, [], ◌∷◌, if◌then◌else◌, Option, Some, None, codes}
use Rattle.process_tree.specs.Making.{same_text}
use Rattle.text_words.specs.Words.{words_of}
use Rattle.text_words.specs.Marks.{meaning, setting_word}
use Rattle.text_words.specs.declared.marks.Mark.TheVariants.{Choose, Or, Done, End}
use Rattle.text_words.specs.declared.marks.Setting.{Setting}
use Rattle.text_words.specs.declared.marks.At.TheVariants.{Begin, BehindStep, BehindChoice}
use Rattle.text_words.specs.declared.marks.Next.{Next}
use Rattle.text_words.specs.declared.marks.Next.TheVariants as next
use Rattle.process_text.specs.FirstFault.{Before, Place, Turn, Told, between_processes, in_block, at_step_name, at_settings}
use Rattle.process_text.specs.FirstFault.{at_process_name, at_operation, at_key, at_amount, at_number}
use Rattle.process_text.specs.FirstFault.{goes_on, stops, nothing, begun_in, end_at, told_at_end, told_after, turn_at as plain_turn}
use Rattle.process_text.specs.Places.{error_at}
use Rattle.process_text.specs.declared.error.TextError.{TextError}
use Rattle.process_expand.specs.declared.tokens.Role.{Role}
use Rattle.process_expand.specs.declared.tokens.Role.TheVariants.{Begins, Ends, Opens, Divides, Closes, Follows, Kind, Name, Other}
use Rattle.process_expand.specs.declared.tokens.Token.{Token}

-- ---- faults

-- what a word does behind a choice: `then` begins what follows it, and all others do what they do in a plain text
abbrev pub turn_behind_choice : Before → List ℕ → Turn
turn_behind_choice b w =
    if same_text w (codes "then") then goes_on b (in_block Begin) else plain_turn b (in_block BehindChoice) w

-- what a word does at each place: behind a choice that, and else what it does in a plain text
abbrev pub turn_at : Before → Place → List ℕ → Turn
turn_at b (in_block BehindChoice) w = turn_behind_choice b w
turn_at b (in_block Begin) w = plain_turn b (in_block Begin) w
turn_at b (in_block BehindStep) w = plain_turn b (in_block BehindStep) w
turn_at b between_processes w = plain_turn b between_processes w
turn_at b at_process_name w = plain_turn b at_process_name w
turn_at b (at_step_name k) w = plain_turn b (at_step_name k) w
turn_at b (at_operation k) w = plain_turn b (at_operation k) w
turn_at b (at_key k) w = plain_turn b (at_key k) w
turn_at b (at_amount k) w = plain_turn b (at_amount k) w
turn_at b (at_settings xs) w = plain_turn b (at_settings xs) w
turn_at b (at_number x xs) w = plain_turn b (at_number x xs) w

-- what is told of words at a place: the first fault, if there is one
abbrev pub told_from : Before → Place → List (List ℕ) → Option Told
told_from b p [] = told_at_end (end_at p)
told_from b p (w ∷ ws) = told_after (turn_at b p w) ws (λ c q. told_from c q ws)

-- the first fault of a text of these words, if it has one
abbrev pub first_fault : List (List ℕ) → Option Told
first_fault words = told_from nothing between_processes words

-- what is answered of it
abbrev pub answered : List ℕ → Option Told → Option TextError
answered bytes None = None
answered bytes (Some t) = Some (error_at bytes t.left t.fault)

-- what is answered of a text, if it has a fault
abbrev pub fault_of : List ℕ → Option TextError
fault_of bytes = answered bytes (first_fault (words_of bytes))

-- ---- tokens

-- what a word in a block is
abbrev pub role_of : Next → Role
role_of (next.Step k) = Kind
role_of (next.Mark Choose) = Opens
role_of (next.Mark Or) = Divides
role_of (next.Mark Done) = Closes
role_of (next.Mark End) = Ends
role_of (next.Misfit e) = Other

-- what a word behind a step is, where these options may still come
abbrev pub role_behind : List Setting → ℕ → List ℕ → Role
role_behind [] begun w = role_of (meaning BehindStep begun w)
role_behind (x ∷ xs) begun w = if same_text w (setting_word x) then Other else role_behind xs begun w

-- what a word is at each place
abbrev pub role_at : Before → Place → List ℕ → Role
role_at b between_processes w = Begins
role_at b at_process_name w = Other
role_at b (in_block Begin) w = role_of (meaning Begin (begun_in b.choices) w)
role_at b (in_block BehindStep) w = role_of (meaning BehindStep (begun_in b.choices) w)
role_at b (in_block BehindChoice) w =
    if same_text w (codes "then") then Follows else role_of (meaning BehindChoice (begun_in b.choices) w)
role_at b (at_step_name k) w = Name
role_at b (at_operation k) w = Other
role_at b (at_key k) w = Other
role_at b (at_amount k) w = Other
role_at b (at_settings xs) w = role_behind xs (begun_in b.choices) w
role_at b (at_number x xs) w = Other

-- what comes of a turn, where the text goes on
abbrev pub after_turn : Turn → (Before → Place → List Token) → List Token
after_turn (goes_on b p) on = on b p
after_turn (stops f) on = []

-- the tokens of words at a place, behind so many words; none from the first fault on
abbrev pub tokens_from : Before → Place → ℕ → List (List ℕ) → List Token
tokens_from b p n [] = []
tokens_from b p n (w ∷ ws) =
    record { role = role_at b p w; number = n } ∷ after_turn (turn_at b p w) (λ c q. tokens_from c q (n + 1) ws)

-- the tokens of a text of these words
abbrev pub tokens_of : List (List ℕ) → List Token
tokens_of words = tokens_from nothing between_processes 0 words
