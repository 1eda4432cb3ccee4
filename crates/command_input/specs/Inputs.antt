-- The input of a command, and what is refused of it.
use Rattle.std.specs.Prelude.{◌≡◌, ◌≤◌, ◌<◌, ◌⊎◌, ℕ, true, nat_lt, List, [], ◌∷◌, length, Option, Some, None, IfSome, ⊤}
use Rattle.std.specs.Prelude.{if◌then◌else◌}
use Rattle.std.specs.Option.{option_map}
use Rattle.std.specs.Io.KnownBytes.{IsAtEnd}
use Rattle.process_flow.specs.Causes.{Rose}
use Rattle.process_tree.specs.declared.tree.Named.{Named}
use Rattle.process_text.specs.Words.{words_of}
use Rattle.process_text.specs.Grammar.{IsReading}
use Rattle.process_text.specs.Places.{text_error}
use Rattle.process_text.specs.declared.error.TextError.{TextError}
use Rattle.process_text.specs.declared.error.TextError.TheVariants as errors
use Rattle.process_flow.specs.declared.source.Source.{Ghosts as Sources}
use Rattle.command_refusals.specs.declared.faults.Quantity.TheVariants as quantities
use Rattle.command_refusals.specs.declared.refusal.Refusal.{Refusal}
use Rattle.command_refusals.specs.declared.refusal.Refusal.TheVariants.{Text, Limit, ReadFault, NoMemory}
use Rattle.command_refusals.specs.Order.{Test}
use Rattle.command_input.specs.Early.{comes_before_files}

-- the greatest size of an input, in bytes
abbrev pub most_input : ℕ
most_input = 1048576

-- a source at some moment: what it has left, where it tells, and its count of faults
pub record Input : Type 0 where
  pub left : Option (List ℕ)
  pub faults : ℕ

abbrev pub input : {S : Type 0} → Sources S → S → Input
input s source = record { left = s.left source; faults = s.faults source }

-- the input, where it is told, is within its limit and has this
abbrev pub OnInput : Input → (List ℕ → Type 0) → Type 0
OnInput input P = IfSome input.left (λ text. (length text ≤ most_input) × P text)

-- the source was read to its end, and had this text
abbrev pub IsWholeText : Input → Input → List ℕ → Type 0
IsWholeText before after text = IsAtEnd after.left × (length text ≤ most_input) × IfSome before.left (λ given. text ≡ given)

-- the source was read to its end, where it tells, and had the text of these processes within the limit
abbrev pub IsRead : Input → Input → List Named → Type 0
IsRead before after ps = IsAtEnd after.left × OnInput before (λ text. IsReading (words_of text) ps)

-- the first refusal of these tests, if one of them refuses
abbrev pub first_refusal : List (Option Refusal) → Option Refusal
first_refusal [] = None
first_refusal (None ∷ tests) = first_refusal tests
first_refusal (Some r ∷ tests) = Some r

-- the text has more bytes than an input may have; the first that is too many is named
abbrev pub too_long : List ℕ → Option Refusal
too_long text = if nat_lt most_input (length text) then Some (Limit quantities.Input 1048577) else None

-- the text has a fault: its first
abbrev pub bad_text : List ℕ → Option Refusal
bad_text text = option_map Text (text_error text)

-- the tests of any input
abbrev pub input_tests : List ℕ → List (Option Refusal)
input_tests text = too_long text ∷ []

-- the tests of a text of processes, in their order
abbrev pub text_tests : List ℕ → List (Option Refusal)
text_tests text = too_long text ∷ bad_text text ∷ []

-- The input is refused, before the rack is called: by the first of its tests that refuses it; or its source failed; or memory was
-- wanting, which is free.
abbrev pub IsRefused : (List ℕ → List (Option Refusal)) → Refusal → Input → Input → Type 0
IsRefused tests ReadFault before after = Rose before.faults after.faults
IsRefused tests NoMemory before after = ⊤
IsRefused tests r before after = (comes_before_files r ≡ true) × IfSome before.left (λ text. first_refusal (tests text) ≡ Some r)

-- no text came: there was more of it than may be, or the source failed, or memory was wanting
abbrev pub HasNoText : Refusal → Input → Input → Type 0
HasNoText r before after =
    ((r ≡ Limit quantities.Input 1048577) × IfSome before.left (λ text. most_input < length text))
    ⊎ ((r ≡ ReadFault) × Rose before.faults after.faults) ⊎ (r ≡ NoMemory)

-- the test of a source: its whole text comes, and is handed on
abbrev pub text_test : Input → Input → Test Refusal (List ℕ)
text_test before after = record { hands_on = IsWholeText before after; refuses = λ r. HasNoText r before after }

-- what is told of a text that was not read
abbrev pub text_refusal : TextError → Refusal
text_refusal (errors.BadText line column expected) = Text (errors.BadText line column expected)
text_refusal (errors.Limit what n) = Text (errors.Limit what n)
text_refusal (errors.SameName line name) = Text (errors.SameName line name)
text_refusal errors.NoMemory = NoMemory
