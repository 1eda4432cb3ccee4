-- The command `expand`.
use Rattle.std.specs.Prelude.{◌≡◌, ◌≤◌, ◌⊎◌, List, [], ◌∷◌, ℕ, length, None, IfSome}
use Rattle.text_words.specs.Words.{words_of}
use Rattle.process_text.specs.Again.{HasReading}
use Rattle.process_text.specs.Places.{text_error}
use Rattle.process_text.specs.declared.error.TextError.{TextError}
use Rattle.process_expand.specs.Expand.{expansion, IsNoPlain}
use Rattle.process_expand.specs.Expansion.{IsTooLong}
use Rattle.process_expand.specs.Reading.{fault_of, tokens_of}
use Rattle.command_refusals.specs.declared.refusal.Refusal.{Refusal}
use Rattle.command_refusals.specs.declared.status.Status.{Status}
use Rattle.command_refusals.specs.declared.status.Status.TheVariants.{Done, NoMemory}
use Rattle.command_refusals.specs.Statuses.{IsOneOf}
use Rattle.command_input.specs.Inputs.{Input, most_input, text_refusal, HasNoText, IsWholeText}
use Rattle.process_top.specs.Replies.{Reply, printed, refused}

-- the input was read to its end, and has no fault; this is its plain text, and that of processes
abbrev pub IsExpanded : Input → Input → List ℕ → Type 0
IsExpanded before after text =
    (given : List ℕ) × IsWholeText before after given × (fault_of given ≡ None) × (text ≡ expansion given) × HasReading text

-- no input came, or there is no plain text of it
abbrev pub IsNotExpanded : Input → Input → Refusal → Type 0
IsNotExpanded before after r =
    HasNoText r before after
    ⊎ ((given : List ℕ) × IsWholeText before after given × ((e : TextError) × (r ≡ text_refusal e) × IsNoPlain given e))

-- the plain text of the input, or why there is none
abbrev pub IsExpandDue : Input → Input → Reply → Type 0
IsExpandDue before after (printed text) = IsExpanded before after text
IsExpandDue before after (refused r) = IsNotExpanded before after r
IsExpandDue before after reply = ⊥

-- where the input has no fault, and what is written of it isn't too much, it is printed, or memory is wanting
abbrev pub IsExpandComplete : Input → Status → Type 0
IsExpandComplete input status =
    IfSome input.left (λ text. length text ≤ most_input → fault_of text ≡ None → ¬ IsTooLong (tokens_of (words_of text))
    → text_error (expansion text) ≡ None → IsOneOf status (Done ∷ NoMemory ∷ []))
