-- The plain text of a text in which `then` may stand behind a choice, and why there is none.
use Rattle.std.specs.Prelude.{◌≡◌, ◌⊎◌, ℕ, List, [], Some, None}
use Rattle.text_words.specs.Words.{words_of}
use Rattle.process_text.specs.Places.{text_error}
use Rattle.process_text.specs.declared.error.TextError.{TextError}
use Rattle.process_text.specs.declared.error.TextError.TheVariants.{Limit, NoMemory}
use Rattle.process_text.specs.declared.fault.What.TheVariants.{Steps}
use Rattle.process_expand.specs.Reading.{fault_of, tokens_of}
use Rattle.process_expand.specs.Expansion.{expanded, IsTooLong}
use Rattle.process_expand.specs.Naming.{names_in}
use Rattle.process_expand.specs.Layout.{printed}

-- the plain text of these words
abbrev pub plain_text : List (List ℕ) → List ℕ
plain_text words = printed words (names_in words (tokens_of words)) [] 0 (expanded (tokens_of words))

-- the plain text of a text
abbrev pub expansion : List ℕ → List ℕ
expansion bytes = plain_text (words_of bytes)

-- what is wrong with a text without a fault: too many steps are written, or else what is written has this fault
abbrev pub IsUnwritable : List ℕ → TextError → Type 0
IsUnwritable bytes e =
    ((e ≡ Limit Steps 257) × IsTooLong (tokens_of (words_of bytes))) ⊎ (text_error (expansion bytes) ≡ Some e)

-- Why there is no plain text: memory was wanting, or the text has this fault, its first; or it has none, and can't be written out.
abbrev pub IsNoPlain : List ℕ → TextError → Type 0
IsNoPlain bytes e = (e ≡ NoMemory) ⊎ (fault_of bytes ≡ Some e) ⊎ ((fault_of bytes ≡ None) × IsUnwritable bytes e)
