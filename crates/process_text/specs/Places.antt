-- What is answered of a text with a fault: the fault, where it stands or which limit is passed.
use Rattle.std.specs.Prelude.{ℕ, List, Option, Some, None}
use Rattle.text_words.specs.Words.{words_of}
use Rattle.text_words.specs.Places.{place_of_word, place_of_end}
use Rattle.process_text.specs.FirstFault.{Told, first_fault}
use Rattle.process_text.specs.declared.fault.Fault.{Fault}
use Rattle.process_text.specs.declared.fault.Fault.TheVariants.{Missing, Misfit, Limit, SameName, NoMemory}
use Rattle.process_text.specs.declared.fault.What.{What}
use Rattle.process_text.specs.declared.fault.What.TheVariants.{Processes, Steps, Nesting, Alternatives}
use Rattle.process_text.specs.declared.error.TextError.{TextError}
use Rattle.process_text.specs.declared.error.TextError.TheVariants as errors

-- the number that passes a limit
abbrev pub passing : What → ℕ
passing Processes = 257
passing Steps = 257
passing Nesting = 17
passing Alternatives = 9

-- what is answered where a text has this fault
abbrev pub error_at : List ℕ → ℕ → Fault → TextError
error_at bytes left (Missing e) = errors.BadText (place_of_end bytes).line (place_of_end bytes).column e
error_at bytes left (Misfit e) = errors.BadText (place_of_word bytes left).line (place_of_word bytes left).column e
error_at bytes left (Limit what) = errors.Limit what (passing what)
error_at bytes left (SameName name) = errors.SameName (place_of_word bytes left).line name
error_at bytes left NoMemory = errors.NoMemory

-- what is answered of a text, if it has a fault
abbrev pub text_error : List ℕ → Option TextError
text_error bytes = answered (first_fault (words_of bytes))
  where
    answered : Option Told → Option TextError
    answered None = None
    answered (Some t) = Some (error_at bytes t.left t.fault)
