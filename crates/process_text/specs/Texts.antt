-- How errors read.
use Rattle.std.specs.Prelude.{ℕ, List, ◌++◌, codes, decimal}
use Rattle.text_words.specs.Expected.{expected_word}
use Rattle.process_text.specs.declared.error.TextError.{TextError}
use Rattle.process_text.specs.declared.error.TextError.TheVariants.{BadText, Limit, SameName, NoMemory}
use Rattle.process_text.specs.declared.fault.What.{What}
use Rattle.process_text.specs.declared.fault.What.TheVariants.{Processes, Steps, Nesting, Alternatives}

-- the word of what there is too much of
abbrev pub what_word : What → List ℕ
what_word Processes = codes "processes"
what_word Steps = codes "steps"
what_word Nesting = codes "nesting"
what_word Alternatives = codes "alternatives"

-- how an error reads
abbrev pub error_text : TextError → List ℕ
error_text (BadText line column expected) =
    codes "bad text at line " ++ decimal line ++ codes " column " ++ decimal column ++ codes ": expected " ++ expected_word expected
error_text (Limit what n) = codes "limit " ++ what_word what ++ codes " " ++ decimal n
error_text (SameName line name) = codes "same name at line " ++ decimal line ++ codes ": " ++ name
error_text NoMemory = codes "no memory"
