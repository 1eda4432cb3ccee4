-- What is answered on the bytes that a source gave.
use Rattle.std.specs.Prelude.{ℕ, List, length, ◌≡◌, ◌<◌, ◌≤◌, ⊤, codes, Result, Ok, Err, Vec}
use Rattle.std.specs.declared.alloc.Global.{Global}
use Rattle.process_flow.specs.declared.source.ReadError.{ReadError}
use Rattle.process_flow.specs.declared.source.ReadError.TheVariants.{ReadFault, TooLong, NoMemory}

-- the bytes themselves, if they are no more than the limit; TooLong exactly where they are more; want of memory is free
abbrev pub AnswersFor : ℕ → List ℕ → Result (Vec ℕ Global) ReadError → Type 0
AnswersFor limit given (Ok bytes) = (bytes.items ≡ given) × (length given ≤ limit)
AnswersFor limit given (Err ReadFault) = length given ≤ limit
AnswersFor limit given (Err TooLong) = limit < length given
AnswersFor limit given (Err NoMemory) = ⊤

-- how an error reads
abbrev pub text_of : ReadError → List ℕ
text_of ReadFault = codes "the source failed"
text_of TooLong = codes "the input is too long"
text_of NoMemory = codes "out of memory"
