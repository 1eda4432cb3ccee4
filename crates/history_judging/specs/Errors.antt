-- What is written of errors.
use Rattle.std.specs.Prelude.{ℕ, List, ◌++◌, codes, decimal}
use Rattle.history_judging.specs.declared.legal_history.LegalError.{LegalError}
use Rattle.history_judging.specs.declared.legal_history.LegalError.TheVariants.{At, NoMemory}
use Rattle.history_judging.specs.declared.legality.EventError.{EventError}
use Rattle.history_judging.specs.declared.legality.EventError as event

-- of a history that was not found legal
abbrev pub history_text : LegalError → List ℕ
history_text (At n) = codes "event " ++ decimal n ++ codes " may not come"
history_text NoMemory = codes "out of memory"

-- of an event that was not taken
abbrev pub event_text : EventError → List ℕ
event_text event.TheVariants.Illegal = codes "the event may not come"
event_text event.TheVariants.NoMemory = codes "out of memory"
