-- Commands that print a text which their words alone decide.
use Rattle.std.specs.Prelude.{◌≡◌, ℕ, List, [], ◌∷◌}
use Rattle.command_refusals.specs.declared.refusal.Refusal.TheVariants as refusals
use Rattle.command_refusals.specs.declared.status.Status.{Status}
use Rattle.command_refusals.specs.declared.status.Status.TheVariants.{Done, NoMemory}
use Rattle.command_refusals.specs.Statuses.{IsOneOf}
use Rattle.process_top.specs.Replies.{Reply, printed, refused}

-- this text, or want of memory
abbrev pub IsTextDue : List ℕ → Reply → Type 0
IsTextDue wanted (printed text) = text ≡ wanted
IsTextDue wanted (refused r) = r ≡ refusals.NoMemory
IsTextDue wanted reply = ⊥

-- it is printed, or memory is wanting
abbrev pub IsTextComplete : Status → Type 0
IsTextComplete status = IsOneOf status (Done ∷ NoMemory ∷ [])
