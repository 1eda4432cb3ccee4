-- The statuses and their numbers.
use Rattle.std.specs.Prelude.{◌≡◌, ◌⊎◌, ℕ, List, [], ◌∷◌}
use Rattle.command_refusals.specs.declared.status.Status.{Status}
use Rattle.command_refusals.specs.declared.status.Status.TheVariants.{Done, BadWords, BadInput, IllFormed, Limit, Unfinished}
use Rattle.command_refusals.specs.declared.status.Status.TheVariants.{BadFile}
use Rattle.command_refusals.specs.declared.status.Status.TheVariants.{BookDiffers, ReadFault, WriteFault, DiskFault, Exhausted}
use Rattle.command_refusals.specs.declared.status.Status.TheVariants.{NotReduced, NoMemory}

-- the number with which the program ends
abbrev pub number_of : Status → ℕ
number_of Done = 0
number_of BadWords = 1
number_of BadInput = 2
number_of IllFormed = 3
number_of Limit = 4
number_of Unfinished = 5
number_of BadFile = 6
number_of BookDiffers = 7
number_of ReadFault = 8
number_of WriteFault = 9
number_of DiskFault = 10
number_of Exhausted = 11
number_of NotReduced = 12
number_of NoMemory = 13

-- one of these statuses
abbrev pub IsOneOf : Status → List Status → Type 0
IsOneOf s [] = ⊥
IsOneOf s (t ∷ statuses) = (s ≡ t) ⊎ IsOneOf s statuses
