-- A number is that of one status.
use Rattle.std.proofs.Common.{◌≡◌, List, [], ◌∷◌, slice_index_or, refl, sym, ap, ◌∙◌}
use Rattle.command_refusals.specs.Statuses.{number_of}
use Rattle.command_refusals.specs.declared.status.Status.{Status}
use Rattle.command_refusals.specs.declared.status.Status.TheVariants.{Done, BadWords, BadInput, IllFormed, Limit, Unfinished, BadFile, BookDiffers, ReadFault, WriteFault, DiskFault, Exhausted, NotReduced, NoMemory}

-- the statuses by their numbers
abbrev statuses : List Status
statuses =
    Done ∷ BadWords ∷ BadInput ∷ IllFormed ∷ Limit ∷ Unfinished ∷ BadFile ∷ BookDiffers ∷ ReadFault ∷ WriteFault ∷ DiskFault ∷ Exhausted ∷ NotReduced ∷ NoMemory ∷ []

numbered : (s : Status) → slice_index_or statuses (number_of s) Done ≡ s
numbered Done = refl
numbered BadWords = refl
numbered BadInput = refl
numbered IllFormed = refl
numbered Limit = refl
numbered Unfinished = refl
numbered BadFile = refl
numbered BookDiffers = refl
numbered ReadFault = refl
numbered WriteFault = refl
numbered DiskFault = refl
numbered Exhausted = refl
numbered NotReduced = refl
numbered NoMemory = refl

pub same_status : (s t : Status) → number_of s ≡ number_of t → s ≡ t
same_status s t same = sym (numbered s) ∙ ap (λ n. slice_index_or statuses n Done) same ∙ numbered t
