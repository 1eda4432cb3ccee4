-- Which refusals come before a command calls the rack.
use Rattle.std.specs.Prelude.{Bool, true, false}
use Rattle.process_text.specs.declared.error.TextError.TheVariants as errors
use Rattle.command_refusals.specs.declared.faults.Quantity.TheVariants.{Input, Operations, Processes, Active, Entries}
use Rattle.command_refusals.specs.declared.refusal.Refusal.{Refusal}
use Rattle.command_refusals.specs.declared.refusal.Refusal.TheVariants.{BadWords, Text, Scenario, CatalogDiffers, BadLine, Limit}
use Rattle.command_refusals.specs.declared.refusal.Refusal.TheVariants.{Commuting}
use Rattle.command_refusals.specs.declared.refusal.Refusal.TheVariants.{Unfinished, File, BookDiffers, Report, ReadFault, DiskFault}
use Rattle.command_refusals.specs.declared.refusal.Refusal.TheVariants.{Exhausted, NoMemory}

-- Those of the words, of the source and of the input alone. Want of memory may come later too.
abbrev pub comes_before_files : Refusal → Bool
comes_before_files BadWords = true
comes_before_files (Text (errors.BadText line column expected)) = true
comes_before_files (Text (errors.Limit what n)) = true
comes_before_files (Text (errors.SameName line name)) = true
comes_before_files (Text errors.NoMemory) = false
comes_before_files (Scenario fault) = true
comes_before_files (CatalogDiffers n) = false
-- of the input's catalog for `init`, and of the files' for `replay`
comes_before_files (Commuting a b) = false
comes_before_files (BadLine n) = true
comes_before_files (Limit Input n) = true
comes_before_files (Limit Operations n) = true
comes_before_files (Limit Processes n) = false
comes_before_files (Limit Active n) = false
comes_before_files (Limit Entries n) = false
comes_before_files (Unfinished i) = false
comes_before_files (File fault) = false
comes_before_files (BookDiffers q n) = false
comes_before_files (Report fault) = true
comes_before_files ReadFault = true
comes_before_files DiskFault = false
comes_before_files (Exhausted i step) = false
comes_before_files NoMemory = false
