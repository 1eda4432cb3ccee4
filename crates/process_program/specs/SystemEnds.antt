-- How a call of the program ends over the system's streams and files.
use Rattle.std.specs.Prelude.{◌≡◌, ◌⊎◌, ℕ, List, Option, Some}
use Rattle.process_flow.specs.Causes.{Rose}
use Rattle.process_flow.specs.declared.source.Source.{Ghosts as Sources}
use Rattle.process_flow.specs.declared.sink.Sink.{Ghosts as Sinks}
use Rattle.process_disk.specs.declared.rack.Rack.{Ghosts as Racks}
use Rattle.folder_files.specs.declared.barred.Barred.{Barred}
use Rattle.folder_files.specs.declared.folder.Access.TheVariants.{Unentered}
use Rattle.folder_files.specs.declared.folder.Folder.{Ghosts as Folders}
use Rattle.command_refusals.specs.Statuses.{number_of}
use Rattle.command_refusals.specs.declared.status.Status.TheVariants.{NoMemory}
use Rattle.call_words.specs.Parts.{Parts}
use Rattle.process_program.specs.declared.input.CallInput.{CallInput}
use Rattle.process_program.specs.Bars.{IsBarred}
use Rattle.process_program.specs.Ends.{EndsSo, RackOver}
use Rattle.process_program.specs.Inputs.{IsInputOf}

-- The words are answered over the input that they name, and over the folder that they name, which nobody has entered. Or a call of the
-- system failed on one of these, and that is told. Or there is no memory for the words, and nothing is told.
abbrev pub SystemEndsSo : {R K E Q D : Type 0} → Sources (CallInput R) → Sinks K → Sinks E → Racks Q → Folders D → RackOver Q D
    → (D → Option (List ℕ)) → Parts → R → K → E → K → E → ℕ → Type 0
SystemEndsSo {R} {K} {E} {Q} {D} s k e r d over place parts input sink errors sink' errors' number =
    ((source : CallInput R) × IsInputOf parts.file input source
    × ((folder : D) × (place folder ≡ parts.folder) × (d.access folder ≡ Unentered)
    × ((source' : CallInput R) × (rack' : Q) × EndsSo s k e r d over parts source sink errors folder source' sink' errors' rack' number)))
    ⊎ ((folder : D) × ((bar : Barred) × (d.bar folder ≡ Some bar) × Rose 0 (d.faults folder)
    × IsBarred k e parts bar sink errors sink' errors' number))
    ⊎ ((number ≡ number_of NoMemory) × (sink' ≡ sink) × (errors' ≡ errors))
