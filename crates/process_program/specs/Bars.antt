-- What is said where a call can't begin.
use Rattle.std.specs.Prelude.{◌≡◌, ◌⊎◌, ◌++◌, ℕ, List, codes, decimal}
use Rattle.std.specs.Option.{unwrap_or}
use Rattle.process_flow.specs.declared.sink.Sink.{Ghosts as Sinks}
use Rattle.folder_files.specs.declared.barred.Barred.{Barred}
use Rattle.folder_files.specs.declared.barred.Barred.TheVariants.{InUse, NoPermission, NotAFile, NotFound, Fault}
use Rattle.folder_files.specs.declared.barred.Subject.{Subject}
use Rattle.folder_files.specs.declared.barred.Subject.TheVariants.{File, Folder, Input}
use Rattle.command_refusals.specs.Statuses.{number_of}
use Rattle.command_refusals.specs.declared.status.Status.{Status}
use Rattle.command_refusals.specs.declared.status.Status.TheVariants.{Done, ReadFault, DiskFault, NoMemory}
use Rattle.command_input.specs.Outputs.{output, IsTold}
use Rattle.call_words.specs.Parts.{Parts}
use Rattle.process_program.specs.declared.barred.TheConstants.{IN_USE, NO_PERMISSION, NOT_A_FILE, NOT_FOUND, FAULT}

-- what is named: one of the nine files, the folder, or the file in place of standard input
abbrev pub name_of : Parts → Subject → List ℕ
name_of parts (File file) = codes "tps." ++ decimal file
name_of parts Folder = unwrap_or parts.folder (codes ".")
name_of parts Input = unwrap_or parts.file (codes "-")

-- the line of it
abbrev pub bar_line : Parts → Barred → List ℕ
bar_line parts InUse = codes "folder in use\n"
bar_line parts (NoPermission subject) = codes "no permission " ++ name_of parts subject ++ codes "\n"
bar_line parts (NotAFile subject) = codes "not a file " ++ name_of parts subject ++ codes "\n"
bar_line parts (NotFound subject) = codes "not found " ++ name_of parts subject ++ codes "\n"
bar_line parts (Fault Input) = codes "read fault\n"
bar_line parts (Fault Folder) = codes "disk fault\n"
bar_line parts (Fault (File file)) = codes "disk fault\n"

-- what people are told beside it
abbrev pub bar_hint : Barred → List ℕ
bar_hint InUse = IN_USE.now
bar_hint (NoPermission subject) = NO_PERMISSION.now
bar_hint (NotAFile subject) = NOT_A_FILE.now
bar_hint (NotFound subject) = NOT_FOUND.now
bar_hint (Fault subject) = FAULT.now

-- the number with which the program ends
abbrev pub bar_number : Barred → ℕ
bar_number InUse = 14
bar_number (NoPermission subject) = 15
bar_number (NotAFile subject) = 16
bar_number (NotFound subject) = 17
bar_number (Fault Input) = number_of ReadFault
bar_number (Fault Folder) = number_of DiskFault
bar_number (Fault (File file)) = number_of DiskFault

-- the same where the line went out, and else that of a write fault
abbrev pub number_at : Barred → Status → ℕ
number_at bar Done = bar_number bar
number_at bar ended = number_of ended

-- The line went out, or a beginning of it, and the call ended with that number; what people are told was given to the second sink.
-- Or memory was wanting for the line, and nothing was told.
abbrev pub IsBarred : {K E : Type 0} → Sinks K → Sinks E → Parts → Barred → K → E → K → E → ℕ → Type 0
IsBarred k e parts bar sink errors sink' errors' number =
    ((ended : Status) × IsTold Done (bar_line parts bar) (output k sink) (output k sink') ended × (number ≡ number_at bar ended)
    × ((at : Status) × IsTold Done (bar_hint bar) (output e errors) (output e errors') at))
    ⊎ ((number ≡ number_of NoMemory) × (sink' ≡ sink) × (errors' ≡ errors))
