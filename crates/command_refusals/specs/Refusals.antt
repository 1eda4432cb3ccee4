-- The line and the status of each refusal.
use Rattle.std.specs.Prelude.{ℕ, Bool, true, false, List, ◌++◌, codes, decimal}
use Rattle.process_text.specs.declared.error.TextError.{TextError}
use Rattle.process_text.specs.declared.error.TextError.TheVariants as errors
use Rattle.process_text.specs.Texts.{error_text}
use Rattle.command_refusals.specs.declared.status.Status.{Status}
use Rattle.command_refusals.specs.declared.status.Status.TheVariants as statuses
use Rattle.command_refusals.specs.declared.faults.ScenarioFault.TheVariants.{BadToml}
use Rattle.command_refusals.specs.declared.faults.ReportFault.{ReportFault}
use Rattle.command_refusals.specs.declared.faults.ReportFault.TheVariants as faults
use Rattle.command_refusals.specs.declared.refusal.Refusal.{Refusal}
use Rattle.command_refusals.specs.declared.refusal.Refusal.TheVariants.{BadWords, Text, Scenario, CatalogDiffers, BadLine, Limit}
use Rattle.command_refusals.specs.declared.refusal.Refusal.TheVariants.{Commuting}
use Rattle.command_refusals.specs.declared.refusal.Refusal.TheVariants.{Unfinished, File, BookDiffers, Report, ReadFault, DiskFault}
use Rattle.command_refusals.specs.declared.refusal.Refusal.TheVariants.{Exhausted, NoMemory}
use Rattle.command_refusals.specs.Faults.{quantity_word, scenario_text, file_text, report_text}

-- of a text
abbrev pub error_status : TextError → Status
error_status (errors.BadText line column expected) = statuses.BadInput
error_status (errors.Limit what n) = statuses.Limit
error_status (errors.SameName line name) = statuses.BadInput
error_status errors.NoMemory = statuses.NoMemory

-- of a report
abbrev pub report_status : ReportFault → Status
report_status (faults.BadText n) = statuses.BadInput
report_status (faults.StepRefused k) = statuses.NotReduced
report_status (faults.NotSerial n) = statuses.NotReduced
report_status (faults.SerialDiffers n) = statuses.NotReduced

abbrev pub refusal_status : Refusal → Status
refusal_status BadWords = statuses.BadWords
refusal_status (Text e) = error_status e
refusal_status (Scenario fault) = statuses.BadInput
refusal_status (CatalogDiffers n) = statuses.BadInput
refusal_status (Commuting a b) = statuses.BadInput
refusal_status (BadLine n) = statuses.BadInput
refusal_status (Limit quantity n) = statuses.Limit
refusal_status (Unfinished i) = statuses.Unfinished
refusal_status (File fault) = statuses.BadFile
refusal_status (BookDiffers q n) = statuses.BookDiffers
refusal_status (Report fault) = report_status fault
refusal_status ReadFault = statuses.ReadFault
refusal_status DiskFault = statuses.DiskFault
refusal_status (Exhausted i step) = statuses.Exhausted
refusal_status NoMemory = statuses.NoMemory

-- the line, without its line feed
abbrev pub refusal_text : Refusal → List ℕ
refusal_text BadWords = codes "bad words"
refusal_text (Text e) = error_text e
refusal_text (Scenario fault) = scenario_text fault
refusal_text (CatalogDiffers n) = codes "catalog differs at byte " ++ decimal n
refusal_text (Commuting a b) = codes "commuting " ++ a ++ codes " " ++ b
refusal_text (BadLine n) = codes "bad line " ++ decimal n
refusal_text (Limit quantity n) = codes "limit " ++ quantity_word quantity ++ codes " " ++ decimal n
refusal_text (Unfinished i) = codes "unfinished " ++ decimal i
refusal_text (File fault) = file_text fault
refusal_text (BookDiffers q n) = codes "book differs subsystem " ++ decimal q ++ codes " at " ++ decimal n
refusal_text (Report fault) = report_text fault
refusal_text ReadFault = codes "read fault"
refusal_text DiskFault = codes "disk fault"
refusal_text (Exhausted i step) = codes "exhausted " ++ decimal i ++ codes " " ++ step
refusal_text NoMemory = codes "no memory"

-- the line has a number or a name, so that to tell it takes memory
abbrev pub needs_memory : Refusal → Bool
needs_memory BadWords = false
needs_memory (Scenario BadToml) = false
needs_memory ReadFault = false
needs_memory DiskFault = false
needs_memory NoMemory = false
needs_memory r = true
