-- How faults of scenarios, of files and of reports read.
use Rattle.std.specs.Prelude.{ℕ, List, ◌++◌, codes, decimal}
use Rattle.command_refusals.specs.declared.faults.Quantity.{Quantity}
use Rattle.command_refusals.specs.declared.faults.Quantity.TheVariants.{Input, Operations, Processes, Active, Entries}
use Rattle.command_refusals.specs.declared.faults.ScenarioFault.{ScenarioFault}
use Rattle.command_refusals.specs.declared.faults.ScenarioFault.TheVariants.{BadToml, BadKey, UnknownOperation, SameOperation}
use Rattle.command_refusals.specs.declared.faults.FileFault.{FileFault}
use Rattle.command_refusals.specs.declared.faults.FileFault.TheVariants.{NotEmpty, BadHeader, BadRecord, BadHistory, BadBook}
use Rattle.command_refusals.specs.declared.faults.ReportFault.{ReportFault}
use Rattle.command_refusals.specs.declared.faults.ReportFault.TheVariants.{BadText, StepRefused, NotSerial, SerialDiffers}

-- the word of what there is too much of
abbrev pub quantity_word : Quantity → List ℕ
quantity_word Input = codes "input"
quantity_word Operations = codes "operations"
quantity_word Processes = codes "processes"
quantity_word Active = codes "active"
quantity_word Entries = codes "entries"

-- what is wrong with a scenario
abbrev pub scenario_text : ScenarioFault → List ℕ
scenario_text BadToml = codes "bad toml"
scenario_text (BadKey key) = codes "bad key " ++ key
scenario_text (UnknownOperation name) = codes "unknown operation " ++ name
scenario_text (SameOperation name) = codes "same operation " ++ name

-- what is wrong with the files
abbrev pub file_text : FileFault → List ℕ
file_text (NotEmpty file) = codes "not empty file " ++ decimal file
file_text (BadHeader file) = codes "bad header file " ++ decimal file
file_text (BadRecord file n) = codes "bad record file " ++ decimal file ++ codes " at " ++ decimal n
file_text (BadHistory n) = codes "bad history at record " ++ decimal n
file_text (BadBook file n) = codes "bad book file " ++ decimal file ++ codes " at record " ++ decimal n

-- what is wrong with a report
abbrev pub report_text : ReportFault → List ℕ
report_text (BadText n) = codes "bad text at line " ++ decimal n
report_text (StepRefused k) = codes "step " ++ decimal k ++ codes " refused"
report_text (NotSerial n) = codes "not serial at " ++ decimal n
report_text (SerialDiffers n) = codes "serial differs at " ++ decimal n
