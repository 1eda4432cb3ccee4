-- What to do about each refusal: which text is whose.
use Rattle.std.specs.Prelude.{ℕ, List, [], nat_eq, codes, if◌then◌else◌}
use Rattle.std.specs.Str.{bytes_eq}
use Rattle.text_words.specs.declared.expected.Expected.{Expected}
use Rattle.text_words.specs.declared.expected.Expected.TheVariants as expected
use Rattle.process_text.specs.declared.fault.What.{What}
use Rattle.process_text.specs.declared.fault.What.TheVariants as what
use Rattle.process_text.specs.declared.error.TextError.{TextError}
use Rattle.process_text.specs.declared.error.TextError.TheVariants as error
use Rattle.command_refusals.specs.declared.faults.Quantity.{Quantity}
use Rattle.command_refusals.specs.declared.faults.Quantity.TheVariants as quantity
use Rattle.command_refusals.specs.declared.faults.ScenarioFault.{ScenarioFault}
use Rattle.command_refusals.specs.declared.faults.ScenarioFault.TheVariants as scenario
use Rattle.command_refusals.specs.declared.faults.FileFault.{FileFault}
use Rattle.command_refusals.specs.declared.faults.FileFault.TheVariants as file
use Rattle.command_refusals.specs.declared.faults.ReportFault.{ReportFault}
use Rattle.command_refusals.specs.declared.faults.ReportFault.TheVariants as report
use Rattle.command_refusals.specs.declared.refusal.Refusal.{Refusal}
use Rattle.command_refusals.specs.declared.refusal.Refusal.TheVariants as refusal
use Rattle.refusal_hints.specs.declared.about.About.{About}
use Rattle.refusal_hints.specs.declared.about.About.TheVariants as abouts
use Rattle.refusal_hints.specs.declared.remedies.TheConstants.{NOT_A_LOG, TOO_LONG, ILL_FORMED, WRITE_FAULT, BROKEN_OFF, STUCK, NOT_REDUCED, STARVED}
use Rattle.refusal_hints.specs.declared.remedies.TheConstants.{TRIES, UNDO, REFUSE, UNENDED, UNDONE, UNCHOSEN}
use Rattle.refusal_hints.specs.declared.remedies.TheConstants.{WORDS, PROCESS, NAME, STEP, OPERATION, KEY, AMOUNT}
use Rattle.refusal_hints.specs.declared.remedies.TheConstants.{NUMBER, NEXT, CLOSE, OR, SAME_NAME, PROCESSES, STEPS}
use Rattle.refusal_hints.specs.declared.remedies.TheConstants.{NESTING, ALTERNATIVES, BAD_TOML, VERSION, CONFLICTS}
use Rattle.refusal_hints.specs.declared.remedies.TheConstants.{TEXT, OP, OP_NAME, SUBSYSTEM, VERB, NO_KEY}
use Rattle.refusal_hints.specs.declared.remedies.TheConstants.{UNKNOWN_OPERATION, SAME_OPERATION, CATALOG, COMMUTING, LINE}
use Rattle.refusal_hints.specs.declared.remedies.TheConstants.{INPUT, OPERATIONS, ALL_PROCESSES, ACTIVE, ENTRIES}
use Rattle.refusal_hints.specs.declared.remedies.TheConstants.{UNFINISHED, NOT_EMPTY, BAD_HEADER, BAD_FILE, BOOK}
use Rattle.refusal_hints.specs.declared.remedies.TheConstants.{REPORT_LINE, STEP_REFUSED, NOT_SERIAL, SERIAL_DIFFERS}
use Rattle.refusal_hints.specs.declared.remedies.TheConstants.{READ_FAULT, DISK_FAULT, EXHAUSTED, MEMORY}

-- about a word of a text that doesn't fit, by what was expected
abbrev pub expected_remedy : Expected → List ℕ
expected_remedy expected.Process = PROCESS.now
expected_remedy expected.Name = NAME.now
expected_remedy expected.Step = STEP.now
expected_remedy expected.Operation = OPERATION.now
expected_remedy expected.Key = KEY.now
expected_remedy expected.Amount = AMOUNT.now
expected_remedy expected.Number = NUMBER.now
expected_remedy expected.Next = NEXT.now
expected_remedy expected.Close = CLOSE.now
expected_remedy expected.Or = OR.now

-- about a limit of a text of processes
abbrev pub what_remedy : What → List ℕ
what_remedy what.Processes = PROCESSES.now
what_remedy what.Steps = STEPS.now
what_remedy what.Nesting = NESTING.now
what_remedy what.Alternatives = ALTERNATIVES.now

-- the word that stands at the place, if that is what there is to say
abbrev pub found_in : About → List ℕ
found_in (abouts.Found word) = word
found_in other = []

-- about a word that stands behind a step, where another was expected
abbrev pub next_remedy : List ℕ → List ℕ
next_remedy word = if bytes_eq word (codes "tries") then TRIES.now
    else (if bytes_eq word (codes "undo") then UNDO.now
    else (if bytes_eq word (codes "undorefuse") then UNDO.now
    else (if bytes_eq word (codes "refuse") then REFUSE.now
    else (if bytes_eq word (codes "process") then UNENDED.now
    else (if bytes_eq word (codes "end") then UNDONE.now
    else (if bytes_eq word (codes "or") then UNCHOSEN.now
    else (if bytes_eq word (codes "done") then UNCHOSEN.now
    else NEXT.now)))))))

-- about a word that doesn't fit, by what was expected and what stands there
abbrev pub word_remedy : About → Expected → List ℕ
word_remedy about expected.Next = next_remedy (found_in about)
word_remedy about e = expected_remedy e

-- about a text of processes
abbrev pub error_remedy : About → TextError → List ℕ
error_remedy about (error.BadText line column e) = word_remedy about e
error_remedy about (error.Limit w n) = what_remedy w
error_remedy about (error.SameName line name) = SAME_NAME.now
error_remedy about error.NoMemory = MEMORY.now

-- about a key of a scenario
abbrev pub key_remedy : List ℕ → List ℕ
key_remedy key = if bytes_eq key (codes "version") then VERSION.now
    else (if bytes_eq key (codes "conflicts") then CONFLICTS.now
    else (if bytes_eq key (codes "processes") then TEXT.now
    else (if bytes_eq key (codes "op") then OP.now
    else (if bytes_eq key (codes "name") then OP_NAME.now
    else (if bytes_eq key (codes "subsystem") then SUBSYSTEM.now
    else (if bytes_eq key (codes "verb") then VERB.now
    else NO_KEY.now))))))

-- about a scenario
abbrev pub scenario_remedy : ScenarioFault → List ℕ
scenario_remedy scenario.BadToml = BAD_TOML.now
scenario_remedy (scenario.BadKey key) = key_remedy key
scenario_remedy (scenario.UnknownOperation name) = UNKNOWN_OPERATION.now
scenario_remedy (scenario.SameOperation name) = SAME_OPERATION.now

-- about a limit
abbrev pub limit_remedy : Quantity → List ℕ
limit_remedy quantity.Input = INPUT.now
limit_remedy quantity.Operations = OPERATIONS.now
limit_remedy quantity.Processes = ALL_PROCESSES.now
limit_remedy quantity.Active = ACTIVE.now
limit_remedy quantity.Entries = ENTRIES.now

-- about files
abbrev pub file_remedy : FileFault → List ℕ
file_remedy (file.NotEmpty q) = NOT_EMPTY.now
file_remedy (file.BadHeader q) = BAD_HEADER.now
file_remedy (file.BadRecord q n) = BAD_FILE.now
file_remedy (file.BadHistory n) = BAD_FILE.now
file_remedy (file.BadBook q n) = BAD_FILE.now

-- about a report
abbrev pub report_remedy : ReportFault → List ℕ
report_remedy (report.BadText n) = REPORT_LINE.now
report_remedy (report.StepRefused k) = STEP_REFUSED.now
report_remedy (report.NotSerial n) = NOT_SERIAL.now
report_remedy (report.SerialDiffers n) = SERIAL_DIFFERS.now

-- about each refusal, by what stands at its place
abbrev pub remedy : About → Refusal → List ℕ
remedy about refusal.BadWords = WORDS.now
remedy about (refusal.Text e) = error_remedy about e
remedy about (refusal.Scenario fault) = scenario_remedy fault
remedy about (refusal.CatalogDiffers n) = CATALOG.now
remedy about (refusal.Commuting a b) = COMMUTING.now
remedy about (refusal.BadLine n) = LINE.now
remedy about (refusal.Limit quantity n) = limit_remedy quantity
remedy about (refusal.Unfinished i) = UNFINISHED.now
remedy about (refusal.File fault) = file_remedy fault
remedy about (refusal.BookDiffers q n) = BOOK.now
remedy about (refusal.Report fault) = report_remedy fault
remedy about refusal.ReadFault = READ_FAULT.now
remedy about refusal.DiskFault = DISK_FAULT.now
remedy about (refusal.Exhausted i step) = EXHAUSTED.now
remedy about refusal.NoMemory = MEMORY.now

-- what stands on standard error behind an answer that is no refusal, by the number of its status
abbrev pub ending_hint : ℕ → List ℕ
ending_hint number = if nat_eq number 2 then NOT_A_LOG.now
    else (if nat_eq number 3 then ILL_FORMED.now
    else (if nat_eq number 4 then TOO_LONG.now
    else (if nat_eq number 9 then WRITE_FAULT.now
    else (if nat_eq number 10 then BROKEN_OFF.now
    else (if nat_eq number 11 then STUCK.now
    else (if nat_eq number 12 then NOT_REDUCED.now
    else (if nat_eq number 13 then STARVED.now
    else [])))))))

-- and where memory was wanting for what there is to say
abbrev pub starved_hint : List ℕ
starved_hint = STARVED.now
