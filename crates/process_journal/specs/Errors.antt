-- What a log's refusal is of a journal.
use Rattle.gate_log.specs.declared.errors.LogError.{LogError}
use Rattle.gate_log.specs.declared.errors.LogError.TheVariants.{DiskFault as LogFault, BadHeader as NoHeader, BadRecord as NotWhole}
use Rattle.gate_log.specs.declared.errors.LogError.TheVariants.{NoMemory as LogMemory}
use Rattle.process_journal.specs.declared.errors.JournalError.{JournalError}
use Rattle.process_journal.specs.declared.errors.JournalError.TheVariants.{DiskFault, BadHeader, BadRecord, NoMemory}

abbrev pub of_log_error : LogError → JournalError
of_log_error LogFault = DiskFault
of_log_error NoHeader = BadHeader
of_log_error (NotWhole n) = BadRecord n
of_log_error LogMemory = NoMemory
