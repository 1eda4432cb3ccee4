-- What a log's refusal is of a store.
use Rattle.gate_log.specs.declared.errors.LogError.{LogError}
use Rattle.gate_log.specs.declared.errors.LogError.TheVariants.{DiskFault as LogFault, BadHeader as NoHeader, BadRecord as NoRecord}
use Rattle.gate_log.specs.declared.errors.LogError.TheVariants.{NoMemory as LogMemory}
use Rattle.subsystem_store.specs.declared.errors.StoreError.{StoreError}
use Rattle.subsystem_store.specs.declared.errors.StoreError.TheVariants.{DiskFault, BadHeader, BadRecord, NoMemory}

abbrev pub of_log_error : LogError → StoreError
of_log_error LogFault = DiskFault
of_log_error NoHeader = BadHeader
of_log_error (NoRecord n) = BadRecord n
of_log_error LogMemory = NoMemory
