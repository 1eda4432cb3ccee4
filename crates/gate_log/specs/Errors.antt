-- How errors read.
use Rattle.std.specs.Prelude.{ℕ, List, ◌++◌, codes, decimal}
use Rattle.gate_log.specs.declared.errors.LogError.{LogError}
use Rattle.gate_log.specs.declared.errors.LogError.TheVariants.{DiskFault, BadHeader, BadRecord, NoMemory}

abbrev pub text_of : LogError → List ℕ
text_of DiskFault = codes "a call of the rack failed"
text_of BadHeader = codes "the file has no header of its number"
text_of (BadRecord n) = codes "record " ++ decimal n ++ codes " is not whole"
text_of NoMemory = codes "out of memory"
