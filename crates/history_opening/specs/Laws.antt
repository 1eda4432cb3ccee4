-- What is proved of files that are opened.
use Rattle.std.specs.Prelude.{◌≡◌, ◌⊎◌}
use Rattle.process_disk.specs.Disk.{FileSet}
use Rattle.schedule_model.specs.declared.history.History.{History}
use Rattle.commute_table.specs.declared.catalog.Catalog.{Catalog}
use Rattle.history_files.specs.Sound.{IsSound}
use Rattle.history_opening.specs.declared.faults.OpenError.{OpenError}
use Rattle.history_opening.specs.declared.faults.OpenError.TheVariants.{DiskFault, NoMemory}
use Rattle.history_opening.specs.Opening.{IsDueToOpening}

-- Sound files are refused for a fault of the rack or want of memory alone.
abbrev pub SoundFilesAreOpened : Type 0
SoundFilesAreOpened = (c : Catalog) (h : History) (files : FileSet) (e : OpenError) → IsSound c h files → IsDueToOpening files e
    → (e ≡ DiskFault) ⊎ (e ≡ NoMemory)
