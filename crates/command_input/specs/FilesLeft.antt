-- The files of a command, and what it leaves of them.
use Rattle.std.specs.Prelude.{◌≡◌, ◌≤◌, ℕ}
use Rattle.process_disk.specs.declared.rack.Rack.{Ghosts as Racks}
use Rattle.process_disk.specs.Disk.{Disk, Told}
use Rattle.process_disk.specs.Images.{AllAsBefore, OthersAsBefore}
use Rattle.command_refusals.specs.Order.{Tests, leaving}

-- a rack at some moment: what it tells of its files, and its count of faults
pub record Files : Type 1 where
  pub disk : Disk
  pub faults : ℕ

abbrev pub files : {R : Type 0} → Racks R → R → Files
files r rack = record { disk = r.disk rack; faults = r.faults rack }

-- all files, where they are told, read as before, and a crash leaves nothing that one at the start might not have left
abbrev pub AreUntouched : Files → Files → Type 0
AreUntouched before after = Told before.disk → AllAsBefore before.disk after.disk

-- tests before which no file is looked at: where one of them refuses, the files are left as they were
abbrev pub before_files : {R V : Type 0} → Files → Files → Tests R V → Tests R V
before_files before after tests = leaving (AreUntouched before after) tests

-- those but file q, where they are told, read as before, and stand together in each crash image as a crash at the start may leave
-- them
abbrev pub AreOthersUntouched : ℕ → Files → Files → Type 0
AreOthersUntouched q before after = Told before.disk → OthersAsBefore q before.disk after.disk

-- What every command leaves of the files.
pub record AreLeft (before after : Files) : Type 0 where
  -- the rack tells as before
  pub tells : after.disk.tells ≡ before.disk.tells
  -- its count of faults didn't fall
  pub later : before.faults ≤ after.faults
