-- What every rack says of a call, whatever it answers.
use Rattle.std.specs.Prelude.{◌≡◌, ℕ}
use Rattle.process_disk.specs.Disk.{Disk, Told, Looks, Writes}

-- a call that only looks: where the files are told it writes nothing, and they are told as before
pub record OnlyLooks (old new : Disk) : Type 0 where
  pub looks : Told old → Looks old new
  pub tells : new.tells ≡ old.tells

-- a call that may write n bytes at a place of file q, and nothing else
pub record OnlyWrites (q at n : ℕ) (old new : Disk) : Type 0 where
  pub writes : Told old → Writes q at n old new
  pub tells : new.tells ≡ old.tells
