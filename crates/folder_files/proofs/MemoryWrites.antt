-- Writes of a rack in memory, as those of a folder.
use Rattle.std.specs.Prelude.{Result}
use Rattle.std.proofs.Common.{inl, inr, ◌≡◌, ◌≤◌, ℕ, List, length, sym, subst, arith}
use Rattle.process_disk.specs.Disk.{FileSet, Disk, Writes}
use Rattle.process_disk.specs.Calls.{OnlyWrites}
use Rattle.process_disk.specs.Memory.{MemoryDisk, IsImage, KeepsWrite}
use Rattle.process_disk.proofs.Images.{torn_none}
use Rattle.folder_files.proofs.WholeCalls.{torn_then}

-- A write of a range is one of a longer range.
writes_wider : (q at n m : ℕ) (old new : Disk) → n ≤ m → Writes q at n old new → Writes q at m old new
writes_wider q at n m old new wider writes = record {
  torn = torn_then q at m at n old.files old.files new.files (omega arith) (omega (arith, wider)) (torn_none q at m old.files) writes.torn;
  images = λ c image.
      let from = writes.images c image in
      (from.0, from.1, torn_then q at m at n from.0 from.0 c (omega arith) (omega (arith, wider)) (torn_none q at m from.0) from.2);
  time = writes.time;
}

-- and so where it isn't told.
pub only_writes_wider : (q at n m : ℕ) (old new : Disk) → n ≤ m → OnlyWrites q at n old new → OnlyWrites q at m old new
only_writes_wider q at n m old new wider only = record { writes = λ told. writes_wider q at n m old new wider (only.writes told); tells = only.tells }

-- A write shuts out nothing that a crash might leave.
pub grows_by_write : {T E : Type 0} (q at : ℕ) (bytes : List ℕ) (old new : MemoryDisk) (result : Result T E) → new.first ≡ old.first → KeepsWrite q at bytes old new result
    → (c : FileSet) → IsImage old.first old.made c → IsImage new.first new.made c
grows_by_write q at bytes old new result first (inl made) c image =
    subst (λ fs. IsImage fs new.made c) (sym first) (subst (λ ms. IsImage old.first ms c) (sym made) (c, image, torn_none q at (length bytes) c))
grows_by_write q at bytes old new result first (inr none) c image =
    subst (λ fs. IsImage fs new.made c) (sym first) (subst (λ ms. IsImage old.first ms c) (sym (none.2)) image)
