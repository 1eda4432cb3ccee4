-- What one change more does to a rack in memory.
use Rattle.std.proofs.Common.{◌≡◌, ◌<◌, ◌≤◌, ℕ, List, ◌∷◌, length, refl, sym, subst, arith}
use Rattle.process_disk.specs.Disk.{file_of, Looks, Writes}
use Rattle.process_disk.specs.Memory.{MemoryDisk, disk_of, files_after, writing, syncing, IsImage}
use Rattle.process_disk.specs.MemoryLaws.{count_after, torn_by_put, elapses_by_change}

-- a finished sync changes nothing that is read, and leaves that alone
pub looks_by_sync : (old new : MemoryDisk) (number : ℕ) → length old.first ≡ 9 → IsImage old.first old.made (files_after old.first old.made) → new.first ≡ old.first → new.made ≡ syncing number ∷ old.made
    → Looks (disk_of old) (disk_of new)
looks_by_sync old new number nine read first made = record {
  files = rw (first, made) refl;
  images = λ c image. let whole : c ≡ files_after old.first old.made = subst (λ ms. IsImage old.first ms c) made (subst (λ fs. IsImage fs new.made c) first image) in subst (IsImage old.first old.made) (sym whole) read;
  time = elapses_by_change old.first (syncing number) old.made old new refl refl first made;
}

-- a write tears its range
pub writes_by_write : (old new : MemoryDisk) (number q at : ℕ) (bytes : List ℕ) → length old.first ≡ 9 → q < 9 → at ≤ length (file_of (files_after old.first old.made) q)
    → new.first ≡ old.first → new.made ≡ writing number q at bytes ∷ old.made → Writes q at (length bytes) (disk_of old) (disk_of new)
writes_by_write old new number q at bytes nine below within first made =
    let files = files_after old.first old.made in
    let there : q < length files = omega (arith, count_after old.first old.made) in
    record {
      torn = rw (first, made) (torn_by_put files q at bytes there within);
      images = λ c image. subst (λ ms. IsImage old.first ms c) made (subst (λ fs. IsImage fs new.made c) first image);
      time = elapses_by_change old.first (writing number q at bytes) old.made old new refl refl first made;
    }
