-- That what a rack in memory tells is what every rack tells.
use Rattle.std.specs.Prelude.{◌≡◌, ◌⊎◌, ℕ, ◌+◌, ◌≤◌, ◌<◌, max, List, [], ◌∷◌, ◌++◌, length, take, drop, refl, Bool, IsTrue, true}
use Rattle.std.specs.Prelude.{false, nat_lt, nat_le, ◌&&◌}
use Rattle.std.proofs.Common.{arith, inl, inr, subst, sym, ap, ◌∙◌, zero, suc, length-append, append_assoc}
use Rattle.std.proofs.lemmas.List.{get_or-set_same, get_or-set_other, length-set, length-take-le, length-drop, take_at, drop_at}
use Rattle.std.proofs.lemmas.Bool.{ltb-true, leb-true}
use Rattle.process_disk.specs.Disk.{FileSet, file_of, written, put, Torn, TornIn, Elapses, IsHonest}
use Rattle.process_disk.specs.Memory.{files_after, with_change, IsImage, IsLeftAfter, LeftSince, is_placed, are_placed, MemoryDisk}
use Rattle.process_disk.specs.Memory.{disk_of}
use Rattle.process_disk.specs.declared.changes.Change.{Change}
use Rattle.process_disk.specs.declared.changes.Change.TheVariants.{Written, Synced}
use Rattle.process_disk.specs.declared.changes.Recorded.{Recorded}

-- both parts of a test
pub both : (a b : Bool) → IsTrue (a && b) → IsTrue a × IsTrue b
both true true t = (refl, refl)
both true false t = absurd cc
both false b t = absurd cc

-- how long a file is after a write in its place
pub length-written : (at : ℕ) (bytes old : List ℕ) → at ≤ length old
    → length (written old at bytes) ≡ max (length old) (at + length bytes)
length-written at bytes old within = simp (length-append, length-take-le at old within, length-drop) (omega arith)

-- a write in its place is one of those whose range is torn
pub torn_by_written : (at : ℕ) (bytes old : List ℕ) → at ≤ length old → Torn at (length bytes) old (written old at bytes)
torn_by_written at bytes old within =
    let front : length (take at old) ≡ at = length-take-le at old within in
    let rest = drop (at + length bytes) old in
    let size = length-written at bytes old within in
    record {
      before = rw append_assoc (take_at (take at old) (bytes ++ rest) at front);
      after = drop_at (take at old ++ bytes) rest (at + length bytes) (omega (arith, length-append (take at old) bytes));
      no_shorter = omega arith;
      no_longer = omega arith;
    }

-- and so it is of nine files
pub torn_by_put : (files : FileSet) (q at : ℕ) (bytes : List ℕ) → q < length files → at ≤ length (file_of files q)
    → TornIn q at (length bytes) files (put files q at bytes)
torn_by_put files q at bytes there within =
    let old = file_of files q in
    record {
      count = length-set files q (written old at bytes);
      others = record { others = λ k other. get_or-set_other files q k (written old at bytes) [] other };
      torn = subst (Torn at (length bytes) old) (sym (get_or-set_same files q (written old at bytes) [] there))
          (torn_by_written at bytes old within);
    }

count_with : (change : Change) (files : FileSet) → length (with_change change files) ≡ length files
count_with (Written w) files = length-set files w.file (written (file_of files w.file) w.at w.bytes)
count_with Synced files = refl

-- there are as many files as at first
pub count_after : (first : FileSet) (made : List Recorded) → length (files_after first made) ≡ length first
count_after first [] = refl
count_after first (m ∷ older) = count_with m.change (files_after first older) ∙ count_after first older

read_with : (change : Change) (files : FileSet) (before : FileSet → Type 0) → length files ≡ 9 → IsTrue (is_placed change files)
    → before files → IsLeftAfter change files before (with_change change files)
read_with (Written w) files before nine placed left =
    let parts = both (nat_lt w.file 9) (nat_le w.at (length (file_of files w.file))) placed in
    let there : w.file < length files = omega (arith, ltb-true w.file 9 parts.0) in
    (files, left, torn_by_put files w.file w.at w.bytes there (leb-true w.at (length (file_of files w.file)) parts.1))
read_with Synced files before nine placed left = refl

-- what a read gives may be left
pub read_is_image : (first : FileSet) (made : List Recorded) → length first ≡ 9 → IsTrue (are_placed first made)
    → IsImage first made (files_after first made)
read_is_image first [] nine placed = refl
read_is_image first (m ∷ older) nine placed =
    let parts = both (is_placed m.change (files_after first older)) (are_placed first older) placed in
    read_with m.change (files_after first older) (IsImage first older) (count_after first older ∙ nine) parts.0
    (read_is_image first older nine parts.1)

image_count_with : (change : Change) (files : FileSet) (before : FileSet → Type 0) (n : ℕ) → length files ≡ n
    → ((d : FileSet) → before d → length d ≡ n)
    → (c : FileSet) → IsLeftAfter change files before c → length c ≡ n
image_count_with (Written w) files before n count each c left = left.2.count ∙ each left.0 left.1
image_count_with Synced files before n count each c left = ap length left ∙ count

-- each image has as many files
pub image_count : (first : FileSet) (made : List Recorded) (c : FileSet) → IsImage first made c → length c ≡ length first
image_count first [] c image = ap length image
image_count first (m ∷ older) c image =
    image_count_with m.change (files_after first older) (IsImage first older) (length first) (count_after first older)
    (image_count first older) c image

-- What a rack in memory tells is what every rack tells.
pub memory_is_honest : (m : MemoryDisk) → length m.first ≡ 9 → IsTrue (are_placed m.first m.made) → IsHonest (disk_of m)
memory_is_honest m nine placed = record {
  read = read_is_image m.first m.made nine placed;
  nine = λ t c left. image_count m.first (drop left.0 m.made) c left.2 ∙ nine;
  now = λ c image. (0, omega arith, image);
  only_now =
      λ c left. let none : left.0 ≡ 0 = omega (arith, left.1) in subst (λ (j : ℕ). IsImage m.first (drop j m.made) c) none left.2;
  earlier = λ t u c le left. (left.0, omega (arith, left.1), left.2);
}

newest : (first : FileSet) (change : Recorded) (made : List Recorded) (t : ℕ) (c : FileSet) (k : ℕ) → k + t ≤ length (change ∷ made)
    → IsImage first (drop k (change ∷ made)) c
    → LeftSince first made t c ⊎ IsImage first (change ∷ made) c
newest first change made t c zero le image = inr image
newest first change made t c (suc k) le image = inl (k, omega (arith, le), image)

-- time goes on by one change
pub elapses_by_change : (first : FileSet) (change : Recorded) (made : List Recorded) (old new : MemoryDisk) → old.first ≡ first
    → old.made ≡ made → new.first ≡ first → new.made ≡ change ∷ made
    → Elapses (disk_of old) (disk_of new)
elapses_by_change first change made old new of_old made_old of_new made_new =
    rw (of_old, made_old, of_new, made_new) record {
      later = omega arith;
      nothing_else = λ t c le left. newest first change made t c left.0 left.1 left.2;
      keeps = λ t c le left. (suc left.0, omega (arith, left.1), left.2);
    }
