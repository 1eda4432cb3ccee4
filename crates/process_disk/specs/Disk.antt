-- Nine files under one clock: what a read gives, what a crash may leave, and what a call does to both.
use Rattle.std.specs.Prelude.{◌≡◌, ◌≢◌, ◌⊎◌, ℕ, ◌+◌, ◌≤◌, max, List, [], ◌++◌, length, take, drop, Bool, IsTrue, slice_index_or}
use Rattle.std.specs.Prelude.{slice_set}

-- the bytes of each of the nine files
abbrev pub FileSet : Type 0
FileSet = List (List ℕ)

-- What a rack tells.
pub record Disk : Type 1 where
  -- whether it tells anything; the rest is meant only where it does
  pub tells : Bool
  -- what a read gives
  pub files : FileSet
  -- what a crash at this moment may leave
  pub may_leave : FileSet → Type 0
  -- the moment, a number that doesn't fall
  pub moment : ℕ
  -- what a crash at some moment from that one on may have left, during a call or between two
  pub left_since : ℕ → FileSet → Type 0

-- the rack tells its files
abbrev pub Told : Disk → Type 0
Told disk = IsTrue disk.tells

-- one file of the set
abbrev pub file_of : FileSet → ℕ → List ℕ
file_of files q = slice_index_or files q []

-- the file with these bytes at this place, over what is there and past the end
abbrev pub written : List ℕ → ℕ → List ℕ → List ℕ
written file at bytes = take at file ++ bytes ++ drop (at + length bytes) file

-- the set with these bytes written into one file
abbrev pub put : FileSet → ℕ → ℕ → List ℕ → FileSet
put files q at bytes = slice_set files q (written (file_of files q) at bytes)

-- nothing differs
abbrev pub Same : FileSet → FileSet → Type 0
Same old new = new ≡ old

-- nothing differs but file q
pub record SameBut (q : ℕ) (old new : FileSet) : Type 0 where
  pub others : (k : ℕ) → k ≢ q → file_of new k ≡ file_of old k

-- a file after a write of n bytes at this place, of which nothing is sure: any bytes in the range and past the old end, the same
-- elsewhere
pub record Torn (at n : ℕ) (old new : List ℕ) : Type 0 where
  pub before : take at new ≡ take at old
  pub after : drop (at + n) new ≡ drop (at + n) old
  pub no_shorter : length old ≤ length new
  pub no_longer : length new ≤ max (length old) (at + n)

-- the set after such a write into file q
pub record TornIn (q at n : ℕ) (old new : FileSet) : Type 0 where
  pub count : length new ≡ length old
  pub others : SameBut q old new
  pub torn : Torn at n (file_of old q) (file_of new q)

-- each new outcome of a crash is an old outcome after a step
abbrev pub Follows : (FileSet → FileSet → Type 0) → (FileSet → Type 0) → (FileSet → Type 0) → Type 0
Follows step old new = (c : FileSet) → new c → (d : FileSet) × old d × step d c

-- a crash leaves these files and nothing else
pub record Only (files : FileSet) (may_leave : FileSet → Type 0) : Type 0 where
  pub only : (c : FileSet) → may_leave c → c ≡ files

-- Time goes on by one call: a crash since t may have left what it might have left before, or what it may leave now.
pub record Elapses (old new : Disk) : Type 0 where
  pub later : old.moment ≤ new.moment
  pub nothing_else : (t : ℕ) (c : FileSet) → t ≤ old.moment → new.left_since t c → old.left_since t c ⊎ new.may_leave c
  pub keeps : (t : ℕ) (c : FileSet) → t ≤ old.moment → old.left_since t c → new.left_since t c

-- a call that writes nothing: the files read as before, and a crash leaves nothing that it might not have left
pub record Looks (old new : Disk) : Type 0 where
  pub files : new.files ≡ old.files
  pub images : (c : FileSet) → new.may_leave c → old.may_leave c
  pub time : Elapses old new

-- a call that writes n bytes at a place of file q, whatever it answers
pub record Writes (q at n : ℕ) (old new : Disk) : Type 0 where
  pub torn : TornIn q at n old.files new.files
  pub images : Follows (TornIn q at n) old.may_leave new.may_leave
  pub time : Elapses old new

-- What holds of every rack that tells.
pub record IsHonest (disk : Disk) : Type 0 where
  -- what a read gives is one of the sets that a crash now may leave
  pub read : disk.may_leave disk.files
  -- there are nine files
  pub nine : (t : ℕ) (c : FileSet) → disk.left_since t c → length c ≡ 9
  -- this moment counts among those since it, and is the only one
  pub now : (c : FileSet) → disk.may_leave c → disk.left_since disk.moment c
  pub only_now : (c : FileSet) → disk.left_since disk.moment c → disk.may_leave c
  -- what a crash since a later moment may have left, one since an earlier moment may
  pub earlier : (t u : ℕ) (c : FileSet) → t ≤ u → disk.left_since u c → disk.left_since t c
