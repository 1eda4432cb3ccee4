-- The names of work in a system of yours, and how far their work has come.
use Rattle.std.specs.Prelude.{ℕ, suc, Bool, false, ◌&&◌, ◌||◌, List, [], ◌∷◌, nat_eq, if◌then◌else◌}

-- The work of a step stands under the name `I.STEP`, its undo under `I.STEP undo`: work of its own.
pub data Name : Type 0 where
  Do : (process step : ℕ) → Name
  Undo : (process step : ℕ) → Name

abbrev pub process_of : Name → ℕ
process_of (Do i b) = i
process_of (Undo i b) = i

abbrev pub step_of : Name → ℕ
step_of (Do i b) = b
step_of (Undo i b) = b

-- names of one step
abbrev pub is_at : ℕ → ℕ → Name → Bool
is_at i b n = nat_eq (process_of n) i && nat_eq (step_of n) b

abbrev pub same_name : Name → Name → Bool
same_name (Do i b) (Do j c) = nat_eq i j && nat_eq b c
same_name (Do i b) (Undo j c) = false
same_name (Undo i b) (Do j c) = false
same_name (Undo i b) (Undo j c) = nat_eq i j && nat_eq b c

-- a name is listed
abbrev pub has : List Name → Name → Bool
has [] m = false
has (n ∷ ns) m = same_name n m || has ns m

-- how often it is listed
abbrev pub count : List Name → Name → ℕ
count [] m = 0
count (n ∷ ns) m = if same_name n m then suc (count ns m) else count ns m

-- How far the work of a name has come. What is prepared can still be committed and taken back.
pub data Work : Type 0 where
  Absent : Work
  Prepared : Work
  Committed : Work

-- the first has nothing, or what is there was never committed
abbrev pub commits : Work → ℕ
commits Absent = 0
commits Prepared = 0
commits Committed = 1

-- What a commit makes of it, and a take back: what isn't prepared stays as it is.
abbrev pub committed : Work → Work
committed Absent = Absent
committed Prepared = Committed
committed Committed = Committed

abbrev pub taken_back : Work → Work
taken_back Absent = Absent
taken_back Prepared = Absent
taken_back Committed = Committed

-- it commits something
abbrev pub commits_now : Work → ℕ
commits_now Absent = 0
commits_now Prepared = 1
commits_now Committed = 0
