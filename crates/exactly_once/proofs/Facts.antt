-- What holds at each moment: of each step while pieces are handed out, and of each step at any other time.
use Rattle.std.proofs.Common.{◌≡◌, ◌≢◌, ◌⊎◌, ℕ, ◌&&◌, ◌||◌, Bool, true, false, not, if◌then◌else◌, nat_eq, List, [], ◌∷◌}
use Rattle.std.specs.Bool.{IsTrue}
use Rattle.exactly_once.specs.Names.{Name, Do, Undo, Work, Absent, Prepared, Committed, process_of, has, commits}
use Rattle.exactly_once.specs.Settling.{Answer, Done, Undone, NotDone}
use Rattle.exactly_once.specs.Machine.{Stage, Handed, Preparing, Ready, Said, Kept, Committing, TakingBack, CarryingOut, Piece, World, told, may_follow, is_in, is_over, is_opened, is_working}
use Rattle.exactly_once.specs.Laws.{AreAtRest, InOrder}

-- what the first piece of its process is at, if it is of this step
pub data Job : Type 0 where
  Idle : Job
  Doing : Stage → Job
  Undoing : Stage → Job

abbrev pub job : Name → Stage → ℕ → Job
job (Do i c) s b = if nat_eq c b then Doing s else Idle
job (Undo i c) s b = if nat_eq c b then Undoing s else Idle

abbrev pub job_of : List Piece → ℕ → Job
job_of [] b = Idle
job_of (p ∷ ps) b = job p.name p.stage b

-- this of each step: what the files tell, what its piece is at, its work and that of its undo
abbrev pub OfEach : (Answer → Job → Work → Work → Type 0) → World → Type 0
OfEach R w = (i b : ℕ) → R (told w.kept i b) (job_of (w.pieces i) b) (w.work (Do i b)) (w.work (Undo i b))

abbrev pub Are : Answer → Work → Work → Answer → Work → Work → Type 0
Are t s u t' s' u' = (t ≡ t') × (s ≡ s') × (u ≡ u')

-- while pieces are handed out
abbrev pub Right : Answer → Job → Work → Work → Type 0
Right t Idle s u = AreAtRest t s u
Right t (Doing Handed) s u = Are t s u NotDone Absent Absent
Right t (Doing Preparing) s u = Are t s u NotDone Absent Absent
Right t (Doing Ready) s u = Are t s u NotDone Prepared Absent
Right t (Doing Said) s u = Are t s u NotDone Prepared Absent
Right t (Doing Kept) s u = Are t s u Done Prepared Absent
Right t (Doing Committing) s u = Are t s u Done Prepared Absent
Right t (Doing TakingBack) s u = Are t s u NotDone Prepared Absent
Right t (Doing CarryingOut) s u = ⊥
Right t (Undoing Handed) s u = Are t s u Done Committed Absent
Right t (Undoing Preparing) s u = Are t s u Done Committed Absent
Right t (Undoing Ready) s u = Are t s u Done Committed Prepared
Right t (Undoing Said) s u = Are t s u Done Committed Prepared
Right t (Undoing Kept) s u = Are t s u Undone Committed Prepared
Right t (Undoing Committing) s u = Are t s u Undone Committed Prepared
Right t (Undoing TakingBack) s u = Are t s u Done Committed Prepared
Right t (Undoing CarryingOut) s u = ⊥

-- at any time
pub record Fits (t : Answer) (s u : Work) : Type 0 where
  pub known : (t ≡ Done) ⊎ (t ≡ Undone) ⊎ (t ≡ NotDone)
  pub told : s ≡ Committed → t ≢ NotDone
  pub undone : u ≡ Committed → t ≡ Undone
  pub there : t ≡ Done → s ≢ Absent
  pub behind : u ≢ Absent → s ≡ Committed

-- what may land of a piece under way
abbrev pub MayLand : Answer → Job → Work → Work → Type 0
MayLand t Idle s u = Unit
MayLand t (Doing Handed) s u = Unit
MayLand t (Doing Preparing) s u = t ≡ NotDone
MayLand t (Doing Ready) s u = Unit
MayLand t (Doing Said) s u = Unit
MayLand t (Doing Kept) s u = t ≢ NotDone
MayLand t (Doing Committing) s u = t ≢ NotDone
MayLand t (Doing TakingBack) s u = t ≢ Done
MayLand t (Doing CarryingOut) s u = ⊥
MayLand t (Undoing Handed) s u = Unit
MayLand t (Undoing Preparing) s u = (s ≡ Committed) × (u ≢ Committed)
MayLand t (Undoing Ready) s u = Unit
MayLand t (Undoing Said) s u = Unit
MayLand t (Undoing Kept) s u = t ≡ Undone
MayLand t (Undoing Committing) s u = t ≡ Undone
MayLand t (Undoing TakingBack) s u = Unit
MayLand t (Undoing CarryingOut) s u = (s ≡ Committed) × (u ≢ Committed)

abbrev pub Possible : Answer → Job → Work → Work → Type 0
Possible t j s u = Fits t s u × MayLand t j s u

-- Pieces of process i, of which none but the first is begun.

-- those behind the first: each may follow the history, and a live one is the last
abbrev pub Tail : List Name → ℕ → List Piece → Type 0
Tail kept i [] = Unit
Tail kept i (p ∷ ps) =
    (p.stage ≡ Handed) × (process_of p.name ≡ i) × IsTrue (may_follow kept p.name) × (IsTrue p.live → ps ≡ []) × Tail kept i ps

abbrev pub Line : List Name → ℕ → List Piece → Type 0
Line kept i [] = Unit
Line kept i (p ∷ ps) = (process_of p.name ≡ i) × (IsTrue p.live → ps ≡ []) × Tail kept i ps

-- the same of pieces that are out no longer
abbrev pub Rest : ℕ → List Piece → Type 0
Rest i [] = Unit
Rest i (p ∷ ps) = (p.stage ≡ Handed) × (process_of p.name ≡ i) × Rest i ps

abbrev pub Left : ℕ → List Piece → Type 0
Left i [] = Unit
Left i (p ∷ ps) = (process_of p.name ≡ i) × Rest i ps

-- while pieces are handed out
pub record Works (w : World) : Type 0 where
  pub phase : is_working w.phase ≡ true
  pub rights : OfEach Right w
  pub lines : (i : ℕ) → Line w.kept i (w.pieces i)
  pub over : (i : ℕ) → IsTrue (is_over w i) → w.pieces i ≡ []

-- who is forgotten, or will be by the next turn
abbrev pub is_done_with : World → ℕ → Bool
is_done_with w i = is_in i w.forgotten || (not w.turned && is_in i w.before)

-- at any other time
pub record Waits (w : World) : Type 0 where
  pub phase : is_working w.phase ≡ false
  pub possible : OfEach Possible w
  pub left : (i : ℕ) → Left i (w.pieces i)
  -- what is under way in a settling is of a step that was found
  pub found : is_opened w.phase ≡ true → (i : ℕ) → w.pieces i ≢ [] → (n : Name) × (process_of n ≡ i) × IsTrue (has w.names n)
  pub over : (i : ℕ) → IsTrue (is_done_with w i) → (w.pieces i ≡ []) × ((b : ℕ) → AreAtRest (told w.kept i b) (w.work (Do i b)) (w.work (Undo i b)))

-- Sound: at each moment behind one at which the history was this.
pub record Sound (old : List Name) (w : World) : Type 0 where
  pub grown : (n : Name) → IsTrue (has old n) → IsTrue (has w.kept n)
  pub counted : (n : Name) → w.times n ≡ commits (w.work n)
  pub listed : (n : Name) → w.work n ≢ Absent → IsTrue (has w.names n)
  pub ordered : InOrder w.kept
  pub now : Works w ⊎ Waits w
