-- What one event changes: one step of one process, and the pieces of that process.
use Rattle.std.proofs.Common.{◌≡◌, ◌≢◌, ℕ, Bool, true, false, if◌then◌else◌, ◌&&◌, eqb, List, [], ◌∷◌, sym, refl, ap, subst, ◌∙◌}
use Rattle.std.specs.Bool.{IsTrue}
use Rattle.std.proofs.lemmas.Bool.{and_from, eq-eqb, eqb-true}
use Rattle.exactly_once.specs.Names.{Name, Do, Undo, Work, process_of, step_of}
use Rattle.exactly_once.specs.Settling.{Answer}
use Rattle.exactly_once.specs.Machine.{Stage, Handed, Piece, World, may_be_made, may_follow, made_by, put_pieces, put_work, told, with_pieces, is_empty}
use Rattle.exactly_once.specs.Laws.{AreAtRest}
use Rattle.exactly_once.proofs.Facts.{Job, Idle, Doing, Undoing, Fits, Left, Line, OfEach, Possible, Rest, Right, Tail, job, job_of}
use Rattle.exactly_once.proofs.Names.{not_do, not_undo, pieces_here, pieces_there, work_here, work_there}
use Rattle.exactly_once.proofs.Tables.{differ, do_handed, do_of, own_job, undo_handed, undo_of}

-- What the files tell of the step of the newest effect, and of all others.

pub told_here : (n : Name) (ns : List Name) → told (n ∷ ns) (process_of n) (step_of n) ≡ made_by n
told_here n ns =
    ap (λ t. if t then made_by n else told ns (process_of n) (step_of n))
    (and_from (eqb (process_of n) (process_of n)) (eqb (step_of n) (step_of n)) (eq-eqb (process_of n) (process_of n) refl) (eq-eqb (step_of n) (step_of n) refl))

pub told_there : (n : Name) (ns : List Name) (j c : ℕ) → (eqb (process_of n) j && eqb (step_of n) c) ≡ false → told (n ∷ ns) j c ≡ told ns j c
told_there n ns j c is = ap (λ t. if t then made_by n else told ns j c) is

module _ (R : Answer → Job → Work → Work → Type 0) (w v : World) (i b : ℕ) (old : OfEach R w)
    (same_told : (j c : ℕ) → (eqb i j && eqb b c) ≡ false → told v.kept j c ≡ told w.kept j c)
    (same_do : (j c : ℕ) → (eqb i j && eqb b c) ≡ false → v.work (Do j c) ≡ w.work (Do j c))
    (same_undo : (j c : ℕ) → (eqb i j && eqb b c) ≡ false → v.work (Undo j c) ≡ w.work (Undo j c)) where
  unmoved : (j c : ℕ) (x : Job) → (eqb i j && eqb b c) ≡ false
      → R (told w.kept j c) x (w.work (Do j c)) (w.work (Undo j c)) → R (told v.kept j c) x (v.work (Do j c)) (v.work (Undo j c))
  unmoved j c x is r =
      subst (λ t. R t x (v.work (Do j c)) (v.work (Undo j c))) (sym (same_told j c is))
      (subst (λ s. R (told w.kept j c) x s (v.work (Undo j c))) (sym (same_do j c is))
      (subst (λ u. R (told w.kept j c) x (w.work (Do j c)) u) (sym (same_undo j c is)) r))

  -- what holds of each step holds of each still, if it holds of the one that changed, and of the others of its process
  pub each_step : ((j : ℕ) → eqb i j ≡ false → v.pieces j ≡ w.pieces j)
      → R (told v.kept i b) (job_of (v.pieces i) b) (v.work (Do i b)) (v.work (Undo i b))
      → ((c : ℕ) → eqb b c ≡ false → R (told w.kept i c) (job_of (v.pieces i) c) (w.work (Do i c)) (w.work (Undo i c)))
      → OfEach R v
  each_step same_pieces here beside j c = by_process (eqb i j) refl
    where
      own : (d : ℕ) → R (told v.kept i d) (job_of (v.pieces i) d) (v.work (Do i d)) (v.work (Undo i d))
      own d = by_step (eqb b d) refl
        where
          by_step : (t : Bool) → eqb b d ≡ t → R (told v.kept i d) (job_of (v.pieces i) d) (v.work (Do i d)) (v.work (Undo i d))
          by_step true is = subst (λ d. R (told v.kept i d) (job_of (v.pieces i) d) (v.work (Do i d)) (v.work (Undo i d))) (eqb-true b d is) here
          by_step false is = unmoved i d (job_of (v.pieces i) d) (ap (λ t. t && eqb b d) (eq-eqb i i refl) ∙ is) (beside d is)

      by_process : (t : Bool) → eqb i j ≡ t → R (told v.kept j c) (job_of (v.pieces j) c) (v.work (Do j c)) (v.work (Undo j c))
      by_process true is = subst (λ k. R (told v.kept k c) (job_of (v.pieces k) c) (v.work (Do k c)) (v.work (Undo k c))) (eqb-true i j is) (own c)
      by_process false is =
          unmoved j c (job_of (v.pieces j) c) (ap (λ t. t && eqb b c) is)
          (subst (λ ps. R (told w.kept j c) (job_of ps c) (w.work (Do j c)) (w.work (Undo j c))) (sym (same_pieces j is)) (old j c))

-- only the pieces of a process change
pub each_pieces : (R : Answer → Job → Work → Work → Type 0) (w : World) (i : ℕ) (ps : List Piece) → OfEach R w
    → ((b : ℕ) → R (told w.kept i b) (job_of ps b) (w.work (Do i b)) (w.work (Undo i b))) → OfEach R (with_pieces w i ps)
each_pieces R w i ps old here =
    each_step R w (with_pieces w i ps) i 0 old (λ j c is. refl) (λ j c is. refl) (λ j c is. refl) (λ j is. pieces_there w.pieces i j ps is)
    (at 0) (λ c is. at c)
  where
    at : (b : ℕ) → R (told w.kept i b) (job_of (put_pieces w.pieces i ps i) b) (w.work (Do i b)) (w.work (Undo i b))
    at b = subst (λ qs. R (told w.kept i b) (job_of qs b) (w.work (Do i b)) (w.work (Undo i b))) (sym (pieces_here w.pieces i ps)) (here b)

-- the same of each list of pieces
pub of_pieces : (P : ℕ → List Piece → Type 0) (w : World) (i : ℕ) (ps : List Piece) → ((j : ℕ) → eqb i j ≡ false → P j (w.pieces j)) → P i ps
    → (j : ℕ) → P j (put_pieces w.pieces i ps j)
of_pieces P w i ps old here j = by_process (eqb i j) refl
  where
    by_process : (t : Bool) → eqb i j ≡ t → P j (put_pieces w.pieces i ps j)
    by_process true is = subst (λ k. P k (put_pieces w.pieces i ps k)) (eqb-true i j is) (subst (P i) (sym (pieces_here w.pieces i ps)) here)
    by_process false is = subst (P j) (sym (pieces_there w.pieces i j ps is)) (old j is)

-- The first piece is at another stage.
pub restaged : (R : Answer → Job → Work → Work → Type 0) (n : Name) (a z : Stage) (b : ℕ) (t : Answer) (s u : Work)
    → (R t (Doing a) s u → R t (Doing z) s u) → (R t (Undoing a) s u → R t (Undoing z) s u)
    → R t (job n a b) s u → R t (job n z b) s u
restaged R (Do i c) a z b t s u doing undoing = by_step (eqb c b)
  where
    by_step : (x : Bool) → R t (if x then Doing a else Idle) s u → R t (if x then Doing z else Idle) s u
    by_step true r = doing r
    by_step false r = r
restaged R (Undo i c) a z b t s u doing undoing = by_step (eqb c b)
  where
    by_step : (x : Bool) → R t (if x then Undoing a else Idle) s u → R t (if x then Undoing z else Idle) s u
    by_step true r = undoing r
    by_step false r = r

-- it is of one step alone
pub job_beside : (n : Name) (a : Stage) (b : ℕ) → eqb (step_of n) b ≡ false → job n a b ≡ Idle
job_beside (Do i c) a b is = ap (λ x. if x then Doing a else Idle) is
job_beside (Undo i c) a b is = ap (λ x. if x then Undoing a else Idle) is

pub job_here : (n : Name) (a : Stage) → job n a (step_of n) ≡ own_job n a
job_here (Do i c) a = ap (λ x. if x then Doing a else Idle) (eq-eqb c c refl)
job_here (Undo i c) a = ap (λ x. if x then Undoing a else Idle) (eq-eqb c c refl)

-- what follows from what holds of the first piece, at each step
pub at_job : (R : Answer → Job → Work → Work → Type 0) (S : Type 0) (n : Name) (a : Stage) (b : ℕ) (t : Answer) (s u : Work)
    → (R t (Doing a) s u → S) → (R t (Undoing a) s u → S) → (R t Idle s u → S) → R t (job n a b) s u → S
at_job R S (Do i c) a b t s u doing undoing idle = by_step (eqb c b)
  where
    by_step : (x : Bool) → R t (if x then Doing a else Idle) s u → S
    by_step true r = doing r
    by_step false r = idle r
at_job R S (Undo i c) a b t s u doing undoing idle = by_step (eqb c b)
  where
    by_step : (x : Bool) → R t (if x then Undoing a else Idle) s u → S
    by_step true r = undoing r
    by_step false r = idle r

-- The work of a name changes, and the pieces of its process.

pub put_do : (f : Name → Work) (n : Name) (x : Work)
    → put_work f n x (Do (process_of n) (step_of n)) ≡ do_of n x (f (Do (process_of n) (step_of n)))
put_do f (Do i b) x = work_here f (Do i b) x
put_do f (Undo i b) x = refl

pub put_undo : (f : Name → Work) (n : Name) (x : Work)
    → put_work f n x (Undo (process_of n) (step_of n)) ≡ undo_of n x (f (Undo (process_of n) (step_of n)))
put_undo f (Do i b) x = refl
put_undo f (Undo i b) x = work_here f (Undo i b) x

abbrev pub changed : World → Name → Work → List Piece → (Name → ℕ) → List Name → World
changed w n x qs times names = record (with_pieces w (process_of n) qs) { work = put_work w.work n x; times = times; names = names }

pub each_changed : (R : Answer → Job → Work → Work → Type 0) (w : World) (n : Name) (x : Work) (qs : List Piece) (times : Name → ℕ)
    (names : List Name) → OfEach R w
    → R (told w.kept (process_of n) (step_of n)) (job_of qs (step_of n)) (do_of n x (w.work (Do (process_of n) (step_of n)))) (undo_of n x (w.work (Undo (process_of n) (step_of n))))
    → ((c : ℕ) → eqb (step_of n) c ≡ false → R (told w.kept (process_of n) c) (job_of qs c) (w.work (Do (process_of n) c)) (w.work (Undo (process_of n) c)))
    → OfEach R (changed w n x qs times names)
each_changed R w n x qs times names old here beside =
    each_step R w (changed w n x qs times names) (process_of n) (step_of n) old (λ j c is. refl)
    (λ j c is. work_there w.work n (Do j c) x (not_do n j c is)) (λ j c is. work_there w.work n (Undo j c) x (not_undo n j c is))
    (λ j is. pieces_there w.pieces (process_of n) j qs is)
    (subst (λ ps. R (told w.kept (process_of n) (step_of n)) (job_of ps (step_of n)) (put_work w.work n x (Do (process_of n) (step_of n))) (put_work w.work n x (Undo (process_of n) (step_of n)))) (sym (pieces_here w.pieces (process_of n) qs))
    (subst (λ s. R (told w.kept (process_of n) (step_of n)) (job_of qs (step_of n)) s (put_work w.work n x (Undo (process_of n) (step_of n)))) (sym (put_do w.work n x))
    (subst (λ u. R (told w.kept (process_of n) (step_of n)) (job_of qs (step_of n)) (do_of n x (w.work (Do (process_of n) (step_of n)))) u) (sym (put_undo w.work n x)) here)))
    (λ c is. subst (λ ps. R (told w.kept (process_of n) c) (job_of ps c) (w.work (Do (process_of n) c)) (w.work (Undo (process_of n) c))) (sym (pieces_here w.pieces (process_of n) qs)) (beside c is))

-- The first piece is gone, and the next one isn't begun.
module _ (kept : List Name) (i b : ℕ) (s u : Work) (rest : AreAtRest (told kept i b) s u) where
  pub handed_right : (n : Name) → process_of n ≡ i → IsTrue (may_follow kept n) → Right (told kept i b) (job n Handed b) s u
  handed_right (Do j c) own may = by_step (eqb c b) refl
    where
      by_step : (x : Bool) → eqb c b ≡ x → Right (told kept i b) (if x then Doing Handed else Idle) s u
      by_step true is =
          do_handed i b (told kept i b) s u
          (subst (λ k. IsTrue (may_be_made (Do i b) (told kept k b))) own (subst (λ d. IsTrue (may_be_made (Do i b) (told kept j d))) (eqb-true c b is) (as_its_own may))) rest
        where
          as_its_own : IsTrue (may_be_made (Do j c) (told kept j c)) → IsTrue (may_be_made (Do i b) (told kept j c))
          as_its_own m = subst (λ n. IsTrue (may_be_made n (told kept j c))) (ap (λ k. Do k c) own ∙ ap (Do i) (eqb-true c b is)) m
      by_step false is = rest
  handed_right (Undo j c) own may = by_step (eqb c b) refl
    where
      by_step : (x : Bool) → eqb c b ≡ x → Right (told kept i b) (if x then Undoing Handed else Idle) s u
      by_step true is =
          undo_handed i b (told kept i b) s u
          (subst (λ k. IsTrue (may_be_made (Undo i b) (told kept k b))) own (subst (λ d. IsTrue (may_be_made (Undo i b) (told kept j d))) (eqb-true c b is) (as_its_own may))) rest
        where
          as_its_own : IsTrue (may_be_made (Undo j c) (told kept j c)) → IsTrue (may_be_made (Undo i b) (told kept j c))
          as_its_own m = subst (λ n. IsTrue (may_be_made n (told kept j c))) (ap (λ k. Undo k c) own ∙ ap (Undo i) (eqb-true c b is)) m
      by_step false is = rest

  pub tail_right : (ps : List Piece) → Tail kept i ps → Right (told kept i b) (job_of ps b) s u
  tail_right [] tail = rest
  tail_right (p ∷ ps) tail = subst (λ a. Right (told kept i b) (job p.name a b) s u) (sym tail.0) (handed_right p.name tail.1 tail.2)

module _ (i b : ℕ) (t : Answer) (s u : Work) (fits : Fits t s u) where
  handed_possible : (n : Name) → Possible t (job n Handed b) s u
  handed_possible (Do j c) = by_step (eqb c b)
    where
      by_step : (x : Bool) → Possible t (if x then Doing Handed else Idle) s u
      by_step true = (fits, tt)
      by_step false = (fits, tt)
  handed_possible (Undo j c) = by_step (eqb c b)
    where
      by_step : (x : Bool) → Possible t (if x then Undoing Handed else Idle) s u
      by_step true = (fits, tt)
      by_step false = (fits, tt)

  pub rest_possible : (ps : List Piece) → Rest i ps → Possible t (job_of ps b) s u
  rest_possible [] rest = (fits, tt)
  rest_possible (p ∷ ps) rest = subst (λ a. Possible t (job p.name a b) s u) (sym rest.0) (handed_possible p.name)

-- Lines of pieces.

pub tail_rest : (kept : List Name) (i : ℕ) (ps : List Piece) → Tail kept i ps → Rest i ps
tail_rest kept i [] tail = tt
tail_rest kept i (p ∷ ps) tail = (tail.0, tail.1, tail_rest kept i ps tail.4)

pub rest_left : (i : ℕ) (ps : List Piece) → Rest i ps → Left i ps
rest_left i [] rest = tt
rest_left i (p ∷ ps) rest = (rest.1, rest.2)

-- a tail stays one where the files tell the same of its process
pub tail_same : (kept kept' : List Name) (i : ℕ) → ((c : ℕ) → told kept' i c ≡ told kept i c) → (ps : List Piece) → Tail kept i ps → Tail kept' i ps
tail_same kept kept' i same [] tail = tt
tail_same kept kept' i same (p ∷ ps) tail = (
  tail.0,
  tail.1,
  ap (may_be_made p.name) (subst (λ k. told kept' k (step_of p.name) ≡ told kept k (step_of p.name)) (sym tail.1) (same (step_of p.name))) ∙ tail.2,
  tail.3,
  tail_same kept kept' i same ps tail.4,
)

pub tail_line : (kept : List Name) (i : ℕ) (ps : List Piece) → Tail kept i ps → Line kept i ps
tail_line kept i [] tail = tt
tail_line kept i (p ∷ ps) tail = (tail.1, tail.3, tail.4)

pub line_same : (kept kept' : List Name) (i : ℕ) → ((c : ℕ) → told kept' i c ≡ told kept i c) → (ps : List Piece) → Line kept i ps → Line kept' i ps
line_same kept kept' i same [] line = tt
line_same kept kept' i same (p ∷ ps) line = (line.0, line.1, tail_same kept kept' i same ps line.2)

pub line_left : (kept : List Name) (i : ℕ) (ps : List Piece) → Line kept i ps → Left i ps
line_left kept i [] line = tt
line_left kept i (p ∷ ps) line = (line.0, tail_rest kept i ps line.2)

pub not_empty : (p : Piece) (ps : List Piece) → p ∷ ps ≢ []
not_empty p ps e = differ is_empty [] (p ∷ ps) refl refl (sym e)
