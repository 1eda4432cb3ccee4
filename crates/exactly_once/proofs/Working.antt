-- While pieces are handed out, each event leaves each step right.
use Rattle.std.proofs.Common.{◌≡◌, ℕ, Bool, true, false, not, ◌&&◌, eqb, List, [], ◌∷◌, ◌++◌, map, sym, refl, ap, subst, ◌∙◌}
use Rattle.std.specs.Bool.{IsTrue}
use Rattle.std.specs.List.{list_any}
use Rattle.std.proofs.lemmas.Bool.{and_parts, false≢true}
use Rattle.exactly_once.specs.Names.{Name, Do, Undo, Work, Prepared, committed, process_of, step_of, taken_back}
use Rattle.exactly_once.specs.Settling.{Answer}
use Rattle.exactly_once.specs.Machine.{Stage, Handed, Preparing, Ready, Said, Kept, Committing, TakingBack, Piece, World, handed, is_at_work, is_over, may_follow, may_hand, told, void, with_pieces}
use Rattle.exactly_once.specs.Laws.{AreAtRest}
use Rattle.exactly_once.proofs.Facts.{Doing, Undoing, Line, Right, Tail, Works, job, job_of}
use Rattle.exactly_once.proofs.Names.{pieces_here, pieces_there}
use Rattle.exactly_once.proofs.Steps.{at_job, changed, each_changed, each_pieces, each_step, handed_right, job_beside, job_here, line_same, not_empty, of_pieces, restaged, tail_line, tail_right, told_here, told_there}
use Rattle.exactly_once.proofs.Tables.{committed_rests, do_of, kept_right, of_name, own_job, prepared_right, said_may, taken_back_rests, undo_of}
use Rattle.exactly_once.proofs.Tests.{not_is, or_none}

-- A piece more.

added_right : (t : Answer) (s u : Work) (n : Name) (b : ℕ) (ps : List Piece) → (AreAtRest t s u → Right t (job n Handed b) s u)
    → Right t (job_of ps b) s u → Right t (job_of (ps ++ handed n ∷ []) b) s u
added_right t s u n b [] new r = new r
added_right t s u n b (p ∷ ps) new r = r

module _ (kept : List Name) (i : ℕ) (n : Name) (own : process_of n ≡ i) (may : IsTrue (may_follow kept n)) where
  added_tail : (ps : List Piece) → Tail kept i ps → list_any (λ (p : Piece). p.live) ps ≡ false → Tail kept i (ps ++ handed n ∷ [])
  added_tail [] tail none = (refl, own, may, λ live. refl, tt)
  added_tail (p ∷ ps) tail none =
      let parts = or_none p.live (list_any (λ (p : Piece). p.live) ps) none in
      (tail.0, tail.1, tail.2, λ live. absurd (false≢true (sym parts.0 ∙ live)), added_tail ps tail.4 parts.1)

  added_line : (ps : List Piece) → Line kept i ps → list_any (λ (p : Piece). p.live) ps ≡ false → Line kept i (ps ++ handed n ∷ [])
  added_line [] line none = (own, λ live. refl, tt)
  added_line (p ∷ ps) line none =
      let parts = or_none p.live (list_any (λ (p : Piece). p.live) ps) none in
      (line.0, λ live. absurd (false≢true (sym parts.0 ∙ live)), added_tail ps line.2 parts.1)

pub hands_works : (w : World) (n : Name) → Works w → may_hand w n ≡ true
    → Works (with_pieces w (process_of n) (w.pieces (process_of n) ++ handed n ∷ []))
hands_works w n works may =
    let a = and_parts (is_at_work w) (may_follow w.kept n && (not (is_over w (process_of n)) && not (list_any (λ (p : Piece). p.live) (w.pieces (process_of n))))) may in
    let b = and_parts (may_follow w.kept n) (not (is_over w (process_of n)) && not (list_any (λ (p : Piece). p.live) (w.pieces (process_of n)))) a.1 in
    let c = and_parts (not (is_over w (process_of n))) (not (list_any (λ (p : Piece). p.live) (w.pieces (process_of n)))) b.1 in
    record {
      phase = works.phase;
      rights = each_pieces Right w (process_of n) (w.pieces (process_of n) ++ handed n ∷ []) works.rights
          (λ d. added_right (told w.kept (process_of n) d) (w.work (Do (process_of n) d)) (w.work (Undo (process_of n) d)) n d (w.pieces (process_of n))
          (λ rest. handed_right w.kept (process_of n) d (w.work (Do (process_of n) d)) (w.work (Undo (process_of n) d)) rest n refl b.0) (works.rights (process_of n) d));
      lines = of_pieces (Line w.kept) w (process_of n) (w.pieces (process_of n) ++ handed n ∷ []) (λ j is. works.lines j)
          (added_line w.kept (process_of n) n refl b.0 (w.pieces (process_of n)) (works.lines (process_of n)) (not_is (list_any (λ (p : Piece). p.live) (w.pieces (process_of n))) c.1));
      over = of_pieces (λ j ps. IsTrue (is_over w j) → ps ≡ []) w (process_of n) (w.pieces (process_of n) ++ handed n ∷ []) (λ j is. works.over j)
          (λ over. absurd (false≢true (sym (not_is (is_over w (process_of n)) c.0) ∙ over)));
    }

-- The first piece of a process is of name n.
module _ (w : World) (works : Works w) (n : Name) (live : Bool) (a : Stage) (ps : List Piece)
    (is : w.pieces (process_of n) ≡ record { name = n; live = live; stage = a } ∷ ps) where
  first_right : (b : ℕ) → Right (told w.kept (process_of n) b) (job n a b) (w.work (Do (process_of n) b)) (w.work (Undo (process_of n) b))
  first_right b = subst (λ qs. Right (told w.kept (process_of n) b) (job_of qs b) (w.work (Do (process_of n) b)) (w.work (Undo (process_of n) b))) is (works.rights (process_of n) b)

  pub own_right : Right (told w.kept (process_of n) (step_of n)) (own_job n a) (w.work (Do (process_of n) (step_of n))) (w.work (Undo (process_of n) (step_of n)))
  own_right = subst (λ j. Right (told w.kept (process_of n) (step_of n)) j (w.work (Do (process_of n) (step_of n))) (w.work (Undo (process_of n) (step_of n)))) (job_here n a) (first_right (step_of n))

  first_line : Line w.kept (process_of n) (record { name = n; live = live; stage = a } ∷ ps)
  first_line = subst (Line w.kept (process_of n)) is (works.lines (process_of n))

  -- it is of no other step
  idle_beside : (c : ℕ) → eqb (step_of n) c ≡ false → AreAtRest (told w.kept (process_of n) c) (w.work (Do (process_of n) c)) (w.work (Undo (process_of n) c))
  idle_beside c other = subst (λ j. Right (told w.kept (process_of n) c) j (w.work (Do (process_of n) c)) (w.work (Undo (process_of n) c))) (job_beside n a c other) (first_right c)

  not_over : (A : Type 0) → IsTrue (is_over w (process_of n)) → A
  not_over A over = absurd (not_empty (record { name = n; live = live; stage = a }) ps (sym is ∙ works.over (process_of n) over))

  -- it comes to another stage, at which the same is right
  pub restage_works : (z : Stage) (lives : Bool) → (IsTrue lives → IsTrue live)
      → ((t : Answer) (s u : Work) → Right t (Doing a) s u → Right t (Doing z) s u)
      → ((t : Answer) (s u : Work) → Right t (Undoing a) s u → Right t (Undoing z) s u)
      → Works (with_pieces w (process_of n) (record { name = n; live = lives; stage = z } ∷ ps))
  restage_works z lives still doing undoing = record {
    phase = works.phase;
    rights = each_pieces Right w (process_of n) (record { name = n; live = lives; stage = z } ∷ ps) works.rights
        (λ b. restaged Right n a z b (told w.kept (process_of n) b) (w.work (Do (process_of n) b)) (w.work (Undo (process_of n) b))
        (doing (told w.kept (process_of n) b) (w.work (Do (process_of n) b)) (w.work (Undo (process_of n) b)))
        (undoing (told w.kept (process_of n) b) (w.work (Do (process_of n) b)) (w.work (Undo (process_of n) b))) (first_right b));
    lines = of_pieces (Line w.kept) w (process_of n) (record { name = n; live = lives; stage = z } ∷ ps) (λ j other. works.lines j)
        (refl, λ l. first_line.1 (still l), first_line.2);
    over = of_pieces (λ j qs. IsTrue (is_over w j) → qs ≡ []) w (process_of n) (record { name = n; live = lives; stage = z } ∷ ps) (λ j other. works.over j)
        (λ over. not_over (record { name = n; live = lives; stage = z } ∷ ps ≡ []) over);
  }

  -- it is gone, and nothing of it is left
  pub gone_works : ((t : Answer) (s u : Work) → Right t (Doing a) s u → AreAtRest t s u)
      → ((t : Answer) (s u : Work) → Right t (Undoing a) s u → AreAtRest t s u) → Works (with_pieces w (process_of n) ps)
  gone_works doing undoing = record {
    phase = works.phase;
    rights = each_pieces Right w (process_of n) ps works.rights
        (λ b. tail_right w.kept (process_of n) b (w.work (Do (process_of n) b)) (w.work (Undo (process_of n) b))
        (at_job Right (AreAtRest (told w.kept (process_of n) b) (w.work (Do (process_of n) b)) (w.work (Undo (process_of n) b))) n a b (told w.kept (process_of n) b) (w.work (Do (process_of n) b)) (w.work (Undo (process_of n) b))
        (doing (told w.kept (process_of n) b) (w.work (Do (process_of n) b)) (w.work (Undo (process_of n) b)))
        (undoing (told w.kept (process_of n) b) (w.work (Do (process_of n) b)) (w.work (Undo (process_of n) b))) (λ r. r) (first_right b)) ps first_line.2);
    lines = of_pieces (Line w.kept) w (process_of n) ps (λ j other. works.lines j) (tail_line w.kept (process_of n) ps first_line.2);
    over = of_pieces (λ j qs. IsTrue (is_over w j) → qs ≡ []) w (process_of n) ps (λ j other. works.over j) (not_over (ps ≡ []));
  }

  -- its work is changed
  changed_works : (x : Work) (qs : List Piece) (times : Name → ℕ) (names : List Name) → Line w.kept (process_of n) qs
      → Right (told w.kept (process_of n) (step_of n)) (job_of qs (step_of n)) (do_of n x (w.work (Do (process_of n) (step_of n)))) (undo_of n x (w.work (Undo (process_of n) (step_of n))))
      → ((c : ℕ) → eqb (step_of n) c ≡ false → Right (told w.kept (process_of n) c) (job_of qs c) (w.work (Do (process_of n) c)) (w.work (Undo (process_of n) c)))
      → Works (changed w n x qs times names)
  changed_works x qs times names line here beside = record {
    phase = works.phase;
    rights = each_changed Right w n x qs times names works.rights here beside;
    lines = of_pieces (Line w.kept) w (process_of n) qs (λ j other. works.lines j) line;
    over = of_pieces (λ j ps. IsTrue (is_over w j) → ps ≡ []) w (process_of n) qs (λ j other. works.over j) (not_over (qs ≡ []));
  }

  -- it is gone, and its step is at rest
  pub settled_works : (x : Work) (times : Name → ℕ) (names : List Name)
      → AreAtRest (told w.kept (process_of n) (step_of n)) (do_of n x (w.work (Do (process_of n) (step_of n)))) (undo_of n x (w.work (Undo (process_of n) (step_of n))))
      → Works (changed w n x ps times names)
  settled_works x times names rest =
      changed_works x ps times names (tail_line w.kept (process_of n) ps first_line.2)
      (tail_right w.kept (process_of n) (step_of n) (do_of n x (w.work (Do (process_of n) (step_of n)))) (undo_of n x (w.work (Undo (process_of n) (step_of n)))) rest ps first_line.2)
      (λ c other. tail_right w.kept (process_of n) c (w.work (Do (process_of n) c)) (w.work (Undo (process_of n) c)) (idle_beside c other) ps first_line.2)

pub prepared_works : (w : World) → Works w → (n : Name) (live : Bool) (ps : List Piece)
    → w.pieces (process_of n) ≡ record { name = n; live = live; stage = Preparing } ∷ ps → (names : List Name)
    → Works (changed w n Prepared (record { name = n; live = live; stage = Ready } ∷ ps) w.times names)
prepared_works w works n live ps is names =
    changed_works w works n live Preparing ps is Prepared (record { name = n; live = live; stage = Ready } ∷ ps) w.times names
    (first_line w works n live Preparing ps is)
    (subst (λ j. Right (told w.kept (process_of n) (step_of n)) j (do_of n Prepared (w.work (Do (process_of n) (step_of n)))) (undo_of n Prepared (w.work (Undo (process_of n) (step_of n))))) (sym (job_here n Ready))
    (prepared_right n (told w.kept (process_of n) (step_of n)) (w.work (Do (process_of n) (step_of n))) (w.work (Undo (process_of n) (step_of n))) (own_right w works n live Preparing ps is)))
    (λ c other. subst (λ j. Right (told w.kept (process_of n) c) j (w.work (Do (process_of n) c)) (w.work (Undo (process_of n) c))) (sym (job_beside n Ready c other)) (idle_beside w works n live Preparing ps is c other))

-- the work of a name, by that of its step
pub of_name_is : (f : Name → Work) (n : Name) → f n ≡ of_name n (f (Do (process_of n) (step_of n))) (f (Undo (process_of n) (step_of n)))
of_name_is f (Do i b) = refl
of_name_is f (Undo i b) = refl

pub committed_works : (w : World) → Works w → (n : Name) (live : Bool) (ps : List Piece)
    → w.pieces (process_of n) ≡ record { name = n; live = live; stage = Committing } ∷ ps → (times : Name → ℕ)
    → Works (changed w n (committed (w.work n)) ps times w.names)
committed_works w works n live ps is times =
    settled_works w works n live Committing ps is (committed (w.work n)) times w.names
    (subst (λ x. AreAtRest (told w.kept (process_of n) (step_of n)) (do_of n (committed x) (w.work (Do (process_of n) (step_of n)))) (undo_of n (committed x) (w.work (Undo (process_of n) (step_of n))))) (sym (of_name_is w.work n))
    (committed_rests n (told w.kept (process_of n) (step_of n)) (w.work (Do (process_of n) (step_of n))) (w.work (Undo (process_of n) (step_of n))) (own_right w works n live Committing ps is)))

pub taken_back_works : (w : World) → Works w → (n : Name) (live : Bool) (ps : List Piece)
    → w.pieces (process_of n) ≡ record { name = n; live = live; stage = TakingBack } ∷ ps
    → Works (changed w n (taken_back (w.work n)) ps w.times w.names)
taken_back_works w works n live ps is =
    settled_works w works n live TakingBack ps is (taken_back (w.work n)) w.times w.names
    (subst (λ x. AreAtRest (told w.kept (process_of n) (step_of n)) (do_of n (taken_back x) (w.work (Do (process_of n) (step_of n)))) (undo_of n (taken_back x) (w.work (Undo (process_of n) (step_of n))))) (sym (of_name_is w.work n))
    (taken_back_rests n (told w.kept (process_of n) (step_of n)) (w.work (Do (process_of n) (step_of n))) (w.work (Undo (process_of n) (step_of n))) (own_right w works n live TakingBack ps is)))

-- The effect of a piece that is out comes into the files.

module _ (w : World) (works : Works w) (n : Name) (live : Bool) (ps : List Piece)
    (is : w.pieces (process_of n) ≡ record { name = n; live = live; stage = Said } ∷ ps) (lives : IsTrue live) where
  abbrev kept_world : World
  kept_world = record (with_pieces w (process_of n) (record { name = n; live = false; stage = Kept } ∷ ps)) { kept = n ∷ w.kept }

  last : ps ≡ []
  last = (first_line w works n live Said ps is).1 lives

  pub said_follows : IsTrue (may_follow w.kept n)
  said_follows = said_may n (told w.kept (process_of n) (step_of n)) (w.work (Do (process_of n) (step_of n))) (w.work (Undo (process_of n) (step_of n))) (own_right w works n live Said ps is)

  kept_here : Right (told (n ∷ w.kept) (process_of n) (step_of n)) (job n Kept (step_of n)) (w.work (Do (process_of n) (step_of n))) (w.work (Undo (process_of n) (step_of n)))
  kept_here =
      subst (λ j. Right (told (n ∷ w.kept) (process_of n) (step_of n)) j (w.work (Do (process_of n) (step_of n))) (w.work (Undo (process_of n) (step_of n)))) (sym (job_here n Kept))
      (kept_right n (told w.kept (process_of n) (step_of n)) (told (n ∷ w.kept) (process_of n) (step_of n)) (w.work (Do (process_of n) (step_of n))) (w.work (Undo (process_of n) (step_of n))) (told_here n w.kept) (own_right w works n live Said ps is))

  kept_beside : (c : ℕ) → eqb (step_of n) c ≡ false → Right (told w.kept (process_of n) c) (job n Kept c) (w.work (Do (process_of n) c)) (w.work (Undo (process_of n) c))
  kept_beside c other = subst (λ j. Right (told w.kept (process_of n) c) j (w.work (Do (process_of n) c)) (w.work (Undo (process_of n) c))) (sym (job_beside n Kept c other)) (idle_beside w works n live Said ps is c other)

  -- the pieces of the process, as they are looked up
  as_put : (P : List Piece → Type 0) → P (record { name = n; live = false; stage = Kept } ∷ ps) → P (kept_world.pieces (process_of n))
  as_put P p = subst P (sym (pieces_here w.pieces (process_of n) (record { name = n; live = false; stage = Kept } ∷ ps))) p

  pub keeps_works : Works kept_world
  keeps_works = record {
    phase = works.phase;
    rights = each_step Right w kept_world (process_of n) (step_of n) works.rights (told_there n w.kept) (λ j c other. refl) (λ j c other. refl)
        (λ j other. pieces_there w.pieces (process_of n) j (record { name = n; live = false; stage = Kept } ∷ ps) other)
        (as_put (λ qs. Right (told (n ∷ w.kept) (process_of n) (step_of n)) (job_of qs (step_of n)) (w.work (Do (process_of n) (step_of n))) (w.work (Undo (process_of n) (step_of n)))) kept_here)
        (λ c other. as_put (λ qs. Right (told w.kept (process_of n) c) (job_of qs c) (w.work (Do (process_of n) c)) (w.work (Undo (process_of n) c))) (kept_beside c other));
    lines = of_pieces (Line (n ∷ w.kept)) w (process_of n) (record { name = n; live = false; stage = Kept } ∷ ps)
        (λ j other. line_same w.kept (n ∷ w.kept) j (λ c. told_there n w.kept j c (ap (λ t. t && eqb (step_of n) c) other)) (w.pieces j) (works.lines j))
        (refl, λ l. absurd (false≢true l), subst (Tail (n ∷ w.kept) (process_of n)) (sym last) tt);
    over = of_pieces (λ j qs. IsTrue (is_over w j) → qs ≡ []) w (process_of n) (record { name = n; live = false; stage = Kept } ∷ ps) (λ j other. works.over j)
        (not_over w works n live Said ps is (record { name = n; live = false; stage = Kept } ∷ ps ≡ []));
  }

-- A process goes back.

void_job : (ps : List Piece) (b : ℕ) → job_of (map void ps) b ≡ job_of ps b
void_job [] b = refl
void_job (p ∷ ps) b = refl

void_tail : (kept : List Name) (i : ℕ) (ps : List Piece) → Tail kept i ps → Tail kept i (map void ps)
void_tail kept i [] tail = tt
void_tail kept i (p ∷ ps) tail = (tail.0, tail.1, tail.2, λ l. absurd (false≢true l), void_tail kept i ps tail.4)

void_line : (kept : List Name) (i : ℕ) (ps : List Piece) → Line kept i ps → Line kept i (map void ps)
void_line kept i [] line = tt
void_line kept i (p ∷ ps) line = (line.0, λ l. absurd (false≢true l), void_tail kept i ps line.2)

pub goes_back_works : (w : World) (i : ℕ) → Works w → Works (with_pieces w i (map void (w.pieces i)))
goes_back_works w i works = record {
  phase = works.phase;
  rights = each_pieces Right w i (map void (w.pieces i)) works.rights
      (λ b. subst (λ j. Right (told w.kept i b) j (w.work (Do i b)) (w.work (Undo i b))) (sym (void_job (w.pieces i) b)) (works.rights i b));
  lines = of_pieces (Line w.kept) w i (map void (w.pieces i)) (λ j other. works.lines j) (void_line w.kept i (w.pieces i) (works.lines i));
  over = of_pieces (λ j ps. IsTrue (is_over w j) → ps ≡ []) w i (map void (w.pieces i)) (λ j other. works.over j) (λ over. ap (map void) (works.over i over));
}
