-- At any other time, each event leaves each step possible.
use Rattle.std.proofs.Common.{◌≡◌, ◌≢◌, ℕ, Bool, true, false, not, if◌then◌else◌, ◌&&◌, ◌||◌, eqb, List, [], ◌∷◌, sym, refl, ap, subst, ◌∙◌}
use Rattle.std.specs.Bool.{IsTrue}
use Rattle.std.proofs.lemmas.Bool.{and_parts, eqb-true, false≢true}
use Rattle.exactly_once.specs.Names.{Name, Do, Undo, Work, Absent, Prepared, Committed, committed, has, process_of, same_name, step_of, taken_back}
use Rattle.exactly_once.specs.Settling.{Answer, Action, Nothing, Commit, TakeBack, CommitUndo, TakeBackUndo, CarryOutUndo, StopLost, StopAhead, settle, state_of}
use Rattle.exactly_once.specs.Machine.{Stage, Preparing, Ready, Kept, Committing, TakingBack, CarryingOut, Piece, World, Closed, Working, acting, action, after_opening, all_settled, is_closed, is_empty, is_in, is_nothing, is_opened, is_over, is_settled, may_follow, of_settling, put_work, told, with_pieces}
use Rattle.exactly_once.specs.Laws.{AreAtRest}
use Rattle.exactly_once.proofs.Facts.{Doing, Undoing, Fits, Left, Line, MayLand, Possible, Rest, Right, Waits, Works, is_done_with, job, job_of}
use Rattle.exactly_once.proofs.Names.{not_do, not_undo, work_there}
use Rattle.exactly_once.proofs.Steps.{changed, each_changed, each_pieces, each_step, job_beside, job_here, line_left, not_empty, of_pieces, rest_left, rest_possible, restaged, told_here, told_there}
use Rattle.exactly_once.proofs.Tables.{Fitting, absent_rests, prepared≢absent, committed≢absent, carried_out_fits, committed_fits, do_of, may_undo_done, own_job, prepared_fits, ready_possible, rest_settled, right_possible, settles_fit, taken_back_fits, undo_of, undone_possible}
use Rattle.exactly_once.proofs.Tests.{of_listed, or_elim, or_first, or_second}
use Rattle.exactly_once.proofs.Working.{of_name_is}

-- The first piece of a process is of name n.
module _ (w : World) (waits : Waits w) (n : Name) (live : Bool) (a : Stage) (ps : List Piece)
    (is : w.pieces (process_of n) ≡ record { name = n; live = live; stage = a } ∷ ps) where
  first_possible : (b : ℕ) → Possible (told w.kept (process_of n) b) (job n a b) (w.work (Do (process_of n) b)) (w.work (Undo (process_of n) b))
  first_possible b = subst (λ qs. Possible (told w.kept (process_of n) b) (job_of qs b) (w.work (Do (process_of n) b)) (w.work (Undo (process_of n) b))) is (waits.possible (process_of n) b)

  pub own_possible : Possible (told w.kept (process_of n) (step_of n)) (own_job n a) (w.work (Do (process_of n) (step_of n))) (w.work (Undo (process_of n) (step_of n)))
  own_possible = subst (λ j. Possible (told w.kept (process_of n) (step_of n)) j (w.work (Do (process_of n) (step_of n))) (w.work (Undo (process_of n) (step_of n)))) (job_here n a) (first_possible (step_of n))

  first_rest : Rest (process_of n) ps
  first_rest = (subst (Left (process_of n)) is (waits.left (process_of n))).1

  not_done_with : (A : Type 0) → IsTrue (is_done_with w (process_of n)) → A
  not_done_with A over = absurd (not_empty (record { name = n; live = live; stage = a }) ps (sym is ∙ (waits.over (process_of n) over).0))

  found_here : is_opened w.phase ≡ true → (m : Name) × (process_of m ≡ process_of n) × IsTrue (has w.names m)
  found_here opened = waits.found opened (process_of n) (λ e. not_empty (record { name = n; live = live; stage = a }) ps (sym is ∙ e))

  -- it comes to another stage, at which the same may land
  pub restage_waits : (z : Stage) (lives : Bool)
      → ((t : Answer) (s u : Work) → Possible t (Doing a) s u → Possible t (Doing z) s u)
      → ((t : Answer) (s u : Work) → Possible t (Undoing a) s u → Possible t (Undoing z) s u)
      → Waits (with_pieces w (process_of n) (record { name = n; live = lives; stage = z } ∷ ps))
  restage_waits z lives doing undoing = record {
    phase = waits.phase;
    possible = each_pieces Possible w (process_of n) (record { name = n; live = lives; stage = z } ∷ ps) waits.possible
        (λ b. restaged Possible n a z b (told w.kept (process_of n) b) (w.work (Do (process_of n) b)) (w.work (Undo (process_of n) b))
        (doing (told w.kept (process_of n) b) (w.work (Do (process_of n) b)) (w.work (Undo (process_of n) b)))
        (undoing (told w.kept (process_of n) b) (w.work (Do (process_of n) b)) (w.work (Undo (process_of n) b))) (first_possible b));
    left = of_pieces Left w (process_of n) (record { name = n; live = lives; stage = z } ∷ ps) (λ j other. waits.left j) (refl, first_rest);
    found = λ opened. of_pieces (λ j qs. qs ≢ [] → (m : Name) × (process_of m ≡ j) × IsTrue (has w.names m)) w (process_of n)
        (record { name = n; live = lives; stage = z } ∷ ps) (λ j other. waits.found opened j) (λ some. found_here opened);
    over = of_pieces (λ j qs. IsTrue (is_done_with w j) → (qs ≡ []) × ((b : ℕ) → AreAtRest (told w.kept j b) (w.work (Do j b)) (w.work (Undo j b)))) w
        (process_of n) (record { name = n; live = lives; stage = z } ∷ ps) (λ j other. waits.over j)
        (not_done_with ((record { name = n; live = lives; stage = z } ∷ ps ≡ []) × ((b : ℕ) → AreAtRest (told w.kept (process_of n) b) (w.work (Do (process_of n) b)) (w.work (Undo (process_of n) b)))));
  }

  -- its work is changed
  changed_waits : (x : Work) (qs : List Piece) (times : Name → ℕ) (names : List Name) → ((m : Name) → IsTrue (has w.names m) → IsTrue (has names m))
      → Left (process_of n) qs
      → Possible (told w.kept (process_of n) (step_of n)) (job_of qs (step_of n)) (do_of n x (w.work (Do (process_of n) (step_of n)))) (undo_of n x (w.work (Undo (process_of n) (step_of n))))
      → ((c : ℕ) → eqb (step_of n) c ≡ false → Possible (told w.kept (process_of n) c) (job_of qs c) (w.work (Do (process_of n) c)) (w.work (Undo (process_of n) c)))
      → Waits (changed w n x qs times names)
  changed_waits x qs times names grows left here beside = record {
    phase = waits.phase;
    possible = each_changed Possible w n x qs times names waits.possible here beside;
    left = of_pieces Left w (process_of n) qs (λ j other. waits.left j) left;
    found = λ opened. of_pieces (λ j ps. ps ≢ [] → (m : Name) × (process_of m ≡ j) × IsTrue (has names m)) w (process_of n) qs
        (λ j other some. let f = waits.found opened j some in (f.0, f.1, grows f.0 f.2))
        (λ some. let f = found_here opened in (f.0, f.1, grows f.0 f.2));
    over = of_pieces (λ j ps. IsTrue (is_done_with w j) → (ps ≡ []) × ((b : ℕ) → AreAtRest (told w.kept j b) (put_work w.work n x (Do j b)) (put_work w.work n x (Undo j b)))) w
        (process_of n) qs
        (λ j other done. let o = waits.over j done in (
          o.0,
          λ b.
              subst (λ s. AreAtRest (told w.kept j b) s (put_work w.work n x (Undo j b))) (sym (work_there w.work n (Do j b) x (not_do n j b (ap (λ t. t && eqb (step_of n) b) other))))
              (subst (λ u. AreAtRest (told w.kept j b) (w.work (Do j b)) u) (sym (work_there w.work n (Undo j b) x (not_undo n j b (ap (λ t. t && eqb (step_of n) b) other)))) (o.1 b)),
        ))
        (not_done_with ((qs ≡ []) × ((b : ℕ) → AreAtRest (told w.kept (process_of n) b) (put_work w.work n x (Do (process_of n) b)) (put_work w.work n x (Undo (process_of n) b)))));
  }

  -- it is gone, and its step is possible
  pub gone_waits : (x : Work) (times : Name → ℕ) (names : List Name) → ((m : Name) → IsTrue (has w.names m) → IsTrue (has names m))
      → Fits (told w.kept (process_of n) (step_of n)) (do_of n x (w.work (Do (process_of n) (step_of n)))) (undo_of n x (w.work (Undo (process_of n) (step_of n))))
      → Waits (changed w n x ps times names)
  gone_waits x times names grows fits =
      changed_waits x ps times names grows (rest_left (process_of n) ps first_rest)
      (rest_possible (process_of n) (step_of n) (told w.kept (process_of n) (step_of n)) (do_of n x (w.work (Do (process_of n) (step_of n)))) (undo_of n x (w.work (Undo (process_of n) (step_of n)))) fits ps first_rest)
      (λ c other. rest_possible (process_of n) c (told w.kept (process_of n) c) (w.work (Do (process_of n) c)) (w.work (Undo (process_of n) c)) (waits.possible (process_of n) c).0 ps first_rest)

  -- it is prepared
  pub ready_waits : (names : List Name) → ((m : Name) → IsTrue (has w.names m) → IsTrue (has names m))
      → Fits (told w.kept (process_of n) (step_of n)) (do_of n Prepared (w.work (Do (process_of n) (step_of n)))) (undo_of n Prepared (w.work (Undo (process_of n) (step_of n))))
      → Waits (changed w n Prepared (record { name = n; live = live; stage = Ready } ∷ ps) w.times names)
  ready_waits names grows fits =
      changed_waits Prepared (record { name = n; live = live; stage = Ready } ∷ ps) w.times names grows (refl, first_rest)
      (subst (λ j. Possible (told w.kept (process_of n) (step_of n)) j (do_of n Prepared (w.work (Do (process_of n) (step_of n)))) (undo_of n Prepared (w.work (Undo (process_of n) (step_of n))))) (sym (job_here n Ready))
      (ready_possible n (told w.kept (process_of n) (step_of n)) (do_of n Prepared (w.work (Do (process_of n) (step_of n)))) (undo_of n Prepared (w.work (Undo (process_of n) (step_of n)))) fits))
      (λ c other. subst (λ j. Possible (told w.kept (process_of n) c) j (w.work (Do (process_of n) c)) (w.work (Undo (process_of n) c))) (sym (job_beside n Ready c other))
      ((waits.possible (process_of n) c).0, tt))

pub prepared_waits : (w : World) → Waits w → (n : Name) (live : Bool) (ps : List Piece)
    → w.pieces (process_of n) ≡ record { name = n; live = live; stage = Preparing } ∷ ps
    → Waits (changed w n Prepared (record { name = n; live = live; stage = Ready } ∷ ps) w.times (n ∷ w.names))
prepared_waits w waits n live ps is =
    ready_waits w waits n live Preparing ps is (n ∷ w.names) (λ m. or_second (same_name n m) (has w.names m))
    (prepared_fits n (told w.kept (process_of n) (step_of n)) (w.work (Do (process_of n) (step_of n))) (w.work (Undo (process_of n) (step_of n))) (own_possible w waits n live Preparing ps is))

pub carried_out_waits : (w : World) → Waits w → (n : Name) (live : Bool) (ps : List Piece)
    → w.pieces (process_of n) ≡ record { name = n; live = live; stage = CarryingOut } ∷ ps
    → Waits (changed w n Prepared ps w.times (n ∷ w.names))
carried_out_waits w waits n live ps is =
    gone_waits w waits n live CarryingOut ps is Prepared w.times (n ∷ w.names) (λ m. or_second (same_name n m) (has w.names m))
    (carried_out_fits n (told w.kept (process_of n) (step_of n)) (w.work (Do (process_of n) (step_of n))) (w.work (Undo (process_of n) (step_of n))) (own_possible w waits n live CarryingOut ps is))

pub committed_waits : (w : World) → Waits w → (n : Name) (live : Bool) (ps : List Piece)
    → w.pieces (process_of n) ≡ record { name = n; live = live; stage = Committing } ∷ ps → (times : Name → ℕ)
    → Waits (changed w n (committed (w.work n)) ps times w.names)
committed_waits w waits n live ps is times =
    gone_waits w waits n live Committing ps is (committed (w.work n)) times w.names (λ m h. h)
    (subst (λ x. Fits (told w.kept (process_of n) (step_of n)) (do_of n (committed x) (w.work (Do (process_of n) (step_of n)))) (undo_of n (committed x) (w.work (Undo (process_of n) (step_of n))))) (sym (of_name_is w.work n))
    (committed_fits n (told w.kept (process_of n) (step_of n)) (w.work (Do (process_of n) (step_of n))) (w.work (Undo (process_of n) (step_of n))) (own_possible w waits n live Committing ps is)))

pub taken_back_waits : (w : World) → Waits w → (n : Name) (live : Bool) (ps : List Piece)
    → w.pieces (process_of n) ≡ record { name = n; live = live; stage = TakingBack } ∷ ps
    → Waits (changed w n (taken_back (w.work n)) ps w.times w.names)
taken_back_waits w waits n live ps is =
    gone_waits w waits n live TakingBack ps is (taken_back (w.work n)) w.times w.names (λ m h. h)
    (subst (λ x. Fits (told w.kept (process_of n) (step_of n)) (do_of n (taken_back x) (w.work (Do (process_of n) (step_of n)))) (undo_of n (taken_back x) (w.work (Undo (process_of n) (step_of n))))) (sym (of_name_is w.work n))
    (taken_back_fits n (told w.kept (process_of n) (step_of n)) (w.work (Do (process_of n) (step_of n))) (w.work (Undo (process_of n) (step_of n))) (own_possible w waits n live TakingBack ps is)))

pub committing_waits : (w : World) → Waits w → (n : Name) (live : Bool) (ps : List Piece)
    → w.pieces (process_of n) ≡ record { name = n; live = live; stage = Kept } ∷ ps
    → Waits (with_pieces w (process_of n) (record { name = n; live = false; stage = Committing } ∷ ps))
committing_waits w waits n live ps is = restage_waits w waits n live Kept ps is Committing false (λ t s u p. p) (λ t s u p. p)

-- Stops and starts.

pub stopped_waits : (w : World) → Waits w → Waits (record w { phase = Closed })
stopped_waits w waits = record {
  phase = refl;
  possible = waits.possible;
  left = waits.left;
  found = λ opened. absurd (false≢true opened);
  over = waits.over;
}

done_with_over : (w : World) (i : ℕ) → IsTrue (is_done_with w i) → IsTrue (is_over w i)
done_with_over w i =
    or_elim (is_in i w.forgotten) (not w.turned && is_in i w.before)
    (λ forgotten. or_second (is_in i w.ended) (is_in i w.before || is_in i w.forgotten) (or_second (is_in i w.before) (is_in i w.forgotten) forgotten))
    (λ before. or_second (is_in i w.ended) (is_in i w.before || is_in i w.forgotten) (or_first (is_in i w.before) (is_in i w.forgotten) (and_parts (not w.turned) (is_in i w.before) before).1))

pub stopped_works : (w : World) → Works w → Waits (record w { phase = Closed })
stopped_works w works = record {
  phase = refl;
  possible = λ i b. right_possible (told w.kept i b) (job_of (w.pieces i) b) (w.work (Do i b)) (w.work (Undo i b)) (works.rights i b);
  left = λ i. line_left w.kept i (w.pieces i) (works.lines i);
  found = λ opened. absurd (false≢true opened);
  over = λ i done. let none = works.over i (done_with_over w i done) in
      (none, λ b. subst (λ ps. Right (told w.kept i b) (job_of ps b) (w.work (Do i b)) (w.work (Undo i b))) none (works.rights i b));
}

pub opened_waits : (w : World) → Waits w → Waits (after_opening w)
opened_waits w waits = record {
  phase = refl;
  possible = λ i b. ((waits.possible i b).0, tt);
  left = λ i. tt;
  found = λ opened i some. absurd (some refl);
  over = λ i done. (refl, (waits.over i done).1);
}

-- The settling.

-- one step is acted about
acts_waits : (w : World) (waits : Waits w) (n : Name) (z : Stage)
    → (AreAtRest (told w.kept (process_of n) (step_of n)) (w.work (Do (process_of n) (step_of n))) (w.work (Undo (process_of n) (step_of n))) → ⊥)
    → IsTrue (has w.names (Do (process_of n) (step_of n)))
    → MayLand (told w.kept (process_of n) (step_of n)) (own_job n z) (w.work (Do (process_of n) (step_of n))) (w.work (Undo (process_of n) (step_of n)))
    → Waits (with_pieces w (process_of n) (of_settling n z ∷ []))
acts_waits w waits n z not_at_rest listed may = record {
  phase = waits.phase;
  possible = each_pieces Possible w (process_of n) (of_settling n z ∷ []) waits.possible (λ c. by_step c (eqb (step_of n) c) refl);
  left = of_pieces Left w (process_of n) (of_settling n z ∷ []) (λ j other. waits.left j) (refl, tt);
  found = λ opened. of_pieces (λ j qs. qs ≢ [] → (m : Name) × (process_of m ≡ j) × IsTrue (has w.names m)) w (process_of n) (of_settling n z ∷ [])
      (λ j other. waits.found opened j) (λ some. (Do (process_of n) (step_of n), refl, listed));
  over = of_pieces (λ j qs. IsTrue (is_done_with w j) → (qs ≡ []) × ((b : ℕ) → AreAtRest (told w.kept j b) (w.work (Do j b)) (w.work (Undo j b)))) w
      (process_of n) (of_settling n z ∷ []) (λ j other. waits.over j) (λ done. absurd (not_at_rest ((waits.over (process_of n) done).1 (step_of n))));
}
  where
    by_step : (c : ℕ) (x : Bool) → eqb (step_of n) c ≡ x
        → Possible (told w.kept (process_of n) c) (job n z c) (w.work (Do (process_of n) c)) (w.work (Undo (process_of n) c))
    by_step c true is =
        subst (λ c. Possible (told w.kept (process_of n) c) (job n z c) (w.work (Do (process_of n) c)) (w.work (Undo (process_of n) c))) (eqb-true (step_of n) c is)
        (subst (λ j. Possible (told w.kept (process_of n) (step_of n)) j (w.work (Do (process_of n) (step_of n))) (w.work (Undo (process_of n) (step_of n)))) (sym (job_here n z))
        ((waits.possible (process_of n) (step_of n)).0, may))
    by_step c false is =
        subst (λ j. Possible (told w.kept (process_of n) c) j (w.work (Do (process_of n) c)) (w.work (Undo (process_of n) c))) (sym (job_beside n z c is))
        ((waits.possible (process_of n) c).0, tt)

module _ (w : World) (waits : Waits w) (listed : (n : Name) → w.work n ≢ Absent → IsTrue (has w.names n)) (i b : ℕ) where
  -- where something is to be done, the step isn't at rest
  not_at_rest : (x : Action) → settle (state_of (w.work (Do i b)) (w.work (Undo i b))) (told w.kept i b) ≡ x → is_nothing x ≡ false
      → AreAtRest (told w.kept i b) (w.work (Do i b)) (w.work (Undo i b)) → ⊥
  not_at_rest x is some rest = false≢true (sym some ∙ ap is_nothing (sym is ∙ rest_settled (told w.kept i b) (w.work (Do i b)) (w.work (Undo i b)) rest))

  acting_waits : (x : Action) → settle (state_of (w.work (Do i b)) (w.work (Undo i b))) (told w.kept i b) ≡ x
      → Fitting x (told w.kept i b) (w.work (Do i b)) (w.work (Undo i b)) → Waits (acting w i b x)
  acting_waits Nothing is fit = waits
  acting_waits Commit is fit = acts_waits w waits (Do i b) Committing (not_at_rest Commit is refl) (listed (Do i b) fit.0) fit.1
  acting_waits TakeBack is fit = acts_waits w waits (Do i b) TakingBack (not_at_rest TakeBack is refl) (listed (Do i b) fit.0) fit.1
  acting_waits CommitUndo is fit = acts_waits w waits (Undo i b) Committing (not_at_rest CommitUndo is refl) (listed (Do i b) fit.0) fit.1
  acting_waits TakeBackUndo is fit = acts_waits w waits (Undo i b) TakingBack (not_at_rest TakeBackUndo is refl) (listed (Do i b) fit) tt
  acting_waits CarryOutUndo is fit = acts_waits w waits (Undo i b) CarryingOut (not_at_rest CarryOutUndo is refl) (listed (Do i b) fit.0) (fit.1, fit.2)
  acting_waits StopLost is fit = waits
  acting_waits StopAhead is fit = waits

  pub settles_waits : Waits (acting w i b (action w i b))
  settles_waits = by_forgotten (is_in i w.forgotten)
    where
      by_forgotten : (f : Bool) → Waits (acting w i b (if f then Nothing else settle (state_of (w.work (Do i b)) (w.work (Undo i b))) (told w.kept i b)))
      by_forgotten true = waits
      by_forgotten false =
          acting_waits (settle (state_of (w.work (Do i b)) (w.work (Undo i b))) (told w.kept i b)) refl
          (settles_fit (told w.kept i b) (w.work (Do i b)) (w.work (Undo i b)) (waits.possible i b).0)

-- nothing is to be done about a step: it is at rest
pub nothing_rests : (w : World) → Waits w → (i b : ℕ) → is_nothing (action w i b) ≡ true
    → AreAtRest (told w.kept i b) (w.work (Do i b)) (w.work (Undo i b))
nothing_rests w waits i b is = by_forgotten (is_in i w.forgotten) refl is
  where
    by_action : (x : Action) → is_nothing x ≡ true → Fitting x (told w.kept i b) (w.work (Do i b)) (w.work (Undo i b))
        → AreAtRest (told w.kept i b) (w.work (Do i b)) (w.work (Undo i b))
    by_action Nothing is fit = fit
    by_action Commit is fit = absurd (false≢true is)
    by_action TakeBack is fit = absurd (false≢true is)
    by_action CommitUndo is fit = absurd (false≢true is)
    by_action TakeBackUndo is fit = absurd (false≢true is)
    by_action CarryOutUndo is fit = absurd (false≢true is)
    by_action StopLost is fit = absurd fit
    by_action StopAhead is fit = absurd fit

    by_forgotten : (f : Bool) → is_in i w.forgotten ≡ f
        → is_nothing (if f then Nothing else settle (state_of (w.work (Do i b)) (w.work (Undo i b))) (told w.kept i b)) ≡ true
        → AreAtRest (told w.kept i b) (w.work (Do i b)) (w.work (Undo i b))
    by_forgotten true forgotten is = (waits.over i (or_first (is_in i w.forgotten) (not w.turned && is_in i w.before) forgotten)).1 b
    by_forgotten false known is =
        by_action (settle (state_of (w.work (Do i b)) (w.work (Undo i b))) (told w.kept i b)) is
        (settles_fit (told w.kept i b) (w.work (Do i b)) (w.work (Undo i b)) (waits.possible i b).0)

module _ (w : World) (waits : Waits w) (listed : (n : Name) → w.work n ≢ Absent → IsTrue (has w.names n)) (opened : is_opened w.phase ≡ true)
    (all : all_settled w ≡ true) where
  settled : (n : Name) → IsTrue (has w.names n) → (is_nothing (action w (process_of n) (step_of n)) ≡ true) × (is_empty (w.pieces (process_of n)) ≡ true)
  settled n has = and_parts (is_nothing (action w (process_of n) (step_of n))) (is_empty (w.pieces (process_of n))) (of_listed (is_settled w) w.names n all has)

  no_pieces : (i : ℕ) → w.pieces i ≡ []
  no_pieces i = by_pieces (w.pieces i) refl
    where
      by_pieces : (qs : List Piece) → w.pieces i ≡ qs → w.pieces i ≡ []
      by_pieces [] is = is
      by_pieces (p ∷ ps) is =
          let f = waits.found opened i (λ e. not_empty p ps (sym is ∙ e)) in
          absurd (false≢true (sym (ap is_empty (subst (λ k. w.pieces k ≡ p ∷ ps) (sym f.1) is)) ∙ (settled f.0 f.2).1))

  all_rest : (i b : ℕ) → AreAtRest (told w.kept i b) (w.work (Do i b)) (w.work (Undo i b))
  all_rest i b = by_work (w.work (Do i b)) refl
    where
      some : w.work (Do i b) ≢ Absent → AreAtRest (told w.kept i b) (w.work (Do i b)) (w.work (Undo i b))
      some there = nothing_rests w waits i b (settled (Do i b) (listed (Do i b) there)).0

      by_work : (s : Work) → w.work (Do i b) ≡ s → AreAtRest (told w.kept i b) (w.work (Do i b)) (w.work (Undo i b))
      by_work Absent is = absent_rests (told w.kept i b) (w.work (Do i b)) (w.work (Undo i b)) (waits.possible i b).0 is
      by_work Prepared is = some (λ e. prepared≢absent (sym is ∙ e))
      by_work Committed is = some (λ e. committed≢absent (sym is ∙ e))

  pub goes_on_works : Works (record w { phase = Working; turned = false })
  goes_on_works = record {
    phase = refl;
    rights = λ i b. subst (λ ps. Right (told w.kept i b) (job_of ps b) (w.work (Do i b)) (w.work (Undo i b))) (sym (no_pieces i)) (all_rest i b);
    lines = λ i. subst (Line w.kept i) (sym (no_pieces i)) tt;
    over = λ i over. no_pieces i;
  }

-- A restart undoes a step.
pub undoes_waits : (w : World) → Waits w → (i b : ℕ) → is_closed w.phase ≡ true → may_follow w.kept (Undo i b) ≡ true → is_over w i ≡ false
    → Waits (record w { kept = Undo i b ∷ w.kept })
undoes_waits w waits i b closed may not_over = record {
  phase = waits.phase;
  possible = each_step Possible w (record w { kept = Undo i b ∷ w.kept }) i b waits.possible (told_there (Undo i b) w.kept) (λ j c other. refl) (λ j c other. refl)
      (λ j other. refl)
      (subst (λ t. Possible t (job_of (w.pieces i) b) (w.work (Do i b)) (w.work (Undo i b))) (sym (told_here (Undo i b) w.kept))
      (undone_possible (job_of (w.pieces i) b) (w.work (Do i b)) (w.work (Undo i b))
      (subst (λ t. Possible t (job_of (w.pieces i) b) (w.work (Do i b)) (w.work (Undo i b))) (may_undo_done i b (told w.kept i b) may) (waits.possible i b))))
      (λ c other. waits.possible i c);
  left = waits.left;
  found = waits.found;
  over = λ j done. let o = waits.over j done in
      (o.0, λ c. subst (λ t. AreAtRest t (w.work (Do j c)) (w.work (Undo j c))) (sym (told_there (Undo i b) w.kept j c (ap (λ t. t && eqb b c) (other j done)))) (o.1 c));
}
  where
    other : (j : ℕ) → IsTrue (is_done_with w j) → eqb i j ≡ false
    other j done = by_process (eqb i j) refl
      where
        by_process : (t : Bool) → eqb i j ≡ t → eqb i j ≡ false
        by_process true is = absurd (false≢true (sym not_over ∙ done_with_over w i (subst (λ k. IsTrue (is_done_with w k)) (sym (eqb-true i j is)) done)))
        by_process false is = is
