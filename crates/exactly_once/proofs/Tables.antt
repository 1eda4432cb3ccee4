-- The tables of one step: what is right is possible, what lands leaves what is possible, and what a settling does about it.
use Rattle.std.proofs.Common.{◌≡◌, ◌≢◌, ◌⊎◌, inl, inr, ℕ, Bool, true, false, ◌+◌, sym, refl, ap, subst, ◌∙◌, add-zero}
use Rattle.std.specs.Bool.{IsTrue}
use Rattle.std.proofs.lemmas.Bool.{false≢true}
use Rattle.exactly_once.specs.Names.{Name, Do, Undo, Work, Absent, Prepared, Committed, commits, commits_now, committed, taken_back}
use Rattle.exactly_once.specs.Settling.{Answer, Done, Undone, NotDone, Unknown, NoStep, Action, Nothing, Commit, TakeBack, CommitUndo, TakeBackUndo, CarryOutUndo, StopLost, StopAhead, settle, state_of}
use Rattle.exactly_once.specs.Machine.{Stage, Handed, Preparing, Ready, Said, Kept, Committing, TakingBack, CarryingOut, made_by, may_be_made}
use Rattle.exactly_once.specs.Laws.{AreAtRest, stands}
use Rattle.exactly_once.proofs.Facts.{Job, Idle, Doing, Undoing, Are, Right, Fits, MayLand, Possible}

pub differ : {A : Type 0} (f : A → Bool) (x y : A) → f x ≡ true → f y ≡ false → x ≢ y
differ f x y is not same = false≢true (sym not ∙ (sym (ap f same) ∙ is))

abbrev is_absent : Work → Bool
is_absent Absent = true
is_absent Prepared = false
is_absent Committed = false

abbrev is_prepared : Work → Bool
is_prepared Absent = false
is_prepared Prepared = true
is_prepared Committed = false

abbrev is_done : Answer → Bool
is_done Done = true
is_done Undone = false
is_done NotDone = false
is_done Unknown = false
is_done NoStep = false

abbrev is_undone : Answer → Bool
is_undone Done = false
is_undone Undone = true
is_undone NotDone = false
is_undone Unknown = false
is_undone NoStep = false

abbrev is_not_done : Answer → Bool
is_not_done Done = false
is_not_done Undone = false
is_not_done NotDone = true
is_not_done Unknown = false
is_not_done NoStep = false

pub absent≢prepared : Absent ≢ Prepared
absent≢prepared = differ is_absent Absent Prepared refl refl

pub absent≢committed : Absent ≢ Committed
absent≢committed = differ is_absent Absent Committed refl refl

pub prepared≢absent : Prepared ≢ Absent
prepared≢absent = differ is_prepared Prepared Absent refl refl

pub prepared≢committed : Prepared ≢ Committed
prepared≢committed = differ is_prepared Prepared Committed refl refl

pub committed≢absent : Committed ≢ Absent
committed≢absent e = absent≢committed (sym e)

pub committed≢prepared : Committed ≢ Prepared
committed≢prepared e = prepared≢committed (sym e)

pub done≢undone : Done ≢ Undone
done≢undone = differ is_done Done Undone refl refl

pub done≢not_done : Done ≢ NotDone
done≢not_done = differ is_done Done NotDone refl refl

pub undone≢not_done : Undone ≢ NotDone
undone≢not_done = differ is_undone Undone NotDone refl refl

pub unknown≢not_done : Unknown ≢ NotDone
unknown≢not_done e = differ is_not_done NotDone Unknown refl refl (sym e)

pub no_step≢not_done : NoStep ≢ NotDone
no_step≢not_done e = differ is_not_done NotDone NoStep refl refl (sym e)

pub not_done≢done : NotDone ≢ Done
not_done≢done e = done≢not_done (sym e)

pub undone≢done : Undone ≢ Done
undone≢done e = done≢undone (sym e)

-- What is right is possible.

pub fresh : Fits NotDone Absent Absent
fresh = record {
  known = inr (inr refl);
  told = λ e. absurd (absent≢committed e);
  undone = λ e. absurd (absent≢committed e);
  there = λ e. absurd (not_done≢done e);
  behind = λ some. absurd (some refl);
}

held : Fits NotDone Prepared Absent
held = record {
  known = inr (inr refl);
  told = λ e. absurd (prepared≢committed e);
  undone = λ e. absurd (absent≢committed e);
  there = λ e. absurd (not_done≢done e);
  behind = λ some. absurd (some refl);
}

kept : Fits Done Prepared Absent
kept = record {
  known = inl refl;
  told = λ e. done≢not_done;
  undone = λ e. absurd (absent≢committed e);
  there = λ e. prepared≢absent;
  behind = λ some. absurd (some refl);
}

done : Fits Done Committed Absent
done = record {
  known = inl refl;
  told = λ e. done≢not_done;
  undone = λ e. absurd (absent≢committed e);
  there = λ e. committed≢absent;
  behind = λ some. absurd (some refl);
}

undo_held : Fits Done Committed Prepared
undo_held = record {
  known = inl refl;
  told = λ e. done≢not_done;
  undone = λ e. absurd (prepared≢committed e);
  there = λ e. committed≢absent;
  behind = λ some. refl;
}

undo_kept : Fits Undone Committed Prepared
undo_kept = record {
  known = inr (inl refl);
  told = λ e. undone≢not_done;
  undone = λ e. refl;
  there = λ e. committed≢absent;
  behind = λ some. refl;
}

undone_at : (s u : Work) → s ≡ u → s ≢ Prepared → Fits Undone s u
undone_at s u same not = record {
  known = inr (inl refl);
  told = λ e. undone≢not_done;
  undone = λ e. refl;
  there = λ e. absurd (undone≢done e);
  behind = λ some. by_work s same not some;
}
  where
    by_work : (s : Work) → s ≡ u → s ≢ Prepared → u ≢ Absent → s ≡ Committed
    by_work Absent same not some = absurd (some (sym same))
    by_work Prepared same not some = absurd (not refl)
    by_work Committed same not some = refl

from_are : (R : Answer → Work → Work → Type 0) (t : Answer) (s u : Work) (t' : Answer) (s' u' : Work) → Are t s u t' s' u' → R t' s' u' → R t s u
from_are R t s u t' s' u' are r = subst (λ x. R x s u) (sym are.0) (subst (λ x. R t' x u) (sym are.1) (subst (λ x. R t' s' x) (sym are.2) r))

pub at_rest_fits : (t : Answer) (s u : Work) → AreAtRest t s u → Fits t s u
at_rest_fits Done s u r = from_are Fits Done s u Done Committed Absent (refl, r.0, r.1) done
at_rest_fits Undone s u r = undone_at s u r.0 r.1
at_rest_fits NotDone s u r = from_are Fits NotDone s u NotDone Absent Absent (refl, r.0, r.1) fresh
at_rest_fits Unknown s u r = absurd r
at_rest_fits NoStep s u r = absurd r

pub right_possible : (t : Answer) (j : Job) (s u : Work) → Right t j s u → Possible t j s u
right_possible t Idle s u r = (at_rest_fits t s u r, tt)
right_possible t (Doing Handed) s u r = from_are (λ t s u. Possible t (Doing Handed) s u) t s u NotDone Absent Absent r (fresh, tt)
right_possible t (Doing Preparing) s u r = from_are (λ t s u. Possible t (Doing Preparing) s u) t s u NotDone Absent Absent r (fresh, refl)
right_possible t (Doing Ready) s u r = from_are (λ t s u. Possible t (Doing Ready) s u) t s u NotDone Prepared Absent r (held, tt)
right_possible t (Doing Said) s u r = from_are (λ t s u. Possible t (Doing Said) s u) t s u NotDone Prepared Absent r (held, tt)
right_possible t (Doing Kept) s u r = from_are (λ t s u. Possible t (Doing Kept) s u) t s u Done Prepared Absent r (kept, done≢not_done)
right_possible t (Doing Committing) s u r = from_are (λ t s u. Possible t (Doing Committing) s u) t s u Done Prepared Absent r (kept, done≢not_done)
right_possible t (Doing TakingBack) s u r = from_are (λ t s u. Possible t (Doing TakingBack) s u) t s u NotDone Prepared Absent r (held, not_done≢done)
right_possible t (Doing CarryingOut) s u r = absurd r
right_possible t (Undoing Handed) s u r = from_are (λ t s u. Possible t (Undoing Handed) s u) t s u Done Committed Absent r (done, tt)
right_possible t (Undoing Preparing) s u r = from_are (λ t s u. Possible t (Undoing Preparing) s u) t s u Done Committed Absent r (done, (refl, absent≢committed))
right_possible t (Undoing Ready) s u r = from_are (λ t s u. Possible t (Undoing Ready) s u) t s u Done Committed Prepared r (undo_held, tt)
right_possible t (Undoing Said) s u r = from_are (λ t s u. Possible t (Undoing Said) s u) t s u Done Committed Prepared r (undo_held, tt)
right_possible t (Undoing Kept) s u r = from_are (λ t s u. Possible t (Undoing Kept) s u) t s u Undone Committed Prepared r (undo_kept, refl)
right_possible t (Undoing Committing) s u r = from_are (λ t s u. Possible t (Undoing Committing) s u) t s u Undone Committed Prepared r (undo_kept, refl)
right_possible t (Undoing TakingBack) s u r = from_are (λ t s u. Possible t (Undoing TakingBack) s u) t s u Done Committed Prepared r (undo_held, tt)
right_possible t (Undoing CarryingOut) s u r = absurd r

-- A piece that is handed out finds its step at rest.

pub do_handed : (i b : ℕ) (t : Answer) (s u : Work) → IsTrue (may_be_made (Do i b) t) → AreAtRest t s u → Right t (Doing Handed) s u
do_handed i b Done s u may r = absurd (false≢true may)
do_handed i b Undone s u may r = absurd (false≢true may)
do_handed i b NotDone s u may r = (refl, r.0, r.1)
do_handed i b Unknown s u may r = absurd r
do_handed i b NoStep s u may r = absurd r

pub undo_handed : (i b : ℕ) (t : Answer) (s u : Work) → IsTrue (may_be_made (Undo i b) t) → AreAtRest t s u → Right t (Undoing Handed) s u
undo_handed i b Done s u may r = (refl, r.0, r.1)
undo_handed i b Undone s u may r = absurd (false≢true may)
undo_handed i b NotDone s u may r = absurd (false≢true may)
undo_handed i b Unknown s u may r = absurd r
undo_handed i b NoStep s u may r = absurd r

-- What lands while pieces are handed out.

pub do_refused : (t : Answer) (s u : Work) → Right t (Doing Handed) s u → AreAtRest t s u
do_refused t s u r = from_are AreAtRest t s u NotDone Absent Absent r (refl, refl)

pub undo_refused : (t : Answer) (s u : Work) → Right t (Undoing Handed) s u → AreAtRest t s u
undo_refused t s u r = from_are AreAtRest t s u Done Committed Absent r (refl, refl)

pub do_committed : (t : Answer) (s u : Work) → Right t (Doing Committing) s u → AreAtRest t (committed s) u
do_committed t s u r = from_are (λ t s u. AreAtRest t (committed s) u) t s u Done Prepared Absent r (refl, refl)

pub undo_committed : (t : Answer) (s u : Work) → Right t (Undoing Committing) s u → AreAtRest t s (committed u)
undo_committed t s u r = from_are (λ t s u. AreAtRest t s (committed u)) t s u Undone Committed Prepared r (refl, committed≢prepared)

pub do_taken_back : (t : Answer) (s u : Work) → Right t (Doing TakingBack) s u → AreAtRest t (taken_back s) u
do_taken_back t s u r = from_are (λ t s u. AreAtRest t (taken_back s) u) t s u NotDone Prepared Absent r (refl, refl)

pub undo_taken_back : (t : Answer) (s u : Work) → Right t (Undoing TakingBack) s u → AreAtRest t s (taken_back u)
undo_taken_back t s u r = from_are (λ t s u. AreAtRest t s (taken_back u)) t s u Done Committed Prepared r (refl, refl)

-- What a name's work is changed to, of the work of its step and that of its undo.

abbrev pub do_of : Name → Work → Work → Work
do_of (Do i b) x s = x
do_of (Undo i b) x s = s

abbrev pub undo_of : Name → Work → Work → Work
undo_of (Do i b) x u = u
undo_of (Undo i b) x u = x

-- the work of the name itself
abbrev pub of_name : Name → Work → Work → Work
of_name (Do i b) s u = s
of_name (Undo i b) s u = u

abbrev pub own_job : Name → Stage → Job
own_job (Do i b) a = Doing a
own_job (Undo i b) a = Undoing a

pub prepared_right : (n : Name) (t : Answer) (s u : Work) → Right t (own_job n Preparing) s u
    → Right t (own_job n Ready) (do_of n Prepared s) (undo_of n Prepared u)
prepared_right (Do i b) t s u r = (r.0, refl, r.2)
prepared_right (Undo i b) t s u r = (r.0, r.1, refl)

pub committed_rests : (n : Name) (t : Answer) (s u : Work) → Right t (own_job n Committing) s u
    → AreAtRest t (do_of n (committed (of_name n s u)) s) (undo_of n (committed (of_name n s u)) u)
committed_rests (Do i b) t s u r = do_committed t s u r
committed_rests (Undo i b) t s u r = undo_committed t s u r

pub taken_back_rests : (n : Name) (t : Answer) (s u : Work) → Right t (own_job n TakingBack) s u
    → AreAtRest t (do_of n (taken_back (of_name n s u)) s) (undo_of n (taken_back (of_name n s u)) u)
taken_back_rests (Do i b) t s u r = do_taken_back t s u r
taken_back_rests (Undo i b) t s u r = undo_taken_back t s u r

-- What lands at any time.

committed_some : (s : Work) → committed s ≢ Absent → s ≢ Absent
committed_some s some e = some (ap committed e)

some_committed : (s : Work) → s ≢ Absent → committed s ≢ Absent
some_committed Absent some = some
some_committed Prepared some = committed≢absent
some_committed Committed some = some

taken_back_some : (s : Work) → taken_back s ≢ Absent → s ≢ Absent
taken_back_some s some e = some (ap taken_back e)

taken_back_committed : (s : Work) → taken_back s ≡ Committed → s ≡ Committed
taken_back_committed Absent e = e
taken_back_committed Prepared e = absurd (absent≢committed e)
taken_back_committed Committed e = refl

pub prepared_fits : (n : Name) (t : Answer) (s u : Work) → Possible t (own_job n Preparing) s u
    → Fits t (do_of n Prepared s) (undo_of n Prepared u)
prepared_fits (Do i b) t s u r = record {
  known = r.0.known;
  told = λ e. absurd (prepared≢committed e);
  undone = r.0.undone;
  there = λ e. prepared≢absent;
  behind = λ some. absurd (r.0.told (r.0.behind some) r.1);
}
prepared_fits (Undo i b) t s u r = record {
  known = r.0.known;
  told = r.0.told;
  undone = λ e. absurd (prepared≢committed e);
  there = r.0.there;
  behind = λ some. r.1.0;
}

pub ready_possible : (n : Name) (t : Answer) (s u : Work) → Fits t s u → Possible t (own_job n Ready) s u
ready_possible (Do i b) t s u fits = (fits, tt)
ready_possible (Undo i b) t s u fits = (fits, tt)

pub carried_out_fits : (n : Name) (t : Answer) (s u : Work) → Possible t (own_job n CarryingOut) s u
    → Fits t (do_of n Prepared s) (undo_of n Prepared u)
carried_out_fits (Do i b) t s u r = absurd r.1
carried_out_fits (Undo i b) t s u r = prepared_fits (Undo i b) t s u (r.0, r.1)

pub committed_fits : (n : Name) (t : Answer) (s u : Work) → Possible t (own_job n Committing) s u
    → Fits t (do_of n (committed (of_name n s u)) s) (undo_of n (committed (of_name n s u)) u)
committed_fits (Do i b) t s u r = record {
  known = r.0.known;
  told = λ e. r.1;
  undone = r.0.undone;
  there = λ e. some_committed s (r.0.there e);
  behind = λ some. ap committed (r.0.behind some);
}
committed_fits (Undo i b) t s u r = record {
  known = r.0.known;
  told = r.0.told;
  undone = λ e. r.1;
  there = r.0.there;
  behind = λ some. r.0.behind (committed_some u some);
}

pub taken_back_fits : (n : Name) (t : Answer) (s u : Work) → Possible t (own_job n TakingBack) s u
    → Fits t (do_of n (taken_back (of_name n s u)) s) (undo_of n (taken_back (of_name n s u)) u)
taken_back_fits (Do i b) t s u r = record {
  known = r.0.known;
  told = λ e. r.0.told (taken_back_committed s e);
  undone = r.0.undone;
  there = λ e. absurd (r.1 e);
  behind = λ some. ap taken_back (r.0.behind some);
}
taken_back_fits (Undo i b) t s u r = record {
  known = r.0.known;
  told = r.0.told;
  undone = λ e. r.0.undone (taken_back_committed u e);
  there = r.0.there;
  behind = λ some. r.0.behind (taken_back_some u some);
}

-- what is prepared was never committed before
pub not_committed : (n : Name) (t : Answer) (s u : Work) → Possible t (own_job n Preparing) s u → of_name n s u ≢ Committed
not_committed (Do i b) t s u r = λ e. r.0.told e r.1
not_committed (Undo i b) t s u r = r.1.1

pub not_carried_out : (n : Name) (t : Answer) (s u : Work) → Possible t (own_job n CarryingOut) s u → of_name n s u ≢ Committed
not_carried_out (Do i b) t s u r = absurd r.1
not_carried_out (Undo i b) t s u r = r.1.1

-- What is kept.

pub kept_right : (n : Name) (t z : Answer) (s u : Work) → z ≡ made_by n → Right t (own_job n Said) s u → Right z (own_job n Kept) s u
kept_right (Do i b) t z s u is r = (is, r.1, r.2)
kept_right (Undo i b) t z s u is r = (is, r.1, r.2)

pub said_may : (n : Name) (t : Answer) (s u : Work) → Right t (own_job n Said) s u → IsTrue (may_be_made n t)
said_may (Do i b) t s u r = ap (may_be_made (Do i b)) r.0
said_may (Undo i b) t s u r = ap (may_be_made (Undo i b)) r.0

-- a `restart` undoes what is done
pub undone_possible : (j : Job) (s u : Work) → Possible Done j s u → Possible Undone j s u
undone_possible j s u r = (fits, lands j s u r.1)
  where
    fits : Fits Undone s u
    fits = record {
      known = inr (inl refl);
      told = λ e. undone≢not_done;
      undone = λ e. refl;
      there = λ e. absurd (undone≢done e);
      behind = r.0.behind;
    }

    lands : (j : Job) (s u : Work) → MayLand Done j s u → MayLand Undone j s u
    lands Idle s u l = tt
    lands (Doing Handed) s u l = tt
    lands (Doing Preparing) s u l = absurd (done≢not_done l)
    lands (Doing Ready) s u l = tt
    lands (Doing Said) s u l = tt
    lands (Doing Kept) s u l = undone≢not_done
    lands (Doing Committing) s u l = undone≢not_done
    lands (Doing TakingBack) s u l = absurd (l refl)
    lands (Doing CarryingOut) s u l = l
    lands (Undoing Handed) s u l = tt
    lands (Undoing Preparing) s u l = l
    lands (Undoing Ready) s u l = tt
    lands (Undoing Said) s u l = tt
    lands (Undoing Kept) s u l = refl
    lands (Undoing Committing) s u l = refl
    lands (Undoing TakingBack) s u l = tt
    lands (Undoing CarryingOut) s u l = l

pub may_undo_done : (i b : ℕ) (t : Answer) → IsTrue (may_be_made (Undo i b) t) → t ≡ Done
may_undo_done i b Done may = refl
may_undo_done i b Undone may = absurd (false≢true may)
may_undo_done i b NotDone may = absurd (false≢true may)
may_undo_done i b Unknown may = absurd (false≢true may)
may_undo_done i b NoStep may = absurd (false≢true may)

pub may_do_not_done : (i b : ℕ) (t : Answer) → IsTrue (may_be_made (Do i b) t) → t ≡ NotDone
may_do_not_done i b Done may = absurd (false≢true may)
may_do_not_done i b Undone may = absurd (false≢true may)
may_do_not_done i b NotDone may = refl
may_do_not_done i b Unknown may = absurd (false≢true may)
may_do_not_done i b NoStep may = absurd (false≢true may)

-- What a settling does fits: it stops nowhere, and where it does nothing the step is at rest.
abbrev pub Fitting : Action → Answer → Work → Work → Type 0
Fitting Nothing t s u = AreAtRest t s u
Fitting Commit t s u = (s ≢ Absent) × (t ≢ NotDone)
Fitting TakeBack t s u = (s ≢ Absent) × (t ≢ Done)
Fitting CommitUndo t s u = (s ≢ Absent) × (t ≡ Undone)
Fitting TakeBackUndo t s u = s ≢ Absent
Fitting CarryOutUndo t s u = (s ≢ Absent) × (s ≡ Committed) × (u ≢ Committed)
Fitting StopLost t s u = ⊥
Fitting StopAhead t s u = ⊥

-- the files know each step
pub never_unknown : (s u : Work) → Fits Unknown s u → ⊥
never_unknown s u f = by_known f.known
  where
    by_known : (Unknown ≡ Done) ⊎ (Unknown ≡ Undone) ⊎ (Unknown ≡ NotDone) → ⊥
    by_known (inl e) = differ is_done Done Unknown refl refl (sym e)
    by_known (inr (inl e)) = differ is_undone Undone Unknown refl refl (sym e)
    by_known (inr (inr e)) = differ is_not_done NotDone Unknown refl refl (sym e)

pub never_no_step : (s u : Work) → Fits NoStep s u → ⊥
never_no_step s u f = by_known f.known
  where
    by_known : (NoStep ≡ Done) ⊎ (NoStep ≡ Undone) ⊎ (NoStep ≡ NotDone) → ⊥
    by_known (inl e) = differ is_done Done NoStep refl refl (sym e)
    by_known (inr (inl e)) = differ is_undone Undone NoStep refl refl (sym e)
    by_known (inr (inr e)) = differ is_not_done NotDone NoStep refl refl (sym e)

pub settles_fit : (t : Answer) (s u : Work) → Fits t s u → Fitting (settle (state_of s u) t) t s u
settles_fit Done Absent Absent f = f.there refl refl
settles_fit Done Absent Prepared f = absurd (f.there refl refl)
settles_fit Done Absent Committed f = absurd (f.there refl refl)
settles_fit Done Prepared Absent f = (prepared≢absent, done≢not_done)
settles_fit Done Prepared Prepared f = prepared≢absent
settles_fit Done Prepared Committed f = done≢undone (f.undone refl)
settles_fit Done Committed Absent f = (refl, refl)
settles_fit Done Committed Prepared f = committed≢absent
settles_fit Done Committed Committed f = done≢undone (f.undone refl)
settles_fit Undone Absent Absent f = (refl, absent≢prepared)
settles_fit Undone Absent Prepared f = absurd (absent≢committed (f.behind prepared≢absent))
settles_fit Undone Absent Committed f = absurd (absent≢committed (f.behind committed≢absent))
settles_fit Undone Prepared Absent f = (prepared≢absent, undone≢done)
settles_fit Undone Prepared Prepared f = (prepared≢absent, refl)
settles_fit Undone Prepared Committed f = absurd (prepared≢committed (f.behind committed≢absent))
settles_fit Undone Committed Absent f = (committed≢absent, refl, absent≢committed)
settles_fit Undone Committed Prepared f = (committed≢absent, refl)
settles_fit Undone Committed Committed f = (refl, committed≢prepared)
settles_fit NotDone Absent Absent f = (refl, refl)
settles_fit NotDone Absent Prepared f = absent≢committed (f.behind prepared≢absent)
settles_fit NotDone Absent Committed f = absent≢committed (f.behind committed≢absent)
settles_fit NotDone Prepared Absent f = (prepared≢absent, not_done≢done)
settles_fit NotDone Prepared Prepared f = prepared≢committed (f.behind prepared≢absent)
settles_fit NotDone Prepared Committed f = prepared≢committed (f.behind committed≢absent)
settles_fit NotDone Committed u f = absurd (f.told refl refl)
settles_fit Unknown s u f = absurd (never_unknown s u f)
settles_fit NoStep s u f = absurd (never_no_step s u f)

-- about what is at rest nothing is done
pub rest_settled : (t : Answer) (s u : Work) → AreAtRest t s u → settle (state_of s u) t ≡ Nothing
rest_settled Done s u r = from_are (λ t s u. settle (state_of s u) t ≡ Nothing) Done s u Done Committed Absent (refl, r.0, r.1) refl
rest_settled Undone Absent u r = subst (λ u. settle (state_of Absent u) Undone ≡ Nothing) r.0 refl
rest_settled Undone Prepared u r = absurd (r.1 refl)
rest_settled Undone Committed u r = subst (λ u. settle (state_of Committed u) Undone ≡ Nothing) r.0 refl
rest_settled NotDone s u r = from_are (λ t s u. settle (state_of s u) t ≡ Nothing) NotDone s u NotDone Absent Absent (refl, r.0, r.1) refl
rest_settled Unknown s u r = absurd r
rest_settled NoStep s u r = absurd r

-- a step of which the system has nothing is at rest
pub absent_rests : (t : Answer) (s u : Work) → Fits t s u → s ≡ Absent → AreAtRest t s u
absent_rests t s u fits absent = subst (λ s. AreAtRest t s u) (sym absent) (by_told t (subst (λ s. Fits t s u) absent fits))
  where
    nothing : (t : Answer) (u : Work) → Fits t Absent u → u ≡ Absent
    nothing t Absent f = refl
    nothing t Prepared f = absurd (absent≢committed (f.behind prepared≢absent))
    nothing t Committed f = absurd (absent≢committed (f.behind committed≢absent))

    by_told : (t : Answer) → Fits t Absent u → AreAtRest t Absent u
    by_told Done f = absurd (f.there refl refl)
    by_told Undone f = (sym (nothing Undone u f), absent≢prepared)
    by_told NotDone f = (refl, nothing NotDone u f)
    by_told Unknown f = absurd (never_unknown Absent u f)
    by_told NoStep f = absurd (never_no_step Absent u f)

-- How often something was committed.

pub counted_committed : (s : Work) → commits s + commits_now s ≡ commits (committed s)
counted_committed Absent = refl
counted_committed Prepared = refl
counted_committed Committed = refl

pub counted_taken_back : (s : Work) → commits s ≡ commits (taken_back s)
counted_taken_back Absent = refl
counted_taken_back Prepared = refl
counted_taken_back Committed = refl

pub never_counted : (s : Work) → s ≢ Committed → commits s ≡ 0
never_counted Absent not = refl
never_counted Prepared not = refl
never_counted Committed not = absurd (not refl)

pub rest_times : (t : Answer) (s u : Work) → AreAtRest t s u → commits s ≡ commits u + stands t
rest_times Done s u r = from_are (λ t s u. commits s ≡ commits u + stands t) Done s u Done Committed Absent (refl, r.0, r.1) refl
rest_times Undone s u r = ap commits r.0 ∙ sym (add-zero (commits u))
rest_times NotDone s u r = from_are (λ t s u. commits s ≡ commits u + stands t) NotDone s u NotDone Absent Absent (refl, r.0, r.1) refl
rest_times Unknown s u r = absurd r
rest_times NoStep s u r = absurd r
