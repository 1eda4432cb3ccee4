-- The laws, from what is sound at each moment.
use Rattle.std.proofs.Common.{◌≡◌, ◌≢◌, ◌⊎◌, inl, inr, ℕ, suc, ◌+◌, ◌≤◌, Bool, true, false, not, if◌then◌else◌, ◌&&◌, ◌||◌, eqb, List, [], ◌∷◌, sym, refl, ap, subst, ◌∙◌, arith}
use Rattle.std.specs.Bool.{IsTrue}
use Rattle.std.proofs.lemmas.Bool.{and_parts, eqb-true}
use Rattle.exactly_once.specs.Names.{Name, Do, Undo, Work, Absent, Prepared, Committed, commits, count, has}
use Rattle.exactly_once.specs.Settling.{Answer, Done, Undone, NotDone, Unknown, NoStep, Action, Nothing, StopLost, StopAhead, settle, state_of}
use Rattle.exactly_once.specs.Machine.{Event, World, is_in, is_working, run, start, told}
use Rattle.exactly_once.specs.Laws.{InOrder, AreAtRest, IsExact, IsExactlyOnce, NobodyHasToDecide, NothingIsDoneTwice, NothingIsLeftOver, WhatIsCommittedStays, stands}
use Rattle.exactly_once.proofs.Facts.{Fits, Right, Sound, Waits, Works, job_of}
use Rattle.exactly_once.proofs.Sound.{again, run_sound, start_sound, works_of}
use Rattle.exactly_once.proofs.Tables.{Fitting, done≢not_done, done≢undone, never_no_step, never_unknown, may_do_not_done, may_undo_done, rest_times, right_possible, settles_fit, undone≢not_done}
use Rattle.exactly_once.proofs.Tests.{or_first, or_second}

sound_at : (es : List Event) → Sound [] (run es start)
sound_at es = run_sound [] es start start_sound

fits_at : (old : List Name) (w : World) → Sound old w → (i b : ℕ) → Fits (told w.kept i b) (w.work (Do i b)) (w.work (Undo i b))
fits_at old w sound i b = by_now sound.now
  where
    by_now : Works w ⊎ Waits w → Fits (told w.kept i b) (w.work (Do i b)) (w.work (Undo i b))
    by_now (inl works) = (right_possible (told w.kept i b) (job_of (w.pieces i) b) (w.work (Do i b)) (w.work (Undo i b)) (works.rights i b)).0
    by_now (inr waits) = (waits.possible i b).0

-- a step of whose process no piece is with the driver
exact_at : (old : List Name) (w : World) → Sound old w → is_working w.phase ≡ true → (i b : ℕ) → w.pieces i ≡ [] → IsExact w i b
exact_at old w sound working i b none =
    let rest = subst (λ ps. Right (told w.kept i b) (job_of ps b) (w.work (Do i b)) (w.work (Undo i b))) none ((works_of old w sound working).rights i b) in
    record {
      at_rest = rest;
      times = sound.counted (Do i b)
          ∙ (rest_times (told w.kept i b) (w.work (Do i b)) (w.work (Undo i b)) rest
          ∙ ap (λ k. k + stands (told w.kept i b)) (sym (sound.counted (Undo i b))));
    }

pub exactly_once : IsExactlyOnce
exactly_once es i b working none = exact_at [] (run es start) (sound_at es) working i b none

pub nothing_is_left_over : NothingIsLeftOver
nothing_is_left_over es i b working over =
    exact_at [] (run es start) (sound_at es) working i b ((works_of [] (run es start) (sound_at es) working).over i over)

-- How often the history has a name.

abbrev times_done : Answer → ℕ
times_done Done = 1
times_done Undone = 1
times_done NotDone = 0
times_done Unknown = 0
times_done NoStep = 0

abbrev times_undone : Answer → ℕ
times_undone Done = 0
times_undone Undone = 1
times_undone NotDone = 0
times_undone Unknown = 0
times_undone NoStep = 0

-- the newest effect is of this step, or it is of another one
count_do : (ns : List Name) → InOrder ns → (i b : ℕ) → count ns (Do i b) ≡ times_done (told ns i b)
count_do [] order i b = refl
count_do (Do j c ∷ ns) order i b = by_step (eqb j i && eqb c b) refl (count_do ns order.1 i b)
  where
    by_step : (t : Bool) → (eqb j i && eqb c b) ≡ t → count ns (Do i b) ≡ times_done (told ns i b)
        → (if t then suc (count ns (Do i b)) else count ns (Do i b)) ≡ times_done (if t then Done else told ns i b)
    by_step true is before =
        let parts = and_parts (eqb j i) (eqb c b) is in
        let fresh = subst (λ k. told ns k b ≡ NotDone) (eqb-true j i parts.0) (subst (λ d. told ns j d ≡ NotDone) (eqb-true c b parts.1) (may_do_not_done j c (told ns j c) order.0)) in
        let none = before ∙ ap times_done fresh in
        omega arith
    by_step false is before = before
count_do (Undo j c ∷ ns) order i b = by_step (eqb j i && eqb c b) refl (count_do ns order.1 i b)
  where
    by_step : (t : Bool) → (eqb j i && eqb c b) ≡ t → count ns (Do i b) ≡ times_done (told ns i b)
        → count ns (Do i b) ≡ times_done (if t then Undone else told ns i b)
    by_step true is before =
        let parts = and_parts (eqb j i) (eqb c b) is in
        let done = subst (λ k. told ns k b ≡ Done) (eqb-true j i parts.0) (subst (λ d. told ns j d ≡ Done) (eqb-true c b parts.1) (may_undo_done j c (told ns j c) order.0)) in
        before ∙ ap times_done done
    by_step false is before = before

count_undo : (ns : List Name) → InOrder ns → (i b : ℕ) → count ns (Undo i b) ≡ times_undone (told ns i b)
count_undo [] order i b = refl
count_undo (Do j c ∷ ns) order i b = by_step (eqb j i && eqb c b) refl (count_undo ns order.1 i b)
  where
    by_step : (t : Bool) → (eqb j i && eqb c b) ≡ t → count ns (Undo i b) ≡ times_undone (told ns i b)
        → count ns (Undo i b) ≡ times_undone (if t then Done else told ns i b)
    by_step true is before =
        let parts = and_parts (eqb j i) (eqb c b) is in
        let fresh = subst (λ k. told ns k b ≡ NotDone) (eqb-true j i parts.0) (subst (λ d. told ns j d ≡ NotDone) (eqb-true c b parts.1) (may_do_not_done j c (told ns j c) order.0)) in
        before ∙ ap times_undone fresh
    by_step false is before = before
count_undo (Undo j c ∷ ns) order i b = by_step (eqb j i && eqb c b) refl (count_undo ns order.1 i b)
  where
    by_step : (t : Bool) → (eqb j i && eqb c b) ≡ t → count ns (Undo i b) ≡ times_undone (told ns i b)
        → (if t then suc (count ns (Undo i b)) else count ns (Undo i b)) ≡ times_undone (if t then Undone else told ns i b)
    by_step true is before =
        let parts = and_parts (eqb j i) (eqb c b) is in
        let done = subst (λ k. told ns k b ≡ Done) (eqb-true j i parts.0) (subst (λ d. told ns j d ≡ Done) (eqb-true c b parts.1) (may_undo_done j c (told ns j c) order.0)) in
        let none = before ∙ ap times_undone done in
        omega arith
    by_step false is before = before

at_most : (t : Answer) → times_undone t ≤ 1
at_most Done = omega arith
at_most Undone = omega arith
at_most NotDone = omega arith
at_most Unknown = omega arith
at_most NoStep = omega arith

at_least : (t : Answer) → 0 ≤ times_undone t
at_least t = omega arith

-- what was committed is in the history
done_within : (t : Answer) (s u : Work) → Fits t s u → (commits s ≤ times_done t) × (times_done t ≤ 1)
done_within Done s u fits = (most s, omega arith)
  where
    most : (s : Work) → commits s ≤ 1
    most Absent = omega arith
    most Prepared = omega arith
    most Committed = omega arith
done_within Undone s u fits = (most s, omega arith)
  where
    most : (s : Work) → commits s ≤ 1
    most Absent = omega arith
    most Prepared = omega arith
    most Committed = omega arith
done_within NotDone Absent u fits = (omega arith, omega arith)
done_within NotDone Prepared u fits = (omega arith, omega arith)
done_within NotDone Committed u fits = absurd (fits.told refl refl)
done_within Unknown s u fits = absurd (never_unknown s u fits)
done_within NoStep s u fits = absurd (never_no_step s u fits)

undone_within : (t : Answer) (s u : Work) → Fits t s u → (commits u ≤ times_undone t) × (times_undone t ≤ 1)
undone_within t s Absent fits = (at_least t, at_most t)
undone_within t s Prepared fits = (at_least t, at_most t)
undone_within t s Committed fits = subst (λ t. (1 ≤ times_undone t) × (times_undone t ≤ 1)) (sym (fits.undone refl)) (omega arith, omega arith)

pub nothing_is_done_twice : NothingIsDoneTwice
nothing_is_done_twice es (Do i b) =
    let sound = sound_at es in
    let within = done_within (told (run es start).kept i b) ((run es start).work (Do i b)) ((run es start).work (Undo i b)) (fits_at [] (run es start) sound i b) in
    let x = sound.counted (Do i b) in
    let y = count_do (run es start).kept sound.ordered i b in (
      subst (λ k. k ≤ count (run es start).kept (Do i b)) (sym x) (subst (λ k. commits ((run es start).work (Do i b)) ≤ k) (sym y) within.0),
      subst (λ k. k ≤ 1) (sym y) within.1,
    )
nothing_is_done_twice es (Undo i b) =
    let sound = sound_at es in
    let within = undone_within (told (run es start).kept i b) ((run es start).work (Do i b)) ((run es start).work (Undo i b)) (fits_at [] (run es start) sound i b) in
    let x = sound.counted (Undo i b) in
    let y = count_undo (run es start).kept sound.ordered i b in (
      subst (λ k. k ≤ count (run es start).kept (Undo i b)) (sym x) (subst (λ k. commits ((run es start).work (Undo i b)) ≤ k) (sym y) within.0),
      subst (λ k. k ≤ 1) (sym y) within.1,
    )

-- What the files tell of is in the history.

pub told_has_do : (ns : List Name) (i b : ℕ) → InOrder ns → told ns i b ≢ NotDone → IsTrue (has ns (Do i b))
told_has_do [] i b order not = absurd (not refl)
told_has_do (Do j c ∷ ns) i b order not = by_step (eqb j i && eqb c b) (told_has_do ns i b order.1) not
  where
    by_step : (t : Bool) → (told ns i b ≢ NotDone → IsTrue (has ns (Do i b))) → (if t then Done else told ns i b) ≢ NotDone → (t || has ns (Do i b)) ≡ true
    by_step true before not = refl
    by_step false before not = before not
told_has_do (Undo j c ∷ ns) i b order not = by_step (eqb j i && eqb c b) refl (told_has_do ns i b order.1) not
  where
    by_step : (t : Bool) → (eqb j i && eqb c b) ≡ t → (told ns i b ≢ NotDone → IsTrue (has ns (Do i b))) → (if t then Undone else told ns i b) ≢ NotDone
        → has ns (Do i b) ≡ true
    by_step true is before not =
        let parts = and_parts (eqb j i) (eqb c b) is in
        let done = subst (λ k. told ns k b ≡ Done) (eqb-true j i parts.0) (subst (λ d. told ns j d ≡ Done) (eqb-true c b parts.1) (may_undo_done j c (told ns j c) order.0)) in
        before (λ e. done≢not_done (sym done ∙ e))
    by_step false is before not = before not

told_has_undo : (ns : List Name) (i b : ℕ) → told ns i b ≡ Undone → IsTrue (has ns (Undo i b))
told_has_undo [] i b undone = absurd (undone≢not_done (sym undone))
told_has_undo (Do j c ∷ ns) i b undone = by_step (eqb j i && eqb c b) (told_has_undo ns i b) undone
  where
    by_step : (t : Bool) → (told ns i b ≡ Undone → IsTrue (has ns (Undo i b))) → (if t then Done else told ns i b) ≡ Undone → has ns (Undo i b) ≡ true
    by_step true before undone = absurd (done≢undone undone)
    by_step false before undone = before undone
told_has_undo (Undo j c ∷ ns) i b undone = by_step (eqb j i && eqb c b) (told_has_undo ns i b) undone
  where
    by_step : (t : Bool) → (told ns i b ≡ Undone → IsTrue (has ns (Undo i b))) → (if t then Undone else told ns i b) ≡ Undone → (t || has ns (Undo i b)) ≡ true
    by_step true before undone = refl
    by_step false before undone = before undone

committed_has : (w : World) → Sound [] w → (n : Name) → w.work n ≡ Committed → IsTrue (has w.kept n)
committed_has w sound (Do i b) is = told_has_do w.kept i b sound.ordered ((fits_at [] w sound i b).told is)
committed_has w sound (Undo i b) is = told_has_undo w.kept i b ((fits_at [] w sound i b).undone is)

pub what_is_committed_stays : WhatIsCommittedStays
what_is_committed_stays es later n is =
    (run_sound (run es start).kept later (run es start) (again [] (run es start) (sound_at es))).grown n (committed_has (run es start) (sound_at es) n is)

-- A settling stops nowhere.

abbrev IsPassed : Action → Type 0
IsPassed StopLost = ⊥
IsPassed StopAhead = ⊥
IsPassed x = Unit

pub nobody_has_to_decide : NobodyHasToDecide
nobody_has_to_decide es i b = record {
  not_lost = λ e. subst (λ x. IsPassed x) e (passes (is_in i (run es start).forgotten));
  not_ahead = λ e. subst (λ x. IsPassed x) e (passes (is_in i (run es start).forgotten));
  forgotten = λ f. at_rest f (sound_at es).now;
}
  where
    by_fit : (x : Action) → Fitting x (told (run es start).kept i b) ((run es start).work (Do i b)) ((run es start).work (Undo i b)) → IsPassed x
    by_fit StopLost fit = fit
    by_fit StopAhead fit = fit
    by_fit x fit = tt

    passes : (f : Bool) → IsPassed (if f then Nothing else settle (state_of ((run es start).work (Do i b)) ((run es start).work (Undo i b))) (told (run es start).kept i b))
    passes true = tt
    passes false =
        by_fit (settle (state_of ((run es start).work (Do i b)) ((run es start).work (Undo i b))) (told (run es start).kept i b))
        (settles_fit (told (run es start).kept i b) ((run es start).work (Do i b)) ((run es start).work (Undo i b)) (fits_at [] (run es start) (sound_at es) i b))

    at_rest : IsTrue (is_in i (run es start).forgotten) → Works (run es start) ⊎ Waits (run es start)
        → AreAtRest (told (run es start).kept i b) ((run es start).work (Do i b)) ((run es start).work (Undo i b))
    at_rest f (inl works) =
        subst (λ ps. Right (told (run es start).kept i b) (job_of ps b) ((run es start).work (Do i b)) ((run es start).work (Undo i b)))
        (works.over i (or_second (is_in i (run es start).ended) (is_in i (run es start).before || is_in i (run es start).forgotten) (or_second (is_in i (run es start).before) (is_in i (run es start).forgotten) f)))
        (works.rights i b)
    at_rest f (inr waits) = (waits.over i (or_first (is_in i (run es start).forgotten) (not (run es start).turned && is_in i (run es start).before) f)).1 b
