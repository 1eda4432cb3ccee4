-- Each event leaves all sound.
use Rattle.std.proofs.Common.{◌≡◌, ◌≢◌, ◌⊎◌, inl, inr, ◌+◌, ℕ, Bool, true, false, not, if◌then◌else◌, ◌&&◌, ◌||◌, eqb, List, [], ◌∷◌, ◌++◌, map, sym, refl, ap, subst, ◌∙◌}
use Rattle.std.specs.Bool.{IsTrue}
use Rattle.std.specs.List.{list_any}
use Rattle.std.proofs.lemmas.Bool.{and_from, and_parts, eqb-true, false≢true}
use Rattle.exactly_once.specs.Names.{Name, Do, Undo, Work, Absent, Prepared, Committed, commits, commits_now, committed, has, process_of, same_name, step_of, taken_back}
use Rattle.exactly_once.specs.Settling.{Answer, Action, Nothing, Commit, TakeBack, CommitUndo, TakeBackUndo, CarryOutUndo, StopLost, StopAhead}
use Rattle.exactly_once.specs.Machine.{Stage, Handed, Preparing, Ready, Said, Kept, Committing, TakingBack, CarryingOut, Piece, World, Closed, Working, Event, Dies, Stops, Opens, Settles, GoesOn, Hands, Begins, Refuses, Says, Keeps, Answers, GoesBack, Lands, Ends, Undoes, Turns, acting, action, after_opening, all_settled, answers, begins, handed, happens, is_at_work, is_closed, is_empty, is_in, is_opened, is_over, is_working, keeps, lands, may_end, may_follow, may_hand, may_turn, may_undo, of_first, put_times, put_work, refuses, run, says, start, told, void, with_pieces}
use Rattle.exactly_once.proofs.Facts.{Left, Line, Possible, Right, Sound, Waits, Works}
use Rattle.exactly_once.proofs.Names.{same_is, same_self, work_here, work_there}
use Rattle.exactly_once.proofs.Steps.{changed}
use Rattle.exactly_once.proofs.Tables.{counted_committed, counted_taken_back, do_refused, never_counted, not_carried_out, not_committed, own_job, right_possible, undo_refused, fresh}
use Rattle.exactly_once.proofs.Tests.{closed_works, if_keeps, in_both, not_is, opened_works, or_elim, or_first, or_second}
use Rattle.exactly_once.proofs.Waiting.{carried_out_waits, committed_waits, committing_waits, goes_on_works, opened_waits, own_possible, prepared_waits, settles_waits, stopped_waits, stopped_works, taken_back_waits, undoes_waits}
use Rattle.exactly_once.proofs.Working.{committed_works, gone_works, goes_back_works, hands_works, keeps_works, of_name_is, own_right, prepared_works, restage_works, said_follows, taken_back_works}

pub works_of : (old : List Name) (w : World) → Sound old w → is_working w.phase ≡ true → Works w
works_of old w sound working = by_now sound.now
  where
    by_now : Works w ⊎ Waits w → Works w
    by_now (inl works) = works
    by_now (inr waits) = absurd (false≢true (sym waits.phase ∙ working))

pub waits_of : (old : List Name) (w : World) → Sound old w → (is_working w.phase ≡ true → ⊥) → Waits w
waits_of old w sound not = by_now sound.now
  where
    by_now : Works w ⊎ Waits w → Waits w
    by_now (inl works) = absurd (not works.phase)
    by_now (inr waits) = waits

moved : (old : List Name) (w : World) (i : ℕ) (qs : List Piece) → Sound old w → Works (with_pieces w i qs) ⊎ Waits (with_pieces w i qs)
    → Sound old (with_pieces w i qs)
moved old w i qs sound now = record { grown = sound.grown; counted = sound.counted; listed = sound.listed; ordered = sound.ordered; now = now }

-- of the first piece of a process, if there is one
first_sound : (old : List Name) (w : World) (i : ℕ) (f : ℕ → Piece → List Piece → World) → Sound old w
    → ((p : Piece) (ps : List Piece) → w.pieces (process_of p.name) ≡ p ∷ ps → Sound old (f (process_of p.name) p ps))
    → Sound old (of_first w (f i) (w.pieces i))
first_sound old w i f sound rest = by_pieces (w.pieces i) refl
  where
    own : (p : Piece) (ps : List Piece) → w.pieces i ≡ p ∷ ps → Works w ⊎ Waits w → process_of p.name ≡ i
    own p ps is (inl works) = (subst (Line w.kept i) is (works.lines i)).0
    own p ps is (inr waits) = (subst (Left i) is (waits.left i)).0

    by_pieces : (qs : List Piece) → w.pieces i ≡ qs → Sound old (of_first w (f i) qs)
    by_pieces [] is = sound
    by_pieces (p ∷ ps) is =
        let at = own p ps is sound.now in
        subst (λ k. Sound old (f k p ps)) at (rest p ps (subst (λ k. w.pieces k ≡ p ∷ ps) (sym at) is))

-- What lands.

counted_changed : (w : World) (n : Name) (x : Work) (times : Name → ℕ) → ((m : Name) → same_name n m ≡ false → times m ≡ w.times m)
    → times n ≡ commits x → ((m : Name) → w.times m ≡ commits (w.work m)) → (m : Name) → times m ≡ commits (put_work w.work n x m)
counted_changed w n x times same here old m = by_name (same_name n m) refl
  where
    by_name : (t : Bool) → same_name n m ≡ t → times m ≡ commits (put_work w.work n x m)
    by_name true is = subst (λ k. times k ≡ commits (put_work w.work n x k)) (same_is n m is) (here ∙ sym (ap commits (work_here w.work n x)))
    by_name false is = same m is ∙ (old m ∙ sym (ap commits (work_there w.work n m x is)))

listed_changed : (w : World) (n : Name) (x : Work) (names : List Name) → (x ≢ Absent → IsTrue (has names n))
    → ((m : Name) → IsTrue (has w.names m) → IsTrue (has names m)) → ((m : Name) → w.work m ≢ Absent → IsTrue (has w.names m))
    → (m : Name) → put_work w.work n x m ≢ Absent → IsTrue (has names m)
listed_changed w n x names here grows old m = by_name (same_name n m) refl
  where
    by_name : (t : Bool) → same_name n m ≡ t → put_work w.work n x m ≢ Absent → IsTrue (has names m)
    by_name true is some =
        subst (λ k. IsTrue (has names k)) (same_is n m is)
        (here (λ e. subst (λ k. put_work w.work n x k ≢ Absent) (sym (same_is n m is)) some (work_here w.work n x ∙ e)))
    by_name false is some = grows m (old m (λ e. some (work_there w.work n m x is ∙ e)))

never_carried : (n : Name) (t : Answer) (s u : Work) → Right t (own_job n CarryingOut) s u → ⊥
never_carried (Do i b) t s u r = r
never_carried (Undo i b) t s u r = r

module _ (old : List Name) (w : World) (sound : Sound old w) (n : Name) (live : Bool) (ps : List Piece) where
  -- the first piece of its process is at this stage
  abbrev IsFirst : Stage → Type 0
  IsFirst a = w.pieces (process_of n) ≡ record { name = n; live = live; stage = a } ∷ ps

  own : (a : Stage) → IsFirst a → Works w ⊎ Waits w
      → Possible (told w.kept (process_of n) (step_of n)) (own_job n a) (w.work (Do (process_of n) (step_of n))) (w.work (Undo (process_of n) (step_of n)))
  own a is (inl works) =
      right_possible (told w.kept (process_of n) (step_of n)) (own_job n a) (w.work (Do (process_of n) (step_of n))) (w.work (Undo (process_of n) (step_of n)))
      (own_right w works n live a ps is)
  own a is (inr waits) = own_possible w waits n live a ps is

  -- it is prepared, which it never was before
  newly : (qs : List Piece) → w.work n ≢ Committed
      → Works (changed w n Prepared qs w.times (n ∷ w.names)) ⊎ Waits (changed w n Prepared qs w.times (n ∷ w.names))
      → Sound old (changed w n Prepared qs w.times (n ∷ w.names))
  newly qs not now = record {
    grown = sound.grown;
    counted = counted_changed w n Prepared w.times (λ m other. refl) (sound.counted n ∙ never_counted (w.work n) not) sound.counted;
    listed = listed_changed w n Prepared (n ∷ w.names) (λ some. or_first (same_name n n) (has w.names n) (same_self n))
        (λ m. or_second (same_name n m) (has w.names m)) sound.listed;
    ordered = sound.ordered;
    now = now;
  }

  prepared_sound : IsFirst Preparing → Sound old (changed w n Prepared (record { name = n; live = live; stage = Ready } ∷ ps) w.times (n ∷ w.names))
  prepared_sound is =
      newly (record { name = n; live = live; stage = Ready } ∷ ps)
      (λ e. not_committed n (told w.kept (process_of n) (step_of n)) (w.work (Do (process_of n) (step_of n))) (w.work (Undo (process_of n) (step_of n))) (own Preparing is sound.now) (sym (of_name_is w.work n) ∙ e))
      (by_now sound.now)
    where
      by_now : Works w ⊎ Waits w
          → Works (changed w n Prepared (record { name = n; live = live; stage = Ready } ∷ ps) w.times (n ∷ w.names))
          ⊎ Waits (changed w n Prepared (record { name = n; live = live; stage = Ready } ∷ ps) w.times (n ∷ w.names))
      by_now (inl works) = inl (prepared_works w works n live ps is (n ∷ w.names))
      by_now (inr waits) = inr (prepared_waits w waits n live ps is)

  carried_out_sound : IsFirst CarryingOut → Sound old (changed w n Prepared ps w.times (n ∷ w.names))
  carried_out_sound is =
      newly ps
      (λ e. not_carried_out n (told w.kept (process_of n) (step_of n)) (w.work (Do (process_of n) (step_of n))) (w.work (Undo (process_of n) (step_of n))) (own CarryingOut is sound.now) (sym (of_name_is w.work n) ∙ e))
      (by_now sound.now)
    where
      by_now : Works w ⊎ Waits w → Works (changed w n Prepared ps w.times (n ∷ w.names)) ⊎ Waits (changed w n Prepared ps w.times (n ∷ w.names))
      by_now (inl works) =
          absurd (never_carried n (told w.kept (process_of n) (step_of n)) (w.work (Do (process_of n) (step_of n))) (w.work (Undo (process_of n) (step_of n))) (own_right w works n live CarryingOut ps is))
      by_now (inr waits) = inr (carried_out_waits w waits n live ps is)

  committed_sound : IsFirst Committing
      → Sound old (changed w n (committed (w.work n)) ps (put_times w.times n (w.times n + commits_now (w.work n))) w.names)
  committed_sound is = record {
    grown = sound.grown;
    counted = counted_changed w n (committed (w.work n)) (put_times w.times n (w.times n + commits_now (w.work n)))
        (λ m other. ap (λ t. if t then w.times n + commits_now (w.work n) else w.times m) other)
        (ap (λ t. if t then w.times n + commits_now (w.work n) else w.times n) (same_self n)
        ∙ (ap (λ k. k + commits_now (w.work n)) (sound.counted n) ∙ counted_committed (w.work n))) sound.counted;
    listed = listed_changed w n (committed (w.work n)) w.names (λ some. sound.listed n (λ e. some (ap committed e))) (λ m h. h) sound.listed;
    ordered = sound.ordered;
    now = by_now sound.now;
  }
    where
      by_now : Works w ⊎ Waits w
          → Works (changed w n (committed (w.work n)) ps (put_times w.times n (w.times n + commits_now (w.work n))) w.names)
          ⊎ Waits (changed w n (committed (w.work n)) ps (put_times w.times n (w.times n + commits_now (w.work n))) w.names)
      by_now (inl works) = inl (committed_works w works n live ps is (put_times w.times n (w.times n + commits_now (w.work n))))
      by_now (inr waits) = inr (committed_waits w waits n live ps is (put_times w.times n (w.times n + commits_now (w.work n))))

  taken_back_sound : IsFirst TakingBack → Sound old (changed w n (taken_back (w.work n)) ps w.times w.names)
  taken_back_sound is = record {
    grown = sound.grown;
    counted = counted_changed w n (taken_back (w.work n)) w.times (λ m other. refl) (sound.counted n ∙ counted_taken_back (w.work n)) sound.counted;
    listed = listed_changed w n (taken_back (w.work n)) w.names (λ some. sound.listed n (λ e. some (ap taken_back e))) (λ m h. h) sound.listed;
    ordered = sound.ordered;
    now = by_now sound.now;
  }
    where
      by_now : Works w ⊎ Waits w → Works (changed w n (taken_back (w.work n)) ps w.times w.names) ⊎ Waits (changed w n (taken_back (w.work n)) ps w.times w.names)
      by_now (inl works) = inl (taken_back_works w works n live ps is)
      by_now (inr waits) = inr (taken_back_waits w waits n live ps is)

-- the same by the stage
module _ (old : List Name) (w : World) (sound : Sound old w) (p : Piece) (ps : List Piece) (is : w.pieces (process_of p.name) ≡ p ∷ ps) where
  at_its : (a : Stage) → p.stage ≡ a → w.pieces (process_of p.name) ≡ record { name = p.name; live = p.live; stage = a } ∷ ps
  at_its a e = is ∙ ap (λ (a : Stage). record { name = p.name; live = p.live; stage = a } ∷ ps) e

  lands_sound : (a : Stage) → p.stage ≡ a → Sound old (lands w (process_of p.name) p ps a)
  lands_sound Preparing e = prepared_sound old w sound p.name p.live ps (at_its Preparing e)
  lands_sound Committing e = committed_sound old w sound p.name p.live ps (at_its Committing e)
  lands_sound TakingBack e = taken_back_sound old w sound p.name p.live ps (at_its TakingBack e)
  lands_sound CarryingOut e = carried_out_sound old w sound p.name p.live ps (at_its CarryingOut e)
  lands_sound a e = sound

  begins_sound : is_working w.phase ≡ true → (a : Stage) → p.stage ≡ a → Sound old (begins w (process_of p.name) p ps a)
  begins_sound working Handed e =
      moved old w (process_of p.name) (record { name = p.name; live = p.live; stage = Preparing } ∷ ps) sound
      (inl (restage_works w (works_of old w sound working) p.name p.live Handed ps (at_its Handed e) Preparing p.live (λ l. l) (λ t s u r. r) (λ t s u r. r)))
  begins_sound working a e = sound

  says_sound : is_working w.phase ≡ true → (a : Stage) → p.stage ≡ a → Sound old (says w (process_of p.name) p ps a)
  says_sound working Ready e =
      moved old w (process_of p.name) (record { name = p.name; live = p.live; stage = Said } ∷ ps) sound
      (inl (restage_works w (works_of old w sound working) p.name p.live Ready ps (at_its Ready e) Said p.live (λ l. l) (λ t s u r. r) (λ t s u r. r)))
  says_sound working a e = sound

  refuses_sound : is_working w.phase ≡ true → (a : Stage) → p.stage ≡ a → Sound old (refuses w (process_of p.name) ps a)
  refuses_sound working Handed e =
      moved old w (process_of p.name) ps sound (inl (gone_works w (works_of old w sound working) p.name p.live Handed ps (at_its Handed e) do_refused undo_refused))
  refuses_sound working Preparing e =
      moved old w (process_of p.name) ps sound (inl (gone_works w (works_of old w sound working) p.name p.live Preparing ps (at_its Preparing e) do_refused undo_refused))
  refuses_sound working a e = sound

  keeps_sound : is_working w.phase ≡ true → (a : Stage) → p.stage ≡ a → Sound old (keeps w (process_of p.name) p ps a)
  keeps_sound working Said e =
      if_keeps (Sound old) p.live (record (with_pieces w (process_of p.name) (record { name = p.name; live = false; stage = Kept } ∷ ps)) { kept = p.name ∷ w.kept }) w
      (λ lives. record {
        grown = λ m h. or_second (same_name p.name m) (has w.kept m) (sound.grown m h);
        counted = sound.counted;
        listed = sound.listed;
        ordered = (said_follows w (works_of old w sound working) p.name p.live ps (at_its Said e) lives, sound.ordered);
        now = inl (keeps_works w (works_of old w sound working) p.name p.live ps (at_its Said e) lives);
      }) sound
  keeps_sound working a e = sound

  answers_sound : (a : Stage) → p.stage ≡ a → Sound old (answers w (process_of p.name) p ps a)
  answers_sound Said e =
      if_keeps (Sound old) (is_working w.phase) (with_pieces w (process_of p.name) (record { name = p.name; live = false; stage = TakingBack } ∷ ps)) w
      (λ working. moved old w (process_of p.name) (record { name = p.name; live = false; stage = TakingBack } ∷ ps) sound
      (inl (restage_works w (works_of old w sound working) p.name p.live Said ps (at_its Said e) TakingBack false (λ l. absurd (false≢true l)) (λ t s u r. r) (λ t s u r. r)))) sound
  answers_sound Kept e =
      moved old w (process_of p.name) (record { name = p.name; live = false; stage = Committing } ∷ ps) sound (by_now sound.now)
    where
      by_now : Works w ⊎ Waits w
          → Works (with_pieces w (process_of p.name) (record { name = p.name; live = false; stage = Committing } ∷ ps))
          ⊎ Waits (with_pieces w (process_of p.name) (record { name = p.name; live = false; stage = Committing } ∷ ps))
      by_now (inl works) =
          inl (restage_works w works p.name p.live Kept ps (at_its Kept e) Committing false (λ l. absurd (false≢true l)) (λ t s u r. r) (λ t s u r. r))
      by_now (inr waits) = inr (committing_waits w waits p.name p.live ps (at_its Kept e))
  answers_sound a e = sound

-- Whoever runs, and who has ended.

dies_sound : (old : List Name) (w : World) → Sound old w → Sound old (record w { driver = false })
dies_sound old w sound = record { grown = sound.grown; counted = sound.counted; listed = sound.listed; ordered = sound.ordered; now = by_now sound.now }
  where
    by_now : Works w ⊎ Waits w → Works (record w { driver = false }) ⊎ Waits (record w { driver = false })
    by_now (inl works) = inl (record { phase = works.phase; rights = works.rights; lines = works.lines; over = works.over })
    by_now (inr waits) =
        inr (record { phase = waits.phase; possible = waits.possible; left = waits.left; found = waits.found; over = waits.over })

stops_sound : (old : List Name) (w : World) → Sound old w → Sound old (record w { phase = Closed })
stops_sound old w sound = record { grown = sound.grown; counted = sound.counted; listed = sound.listed; ordered = sound.ordered; now = by_now sound.now }
  where
    by_now : Works w ⊎ Waits w → Works (record w { phase = Closed }) ⊎ Waits (record w { phase = Closed })
    by_now (inl works) = inr (stopped_works w works)
    by_now (inr waits) = inr (stopped_waits w waits)

opens_sound : (old : List Name) (w : World) → Sound old w → is_closed w.phase ≡ true → Sound old (after_opening w)
opens_sound old w sound closed = record {
  grown = sound.grown;
  counted = sound.counted;
  listed = sound.listed;
  ordered = sound.ordered;
  now = inr (opened_waits w (waits_of old w sound (closed_works w.phase closed)));
}

acting_sound : (old : List Name) (w : World) (i b : ℕ) (x : Action) → Sound old w → Waits (acting w i b x) → Sound old (acting w i b x)
acting_sound old w i b Nothing sound waits = sound
acting_sound old w i b Commit sound waits = record { grown = sound.grown; counted = sound.counted; listed = sound.listed; ordered = sound.ordered; now = inr waits }
acting_sound old w i b TakeBack sound waits = record { grown = sound.grown; counted = sound.counted; listed = sound.listed; ordered = sound.ordered; now = inr waits }
acting_sound old w i b CommitUndo sound waits = record { grown = sound.grown; counted = sound.counted; listed = sound.listed; ordered = sound.ordered; now = inr waits }
acting_sound old w i b TakeBackUndo sound waits = record { grown = sound.grown; counted = sound.counted; listed = sound.listed; ordered = sound.ordered; now = inr waits }
acting_sound old w i b CarryOutUndo sound waits = record { grown = sound.grown; counted = sound.counted; listed = sound.listed; ordered = sound.ordered; now = inr waits }
acting_sound old w i b StopLost sound waits = sound
acting_sound old w i b StopAhead sound waits = sound

goes_on_sound : (old : List Name) (w : World) → Sound old w → is_opened w.phase ≡ true → all_settled w ≡ true
    → Sound old (record w { phase = Working; turned = false })
goes_on_sound old w sound opened all = record {
  grown = sound.grown;
  counted = sound.counted;
  listed = sound.listed;
  ordered = sound.ordered;
  now = inl (goes_on_works w (waits_of old w sound (opened_works w.phase opened)) sound.listed opened all);
}

ends_sound : (old : List Name) (w : World) (i : ℕ) → Sound old w → may_end w i ≡ true → Sound old (record w { ended = i ∷ w.ended })
ends_sound old w i sound may = record { grown = sound.grown; counted = sound.counted; listed = sound.listed; ordered = sound.ordered; now = by_now sound.now }
  where
    by_now : Works w ⊎ Waits w → Works (record w { ended = i ∷ w.ended }) ⊎ Waits (record w { ended = i ∷ w.ended })
    by_now (inl works) = inl (record { phase = works.phase; rights = works.rights; lines = works.lines; over = λ j. over j (eqb i j) refl })
      where
        none : w.pieces i ≡ []
        none =
            or_elim (is_closed w.phase) (is_at_work w && is_empty (w.pieces i)) (λ closed. absurd (closed_works w.phase closed works.phase))
            (λ at. empty (w.pieces i) (and_parts (is_at_work w) (is_empty (w.pieces i)) at).1) may
          where
            empty : (qs : List Piece) → is_empty qs ≡ true → qs ≡ []
            empty [] is = refl
            empty (p ∷ ps) is = absurd (false≢true is)

        over : (j : ℕ) (t : Bool) → eqb i j ≡ t → ((eqb i j || is_in j w.ended) || (is_in j w.before || is_in j w.forgotten)) ≡ true → w.pieces j ≡ []
        over j true is o = subst (λ k. w.pieces k ≡ []) (eqb-true i j is) none
        over j false is o = works.over j (subst (λ t. ((t || is_in j w.ended) || (is_in j w.before || is_in j w.forgotten)) ≡ true) is o)
    by_now (inr waits) =
        inr (record { phase = waits.phase; possible = waits.possible; left = waits.left; found = waits.found; over = waits.over })

undoes_sound : (old : List Name) (w : World) (i b : ℕ) → Sound old w → may_undo w i b ≡ true → Sound old (record w { kept = Undo i b ∷ w.kept })
undoes_sound old w i b sound may =
    let x = and_parts (is_closed w.phase) (may_follow w.kept (Undo i b) && not (is_over w i)) may in
    let y = and_parts (may_follow w.kept (Undo i b)) (not (is_over w i)) x.1 in
    record {
      grown = λ m h. or_second (same_name (Undo i b) m) (has w.kept m) (sound.grown m h);
      counted = sound.counted;
      listed = sound.listed;
      ordered = (y.0, sound.ordered);
      now = inr (undoes_waits w (waits_of old w sound (closed_works w.phase x.0)) i b x.0 y.0 (not_is (is_over w i) y.1));
    }

abbrev turned : World → World
turned w = record w { ended = []; before = w.ended; forgotten = w.before ++ w.forgotten; turned = not (is_working w.phase) }

turns_sound : (old : List Name) (w : World) → Sound old w → may_turn w ≡ true → Sound old (turned w)
turns_sound old w sound may = record { grown = sound.grown; counted = sound.counted; listed = sound.listed; ordered = sound.ordered; now = by_now sound.now }
  where
    by_now : Works w ⊎ Waits w → Works (turned w) ⊎ Waits (turned w)
    by_now (inl works) = inl (record {
      phase = works.phase;
      rights = works.rights;
      lines = works.lines;
      over = λ i over. works.over i (or_elim (is_in i w.ended) (is_in i (w.before ++ w.forgotten))
          (λ e. or_first (is_in i w.ended) (is_in i w.before || is_in i w.forgotten) e)
          (λ f. or_second (is_in i w.ended) (is_in i w.before || is_in i w.forgotten) (in_both i w.before w.forgotten f)) over);
    })
    by_now (inr waits) = inr (record {
      phase = waits.phase;
      possible = waits.possible;
      left = waits.left;
      found = waits.found;
      over = λ i done. waits.over i (or_elim (is_in i (w.before ++ w.forgotten)) (not (not (is_working w.phase)) && is_in i w.ended)
          (λ f. or_elim (is_in i w.before) (is_in i w.forgotten)
          (λ before. or_second (is_in i w.forgotten) (not w.turned && is_in i w.before) (and_from (not w.turned) (is_in i w.before) not_turned before))
          (λ forgotten. or_first (is_in i w.forgotten) (not w.turned && is_in i w.before) forgotten) (in_both i w.before w.forgotten f))
          (λ e. absurd (false≢true (sym (ap (λ t. not (not t)) waits.phase) ∙ (and_parts (not (not (is_working w.phase))) (is_in i w.ended) e).0))) done);
    })
      where
        not_turned : not w.turned ≡ true
        not_turned = or_elim (is_working w.phase) (not w.turned) (λ working. absurd (false≢true (sym waits.phase ∙ working))) (λ is. is) may

-- each event
pub happens_sound : (old : List Name) (w : World) → Sound old w → (e : Event) → Sound old (happens w e)
happens_sound old w sound Dies = dies_sound old w sound
happens_sound old w sound Stops = stops_sound old w sound
happens_sound old w sound Opens = if_keeps (Sound old) (is_closed w.phase) (after_opening w) w (opens_sound old w sound) sound
happens_sound old w sound (Settles i b) =
    if_keeps (Sound old) (w.driver && (is_opened w.phase && is_empty (w.pieces i))) (acting w i b (action w i b)) w
    (λ is. let opened = (and_parts (is_opened w.phase) (is_empty (w.pieces i)) (and_parts w.driver (is_opened w.phase && is_empty (w.pieces i)) is).1).0 in
    acting_sound old w i b (action w i b) sound (settles_waits w (waits_of old w sound (opened_works w.phase opened)) sound.listed i b)) sound
happens_sound old w sound GoesOn =
    if_keeps (Sound old) (w.driver && (is_opened w.phase && all_settled w)) (record w { phase = Working; turned = false }) w
    (λ is. let both = and_parts (is_opened w.phase) (all_settled w) (and_parts w.driver (is_opened w.phase && all_settled w) is).1 in
    goes_on_sound old w sound both.0 both.1) sound
happens_sound old w sound (Hands n) =
    if_keeps (Sound old) (may_hand w n) (with_pieces w (process_of n) (w.pieces (process_of n) ++ handed n ∷ [])) w
    (λ may. moved old w (process_of n) (w.pieces (process_of n) ++ handed n ∷ []) sound
    (inl (hands_works w n (works_of old w sound (working may)) may))) sound
  where
    working : may_hand w n ≡ true → is_working w.phase ≡ true
    working may =
        (and_parts w.driver (is_working w.phase)
        (and_parts (is_at_work w) (may_follow w.kept n && (not (is_over w (process_of n)) && not (list_any (λ (p : Piece). p.live) (w.pieces (process_of n))))) may).0).1
happens_sound old w sound (Begins i) =
    if_keeps (Sound old) (is_at_work w) (of_first w (λ p ps. begins w i p ps p.stage) (w.pieces i)) w
    (λ at. first_sound old w i (λ k p ps. begins w k p ps p.stage) sound
    (λ p ps is. begins_sound old w sound p ps is (and_parts w.driver (is_working w.phase) at).1 p.stage refl)) sound
happens_sound old w sound (Refuses i) =
    if_keeps (Sound old) (is_at_work w) (of_first w (λ p ps. refuses w i ps p.stage) (w.pieces i)) w
    (λ at. first_sound old w i (λ k p ps. refuses w k ps p.stage) sound
    (λ p ps is. refuses_sound old w sound p ps is (and_parts w.driver (is_working w.phase) at).1 p.stage refl)) sound
happens_sound old w sound (Says i) =
    if_keeps (Sound old) (is_at_work w) (of_first w (λ p ps. says w i p ps p.stage) (w.pieces i)) w
    (λ at. first_sound old w i (λ k p ps. says w k p ps p.stage) sound
    (λ p ps is. says_sound old w sound p ps is (and_parts w.driver (is_working w.phase) at).1 p.stage refl)) sound
happens_sound old w sound (Keeps i) =
    if_keeps (Sound old) (is_working w.phase) (of_first w (λ p ps. keeps w i p ps p.stage) (w.pieces i)) w
    (λ working. first_sound old w i (λ k p ps. keeps w k p ps p.stage) sound
    (λ p ps is. keeps_sound old w sound p ps is working p.stage refl)) sound
happens_sound old w sound (Answers i) =
    if_keeps (Sound old) w.driver (of_first w (λ p ps. answers w i p ps p.stage) (w.pieces i)) w
    (λ runs. first_sound old w i (λ k p ps. answers w k p ps p.stage) sound
    (λ p ps is. answers_sound old w sound p ps is p.stage refl)) sound
happens_sound old w sound (GoesBack i) =
    if_keeps (Sound old) (is_working w.phase) (with_pieces w i (map void (w.pieces i))) w
    (λ working. moved old w i (map void (w.pieces i)) sound (inl (goes_back_works w i (works_of old w sound working)))) sound
happens_sound old w sound (Lands i) =
    first_sound old w i (λ k p ps. lands w k p ps p.stage) sound (λ p ps is. lands_sound old w sound p ps is p.stage refl)
happens_sound old w sound (Ends i) = if_keeps (Sound old) (may_end w i) (record w { ended = i ∷ w.ended }) w (ends_sound old w i sound) sound
happens_sound old w sound (Undoes i b) =
    if_keeps (Sound old) (may_undo w i b) (record w { kept = Undo i b ∷ w.kept }) w (undoes_sound old w i b sound) sound
happens_sound old w sound Turns = if_keeps (Sound old) (may_turn w) (turned w) w (turns_sound old w sound) sound

pub run_sound : (old : List Name) (es : List Event) (w : World) → Sound old w → Sound old (run es w)
run_sound old [] w sound = sound
run_sound old (e ∷ es) w sound = run_sound old es (happens w e) (happens_sound old w sound e)

-- at the start, and again from any moment
pub start_sound : Sound [] start
start_sound = record {
  grown = λ m h. h;
  counted = λ n. refl;
  listed = λ n some. absurd (some refl);
  ordered = tt;
  now = inr (record {
    phase = refl;
    possible = λ i b. (fresh, tt);
    left = λ i. tt;
    found = λ opened. absurd (false≢true opened);
    over = λ i done. absurd (false≢true done);
  });
}

pub again : (old : List Name) (w : World) → Sound old w → Sound w.kept w
again old w sound = record { grown = λ m h. h; counted = sound.counted; listed = sound.listed; ordered = sound.ordered; now = sound.now }
