-- After each start the settling ends: one step is settled by two rounds, and what they leave of the others is as before.
use Rattle.std.proofs.Common.{◌≡◌, ◌⊎◌, inl, inr, ⊎_elim, ℕ, ◌+◌, Bool, true, false, if◌then◌else◌, ◌&&◌, eqb, List, [], ◌∷◌, sym, refl, ap, subst, ◌∙◌}
use Rattle.std.specs.Bool.{IsTrue}
use Rattle.std.specs.List.{list_all}
use Rattle.std.proofs.lemmas.Bool.{and_from, and_parts, eqb-true, false≢true}
use Rattle.exactly_once.specs.Names.{Name, Do, Undo, Work, Absent, Prepared, Committed, commits_now, committed, has, process_of, same_name, step_of, taken_back}
use Rattle.exactly_once.specs.Settling.{Answer, Done, Undone, NotDone, Unknown, NoStep, Action, Nothing, Commit, TakeBack, CommitUndo, TakeBackUndo, CarryOutUndo, StopLost, StopAhead, settle, state_of}
use Rattle.exactly_once.specs.Machine.{Lands, Opens, Settles, Committing, TakingBack, CarryingOut, Piece, World, Working, acting, action, after_opening, all_settled, happens, is_empty, is_in, is_nothing, is_opened, is_settled, is_working, lands, of_first, of_settling, put_times, run, start, told, with_pieces}
use Rattle.exactly_once.specs.Laws.{SettlingEnds, settling}
use Rattle.exactly_once.proofs.Facts.{Fits, Sound}
use Rattle.exactly_once.proofs.Names.{not_do, not_undo, pieces_here, pieces_there, same_self, work_there}
use Rattle.exactly_once.proofs.Sound.{happens_sound, run_sound, start_sound, waits_of}
use Rattle.exactly_once.proofs.Steps.{changed, of_pieces, put_do, put_undo}
use Rattle.exactly_once.proofs.Tables.{absent≢committed, committed≢absent, do_of, never_no_step, never_unknown, prepared≢absent, prepared≢committed, undo_of, done≢undone, undone≢not_done}
use Rattle.exactly_once.proofs.Tests.{opened_works, or_elim, or_first, or_second}

-- What one round makes of the work of a step, and of that of its undo.

abbrev acted_do : Action → Work → Work
acted_do Nothing s = s
acted_do Commit s = committed s
acted_do TakeBack s = taken_back s
acted_do CommitUndo s = s
acted_do TakeBackUndo s = s
acted_do CarryOutUndo s = s
acted_do StopLost s = s
acted_do StopAhead s = s

abbrev acted_undo : Action → Work → Work
acted_undo Nothing u = u
acted_undo Commit u = u
acted_undo TakeBack u = u
acted_undo CommitUndo u = committed u
acted_undo TakeBackUndo u = taken_back u
acted_undo CarryOutUndo u = Prepared
acted_undo StopLost u = u
acted_undo StopAhead u = u

abbrev act : Bool → Answer → Work → Work → Action
act f t s u = if f then Nothing else settle (state_of s u) t

-- and two of them
abbrev act_then : Bool → Answer → Work → Work → Action
act_then f t s u = act f t (acted_do (act f t s u) s) (acted_undo (act f t s u) u)

abbrev act_last : Bool → Answer → Work → Work → Action
act_last f t s u =
    act f t (acted_do (act_then f t s u) (acted_do (act f t s u) s)) (acted_undo (act_then f t s u) (acted_undo (act f t s u) u))

-- after which nothing is to be done
two_settle : (f : Bool) (t : Answer) (s u : Work) → Fits t s u → is_nothing (act_last f t s u) ≡ true
two_settle true t s u fits = refl
two_settle false Done Absent u fits = absurd (fits.there refl refl)
two_settle false Done Prepared Absent fits = refl
two_settle false Done Prepared Prepared fits = absurd (prepared≢committed (fits.behind prepared≢absent))
two_settle false Done Prepared Committed fits = absurd (done≢undone (fits.undone refl))
two_settle false Done Committed Absent fits = refl
two_settle false Done Committed Prepared fits = refl
two_settle false Done Committed Committed fits = absurd (done≢undone (fits.undone refl))
two_settle false Undone Absent Absent fits = refl
two_settle false Undone Absent Prepared fits = absurd (absent≢committed (fits.behind prepared≢absent))
two_settle false Undone Absent Committed fits = absurd (absent≢committed (fits.behind committed≢absent))
two_settle false Undone Prepared Absent fits = refl
two_settle false Undone Prepared Prepared fits = absurd (prepared≢committed (fits.behind prepared≢absent))
two_settle false Undone Prepared Committed fits = absurd (prepared≢committed (fits.behind committed≢absent))
two_settle false Undone Committed Absent fits = refl
two_settle false Undone Committed Prepared fits = refl
two_settle false Undone Committed Committed fits = refl
two_settle false NotDone Absent Absent fits = refl
two_settle false NotDone Absent Prepared fits = absurd (absent≢committed (fits.behind prepared≢absent))
two_settle false NotDone Absent Committed fits = absurd (undone≢not_done (sym (fits.undone refl)))
two_settle false NotDone Prepared Absent fits = refl
two_settle false NotDone Prepared Prepared fits = absurd (prepared≢committed (fits.behind prepared≢absent))
two_settle false NotDone Prepared Committed fits = absurd (undone≢not_done (sym (fits.undone refl)))
two_settle false NotDone Committed u fits = absurd (fits.told refl refl)
two_settle false Unknown s u fits = absurd (never_unknown s u fits)
two_settle false NoStep s u fits = absurd (never_no_step s u fits)

-- One round about step b of process i leads from w to v, and leaves s and u of its work.
record Round (w v : World) (i b : ℕ) (s u : Work) : Type 0 where
  driver : v.driver ≡ w.driver
  phase : v.phase ≡ w.phase
  kept : v.kept ≡ w.kept
  forgotten : v.forgotten ≡ w.forgotten
  none : (j : ℕ) → v.pieces j ≡ []
  done : v.work (Do i b) ≡ s
  undone : v.work (Undo i b) ≡ u
  other_do : (j c : ℕ) → (eqb i j && eqb b c) ≡ false → v.work (Do j c) ≡ w.work (Do j c)
  other_undo : (j c : ℕ) → (eqb i j && eqb b c) ≡ false → v.work (Undo j c) ≡ w.work (Undo j c)
  names : (n : Name) → IsTrue (has v.names n) → IsTrue (has w.names n) ⊎ ((eqb i (process_of n) && eqb b (step_of n)) ≡ true)

-- nothing is under way, and the driver settles
record Pause (w : World) : Type 0 where
  driver : w.driver ≡ true
  opened : is_opened w.phase ≡ true
  none : (i : ℕ) → w.pieces i ≡ []

same_step : (n m : Name) → same_name n m ≡ true → (eqb (process_of n) (process_of m) && eqb (step_of n) (step_of m)) ≡ true
same_step (Do i b) (Do j c) is = is
same_step (Do i b) (Undo j c) is = absurd (false≢true is)
same_step (Undo i b) (Do j c) is = absurd (false≢true is)
same_step (Undo i b) (Undo j c) is = is

module _ (w : World) (pause : Pause w) where
  stays : (i b : ℕ) → Round w w i b (w.work (Do i b)) (w.work (Undo i b))
  stays i b = record {
    driver = refl;
    phase = refl;
    kept = refl;
    forgotten = refl;
    none = pause.none;
    done = refl;
    undone = refl;
    other_do = λ j c other. refl;
    other_undo = λ j c other. refl;
    names = λ n h. inl h;
  }

  -- a piece of this name lands, and is gone
  changes : (n : Name) (q : Piece) (x : Work) (times : Name → ℕ) (names : List Name)
      → ((m : Name) → IsTrue (has names m) → IsTrue (has w.names m) ⊎ ((eqb (process_of n) (process_of m) && eqb (step_of n) (step_of m)) ≡ true))
      → Round w (changed (with_pieces w (process_of n) (q ∷ [])) n x [] times names) (process_of n) (step_of n)
      (do_of n x (w.work (Do (process_of n) (step_of n)))) (undo_of n x (w.work (Undo (process_of n) (step_of n))))
  changes n q x times names grows = record {
    driver = refl;
    phase = refl;
    kept = refl;
    forgotten = refl;
    none = of_pieces (λ j ps. ps ≡ []) (with_pieces w (process_of n) (q ∷ [])) (process_of n) []
        (λ j other. pieces_there w.pieces (process_of n) j (q ∷ []) other ∙ pause.none j) refl;
    done = put_do w.work n x;
    undone = put_undo w.work n x;
    other_do = λ j c other. work_there w.work n (Do j c) x (not_do n j c other);
    other_undo = λ j c other. work_there w.work n (Undo j c) x (not_undo n j c other);
    names = grows;
  }

  new_name : (n m : Name) → IsTrue (has (n ∷ w.names) m) → IsTrue (has w.names m) ⊎ ((eqb (process_of n) (process_of m) && eqb (step_of n) (step_of m)) ≡ true)
  new_name n m = or_elim (same_name n m) (has w.names m) (λ same. inr (same_step n m same)) (λ h. inl h)

  -- what is asked for lands
  landing : (i : ℕ) (q : Piece) → happens (with_pieces w i (q ∷ [])) (Lands i) ≡ lands (with_pieces w i (q ∷ [])) i q [] q.stage
  landing i q = ap (of_first (with_pieces w i (q ∷ [])) (λ p ps. lands (with_pieces w i (q ∷ [])) i p ps p.stage)) (pieces_here w.pieces i (q ∷ []))

  nothing_lands : (i : ℕ) → happens w (Lands i) ≡ w
  nothing_lands i = ap (of_first w (λ p ps. lands w i p ps p.stage)) (pause.none i)

  module _ (i b : ℕ) where
    acted : (x : Action) → Round w (happens (acting w i b x) (Lands i)) i b (acted_do x (w.work (Do i b))) (acted_undo x (w.work (Undo i b)))
    acted Nothing = subst (λ v. Round w v i b (w.work (Do i b)) (w.work (Undo i b))) (sym (nothing_lands i)) (stays i b)
    acted StopLost = subst (λ v. Round w v i b (w.work (Do i b)) (w.work (Undo i b))) (sym (nothing_lands i)) (stays i b)
    acted StopAhead = subst (λ v. Round w v i b (w.work (Do i b)) (w.work (Undo i b))) (sym (nothing_lands i)) (stays i b)
    acted Commit =
        subst (λ v. Round w v i b (committed (w.work (Do i b))) (w.work (Undo i b))) (sym (landing i (of_settling (Do i b) Committing)))
        (changes (Do i b) (of_settling (Do i b) Committing) (committed (w.work (Do i b))) (put_times w.times (Do i b) (w.times (Do i b) + commits_now (w.work (Do i b)))) w.names (λ m h. inl h))
    acted TakeBack =
        subst (λ v. Round w v i b (taken_back (w.work (Do i b))) (w.work (Undo i b))) (sym (landing i (of_settling (Do i b) TakingBack)))
        (changes (Do i b) (of_settling (Do i b) TakingBack) (taken_back (w.work (Do i b))) w.times w.names (λ m h. inl h))
    acted CommitUndo =
        subst (λ v. Round w v i b (w.work (Do i b)) (committed (w.work (Undo i b)))) (sym (landing i (of_settling (Undo i b) Committing)))
        (changes (Undo i b) (of_settling (Undo i b) Committing) (committed (w.work (Undo i b))) (put_times w.times (Undo i b) (w.times (Undo i b) + commits_now (w.work (Undo i b)))) w.names (λ m h. inl h))
    acted TakeBackUndo =
        subst (λ v. Round w v i b (w.work (Do i b)) (taken_back (w.work (Undo i b)))) (sym (landing i (of_settling (Undo i b) TakingBack)))
        (changes (Undo i b) (of_settling (Undo i b) TakingBack) (taken_back (w.work (Undo i b))) w.times w.names (λ m h. inl h))
    acted CarryOutUndo =
        subst (λ v. Round w v i b (w.work (Do i b)) Prepared) (sym (landing i (of_settling (Undo i b) CarryingOut)))
        (changes (Undo i b) (of_settling (Undo i b) CarryingOut) Prepared w.times (Undo i b ∷ w.names) (new_name (Undo i b)))

    -- one round
    round : Round w (happens (happens w (Settles i b)) (Lands i)) i b (acted_do (action w i b) (w.work (Do i b))) (acted_undo (action w i b) (w.work (Undo i b)))
    round =
        subst (λ v. Round w (happens v (Lands i)) i b (acted_do (action w i b) (w.work (Do i b))) (acted_undo (action w i b) (w.work (Undo i b))))
        (sym (ap (λ t. if t then acting w i b (action w i b) else w)
        (and_from w.driver (is_opened w.phase && is_empty (w.pieces i)) pause.driver (and_from (is_opened w.phase) (is_empty (w.pieces i)) pause.opened (ap is_empty (pause.none i))))))
        (acted (action w i b))

paused : (w v : World) (i b : ℕ) (s u : Work) → Pause w → Round w v i b s u → Pause v
paused w v i b s u pause r = record { driver = r.driver ∙ pause.driver; opened = ap is_opened r.phase ∙ pause.opened; none = r.none }

-- what is to be done about a step, by what is known of it
acts_as : (w v : World) (i b : ℕ) (s u : Work) → v.kept ≡ w.kept → v.forgotten ≡ w.forgotten → v.work (Do i b) ≡ s → v.work (Undo i b) ≡ u
    → action v i b ≡ act (is_in i w.forgotten) (told w.kept i b) s u
acts_as w v i b s u kept forgotten done undone =
    ap (λ k. act (is_in i v.forgotten) (told k i b) (v.work (Do i b)) (v.work (Undo i b))) kept
    ∙ (ap (λ f. act (is_in i f) (told w.kept i b) (v.work (Do i b)) (v.work (Undo i b))) forgotten
    ∙ (ap (λ s. act (is_in i w.forgotten) (told w.kept i b) s (v.work (Undo i b))) done
    ∙ ap (λ u. act (is_in i w.forgotten) (told w.kept i b) s u) undone))

abbrev once : World → ℕ → ℕ → World
once w i b = happens (happens w (Settles i b)) (Lands i)

-- Each name that was found is settled, or is still to come.
abbrev IsSettledIn : World → List Name → Name → Type 0
IsSettledIn w ns n = (is_nothing (action w (process_of n) (step_of n)) ≡ true) ⊎ IsTrue (has ns n)

abbrev AllToCome : World → List Name → Type 0
AllToCome w ns = (n : Name) → IsTrue (has w.names n) → IsSettledIn w ns n

module _ (old : List Name) (w : World) (sound : Sound old w) (pause : Pause w) (i b : ℕ) where
  first : Round w (once w i b) i b (acted_do (action w i b) (w.work (Do i b))) (acted_undo (action w i b) (w.work (Undo i b)))
  first = round w pause i b

  second : Round (once w i b) (once (once w i b) i b) i b (acted_do (action (once w i b) i b) ((once w i b).work (Do i b))) (acted_undo (action (once w i b) i b) ((once w i b).work (Undo i b)))
  second = round (once w i b) (paused w (once w i b) i b (acted_do (action w i b) (w.work (Do i b))) (acted_undo (action w i b) (w.work (Undo i b))) pause first) i b

  fits : Fits (told w.kept i b) (w.work (Do i b)) (w.work (Undo i b))
  fits = ((waits_of old w sound (opened_works w.phase pause.opened)).possible i b).0

  -- what the second round does
  then_acts : action (once w i b) i b ≡ act_then (is_in i w.forgotten) (told w.kept i b) (w.work (Do i b)) (w.work (Undo i b))
  then_acts =
      acts_as w (once w i b) i b (acted_do (action w i b) (w.work (Do i b))) (acted_undo (action w i b) (w.work (Undo i b))) first.kept first.forgotten first.done first.undone

  settled_here : is_nothing (action (once (once w i b) i b) i b) ≡ true
  settled_here =
      ap is_nothing
      (acts_as w (once (once w i b) i b) i b
      (acted_do (act_then (is_in i w.forgotten) (told w.kept i b) (w.work (Do i b)) (w.work (Undo i b))) (acted_do (action w i b) (w.work (Do i b))))
      (acted_undo (act_then (is_in i w.forgotten) (told w.kept i b) (w.work (Do i b)) (w.work (Undo i b))) (acted_undo (action w i b) (w.work (Undo i b))))
      (second.kept ∙ first.kept) (second.forgotten ∙ first.forgotten)
      (second.done ∙ (ap (λ x. acted_do x ((once w i b).work (Do i b))) then_acts
      ∙ ap (acted_do (act_then (is_in i w.forgotten) (told w.kept i b) (w.work (Do i b)) (w.work (Undo i b)))) first.done))
      (second.undone ∙ (ap (λ x. acted_undo x ((once w i b).work (Undo i b))) then_acts
      ∙ ap (acted_undo (act_then (is_in i w.forgotten) (told w.kept i b) (w.work (Do i b)) (w.work (Undo i b)))) first.undone)))
      ∙ two_settle (is_in i w.forgotten) (told w.kept i b) (w.work (Do i b)) (w.work (Undo i b)) fits

  -- what is to be done about another step stays
  stays_there : (j c : ℕ) → (eqb i j && eqb b c) ≡ false → action (once (once w i b) i b) j c ≡ action w j c
  stays_there j c other =
      acts_as w (once (once w i b) i b) j c (w.work (Do j c)) (w.work (Undo j c)) (second.kept ∙ first.kept) (second.forgotten ∙ first.forgotten)
      (second.other_do j c other ∙ first.other_do j c other) (second.other_undo j c other ∙ first.other_undo j c other)

  twice_paused : Pause (once (once w i b) i b)
  twice_paused =
      paused (once w i b) (once (once w i b) i b) i b (acted_do (action (once w i b) i b) ((once w i b).work (Do i b))) (acted_undo (action (once w i b) i b) ((once w i b).work (Undo i b)))
      (paused w (once w i b) i b (acted_do (action w i b) (w.work (Do i b))) (acted_undo (action w i b) (w.work (Undo i b))) pause first) second

  named : (n : Name) → IsTrue (has (once (once w i b) i b).names n) → IsTrue (has w.names n) ⊎ ((eqb i (process_of n) && eqb b (step_of n)) ≡ true)
  named n h = ⊎_elim (λ x. first.names n x) (λ x. inr x) (second.names n h)

  to_come : (m : Name) (ns : List Name) → process_of m ≡ i → step_of m ≡ b → AllToCome w (m ∷ ns) → AllToCome (once (once w i b) i b) ns
  to_come m ns at_i at_b all n h = by_step (eqb i (process_of n) && eqb b (step_of n)) refl
    where
      by_step : (t : Bool) → (eqb i (process_of n) && eqb b (step_of n)) ≡ t → IsSettledIn (once (once w i b) i b) ns n
      by_step true is =
          let parts = and_parts (eqb i (process_of n)) (eqb b (step_of n)) is in
          inl (subst (λ j. is_nothing (action (once (once w i b) i b) j (step_of n)) ≡ true) (eqb-true i (process_of n) parts.0)
          (subst (λ c. is_nothing (action (once (once w i b) i b) i c) ≡ true) (eqb-true b (step_of n) parts.1) settled_here))
      by_step false is = ⊎_elim (λ x. by_before (all n x)) (λ x. absurd (false≢true (sym is ∙ x))) (named n h)
        where
          by_before : (is_nothing (action w (process_of n) (step_of n)) ≡ true) ⊎ IsTrue (has (m ∷ ns) n) → IsSettledIn (once (once w i b) i b) ns n
          by_before (inl nothing) = inl (ap is_nothing (stays_there (process_of n) (step_of n) is) ∙ nothing)
          by_before (inr there) =
              or_elim (same_name m n) (has ns n)
              (λ same. absurd (false≢true (sym is ∙ subst (λ k. (eqb k (process_of n) && eqb b (step_of n)) ≡ true) at_i (subst (λ c. (eqb (process_of m) (process_of n) && eqb c (step_of n)) ≡ true) at_b (same_step m n same)))))
              (λ x. inr x) there

-- all of these are settled
all_of : (f : Name → Bool) (ns : List Name) → ((n : Name) → IsTrue (has ns n) → f n ≡ true) → list_all f ns ≡ true
all_of f [] each = refl
all_of f (m ∷ ns) each =
    and_from (f m) (list_all f ns) (each m (or_first (same_name m m) (has ns m) (same_self m)))
    (all_of f ns (λ n h. each n (or_second (same_name m n) (has ns n) h)))

ends : (old : List Name) (ns : List Name) (w : World) → Sound old w → Pause w → AllToCome w ns → is_working (run (settling ns) w).phase ≡ true
ends old [] w sound pause all =
    ap (λ t. is_working (if t then record w { phase = Working; turned = false } else w).phase)
    (and_from w.driver (is_opened w.phase && all_settled w) pause.driver (and_from (is_opened w.phase) (all_settled w) pause.opened
    (all_of (is_settled w) w.names (λ n h. and_from (is_nothing (action w (process_of n) (step_of n))) (is_empty (w.pieces (process_of n)))
    (⊎_elim (λ x. x) (λ x. absurd (false≢true x)) (all n h)) (ap is_empty (pause.none (process_of n)))))))
ends old (n ∷ ns) w sound pause all =
    ends old ns (once (once w (process_of n) (step_of n)) (process_of n) (step_of n))
    (happens_sound old (happens (once w (process_of n) (step_of n)) (Settles (process_of n) (step_of n)))
    (happens_sound old (once w (process_of n) (step_of n))
    (happens_sound old (happens w (Settles (process_of n) (step_of n))) (happens_sound old w sound (Settles (process_of n) (step_of n))) (Lands (process_of n)))
    (Settles (process_of n) (step_of n))) (Lands (process_of n)))
    (twice_paused old w sound pause (process_of n) (step_of n))
    (to_come old w sound pause (process_of n) (step_of n) n ns refl refl all)

pub settling_ends : SettlingEnds
settling_ends es closed =
    subst (λ v. is_working (run (settling (run es start).names) v).phase ≡ true)
    (sym (ap (λ t. if t then after_opening (run es start) else run es start) closed))
    (ends [] (run es start).names (after_opening (run es start))
    (subst (λ v. Sound [] v) (ap (λ t. if t then after_opening (run es start) else run es start) closed) (happens_sound [] (run es start) (run_sound [] es start start_sound) Opens))
    (record { driver = refl; opened = refl; none = λ i. refl }) (λ n h. inr h))
