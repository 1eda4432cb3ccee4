-- What is known of a step when it is handed out, and where what runs comes from.
use Rattle.std.proofs.Common.{◌≡◌, ◌⊎◌, inl, inr, ℕ, Bool, true, false, not, cond, eqb, ◌&&◌, List, ◌++◌, length, Option, Some, None, is_none, sym, refl, ap, subst, ◌∙◌}
use Rattle.std.specs.Option.{option_to_list}
use Rattle.std.proofs.lemmas.Option.{none-some, same_Some}
use Rattle.std.proofs.lemmas.Bool.{and_parts, eqb-true, eq-eqb, false≢true}
use Rattle.process_tree.specs.declared.entry.Entry.{Entry}
use Rattle.schedule_model.specs.Course.{Course}
use Rattle.schedule_model.specs.Conflict.{ConflictRelation}
use Rattle.schedule_model.specs.Histories.{active, doing, is_active}
use Rattle.schedule_model.specs.Holdings.{Hold, all_pending, all_reserved, all_running}
use Rattle.schedule_model.specs.Blocking.{against_step, all_clashes}
use Rattle.schedule_model.specs.Legal.{class_in}
use Rattle.schedule_model.specs.Recovery.{owed_after}
use Rattle.schedule_model.proofs.Active.{is_active-is_in}
use Rattle.schedule_model.proofs.Clear.{ApartFrom, Nothing, none_against, nothing-from_clear}
use Rattle.schedule_model.proofs.Members.{Among, among-is_in, in_flat_map, in_map}
use Rattle.process_tree.specs.Recovery.{StepClass, reserved, committing, undoable}
use Rattle.machine_model.specs.declared.kept.Kept.{Kept}
use Rattle.machine_model.specs.declared.kept.Kept.TheVariants.{Start, Hand, Effect, Refuse, Abort, Victim, Restart}
use Rattle.machine_model.specs.declared.kept.Work.TheVariants.{Forward}
use Rattle.machine_model.specs.Progress.{same_work}
use Rattle.machine_model.specs.Moment.{Moment, Piece}
use Rattle.machine_model.specs.Pieces.{piece_of, running_of}
use Rattle.machine_model.specs.State.{against_work, block_of, entry_by, entry_of, hold_of, holdings, is_exhausted, next_of}
use Rattle.machine_model.specs.Advance.{advance}
use Rattle.machine_model.specs.Runs.{may_be_kept}
use Rattle.machine_model.specs.Laws.{IsRunningStep}
use Rattle.machine_model.specs.HoldLaws.{running_by_piece}
use Rattle.machine_model.specs.PieceLaws.{piece_touched}
use Rattle.machine_model.proofs.CallsKept.{find-passes}
use Rattle.machine_model.proofs.Clear.{none-clear}
use Rattle.machine_model.proofs.HoldSteps.{advance-running}
use Rattle.machine_model.proofs.OwnOrder.{AllActive, same_work-is}
use Rattle.machine_model.proofs.RunningNext.{hand_parts}
use Rattle.machine_model.proofs.TidyMoments.{Each-find, Tidy}

-- what runs ran before, or was handed out now
abbrev pub RanOrHanded : Kept → ℕ → Option Piece → Piece → Type 0
RanOrHanded k i r p = (r ≡ Some p) ⊎ ((k ≡ Hand p.number p.process p.step p.work) × (p.process ≡ i))

pub ran_by : (ks : List Kept) (k : Kept) (i : ℕ) (r : Option Piece) (p : Piece) → running_by_piece k i r (piece_touched ks k) ≡ Some p → RanOrHanded k i r p
ran_by ks (Hand a b c d) i r p is = by_own (eqb b i) refl
  where
    by_own : (t : Bool) → eqb b i ≡ t → RanOrHanded (Hand a b c d) i r p
    by_own true at =
        let same : record { number = a; process = b; step = c; work = d } ≡ p = same_Some (record { number = a; process = b; step = c; work = d }) p (sym (ap (λ t. cond t (Some (record { number = a; process = b; step = c; work = d })) r) at) ∙ is) in
        inr (ap (λ (x : Piece). Hand x.number x.process x.step x.work) same, ap (λ (x : Piece). x.process) (sym same) ∙ eqb-true b i at)
    by_own false at = inl (sym (ap (λ t. cond t (Some (record { number = a; process = b; step = c; work = d })) r) at) ∙ is)
ran_by ks (Effect n) i r p is = by_piece (piece_of ks n) is
  where
    by_piece : (o : Option Piece) → running_by_piece (Effect n) i r o ≡ Some p → RanOrHanded (Effect n) i r p
    by_piece None is' = inl is'
    by_piece (Some q) is' = by_own (eqb q.process i) is'
      where
        by_own : (t : Bool) → cond t None r ≡ Some p → RanOrHanded (Effect n) i r p
        by_own true none = absurd (none-some p none)
        by_own false some = inl some
ran_by ks (Refuse n) i r p is = by_piece (piece_of ks n) is
  where
    by_piece : (o : Option Piece) → running_by_piece (Refuse n) i r o ≡ Some p → RanOrHanded (Refuse n) i r p
    by_piece None is' = inl is'
    by_piece (Some q) is' = by_own (eqb q.process i) is'
      where
        by_own : (t : Bool) → cond t None r ≡ Some p → RanOrHanded (Refuse n) i r p
        by_own true none = absurd (none-some p none)
        by_own false some = inl some
ran_by ks (Start j) i r p is = inl is
ran_by ks (Abort j) i r p is = inl is
ran_by ks (Victim j) i r p is = inl is
ran_by ks Restart i r p is = inl is

unless : {X : Type 0} (t : Bool) (r : Option X) (x : X) → cond t None r ≡ Some x → r ≡ Some x
unless true r x is = absurd (none-some x is)
unless false r x is = is

pub ran_before : (table : ConflictRelation) (courses : List Course) (m : Moment) (k : Kept) (i : ℕ) (p : Piece) → Tidy m → may_be_kept table courses m k ≡ true
    → running_of (advance table courses m k) i ≡ Some p → RanOrHanded k i (running_of m i) p
ran_before table courses m k i p tidy may is =
    ran_by m.kept k i (running_of m i) p (unless _ (running_by_piece k i (running_of m i) (piece_touched m.kept k)) p (sym (advance-running table courses m k i tidy may) ∙ is))

module _ (table : ConflictRelation) (courses : List Course) (m : Moment) where
  -- whoever runs is active
  pub runs_active : (k : ℕ) (p : Piece) → AllActive m → running_of m k ≡ Some p → (p.process ≡ k) × (is_active m.events k ≡ true)
  runs_active k p active' is =
      let own = eqb-true p.process k (find-passes (λ q. eqb q.process k) m.out p is) in
      (own, sym (ap (is_active m.events) own) ∙ Each-find (λ (q : Piece). is_active m.events q.process ≡ true) (λ q. eqb q.process k) m.out p active' is)

  -- its hold is among the holdings
  pub among_holds : (k : ℕ) → is_active m.events k ≡ true → Among (hold_of courses m k) (holdings courses m).holds
  among_holds k goes = in_map (hold_of courses m) k (active m.events) (among-is_in k (active m.events) (is_active-is_in m.events k ∙ goes))

  -- so is the step that it runs
  pub among_running : (k : ℕ) (e : Entry) → AllActive m → IsRunningStep m courses k e → Among e (all_running (holdings courses m))
  among_running k e active' runs =
      let p = runs.0 in
      let own = runs_active k p active' runs.1 in
      let is : (hold_of courses m k).running ≡ Some e =
      ap (entry_of courses) runs.1 ∙ (ap (entry_by courses p.process p.step) runs.2 ∙ (ap (λ j. Some (doing courses j p.step)) own.0 ∙ ap Some (sym runs.3))) in
      in_flat_map (λ (o : Hold). option_to_list o.running) (hold_of courses m k) e (holdings courses m).holds (among_holds k own.1) (subst (λ o. Among e (option_to_list o)) (sym is) (inl refl))

  -- and what it reserves
  pub among_reserved : (k : ℕ) (e : Entry) → is_active m.events k ≡ true → Among e (hold_of courses m k).reserved → Among e (all_reserved (holdings courses m))
  among_reserved k e goes is = in_flat_map (λ (o : Hold). o.reserved) (hold_of courses m k) e (holdings courses m).holds (among_holds k goes) is

  -- nothing stands against a step that is handed out
  pub handed_clear : (n i b : ℕ) → may_be_kept table courses m (Hand n i b Forward) ≡ true
      → Nothing (against_step table (holdings courses m) (class_in courses m.events i b) (doing courses i b) (owed_after courses m.events i b))
  handed_clear n i b may =
      let parts = hand_parts table courses m (record { number = n; process = i; step = b; work = Forward }) may in
      let t = next_of courses m i in
      let task = and_parts (same_work Forward t.work) (eqb b t.step) parts.task in
      let free = (and_parts ((is_active m.events i && is_none (running_of m i)) && not (is_exhausted courses m i)) (is_none (block_of table courses m i)) parts.free).1 in
      let none = none-clear (against_work table courses (holdings courses m) m.events i t.step t.work) (is_none-None (block_of table courses m i) free) in
      nothing-from_clear (against_step table (holdings courses m) (class_in courses m.events i b) (doing courses i b) (owed_after courses m.events i b))
      (eq-eqb (length (all_clashes (against_work table courses (holdings courses m) m.events i b Forward))) 0
      (ap (λ d. length (all_clashes (against_work table courses (holdings courses m) m.events i d Forward))) (eqb-true b t.step task.1)
      ∙ (ap (λ w. length (all_clashes (against_work table courses (holdings courses m) m.events i t.step w))) (same_work-is Forward t.work task.0) ∙ none)))
    where
      is_none-None : {X : Type 0} (o : Option X) → is_none o ≡ true → o ≡ None
      is_none-None None is = refl
      is_none-None (Some x) is = absurd (false≢true is)

  -- so it conflicts with nothing that runs (A0), and with nothing that is reserved or pending (A1)
  pub handed_apart : (n i b : ℕ) → may_be_kept table courses m (Hand n i b Forward) ≡ true
      → ApartFrom table (doing courses i b) (all_running (holdings courses m)) × ApartFrom table (doing courses i b) (all_reserved (holdings courses m) ++ all_pending (holdings courses m))
  handed_apart n i b may = by_class (class_in courses m.events i b) (handed_clear n i b may)
    where
      by_class : (c : StepClass) → Nothing (against_step table (holdings courses m) c (doing courses i b) (owed_after courses m.events i b))
          → ApartFrom table (doing courses i b) (all_running (holdings courses m)) × ApartFrom table (doing courses i b) (all_reserved (holdings courses m) ++ all_pending (holdings courses m))
      by_class reserved none = (none_against table (doing courses i b) (all_running (holdings courses m)) none.a0, none_against table (doing courses i b) (all_reserved (holdings courses m) ++ all_pending (holdings courses m)) none.a1)
      by_class undoable none = (none_against table (doing courses i b) (all_running (holdings courses m)) none.a0, none_against table (doing courses i b) (all_reserved (holdings courses m) ++ all_pending (holdings courses m)) none.a1)
      by_class committing none = (none_against table (doing courses i b) (all_running (holdings courses m)) none.a0, none_against table (doing courses i b) (all_reserved (holdings courses m) ++ all_pending (holdings courses m)) none.a1)
