-- Under a table with fewer conflicts nothing more stands against an event: each rule names conflicts, or walks along conflicts.
use Rattle.std.proofs.Common.{◌≡◌, ℕ, ◌+◌, ◌≤◌, Bool, true, false, not, cond, eqb, ◌&&◌, List, [], ◌∷◌, ◌++◌, Some, sym, refl, ap, ◌∙◌, arith}
use Rattle.std.specs.Bool.{IsTrue}
use Rattle.std.specs.List.{list_any}
use Rattle.std.proofs.lemmas.Bool.{and_parts, and_from, false≢true}
use Rattle.std.proofs.lemmas.Option.{none-some}
use Rattle.process_tree.specs.Conflicts.{covers, do_conflict, mode_of}
use Rattle.process_tree.specs.declared.conflicts.Mode.{Mode}
use Rattle.process_tree.specs.declared.conflicts.Mode.TheVariants.{Never, Key, Always}
use Rattle.process_tree.specs.Entries.{access_of}
use Rattle.process_tree.specs.declared.entry.Entry.{Entry}
use Rattle.process_tree.specs.Recovery.{StepClass, reserved, committing, undoable}
use Rattle.schedule_model.specs.declared.event.Event.{Event}
use Rattle.schedule_model.specs.declared.event.Event.TheVariants.{Start, Act, End}
use Rattle.schedule_model.specs.Course.{Course}
use Rattle.schedule_model.specs.Conflict.{ConflictRelation, conflict}
use Rattle.schedule_model.specs.EachEvent.{EventTest, first_failing}
use Rattle.schedule_model.specs.Graph.{Walk, one_arrow, and_then}
use Rattle.schedule_model.specs.Holdings.{Holdings, active_net, arrow, at_rest, behind, holders, reaches, running_steps}
use Rattle.schedule_model.specs.Legal.{class_in, is_clear, may_come}
use Rattle.schedule_model.specs.OwnOrder.{keeps_order}
use Rattle.schedule_model.proofs.Clear.{clear-committing, clear-end, clear-reserved, clear-undo, clear-undoable, committing-clear, end-clear, reserved-clear, undo-clear, undoable-clear}
use Rattle.schedule_model.proofs.Induction.{first_failing-some, passes-other}
use Rattle.schedule_model.proofs.Members.{among-any, any-among}
use Rattle.schedule_model.proofs.Walks.{leads-from_walk, walk-from_leads}
use Rattle.user_guarantees.specs.Tables.{FewerConflictsAllowMore, FewerConflictsFailNoEarlier, IsWithin, LooserTablesAllowMore, is_no_stricter}

module _ (less table : ConflictRelation) (within : IsWithin less table) where
  -- entries that conflict do so under the other table
  more_conflict : (a b : Entry) → conflict less a b ≡ true → conflict table a b ≡ true
  more_conflict a b is =
      let parts = and_parts (not (eqb a.process b.process)) (less (access_of a) (access_of b)) is in
      and_from (not (eqb a.process b.process)) (table (access_of a) (access_of b)) parts.0 (within (access_of a) (access_of b) parts.1)

  still_apart : (a b : Entry) → conflict table a b ≡ false → conflict less a b ≡ false
  still_apart a b none = by_test (conflict less a b) refl
    where
      by_test : (t : Bool) → conflict less a b ≡ t → conflict less a b ≡ false
      by_test true is = absurd (false≢true (sym none ∙ more_conflict a b is))
      by_test false is = is

  -- an arrow of the conflict graph is one under the other table
  more_arrows : (g : Holdings) (k i : ℕ) → arrow less g k i ≡ true → arrow table g k i ≡ true
  more_arrows g k i is =
      let es = active_net g in
      let first = among-any (λ (x : Entry). eqb x.process k && list_any (λ (y : Entry). eqb y.process i && conflict less x y) (behind x es ++ running_steps g)) es is in
      let x = first.0 in
      let parts = and_parts (eqb x.process k) (list_any (λ (y : Entry). eqb y.process i && conflict less x y) (behind x es ++ running_steps g)) first.2 in
      let second = among-any (λ (y : Entry). eqb y.process i && conflict less x y) (behind x es ++ running_steps g) parts.1 in
      let y = second.0 in
      let ends = and_parts (eqb y.process i) (conflict less x y) second.2 in
      any-among (λ (x : Entry). eqb x.process k && list_any (λ (y : Entry). eqb y.process i && conflict table x y) (behind x es ++ running_steps g)) x es first.1
      (and_from (eqb x.process k) (list_any (λ (y : Entry). eqb y.process i && conflict table x y) (behind x es ++ running_steps g)) parts.0
      (any-among (λ (y : Entry). eqb y.process i && conflict table x y) y (behind x es ++ running_steps g) second.1
      (and_from (eqb y.process i) (conflict table x y) ends.0 (more_conflict x y ends.1))))

  more_walks : (g : Holdings) (i k : ℕ) → Walk (arrow less g) (holders g) i k → Walk (arrow table g) (holders g) i k
  more_walks g i k (one_arrow among a) = one_arrow among (more_arrows g i k a)
  more_walks g i k (and_then {j = j} w among a) = and_then (more_walks g i j w) among (more_arrows g j k a)

  -- where no walk leads back, none does with fewer arrows
  still_unreached : (g : Holdings) (i k : ℕ) → reaches table g i k ≡ false → reaches less g i k ≡ false
  still_unreached g i k none = by_test (reaches less g i k) refl
    where
      by_test : (t : Bool) → reaches less g i k ≡ t → reaches less g i k ≡ false
      by_test true is =
          absurd (false≢true (sym none ∙ leads-from_walk (arrow table g) (holders g) (more_walks g i k (walk-from_leads (arrow less g) (holders g) i k is))))
      by_test false is = is

  module _ (courses : List Course) (h : List Event) where
    -- a step of each class
    step_clear : (e : Entry) → e.undo ≡ false → (class : StepClass) → class_in courses h e.process e.step ≡ class
        → IsTrue (is_clear table courses h (Act e)) → IsTrue (is_clear less courses h (Act e))
    step_clear e is_step reserved is clear =
        clear-reserved less courses h e is_step is (λ k s goes owes. still_apart e s (reserved-clear table courses h e is_step is clear k s goes owes))
    step_clear e is_step undoable is clear =
        let apart = undoable-clear table courses h e is_step is clear in
        clear-undoable less courses h e is_step is (λ k s goes owes. still_apart e s (apart.0 k s goes owes))
        (λ x stands conflicts. still_unreached (at_rest courses h) e.process x.process (apart.1 x stands (more_conflict e x conflicts)))
    step_clear e is_step committing is clear =
        let apart = committing-clear table courses h e is_step is clear in
        clear-committing less courses h e is_step is (λ k s goes owes. still_apart e s (apart.0 k s goes owes)) (λ x stands goes. still_apart e x (apart.1 x stands goes))
        (λ x y front back own. still_apart y x (apart.2 x y front back own))
        (λ s owes. (λ x stands goes. still_apart s x ((apart.3 s owes).0 x stands goes), λ k x goes owed. still_apart s x ((apart.3 s owes).1 k x goes owed)))

    act_clear : (e : Entry) (u : Bool) → e.undo ≡ u → IsTrue (is_clear table courses h (Act e)) → IsTrue (is_clear less courses h (Act e))
    act_clear e true undo clear = clear-undo less courses h e undo (λ y back. still_apart e y (undo-clear table courses h e undo clear y back))
    act_clear e false is_step clear = step_clear e is_step (class_in courses h e.process e.step) refl clear

    still_clear : (e : Event) → IsTrue (is_clear table courses h e) → IsTrue (is_clear less courses h e)
    still_clear (Start i) clear = clear
    still_clear (Act e) clear = act_clear e e.undo refl clear
    still_clear (End i) clear = clear-end less courses h i (λ x y front back own. still_apart y x (end-clear table courses h i clear x y front back own))

    -- what may come may come with fewer conflicts
    pub still_comes : (e : Event) → IsTrue (may_come table courses h e) → IsTrue (may_come less courses h e)
    still_comes e may =
        let parts = and_parts (keeps_order courses h e) (is_clear table courses h e) may in
        and_from (keeps_order courses h e) (is_clear less courses h e) parts.0 (still_clear e parts.1)

pub fewer_conflicts_allow_more : FewerConflictsAllowMore
fewer_conflicts_allow_more less table courses h within legal =
    passes-other (may_come table courses) (may_come less courses) (still_comes less table within courses) h legal

-- Where one test lets through all that another does, the first that fails comes no earlier.

fails_from : (test : EventTest) (n : ℕ) (before h : List Event) (m : ℕ) → first_failing test n before h ≡ Some m → n ≤ m
fails_from test n before h m is = let f = first_failing-some test n before h m is in let at = f.4 in omega arith

module _ (test other : EventTest) (follows : (h : List Event) (e : Event) → IsTrue (test h e) → IsTrue (other h e)) where
  abbrev FailsBy : ℕ → List Event → List Event → ℕ → Type 0
  FailsBy n before h m = (k : ℕ) × (first_failing test n before h ≡ Some k) × (k ≤ m)

  by_head : (n : ℕ) (before : List Event) (e : Event) (h : List Event) (m : ℕ) (t : Bool) → test before e ≡ t
      → (first_failing other (n + 1) (before ++ e ∷ []) h ≡ Some m → FailsBy (n + 1) (before ++ e ∷ []) h m)
      → first_failing other n before (e ∷ h) ≡ Some m → FailsBy n before (e ∷ h) m
  by_head n before e h m true is rest fails =
      let later = rest (sym (ap (λ t. cond t (first_failing other (n + 1) (before ++ e ∷ []) h) (Some n)) (follows before e is)) ∙ fails) in
      (later.0, ap (λ t. cond t (first_failing test (n + 1) (before ++ e ∷ []) h) (Some n)) is ∙ later.1, later.2)
  by_head n before e h m false is rest fails =
      (n, ap (λ t. cond t (first_failing test (n + 1) (before ++ e ∷ []) h) (Some n)) is, fails_from other n before (e ∷ h) m fails)

  fails_no_earlier : (n : ℕ) (before h : List Event) (m : ℕ) → first_failing other n before h ≡ Some m → FailsBy n before h m
  fails_no_earlier n before [] m fails = absurd (none-some m fails)
  fails_no_earlier n before (e ∷ h) m fails = by_head n before e h m (test before e) refl (fails_no_earlier (n + 1) (before ++ e ∷ []) h m) fails

pub fewer_conflicts_fail_no_earlier : FewerConflictsFailNoEarlier
fewer_conflicts_fail_no_earlier less table courses h n within fails =
    fails_no_earlier (may_come table courses) (may_come less courses) (still_comes less table within courses) 1 [] h n fails

-- Modes.

covers_more : (loose strict : Mode) (k m : ℕ) → is_no_stricter loose strict ≡ true → covers loose k m ≡ true → covers strict k m ≡ true
covers_more Never strict k m is covered = absurd (false≢true covered)
covers_more Key Never k m is covered = absurd (false≢true is)
covers_more Key Key k m is covered = covered
covers_more Key Always k m is covered = refl
covers_more Always Never k m is covered = absurd (false≢true is)
covers_more Always Key k m is covered = absurd (false≢true is)
covers_more Always Always k m is covered = refl

pub looser_tables_allow_more : LooserTablesAllowMore
looser_tables_allow_more loose strict courses h looser =
    fewer_conflicts_allow_more (do_conflict loose) (do_conflict strict) courses h
    (λ a b. covers_more (mode_of loose a.op b.op) (mode_of strict a.op b.op) a.key b.key (looser a.op b.op))
