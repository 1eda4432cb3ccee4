-- Where nothing conflicts, nothing stands against any event: what is in own order is legal then. So whatever is proved of
-- legal histories without a word on conflicts holds of those in own order, and of reducible ones.
use Rattle.std.proofs.Common.{◌≡◌, Bool, true, false, not, eqb, if◌then◌else◌, List, refl}
use Rattle.std.proofs.Math.Bool.{and-false}
use Rattle.std.specs.Bool.{IsTrue}
use Rattle.std.proofs.lemmas.Bool.{and_parts, and_from, false≢true}
use Rattle.process_tree.specs.declared.entry.Entry.{Entry}
use Rattle.process_tree.specs.Recovery.{StepClass, reserved, committing, undoable}
use Rattle.schedule_model.specs.declared.event.Event.{Event}
use Rattle.schedule_model.specs.declared.event.Event.TheVariants.{Start, Act, End}
use Rattle.schedule_model.specs.Course.{Course}
use Rattle.schedule_model.specs.Conflict.{ConflictRelation, conflict, no_conflict}
use Rattle.schedule_model.specs.OwnOrder.{keeps_order, is_in_own_order}
use Rattle.schedule_model.specs.Legal.{class_in, is_clear, may_come, is_legal, keeps_and_ends_clear, is_reducible}
use Rattle.schedule_model.proofs.Induction.{passes-other}
use Rattle.schedule_model.proofs.Clear.{clear-reserved, clear-undoable, clear-committing, clear-end, clear-undo}

pub nothing_conflicts : (a b : Entry) → conflict no_conflict a b ≡ false
nothing_conflicts a b = and-false (not (eqb a.process b.process))

module _ (courses : List Course) (h : List Event) where
  step_clear : (e : Entry) → e.undo ≡ false → (class : StepClass) → class_in courses h e.process e.step ≡ class → IsTrue (is_clear no_conflict courses h (Act e))
  step_clear e is_step reserved is = clear-reserved no_conflict courses h e is_step is (λ k s active owes. nothing_conflicts e s)
  step_clear e is_step undoable is =
      clear-undoable no_conflict courses h e is_step is (λ k s active owes. nothing_conflicts e s)
      (λ x stands conflicts. absurd (false≢true (let none = nothing_conflicts e x in cc)))
  step_clear e is_step committing is =
      clear-committing no_conflict courses h e is_step is (λ k s active owes. nothing_conflicts e s) (λ x stands active. nothing_conflicts e x)
      (λ x y front back own. nothing_conflicts y x) (λ s owes. (λ x stands active. nothing_conflicts s x, λ k x active owed. nothing_conflicts s x))

  act_clear : (e : Entry) → (u : Bool) → e.undo ≡ u → IsTrue (is_clear no_conflict courses h (Act e))
  act_clear e true undo = clear-undo no_conflict courses h e undo (λ y back. nothing_conflicts e y)
  act_clear e false is_step = step_clear e is_step (class_in courses h e.process e.step) refl

  pub always_clear : (e : Event) → IsTrue (is_clear no_conflict courses h e)
  always_clear (Start i) = refl
  always_clear (Act e) = act_clear e e.undo refl
  always_clear (End i) = clear-end no_conflict courses h i (λ x y front back own. nothing_conflicts y x)

module _ (courses : List Course) where
  -- what keeps own order may come there
  pub may_come-no_conflict : (h : List Event) (e : Event) → IsTrue (keeps_order courses h e) → IsTrue (may_come no_conflict courses h e)
  may_come-no_conflict h e keeps = and_from (keeps_order courses h e) (is_clear no_conflict courses h e) keeps (always_clear courses h e)

  pub legal-from_own_order : (h : List Event) → IsTrue (is_in_own_order courses h) → IsTrue (is_legal no_conflict courses h)
  legal-from_own_order h own = passes-other (keeps_order courses) (may_come no_conflict courses) may_come-no_conflict h own

  module _ (table : ConflictRelation) where
    pub own_order-legal : (h : List Event) → IsTrue (is_legal table courses h) → IsTrue (is_in_own_order courses h)
    own_order-legal h legal =
        passes-other (may_come table courses) (keeps_order courses) (λ g e may. (and_parts (keeps_order courses g e) (is_clear table courses g e) may).0) h legal

    pub reducible_keeps : (h : List Event) (e : Event) → IsTrue (keeps_and_ends_clear table courses h e) → IsTrue (keeps_order courses h e)
    reducible_keeps h (Start i) keeps = keeps
    reducible_keeps h (Act e) keeps = (and_parts (keeps_order courses h (Act e)) (if e.undo then is_clear table courses h (Act e) else true) keeps).0
    reducible_keeps h (End i) keeps = (and_parts (keeps_order courses h (End i)) (is_clear table courses h (End i)) keeps).0

    pub own_order-reducible : (h : List Event) → IsTrue (is_reducible table courses h) → IsTrue (is_in_own_order courses h)
    own_order-reducible h reducible = passes-other (keeps_and_ends_clear table courses) (keeps_order courses) reducible_keeps h reducible

    -- the bridge: a reducible history is legal where nothing conflicts
    pub legal-from_reducible : (h : List Event) → IsTrue (is_reducible table courses h) → IsTrue (is_legal no_conflict courses h)
    legal-from_reducible h reducible = legal-from_own_order h (own_order-reducible h reducible)

    reducible_comes : (h : List Event) (e : Event) → IsTrue (may_come table courses h e) → IsTrue (keeps_and_ends_clear table courses h e)
    reducible_comes h (Start i) may = (and_parts (keeps_order courses h (Start i)) (is_clear table courses h (Start i)) may).0
    reducible_comes h (Act e) may =
        let parts = and_parts (keeps_order courses h (Act e)) (is_clear table courses h (Act e)) may in
        and_from (keeps_order courses h (Act e)) (if e.undo then is_clear table courses h (Act e) else true) parts.0 (if_undo e.undo (is_clear table courses h (Act e)) parts.1)
      where
        if_undo : (u c : Bool) → c ≡ true → (if u then c else true) ≡ true
        if_undo true c is = is
        if_undo false c is = refl
    reducible_comes h (End i) may = may

    -- a legal history is reducible
    pub reducible-legal : (h : List Event) → IsTrue (is_legal table courses h) → IsTrue (is_reducible table courses h)
    reducible-legal h legal = passes-other (may_come table courses) (keeps_and_ends_clear table courses) reducible_comes h legal
