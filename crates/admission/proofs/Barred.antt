-- Where a net entry stands against a step, the step is blocked.
use Rattle.std.proofs.Common.{◌≡◌, ◌<◌, ℕ, zero, suc, Bool, true, false, if◌then◌else◌, List, [], ◌∷◌, length, Option, Some, sym, refl, ap, ◌∙◌, arith}
use Rattle.std.specs.Prelude.{slice_index_or}
use Rattle.process_tree.specs.declared.entry.Entry.{Entry}
use Rattle.process_tree.specs.Conflicts.{do_conflict}
use Rattle.process_tree.specs.Recovery.{committing, undoable}
use Rattle.schedule_model.specs.Conflict.{ConflictRelation, conflict}
use Rattle.schedule_model.specs.Blocking.{against_step, in_a_circle, with_active, with_owed}
use Rattle.schedule_model.specs.Holdings.{reaches}
use Rattle.machine_model.specs.declared.blocked.Blocked.{Blocked}
use Rattle.machine_model.specs.declared.blocked.Rule.{Rule}
use Rattle.machine_model.specs.declared.blocked.Rule.TheVariants.{A2, A3, A4}
use Rattle.machine_model.specs.Blocks.{blocks_of, by_rule, least_block}
use Rattle.hold_tables.specs.Kept.{AreTidy}
use Rattle.hold_tables.specs.Tables.{Tables, holdings_of}
use Rattle.admission.specs.Least.{block_on, least_on, least_with, lesser_of}
use Rattle.admission.specs.Parts.{least_fronts, least_of_all}
use Rattle.admission.specs.declared.processes.Sought.TheVariants.{Next}
use Rattle.admission.proofs.Assembled.{active-is, committing-is, least_by, undoable-is}
use Rattle.admission.proofs.HeldUp.{some_first, some_later}
use Rattle.admission.proofs.Order.{least-append}
use Rattle.admission.proofs.Over.{on-cons}
use Rattle.admission.proofs.WalksBack.{circle, circle_more}

module _ (table : ConflictRelation) (r : Rule) (own : Entry) where
  -- one entry more leaves a block
  pub some_with : (e : Entry) (b : Blocked) → (d : Blocked) × (least_with table r own e (Some b) ≡ Some d)
  some_with e b = by (conflict table own e)
    where
      by : (t : Bool) → (d : Blocked) × ((if t then lesser_of (Some (block_on r own e)) (Some b) else Some b) ≡ Some d)
      by true = some_first (block_on r own e) (Some b)
      by false = (b, refl)

  -- one that conflicts makes one
  pub some_met : (e : Entry) (o : Option Blocked) → conflict table own e ≡ true → (d : Blocked) × (least_with table r own e o ≡ Some d)
  some_met e o is =
      let first = some_first (block_on r own e) o in
      (first.0, ap (λ t. if t then lesser_of (Some (block_on r own e)) o else o) is ∙ first.1)

  -- so there is one where the entry at a place conflicts
  pub some_on : (es : List Entry) (place : ℕ) (e : Entry) → place < length es → ((d : Entry) → e ≡ slice_index_or es place d) → conflict table own e ≡ true
      → (b : Blocked) × (least_on table r own es ≡ Some b)
  some_on [] place e within is met = absurd (omega (arith, within))
  some_on (x ∷ es) zero e within is met =
      let here = some_met x (least_on table r own es) (ap (conflict table own) (sym (is e)) ∙ met) in
      (here.0, on-cons table r own x es ∙ here.1)
  some_on (x ∷ es) (suc place) e within is met =
      let rest = some_on es place e (omega (arith, within)) is met in
      let here = some_with x rest.0 in
      (here.0, on-cons table r own x es ∙ ap (least_with table r own x) rest.1 ∙ here.1)

module _ (t : Tables) (own : Entry) where
  -- one in a circle, where a walk leads to its process
  pub some_circle : (es : List Entry) (place : ℕ) (e : Entry) → place < length es → ((d : Entry) → e ≡ slice_index_or es place d) → conflict (do_conflict t.conflicts) own e ≡ true
      → reaches (do_conflict t.conflicts) (holdings_of t) own.process e.process ≡ true → (b : Blocked) × (least_by A2 (circle t own es) ≡ Some b)
  some_circle [] place e within is met led = absurd (omega (arith, within))
  some_circle (x ∷ es) zero e within is met led =
      let table = do_conflict t.conflicts in
      let rest = least_by A2 (circle t own es) in
      let here = some_met table A2 own x rest (ap (conflict table own) (sym (is e)) ∙ met) in (
        here.0,
        circle_more t own x es
            ∙ ap (λ l. if l then least_with table A2 own x rest else rest) (ap (λ (y : Entry). reaches table (holdings_of t) own.process y.process) (sym (is e)) ∙ led)
            ∙ here.1,
      )
  some_circle (x ∷ es) (suc place) e within is met led =
      let table = do_conflict t.conflicts in
      let rest = some_circle es place e (omega (arith, within)) is met led in
      let here = by (reaches table (holdings_of t) own.process x.process) rest.0 in
      (here.0, circle_more t own x es ∙ ap (λ (o : Option Blocked). if reaches table (holdings_of t) own.process x.process then least_with table A2 own x o else o) rest.1 ∙ here.1)
    where
      by : (l : Bool) (b : Blocked) → (d : Blocked) × ((if l then least_with (do_conflict t.conflicts) A2 own x (Some b) else Some b) ≡ Some d)
      by true b = some_with (do_conflict t.conflicts) A2 own x b
      by false b = (b, refl)

module _ (t : Tables) (tidy : AreTidy t) (own : Entry) (owed : List Entry) (b : Blocked) where
  -- a circle blocks a step that can be undone
  pub circle_blocks : least_by A2 (in_a_circle (do_conflict t.conflicts) (holdings_of t) own) ≡ Some b
      → (d : Blocked) × (least_block (blocks_of (against_step (do_conflict t.conflicts) (holdings_of t) undoable own owed)) ≡ Some d)
  circle_blocks is =
      let held = least_of_all t Next own in
      let all = some_later held b in
      (all.0, undoable-is t tidy own owed ∙ ap (lesser_of held) is ∙ all.1)

  -- what a step conflicts with blocks it where it fixes what its process has done
  pub met_blocks : least_on (do_conflict t.conflicts) A3 own t.net ≡ Some b
      → (d : Blocked) × (least_block (blocks_of (against_step (do_conflict t.conflicts) (holdings_of t) committing own owed)) ≡ Some d)
  met_blocks is =
      let table = do_conflict t.conflicts in
      let held = least_of_all t Next own in
      let front = least_fronts table own.process [] t.net in
      let active = some_first b front in
      let both = some_first active.0 (least_by A4 (with_owed table (holdings_of t) owed)) in
      let all = some_later held both.0 in (
        all.0,
        committing-is t tidy own owed
            ∙ ap (lesser_of held) (least-append (by_rule A3 (with_active table (holdings_of t) own)) (by_rule A4 (with_owed table (holdings_of t) owed))
            ∙ ap (λ o. lesser_of o (least_by A4 (with_owed table (holdings_of t) owed))) (active-is t tidy own ∙ ap (λ o. lesser_of o front) is ∙ active.1)
            ∙ both.1)
            ∙ all.1,
      )
