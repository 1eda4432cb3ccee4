-- Conflict is symmetric, holds between different processes alone, and is the same for a step and its undo.
use Rattle.std.proofs.Common.{◌≡◌, ℕ, Bool, true, false, not, eqb, ◌&&◌, sym, refl, ap, ◌∙◌}
use Rattle.std.proofs.lemmas.Bool.{eq-eqb, eqb-true, ne_eqb, and_parts, not-true, eqb-false}
use Rattle.process_tree.specs.Entries.{access_of}
use Rattle.process_tree.specs.declared.entry.Entry.{Entry}
use Rattle.schedule_model.specs.Conflict.{ConflictRelation, IsSymmetric, conflict}
use Rattle.schedule_model.specs.Histories.{undoing}

-- numbers are equal either way
pub same_either_way : (a b : ℕ) (t : Bool) → eqb a b ≡ t → eqb b a ≡ t
same_either_way a b true is = eq-eqb b a (sym (eqb-true a b is))
same_either_way a b false is = ne_eqb b a (λ same. eqb-false a b is (sym same))

pub conflict-symmetric : (table : ConflictRelation) → IsSymmetric table → (a b : Entry) → conflict table a b ≡ conflict table b a
conflict-symmetric table both a b =
    ap (λ t. not t && table (access_of a) (access_of b)) (sym (same_either_way a.process b.process (eqb a.process b.process) refl))
    ∙ ap (λ t. not (eqb b.process a.process) && t) (both (access_of a) (access_of b))

-- what doesn't conflict one way doesn't the other way
pub conflict-flipped : (table : ConflictRelation) → IsSymmetric table → (a b : Entry) → conflict table a b ≡ false → conflict table b a ≡ false
conflict-flipped table both a b none = conflict-symmetric table both b a ∙ none

pub conflict-differ : (table : ConflictRelation) (a b : Entry) → conflict table a b ≡ true → eqb a.process b.process ≡ false
conflict-differ table a b is = not-true (eqb a.process b.process) (and_parts (not (eqb a.process b.process)) (table (access_of a) (access_of b)) is).0

-- a process has no conflict with itself
pub conflict-itself : (table : ConflictRelation) (a b : Entry) → a.process ≡ b.process → conflict table a b ≡ false
conflict-itself table a b same = rw (eq-eqb a.process b.process same) refl

pub conflict-undo_left : (table : ConflictRelation) (a b : Entry) → conflict table (undoing a) b ≡ conflict table a b
conflict-undo_left table a b = refl

pub conflict-undo_right : (table : ConflictRelation) (a b : Entry) → conflict table a (undoing b) ≡ conflict table a b
conflict-undo_right table a b = refl
