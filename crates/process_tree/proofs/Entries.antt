-- Conflict of entries: symmetric, between different processes alone, and the same for a step and its undo. Accesses by their
-- parts.
use Rattle.std.proofs.Common.{◌≡◌, ℕ, Bool, true, false, not, ◌&&◌, nat_eq, refl, sym, ap, ◌∙◌}
use Rattle.std.proofs.lemmas.Bool.{and_from, and_parts, eq-eqb, ne_eqb, eqb-true, eqb-false}
use Rattle.process_tree.specs.Conflicts.{Access, same_access}
use Rattle.process_tree.specs.Entries.{access_of}
use Rattle.process_tree.specs.Laws.{EntriesConflictBothWays, ConflictIsBetweenProcesses, UndoConflictsAsItsStep, EntryConflictsAsItsStep}

same_either_way : (a b : ℕ) (t : Bool) → nat_eq a b ≡ t → nat_eq b a ≡ t
same_either_way a b true is = eq-eqb b a (sym (eqb-true a b is))
same_either_way a b false is = ne_eqb b a (λ same. eqb-false a b is (sym same))

pub both_ways : EntriesConflictBothWays
both_ways test both a b =
    ap (λ t. not t && test (access_of a) (access_of b)) (sym (same_either_way a.process b.process (nat_eq a.process b.process) refl))
    ∙ ap (λ t. not (nat_eq b.process a.process) && t) (both (access_of a) (access_of b))

pub between_processes : ConflictIsBetweenProcesses
between_processes test a b same = rw (eq-eqb a.process b.process same) refl

pub undo_as_step : UndoConflictsAsItsStep
undo_as_step test a b = (refl, refl)

pub entry_as_step : EntryConflictsAsItsStep
entry_as_step test plan i b e other is = (
  ap (λ p. not (nat_eq p other.process) && test (access_of e) (access_of other)) is.process
      ∙ ap (λ a. not (nat_eq i other.process) && test a (access_of other)) is.access,
  ap (λ p. not (nat_eq other.process p) && test (access_of other) (access_of e)) is.process
      ∙ ap (λ a. not (nat_eq other.process i) && test (access_of other) a) is.access,
)

-- two accesses that have one operation and one key are one
pub same_access-true : (a b : Access) → same_access a b ≡ true → a ≡ b
same_access-true a b is =
    let parts = and_parts (nat_eq a.op b.op) (nat_eq a.key b.key) is in
    ap (λ o. record { op = o; key = a.key }) (eqb-true a.op b.op parts.0) ∙ ap (λ k. record { op = b.op; key = k }) (eqb-true a.key b.key parts.1)

-- and one is the same as itself
pub access-same : (a b : Access) → a ≡ b → same_access a b ≡ true
access-same a b is = and_from (nat_eq a.op b.op) (nat_eq a.key b.key) (eq-eqb a.op b.op (ap (λ x. x.op) is)) (eq-eqb a.key b.key (ap (λ x. x.key) is))
