-- The net changes for one process alone: what the others have, and the room that all want.
use Rattle.std.proofs.Common.{◌≡◌, ℕ, ◌+◌, ◌-◌, Bool, true, false, not, ◌||◌, List, [], ◌∷◌, length, refl, ap, subst, arith}
use Rattle.std.specs.Prelude.{nat_eq}
use Rattle.std.proofs.lemmas.Bool.{eqb-true, not-true}
use Rattle.process_tree.specs.declared.entry.Entry.{Entry}
use Rattle.process_tree.specs.Order.{Each}
use Rattle.schedule_model.specs.Histories.{of_process}
use Rattle.schedule_model.proofs.Legal.{both-left, both-right}
use Rattle.hold_tables.specs.Tables.{OpenProcess, has_number, numbered}
use Rattle.hold_tables.specs.Changes.{change_numbered}
use Rattle.hold_tables.specs.Kept.{are_numbered, room_for, room_for_all}

-- the net of each other process is the same
abbrev pub SameElsewhere : ℕ → List Entry → List Entry → Type 0
SameElsewhere i net after = (k : ℕ) → nat_eq k i ≡ false → of_process k after ≡ of_process k net

-- then so is the room that they want
pub room_same : (i : ℕ) (net after : List Entry) (rows : List OpenProcess) → has_number i rows ≡ false → SameElsewhere i net after → room_for_all after rows ≡ room_for_all net rows
room_same i net after [] none same = refl
room_same i net after (r ∷ rows) none same = by (nat_eq r.process i) refl (room_same i net after rows)
  where
    by : (b : Bool) → nat_eq r.process i ≡ b → (has_number i rows ≡ false → SameElsewhere i net after → room_for_all after rows ≡ room_for_all net rows)
        → room_for_all after (r ∷ rows) ≡ room_for_all net (r ∷ rows)
    by true is rest = absurd (let no : true ≡ false = subst (λ b. (b || has_number i rows) ≡ false) is none in cc)
    by false is rest = let others = rest (subst (λ b. (b || has_number i rows) ≡ false) is none) same in rw (same r.process is, others) refl

-- all that changes is the room of the one process
pub room_shift : (i : ℕ) (net after : List Entry) (rows : List OpenProcess) → are_numbered rows ≡ true → has_number i rows ≡ true → SameElsewhere i net after
    → room_for_all after rows + room_for net (numbered i rows) ≡ room_for_all net rows + room_for after (numbered i rows)
room_shift i net after [] once has same = absurd cc
room_shift i net after (r ∷ rows) once has same = by (nat_eq r.process i) refl (room_shift i net after rows (both-right (not (has_number r.process rows)) (are_numbered rows) once))
  where
    by : (b : Bool) → nat_eq r.process i ≡ b → (has_number i rows ≡ true → SameElsewhere i net after → room_for_all after rows + room_for net (numbered i rows) ≡ room_for_all net rows + room_for after (numbered i rows))
        → room_for_all after (r ∷ rows) + room_for net (numbered i (r ∷ rows)) ≡ room_for_all net (r ∷ rows) + room_for after (numbered i (r ∷ rows))
    by true is rest =
        let none : has_number i rows ≡ false = subst (λ k. has_number k rows ≡ false) (eqb-true r.process i is) (not-true (has_number r.process rows) (both-left (not (has_number r.process rows)) (are_numbered rows) once)) in
        let others = room_same i net after rows none same in
        rw is (omega (arith, others))
    by false is rest =
        let others = rest (subst (λ b. (b || has_number i rows) ≡ true) is has) same in
        let here : room_for after r ≡ room_for net r = ap (λ es. r.steps - length es) (same r.process is) in
        rw is (omega (arith, others, here))

-- what is true of each process in the net that was is true of it in the net that is
pub each_same : (P Q : OpenProcess → Type 0) (i : ℕ) (rows : List OpenProcess) → has_number i rows ≡ false
    → ((r : OpenProcess) → nat_eq r.process i ≡ false → P r → Q r) → Each P rows → Each Q rows
each_same P Q i [] none holds each = each
each_same P Q i (r ∷ rows) none holds each = by (nat_eq r.process i) refl (λ further. each_same P Q i rows further holds each.1)
  where
    by : (b : Bool) → nat_eq r.process i ≡ b → (has_number i rows ≡ false → Each Q rows) → Each Q (r ∷ rows)
    by true is rest = absurd (let no : true ≡ false = subst (λ b. (b || has_number i rows) ≡ false) is none in cc)
    by false is rest = (holds r is each.0, rest (subst (λ b. (b || has_number i rows) ≡ false) is none))

pub each_shift : (P Q : OpenProcess → Type 0) (f : OpenProcess → OpenProcess) (i : ℕ) (rows : List OpenProcess) → are_numbered rows ≡ true
    → ((r : OpenProcess) → nat_eq r.process i ≡ false → P r → Q r) → (P (numbered i rows) → Q (f (numbered i rows))) → Each P rows → Each Q (change_numbered f i rows)
each_shift P Q f i [] once holds own each = each
each_shift P Q f i (r ∷ rows) once holds own each =
    by (nat_eq r.process i) refl own (λ further. each_shift P Q f i rows (both-right (not (has_number r.process rows)) (are_numbered rows) once) holds further each.1) (λ none. each_same P Q i rows none holds each.1)
  where
    by : (b : Bool) → nat_eq r.process i ≡ b → (P (numbered i (r ∷ rows)) → Q (f (numbered i (r ∷ rows)))) → ((P (numbered i rows) → Q (f (numbered i rows))) → Each Q (change_numbered f i rows))
        → (has_number i rows ≡ false → Each Q rows) → Each Q (change_numbered f i (r ∷ rows))
    by true is held rest same =
        let here : P r → Q (f r) = rw is at held in
        let none : has_number i rows ≡ false = subst (λ k. has_number k rows ≡ false) (eqb-true r.process i is) (not-true (has_number r.process rows) (both-left (not (has_number r.process rows)) (are_numbered rows) once)) in
        rw is (here each.0, same none)
    by false is held rest same = let later : P (numbered i rows) → Q (f (numbered i rows)) = rw is at held in rw is (holds r is each.0, rest later)
