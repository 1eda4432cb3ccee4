-- A slot is the place of an open process: it is small, of one process, and has what its process holds.
use Rattle.std.proofs.Common.{◌≡◌, ◌<◌, ◌≤◌, ℕ, Bool, true, false, List, length, Option, Some, None, refl, sym, ap, ◌∙◌, arith, eqb-true, eq-eqb, if◌then◌else◌, slice_index_or}
use Rattle.schedule_model.specs.Histories.{is_in}
use Rattle.bit_rows.specs.Cells.{cell}
use Rattle.hold_tables.specs.Places.{place_of}
use Rattle.hold_tables.specs.Operations.{TellRows}
use Rattle.hold_tables.specs.Tables.{OpenProcess, has_number, holds_nothing, numbered}
use Rattle.hold_tables.proofs.BesideRows.{row_is_in}
use Rattle.hold_tables.proofs.Extended.{place_within, same_place}
use Rattle.hold_tables.proofs.Places.{at_place}

-- the slot of a process among these
abbrev pub slot_among : ℕ → List OpenProcess → Option ℕ
slot_among i rows = if has_number i rows then Some (place_of i rows) else None

number_in : Option ℕ → ℕ
number_in (Some n) = n
number_in None = 0

pub slot_is : (i a : ℕ) (rows : List OpenProcess) → slot_among i rows ≡ Some a → (has_number i rows ≡ true) × (place_of i rows ≡ a)
unfolding number_in
slot_is i a rows is = by (has_number i rows) refl
  where
    by : (b : Bool) → has_number i rows ≡ b → (has_number i rows ≡ true) × (place_of i rows ≡ a)
    by true has = (has, ap number_in (sym (ap (λ b. if b then Some (place_of i rows) else None) has) ∙ is))
    by false none = absurd (let no : None ≡ Some a = sym (ap (λ b. if b then Some (place_of i rows) else None) none) ∙ is in cc)

pub slot_small : (i a : ℕ) (rows : List OpenProcess) → length rows ≤ 256 → slot_among i rows ≡ Some a → a < 256
slot_small i a rows few is =
    let at = slot_is i a rows is in
    let within = place_within rows i at.0 in
    let same = at.1 in
    omega (arith, within, same, few)

-- two processes have two slots
pub slot_apart : (i k s : ℕ) (rows : List OpenProcess) → slot_among i rows ≡ Some s → slot_among k rows ≡ Some s → i ≡ k
slot_apart i k s rows first other =
    let a = slot_is i s rows first in
    let b = slot_is k s rows other in
    eqb-true i k (sym (same_place rows i k a.0 b.0) ∙ eq-eqb (place_of i rows) (place_of k rows) (a.1 ∙ sym b.1))

-- at its slot stand the operations of a process
pub slot_told : (f : OpenProcess → List ℕ) (op i a : ℕ) (rows : List OpenProcess) (bits : List (List Bool)) → TellRows f rows bits → op < 256 → slot_among i rows ≡ Some a
    → cell bits op a ≡ is_in op (f (numbered i rows))
slot_told f op i a rows bits tells less is =
    let at = slot_is i a rows is in
    tells.tell op a
    ∙ row_is_in op (f (slice_index_or rows a (holds_nothing 0 0))) less
    ∙ ap (λ p. is_in op (f (slice_index_or rows p (holds_nothing 0 0)))) (sym at.1)
    ∙ ap (λ r. is_in op (f r)) (at_place i rows (holds_nothing 0 0) at.0)
