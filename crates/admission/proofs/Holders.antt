-- What a process may hold against an entry beside its net, taken by place: one that may hold nothing has nothing against it.
use Rattle.std.proofs.Common.{◌≡◌, ℕ, zero, suc, ◌-◌, ◌<◌, ◌≤◌, true, false, ◌||◌, List, [], ◌∷◌, ◌++◌, length, drop, None, sym, refl, ap, ◌∙◌, arith}
use Rattle.std.specs.Prelude.{nat_eq, nat_le, slice_index_or}
use Rattle.std.specs.List.{list_any}
use Rattle.std.proofs.lemmas.List.Folds.{list_any-append}
use Rattle.std.proofs.lemmas.Bool.{eq-eqb, or_left, or_parts, or_right}
use Rattle.process_tree.specs.declared.entry.Entry.{Entry}
use Rattle.process_tree.specs.Conflicts.{do_conflict}
use Rattle.machine_model.specs.declared.blocked.Rule.{Rule}
use Rattle.machine_model.specs.declared.blocked.Rule.TheVariants.{A0, A1, A4}
use Rattle.hold_tables.specs.Tables.{OpenProcess, Tables, has_number, holds_nothing, is_open, kept_of, numbered, reserved_of, running_of}
use Rattle.hold_tables.specs.Kept.{are_numbered}
use Rattle.hold_tables.specs.Operations.{may_be_against, may_conflict, may_hold, pending_ops, reserved_ops, running_ops}
use Rattle.hold_tables.proofs.Places.{at_place, place-is}
use Rattle.admission.specs.declared.processes.Sought.{Sought}
use Rattle.admission.specs.declared.processes.Sought.TheVariants.{Next, Owed}
use Rattle.admission.specs.Least.{least_on, least_over, lesser_of}
use Rattle.admission.specs.Parts.{least_of_process, pending_of}
use Rattle.admission.proofs.Clear.{none_on, none_reserved_on}
use Rattle.admission.proofs.Places.{rest_back}

-- a number that stands at a place is there
number_at : (i : ℕ) (rows : List OpenProcess) (at : ℕ) (d : OpenProcess) → at < length rows → (slice_index_or rows at d).process ≡ i → has_number i rows ≡ true
number_at i [] at d within is = absurd (omega (arith, within))
number_at i (r ∷ rows) zero d within is = or_left (nat_eq r.process i) (has_number i rows) (eq-eqb r.process i is)
number_at i (r ∷ rows) (suc at) d within is = or_right (nat_eq r.process i) (has_number i rows) (number_at i rows at d (omega (arith, within)) is)

-- what stands at a place is what is kept of its number
kept_at : (rows : List OpenProcess) (at : ℕ) (d : OpenProcess) → are_numbered rows ≡ true → at < length rows
    → numbered (slice_index_or rows at d).process rows ≡ slice_index_or rows at d
kept_at rows at d distinct within =
    let i = (slice_index_or rows at d).process in
    sym (at_place i rows d (number_at i rows at d within refl)) ∙ ap (λ n. slice_index_or rows n d) (sym (place-is i rows at d distinct within refl))

-- whatever stands for none
same_at : {A : Type 0} (xs : List A) (at : ℕ) (c d : A) → at < length xs → slice_index_or xs at c ≡ slice_index_or xs at d
same_at [] at c d within = absurd (omega arith)
same_at (x ∷ xs) zero c d within = refl
same_at (x ∷ xs) (suc at) c d within = same_at xs at c d (omega arith)

-- so its process is open
pub open_there : (t : Tables) (at i : ℕ) → at < length t.processes → ((d : OpenProcess) → i ≡ (slice_index_or t.processes at d).process) → is_open t i ≡ true
open_there t at i within is = number_at i t.processes at (holds_nothing 0 0) within (sym (is (holds_nothing 0 0)))

-- operations that aren't against one don't conflict with it
none_against : (t : Tables) (op : ℕ) (ops : List ℕ) → list_any (may_be_against t.conflicts op) ops ≡ false → list_any (may_conflict t.conflicts op) ops ≡ false
none_against t op [] none = refl
none_against t op (x ∷ ops) none =
    let parts = or_parts (may_be_against t.conflicts op x) (list_any (may_be_against t.conflicts op) ops) none in
    ap (λ b. b || list_any (may_conflict t.conflicts op) ops) (or_parts (nat_le 256 x) (may_conflict t.conflicts op x) parts.0).1 ∙ none_against t op ops parts.1

-- one that may hold nothing against an entry beside its net has nothing against it
idle_gives : (t : Tables) (sought : Sought) (e : Entry) (r : OpenProcess) → may_hold t e.op r ≡ false → least_of_process t sought e r ≡ None
idle_gives t sought e r idle = by sought
  where
    first : (list_any (may_be_against t.conflicts e.op) (running_ops r) ≡ false) × (list_any (may_be_against t.conflicts e.op) (pending_ops t.net r ++ reserved_ops r) ≡ false)
    first = or_parts (list_any (may_be_against t.conflicts e.op) (running_ops r)) (list_any (may_be_against t.conflicts e.op) (pending_ops t.net r ++ reserved_ops r))
        (sym (list_any-append (may_be_against t.conflicts e.op) (running_ops r) (pending_ops t.net r ++ reserved_ops r)) ∙ idle)

    second : (list_any (may_be_against t.conflicts e.op) (pending_ops t.net r) ≡ false) × (list_any (may_be_against t.conflicts e.op) (reserved_ops r) ≡ false)
    second = or_parts (list_any (may_be_against t.conflicts e.op) (pending_ops t.net r)) (list_any (may_be_against t.conflicts e.op) (reserved_ops r))
        (sym (list_any-append (may_be_against t.conflicts e.op) (pending_ops t.net r) (reserved_ops r)) ∙ first.1)

    running : (rule : Rule) → least_on (do_conflict t.conflicts) rule e (running_of r) ≡ None
    running rule = none_on t.conflicts e rule (running_of r) (none_against t e.op (running_ops r) first.0)

    reserved : (rule : Rule) → least_on (do_conflict t.conflicts) rule e (reserved_of r) ≡ None
    reserved rule = none_reserved_on t.conflicts e rule r.process r.reserved (none_against t e.op (reserved_ops r) second.1)

    pending : least_on (do_conflict t.conflicts) A1 e (pending_of t.net r) ≡ None
    pending = none_on t.conflicts e A1 (pending_of t.net r) (none_against t e.op (pending_ops t.net r) second.0)

    by : (s : Sought) → least_of_process t s e r ≡ None
    by Next = rw (running A0, reserved A1, pending) refl
    by Owed = rw (running A4, reserved A4) refl

-- if none of them may, none has
pub all_idle : (t : Tables) (sought : Sought) (e : Entry) (rows : List OpenProcess) → ((p : ℕ) (d : OpenProcess) → p < length rows → may_hold t e.op (slice_index_or rows p d) ≡ false)
    → least_over (least_of_process t sought e) rows ≡ None
all_idle t sought e [] idle = refl
all_idle t sought e (r ∷ rows) idle =
    ap (λ o. lesser_of o (least_over (least_of_process t sought e) rows)) (idle_gives t sought e r (idle 0 r (omega arith)))
    ∙ all_idle t sought e rows (λ p d within. idle (suc p) d (omega (arith, within)))

module _ (t : Tables) (sought : Sought) (e : Entry) (place : ℕ) (some : 0 < place) (most : place ≤ length t.processes) where
  abbrev there : OpenProcess
  there = slice_index_or t.processes (place - 1) (holds_nothing 0 0)

  one_more : lesser_of (least_of_process t sought e there) (least_over (least_of_process t sought e) (drop place t.processes)) ≡ least_over (least_of_process t sought e) (drop (place - 1) t.processes)
  one_more = sym (ap (least_over (least_of_process t sought e)) (rest_back t.processes place there some most (λ x. same_at t.processes (place - 1) (holds_nothing 0 0) x (omega arith))))

  -- one place further to the front there is one process more
  pub process_more : are_numbered t.processes ≡ true → (i : ℕ) → ((d : OpenProcess) → i ≡ (slice_index_or t.processes (place - 1) d).process)
      → lesser_of (least_of_process t sought e (kept_of t i)) (least_over (least_of_process t sought e) (drop place t.processes)) ≡ least_over (least_of_process t sought e) (drop (place - 1) t.processes)
  process_more distinct i is =
      ap (λ (x : OpenProcess). lesser_of (least_of_process t sought e x) (least_over (least_of_process t sought e) (drop place t.processes)))
      (ap (λ n. numbered n t.processes) (is (holds_nothing 0 0)) ∙ kept_at t.processes (place - 1) (holds_nothing 0 0) distinct (omega arith))
      ∙ one_more

  -- one that may hold nothing makes no difference
  pub idle_more : may_hold t e.op there ≡ false → least_over (least_of_process t sought e) (drop place t.processes) ≡ least_over (least_of_process t sought e) (drop (place - 1) t.processes)
  idle_more idle = sym (ap (λ o. lesser_of o (least_over (least_of_process t sought e) (drop place t.processes))) (idle_gives t sought e there idle)) ∙ one_more
