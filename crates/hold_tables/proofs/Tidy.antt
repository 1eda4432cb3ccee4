-- The tables stay tidy where what is kept of one process is changed.
use Rattle.std.proofs.Common.{◌≡◌, ℕ, ◌+◌, ◌≤◌, Bool, true, false, not, ◌&&◌, ◌||◌, List, [], ◌∷◌, length, sym, refl, ap, ◌∙◌, subst}
use Rattle.std.specs.Prelude.{nat_eq, slice_index_or, slice_set}
use Rattle.std.proofs.lemmas.Bool.{eqb-true}
use Rattle.process_tree.specs.declared.entry.Entry.{Entry}
use Rattle.process_tree.specs.Conflicts.{Table}
use Rattle.process_tree.specs.Order.{Each}
use Rattle.hold_tables.specs.Tables.{Tables, OpenProcess, has_number, is_open, kept_of, numbered}
use Rattle.hold_tables.specs.Changes.{change_numbered, changed}
use Rattle.hold_tables.specs.Places.{place_of}
use Rattle.hold_tables.specs.Kept.{IsTidy, Stands, are_numbered, room_for, room_for_all}
use Rattle.hold_tables.proofs.Places.{at_place, changed_at}

-- a change leaves the number and the plan
abbrev pub KeepsPlan : (OpenProcess → OpenProcess) → Type 0
KeepsPlan f = (r : OpenProcess) → ((f r).process ≡ r.process) × ((f r).steps ≡ r.steps)

-- what is true of each process is true of the one with this number, which has it
pub each_numbered : (P : OpenProcess → Type 0) (i : ℕ) (rows : List OpenProcess) → has_number i rows ≡ true → Each P rows
    → P (numbered i rows) × ((numbered i rows).process ≡ i)
each_numbered P i [] has each = absurd cc
each_numbered P i (r ∷ rows) has each = by (nat_eq r.process i) refl (λ further. each_numbered P i rows further each.1)
  where
    by : (b : Bool) → nat_eq r.process i ≡ b → (has_number i rows ≡ true → P (numbered i rows) × ((numbered i rows).process ≡ i))
        → P (numbered i (r ∷ rows)) × ((numbered i (r ∷ rows)).process ≡ i)
    by true is rest = rw is (each.0, eqb-true r.process i is)
    by false is rest = rw is (rest (subst (λ b. (b || has_number i rows) ≡ true) is has))

-- what is true of each process stays so where it is true of the one that is changed
pub each_changed : (P : OpenProcess → Type 0) (f : OpenProcess → OpenProcess) (i : ℕ) (rows : List OpenProcess)
    → (P (numbered i rows) → P (f (numbered i rows))) → Each P rows → Each P (change_numbered f i rows)
each_changed P f i [] holds each = each
each_changed P f i (r ∷ rows) holds each = by (nat_eq r.process i) refl holds (λ further. each_changed P f i rows further each.1)
  where
    by : (b : Bool) → nat_eq r.process i ≡ b → (P (numbered i (r ∷ rows)) → P (f (numbered i (r ∷ rows))))
        → ((P (numbered i rows) → P (f (numbered i rows))) → Each P (change_numbered f i rows)) → Each P (change_numbered f i (r ∷ rows))
    by true is held rest = let here : P r → P (f r) = rw is at held in rw is (here each.0, each.1)
    by false is held rest = let later : P (numbered i rows) → P (f (numbered i rows)) = rw is at held in rw is (each.0, rest later)

-- no number changes
pub numbers_stay : (f : OpenProcess → OpenProcess) (i k : ℕ) (rows : List OpenProcess) → KeepsPlan f → has_number k (change_numbered f i rows) ≡ has_number k rows
numbers_stay f i k [] keeps = refl
numbers_stay f i k (r ∷ rows) keeps = by (nat_eq r.process i) refl (numbers_stay f i k rows keeps)
  where
    by : (b : Bool) → nat_eq r.process i ≡ b → has_number k (change_numbered f i rows) ≡ has_number k rows → has_number k (change_numbered f i (r ∷ rows)) ≡ has_number k (r ∷ rows)
    by true is rest = rw is (ap (λ n. nat_eq n k || has_number k rows) (keeps r).0)
    by false is rest = rw is (ap (nat_eq r.process k ||◌) rest)

pub numbered_stay : (f : OpenProcess → OpenProcess) (i : ℕ) (rows : List OpenProcess) → KeepsPlan f → are_numbered (change_numbered f i rows) ≡ are_numbered rows
numbered_stay f i [] keeps = refl
numbered_stay f i (r ∷ rows) keeps = by (nat_eq r.process i) refl (numbers_stay f i r.process rows keeps) (numbered_stay f i rows keeps)
  where
    by : (b : Bool) → nat_eq r.process i ≡ b → has_number r.process (change_numbered f i rows) ≡ has_number r.process rows
        → are_numbered (change_numbered f i rows) ≡ are_numbered rows → are_numbered (change_numbered f i (r ∷ rows)) ≡ are_numbered (r ∷ rows)
    by true is has rest = rw is (ap (λ n. not (has_number n rows) && are_numbered rows) (keeps r).0)
    by false is has rest = rw (is, has, rest) refl

-- the room that is wanted stays
pub room_stays : (f : OpenProcess → OpenProcess) (i : ℕ) (net : List Entry) (rows : List OpenProcess) → KeepsPlan f
    → room_for_all net (change_numbered f i rows) ≡ room_for_all net rows
room_stays f i net [] keeps = refl
room_stays f i net (r ∷ rows) keeps = by (nat_eq r.process i) refl (room_stays f i net rows keeps)
  where
    by : (b : Bool) → nat_eq r.process i ≡ b → room_for_all net (change_numbered f i rows) ≡ room_for_all net rows → room_for_all net (change_numbered f i (r ∷ rows)) ≡ room_for_all net (r ∷ rows)
    by true is rest = rw (is, (keeps r).0, (keeps r).1) refl
    by false is rest = rw is (ap (room_for net r +◌) rest)

-- what is true of each entry stays so
pub each_entry : {A : Type 0} {P Q : A → Type 0} (es : List A) → ((e : A) → P e → Q e) → Each P es → Each Q es
each_entry [] holds each = each
each_entry (e ∷ es) holds each = (holds e each.0, each_entry es holds each.1)

-- the tables stand after a change of one process that leaves it tidy
pub change_stands : (f : OpenProcess → OpenProcess) (i : ℕ) (table : Table) (net : List Entry) (rows : List OpenProcess) (capacity : ℕ)
    → KeepsPlan f → (IsTidy table net (numbered i rows) → IsTidy table net (f (numbered i rows)))
    → Stands table net rows capacity → Stands table net (change_numbered f i rows) capacity
change_stands f i table net rows capacity keeps holds (tidy, room) = (
  record {
    numbered = numbered_stay f i rows keeps ∙ tidy.numbered;
    of_open = each_entry net (λ e is. numbers_stay f i e.process rows keeps ∙ is) tidy.of_open;
    known = tidy.known;
    tidy = each_changed (IsTidy table net) f i rows holds tidy.tidy;
  },
  subst (λ n. length net + n ≤ capacity) (sym (room_stays f i net rows keeps)) room,
)

-- the row at the place of a process, changed, is the change of what is kept of it
pub row_changed : (f : OpenProcess → OpenProcess) (i : ℕ) (rows : List OpenProcess) (at : ℕ) (before after : OpenProcess) → has_number i rows ≡ true
    → at ≡ place_of i rows → before ≡ slice_index_or rows at before → after ≡ f before → slice_set rows at after ≡ change_numbered f i rows
row_changed f i rows at before after has at_is before_is after_is =
    let found : before ≡ numbered i rows = before_is ∙ ap (λ n. slice_index_or rows n before) at_is ∙ at_place i rows before has in
    rw (at_is, after_is, found) (sym (changed_at f i rows has))

-- the tables of these
abbrev pub tables : Table → List Entry → List OpenProcess → Tables
tables table net rows = record { conflicts = table; net = net; processes = rows }

-- they are the tables that were, with what is kept of the process changed
pub returned : (f : OpenProcess → OpenProcess) (i : ℕ) (table : Table) (net : List Entry) (rows : List OpenProcess) (at : ℕ) (before after : OpenProcess) (t : Tables)
    → tables table net rows ≡ t → is_open t i ≡ true → at ≡ place_of i rows → before ≡ slice_index_or rows at before → after ≡ f before
    → tables table net (slice_set rows at after) ≡ changed f i t
returned f i table net rows at before after t view opened at_is before_is after_is =
    let has : has_number i rows ≡ true = subst (λ t. is_open t i ≡ true) (sym view) opened in
    ap (tables table net) (row_changed f i rows at before after has at_is before_is after_is) ∙ ap (changed f i) view

-- and they stand
pub stood : (f : OpenProcess → OpenProcess) (i : ℕ) (table : Table) (net : List Entry) (rows : List OpenProcess) (at : ℕ) (before after : OpenProcess) (t : Tables) (capacity : ℕ)
    → tables table net rows ≡ t → is_open t i ≡ true → at ≡ place_of i rows → before ≡ slice_index_or rows at before → after ≡ f before
    → KeepsPlan f → (IsTidy t.conflicts t.net (kept_of t i) → (kept_of t i).process ≡ i → IsTidy t.conflicts t.net (f (kept_of t i)))
    → Stands table net rows capacity → Stands table net (slice_set rows at after) capacity
stood f i table net rows at before after t capacity view opened at_is before_is after_is keeps holds stands =
    let has : has_number i rows ≡ true = subst (λ t. is_open t i ≡ true) (sym view) opened in
    let own = (each_numbered (IsTidy table net) i rows has stands.0.tidy).1 in
    let held : IsTidy table net (numbered i rows) → IsTidy table net (f (numbered i rows)) =
    λ tidy. subst (λ (t : Tables). IsTidy t.conflicts t.net (kept_of t i) → (kept_of t i).process ≡ i → IsTidy t.conflicts t.net (f (kept_of t i))) (sym view) holds tidy own in
    subst (λ rows. Stands table net rows capacity) (sym (row_changed f i rows at before after has at_is before_is after_is))
    (change_stands f i table net rows capacity keeps held stands)

-- the row at its place is what is kept of the process
pub found : (i : ℕ) (table : Table) (net : List Entry) (rows : List OpenProcess) (at : ℕ) (before : OpenProcess) (t : Tables)
    → tables table net rows ≡ t → is_open t i ≡ true → at ≡ place_of i rows → before ≡ slice_index_or rows at before → before ≡ kept_of t i
found i table net rows at before t view opened at_is before_is =
    let has : has_number i rows ≡ true = subst (λ t. is_open t i ≡ true) (sym view) opened in
    before_is ∙ ap (λ n. slice_index_or rows n before) at_is ∙ at_place i rows before has ∙ ap (λ (t : Tables). kept_of t i) view

-- the same of the row that is in the list
pub found_row : (i : ℕ) (rows : List OpenProcess) (at : ℕ) (before : OpenProcess) → has_number i rows ≡ true → at ≡ place_of i rows → before ≡ slice_index_or rows at before → before ≡ numbered i rows
found_row i rows at before has at_is before_is = before_is ∙ ap (λ n. slice_index_or rows n before) at_is ∙ at_place i rows before has

-- the process is among the rows
pub is_among : (i : ℕ) (table : Table) (net : List Entry) (rows : List OpenProcess) (t : Tables) → tables table net rows ≡ t → is_open t i ≡ true → has_number i rows ≡ true
is_among i table net rows t view opened = subst (λ t. is_open t i ≡ true) (sym view) opened
