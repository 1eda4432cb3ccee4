-- A process opens, and a process is dropped: the tables stand.
use Rattle.std.proofs.Common.{◌≡◌, ℕ, ◌+◌, ◌≤◌, ◌<◌, Bool, true, false, not, ◌||◌, List, [], ◌∷◌, ◌++◌, length, sym, refl, ap, ◌∙◌, subst, arith}
use Rattle.std.specs.Prelude.{nat_eq, filter, if◌then◌else◌}
use Rattle.std.specs.List.{IsDistinct}
use Rattle.std.proofs.lemmas.Bool.{eqb-true, eqb-false, ne_eqb, not-true, or_left}
use Rattle.process_tree.specs.declared.entry.Entry.{Entry}
use Rattle.process_tree.specs.Conflicts.{Table}
use Rattle.process_tree.specs.Order.{Each}
use Rattle.schedule_model.specs.Histories.{of_process}
use Rattle.schedule_model.proofs.Legal.{both-left, both-right}
use Rattle.hold_tables.specs.Tables.{OpenProcess, has_number, holds_nothing}
use Rattle.hold_tables.specs.Changes.{has_entry}
use Rattle.hold_tables.specs.Kept.{IsKnown, IsTidy, IsTidyAmong, Stands, are_numbered, room_for, room_for_all}
use Rattle.hold_tables.specs.Places.{all_steps}
use Rattle.hold_tables.proofs.Tidy.{each_entry}
use Rattle.hold_tables.proofs.Entries.{each_more}
use Rattle.hold_tables.proofs.LastAway.{none_own}

-- with one process more, there is its number too
pub number_more : (k : ℕ) (rows : List OpenProcess) (r : OpenProcess) → has_number k (rows ++ r ∷ []) ≡ (has_number k rows || nat_eq r.process k)
number_more k [] r = by (nat_eq r.process k)
  where
    by : (b : Bool) → (b || false) ≡ (false || b)
    by true = refl
    by false = refl
number_more k (x ∷ rows) r = by (nat_eq x.process k) (number_more k rows r)
  where
    by : (b : Bool) → has_number k (rows ++ r ∷ []) ≡ (has_number k rows || nat_eq r.process k) → (b || has_number k (rows ++ r ∷ [])) ≡ ((b || has_number k rows) || nat_eq r.process k)
    by true rest = refl
    by false rest = rest

none_of : (a b : Bool) → a ≡ false → b ≡ false → (a || b) ≡ false
none_of a b none other = ap (λ a. a || b) none ∙ other

numbered_more : (rows : List OpenProcess) (r : OpenProcess) → has_number r.process rows ≡ false → are_numbered rows ≡ true → are_numbered (rows ++ r ∷ []) ≡ true
numbered_more [] r new once = refl
numbered_more (x ∷ rows) r new once = by (nat_eq x.process r.process) refl (numbered_more rows r)
  where
    by : (b : Bool) → nat_eq x.process r.process ≡ b → (has_number r.process rows ≡ false → are_numbered rows ≡ true → are_numbered (rows ++ r ∷ []) ≡ true) → are_numbered (x ∷ (rows ++ r ∷ [])) ≡ true
    by true is rest = absurd (let no : true ≡ false = subst (λ b. (b || has_number r.process rows) ≡ false) is new in cc)
    by false is rest =
        let other : nat_eq r.process x.process ≡ false = ne_eqb r.process x.process (λ same. eqb-false x.process r.process is (sym same)) in
        let none : has_number x.process (rows ++ r ∷ []) ≡ false = number_more x.process rows r ∙ none_of (has_number x.process rows) (nat_eq r.process x.process) (not-true (has_number x.process rows) (both-left (not (has_number x.process rows)) (are_numbered rows) once)) other in
        let later = rest (subst (λ b. (b || has_number r.process rows) ≡ false) is new) (both-right (not (has_number x.process rows)) (are_numbered rows) once) in
        rw (none, later) refl

-- no entry is of a process that isn't open
pub none_of_closed : (i : ℕ) (rows : List OpenProcess) (net : List Entry) → has_number i rows ≡ false → Each (λ e. has_number e.process rows ≡ true) net → has_entry i net ≡ false
none_of_closed i rows [] closed each = refl
none_of_closed i rows (e ∷ net) closed each = by (nat_eq e.process i) refl (none_of_closed i rows net closed each.1)
  where
    by : (b : Bool) → nat_eq e.process i ≡ b → has_entry i net ≡ false → has_entry i (e ∷ net) ≡ false
    by true is rest = absurd (let no : false ≡ true = sym closed ∙ subst (λ k. has_number k rows ≡ true) (eqb-true e.process i is) each.0 in cc)
    by false is rest = rw is rest

tidy_nothing : (table : Table) (i steps : ℕ) → steps < 65536 → IsTidyAmong table [] (holds_nothing i steps)
unfolding IsDistinct
tidy_nothing table i steps small = record { within = tt; once = tt; fixed = omega arith; running = tt; reserved = tt; fits = omega arith; small = small }

room_more : (net : List Entry) (rows : List OpenProcess) (r : OpenProcess) → room_for_all net (rows ++ r ∷ []) ≡ room_for_all net rows + room_for net r
room_more net [] r = omega arith
room_more net (x ∷ rows) r = let more = room_more net rows r in omega (arith, more)

room_at_most : (net : List Entry) (rows : List OpenProcess) → room_for_all net rows ≤ all_steps rows
room_at_most net [] = omega arith
room_at_most net (r ∷ rows) = let rest = room_at_most net rows in omega (arith, rest)

-- a process opens where the net has room for all steps
pub open_stands : (i steps : ℕ) (table : Table) (net : List Entry) (rows : List OpenProcess) (capacity after : ℕ) → has_number i rows ≡ false → steps < 65536
    → length net + (all_steps rows + steps) ≤ after → Stands table net rows capacity → Stands table net (rows ++ holds_nothing i steps ∷ []) after
open_stands i steps table net rows capacity after closed small room (tidy, was) =
    let new = holds_nothing i steps in
    let more = room_more net rows new in
    let most = room_at_most net rows in
    let own : of_process i net ≡ [] = none_own i net (none_of_closed i rows net closed tidy.of_open) in (
      record {
        numbered = numbered_more rows new closed tidy.numbered;
        of_open = each_entry net (λ e is. number_more e.process rows new ∙ or_left (has_number e.process rows) (nat_eq i e.process) is) tidy.of_open;
        known = tidy.known;
        tidy = each_more (IsTidy table net) rows new tidy.tidy (subst (λ es. IsTidyAmong table es new) (sym own) (tidy_nothing table i steps small));
      },
      omega (arith, more, most, room),
    )

-- room that was taken in vain leaves the tables standing
pub stands_on : (table : Table) (net : List Entry) (rows : List OpenProcess) (capacity after : ℕ) → capacity ≤ after → Stands table net rows capacity → Stands table net rows after
stands_on table net rows capacity after more (tidy, room) = (tidy, omega (arith, room, more))

-- what is dropped: the entries and the process with the number
abbrev pub others : ℕ → List Entry → List Entry
others i net = filter (λ e. not (nat_eq e.process i)) net

abbrev pub other_processes : ℕ → List OpenProcess → List OpenProcess
other_processes i rows = filter (λ r. not (nat_eq r.process i)) rows

pub same_of_others : (i k : ℕ) (net : List Entry) → nat_eq k i ≡ false → of_process k (others i net) ≡ of_process k net
same_of_others i k [] other = refl
same_of_others i k (e ∷ net) other = by (nat_eq e.process i) (nat_eq e.process k) refl refl (same_of_others i k net other)
  where
    by : (b d : Bool) → nat_eq e.process i ≡ b → nat_eq e.process k ≡ d → of_process k (others i net) ≡ of_process k net → of_process k (others i (e ∷ net)) ≡ of_process k (e ∷ net)
    by true true is also rest = absurd (eqb-false k i other (sym (eqb-true e.process k also) ∙ eqb-true e.process i is))
    by true false is also rest = rw (is, also) rest
    by false true is also rest = rw (is, also) (ap (e ∷◌) rest)
    by false false is also rest = rw (is, also) rest

fewer : (i : ℕ) (net : List Entry) → length (others i net) ≤ length net
fewer i [] = omega arith
fewer i (e ∷ net) = by (nat_eq e.process i) (fewer i net)
  where
    by : (b : Bool) → length (others i net) ≤ length net → length (if not b then e ∷ others i net else others i net) ≤ length (e ∷ net)
    by true rest = omega (arith, rest)
    by false rest = omega (arith, rest)

each_other : {A : Type 0} (P : A → Type 0) (p : A → Bool) (xs : List A) → Each P xs → Each P (filter p xs)
each_other P p [] each = each
each_other P p (x ∷ xs) each = by (p x) refl (each_other P p xs each.1)
  where
    by : (b : Bool) → p x ≡ b → Each P (filter p xs) → Each P (filter p (x ∷ xs))
    by true is rest = rw is (each.0, rest)
    by false is rest = rw is rest

pub number_of_others : (i k : ℕ) (rows : List OpenProcess) → nat_eq k i ≡ false → has_number k (other_processes i rows) ≡ has_number k rows
number_of_others i k [] other = refl
number_of_others i k (r ∷ rows) other = by (nat_eq r.process i) (nat_eq r.process k) refl refl (number_of_others i k rows other)
  where
    by : (b d : Bool) → nat_eq r.process i ≡ b → nat_eq r.process k ≡ d → has_number k (other_processes i rows) ≡ has_number k rows → has_number k (other_processes i (r ∷ rows)) ≡ has_number k (r ∷ rows)
    by true true is also rest = absurd (eqb-false k i other (sym (eqb-true r.process k also) ∙ eqb-true r.process i is))
    by true false is also rest = rw (is, also) rest
    by false d is also rest = rw (is, also) (ap (d ||◌) rest)

numbered_others : (i : ℕ) (rows : List OpenProcess) → are_numbered rows ≡ true → are_numbered (other_processes i rows) ≡ true
numbered_others i [] once = refl
numbered_others i (r ∷ rows) once = by (nat_eq r.process i) refl (numbered_others i rows (both-right (not (has_number r.process rows)) (are_numbered rows) once))
  where
    by : (b : Bool) → nat_eq r.process i ≡ b → are_numbered (other_processes i rows) ≡ true → are_numbered (other_processes i (r ∷ rows)) ≡ true
    by true is rest = rw is rest
    by false is rest = rw (is, number_of_others i r.process rows is, not-true (has_number r.process rows) (both-left (not (has_number r.process rows)) (are_numbered rows) once), rest) refl

open_others : (i : ℕ) (rows : List OpenProcess) (net : List Entry) → Each (λ e. has_number e.process rows ≡ true) net → Each (λ e. has_number e.process (other_processes i rows) ≡ true) (others i net)
open_others i rows [] each = each
open_others i rows (e ∷ net) each = by (nat_eq e.process i) refl (open_others i rows net each.1)
  where
    by : (b : Bool) → nat_eq e.process i ≡ b → Each (λ e. has_number e.process (other_processes i rows) ≡ true) (others i net) → Each (λ e. has_number e.process (other_processes i rows) ≡ true) (others i (e ∷ net))
    by true is rest = rw is rest
    by false is rest = rw is (number_of_others i e.process rows is ∙ each.0, rest)

tidy_others : (i : ℕ) (table : Table) (net : List Entry) (rows : List OpenProcess) → Each (IsTidy table net) rows → Each (IsTidy table (others i net)) (other_processes i rows)
tidy_others i table net [] each = each
tidy_others i table net (r ∷ rows) each = by (nat_eq r.process i) refl (tidy_others i table net rows each.1)
  where
    by : (b : Bool) → nat_eq r.process i ≡ b → Each (IsTidy table (others i net)) (other_processes i rows) → Each (IsTidy table (others i net)) (other_processes i (r ∷ rows))
    by true is rest = rw is rest
    by false is rest = rw is (subst (λ es. IsTidyAmong table es r) (sym (same_of_others i r.process net is)) each.0, rest)

room_others : (i : ℕ) (net : List Entry) (rows : List OpenProcess) → room_for_all (others i net) (other_processes i rows) ≤ room_for_all net rows
room_others i net [] = omega arith
room_others i net (r ∷ rows) = by (nat_eq r.process i) refl (room_others i net rows)
  where
    by : (b : Bool) → nat_eq r.process i ≡ b → room_for_all (others i net) (other_processes i rows) ≤ room_for_all net rows → room_for_all (others i net) (other_processes i (r ∷ rows)) ≤ room_for_all net (r ∷ rows)
    by true is rest = rw is (omega (arith, rest))
    by false is rest = rw (is, same_of_others i r.process net is) (omega (arith, rest))

-- a process is dropped
pub drop_stands : (i : ℕ) (table : Table) (net : List Entry) (rows : List OpenProcess) (capacity : ℕ) → Stands table net rows capacity → Stands table (others i net) (other_processes i rows) capacity
drop_stands i table net rows capacity (tidy, room) =
    let less = room_others i net rows in
    let fewer_entries = fewer i net in (
      record {
        numbered = numbered_others i rows tidy.numbered;
        of_open = open_others i rows net tidy.of_open;
        known = each_other (IsKnown table) (λ e. not (nat_eq e.process i)) net tidy.known;
        tidy = tidy_others i table net rows tidy.tidy;
      },
      omega (arith, less, fewer_entries, room),
    )
