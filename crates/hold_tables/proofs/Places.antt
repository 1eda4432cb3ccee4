-- Where something stands in a list, and what is there.
use Rattle.std.specs.Prelude.{if◌then◌else◌, map, nat_le, remove, slice_index_or, slice_set, nat_eq, ◌&&◌, ◌||◌}
use Rattle.std.proofs.Common.{◌≡◌, ℕ, zero, suc, ◌+◌, ◌<◌, Bool, true, false, not, sym, List, [], ◌∷◌, ◌++◌, length, Option, Some, None, refl, ◌∙◌, ap, subst, arith, add-one}
use Rattle.std.proofs.lemmas.Bool.{eq-eqb, eqb-true, false≢true, not-true, or_left, or_right}
use Rattle.schedule_model.proofs.Legal.{both-left, both-right}
use Rattle.hold_tables.specs.Kept.{are_numbered}
use Rattle.process_tree.specs.Order.{Each}
use Rattle.process_tree.specs.declared.entry.Entry.{Entry}
use Rattle.hold_tables.specs.Tables.{OpenProcess, has_number, numbered}
use Rattle.hold_tables.specs.Changes.{change_numbered, has_entry, without_last}
use Rattle.hold_tables.specs.Reading.{least_or, lesser_number}
use Rattle.hold_tables.specs.Places.{place_of, last_place, later_place}

-- with one more at the end
pub last_place-push : (i : ℕ) (es : List Entry) (e : Entry) → last_place i (es ++ e ∷ []) ≡ (if nat_eq e.process i then Some (length es) else last_place i es)
last_place-push i [] e = refl
last_place-push i (first ∷ es) e = ap (later_place i first) (last_place-push i es e) ∙ by (nat_eq e.process i)
  where
    by : (b : Bool) → later_place i first (if b then Some (length es) else last_place i es) ≡ (if b then Some (length (first ∷ es)) else last_place i (first ∷ es))
    by true = ap Some (let size : length es + 1 ≡ length (first ∷ es) = omega arith in size)
    by false = refl

-- a place or none, by a test
abbrev pub first_or_none : Bool → Option ℕ
first_or_none b = if b then Some 0 else None

-- where it has no place, there is no entry
pub no_place : (i : ℕ) (es : List Entry) → last_place i es ≡ None → has_entry i es ≡ false
no_place i [] none = refl
no_place i (e ∷ es) none = by (last_place i es) (nat_eq e.process i) refl refl none (no_place i es)
  where
    by : (o : Option ℕ) (b : Bool) → last_place i es ≡ o → nat_eq e.process i ≡ b → later_place i e o ≡ None → (last_place i es ≡ None → has_entry i es ≡ false) → has_entry i (e ∷ es) ≡ false
    by (Some k) b o_is b_is none rest = absurd cc
    by None true o_is b_is none rest = absurd (let no : Some 0 ≡ None = subst (λ b. first_or_none b ≡ None) b_is none in cc)
    by None false o_is b_is none rest = rw b_is (rest o_is)

-- without an entry of the process, all stay
pub none_away : (i : ℕ) (es : List Entry) → has_entry i es ≡ false → without_last i es ≡ es
none_away i [] none = refl
none_away i (e ∷ es) none = by (nat_eq e.process i) refl (none_away i es)
  where
    by : (b : Bool) → nat_eq e.process i ≡ b → (has_entry i es ≡ false → without_last i es ≡ es) → without_last i (e ∷ es) ≡ e ∷ es
    by true is rest = absurd (let no : true ≡ false = subst (λ b. (b || has_entry i es) ≡ false) is none in cc)
    by false is rest = rw is (ap (e ∷◌) (rest (subst (λ b. (b || has_entry i es) ≡ false) is none)))

by_test : (b : Bool) (xs ys zs : List Entry) → ys ≡ zs → (if b && false then xs else ys) ≡ zs
by_test true xs ys zs is = is
by_test false xs ys zs is = is

-- without the last entry of the process, the others stay
pub last_away : (i : ℕ) (es : List Entry) (place : ℕ) → last_place i es ≡ Some place
    → (place < length es) × (has_entry i es ≡ true) × (without_last i es ≡ remove es place)
last_away i [] place is = absurd cc
last_away i (e ∷ es) place is = by (last_place i es) (nat_eq e.process i) refl refl is (last_away i es)
  where
    by : (o : Option ℕ) (b : Bool) → last_place i es ≡ o → nat_eq e.process i ≡ b → later_place i e o ≡ Some place
        → ((k : ℕ) → last_place i es ≡ Some k → (k < length es) × (has_entry i es ≡ true) × (without_last i es ≡ remove es k))
        → (place < length (e ∷ es)) × (has_entry i (e ∷ es) ≡ true) × (without_last i (e ∷ es) ≡ remove (e ∷ es) place)
    by (Some k) b o_is b_is is rest =
        let (within, has, away) = rest k o_is in
        let same : k + 1 ≡ place = cc in
        rw (← same, add-one, b_is, has) (omega arith, or_right b true refl, by_test b _ _ _ (ap (e ∷◌) away))
    by None true o_is b_is is rest =
        let same : 0 ≡ place = let both : Some 0 ≡ Some place = subst (λ b. first_or_none b ≡ Some place) b_is is in cc in
        rw (← same, b_is, no_place i es o_is) (omega arith, refl, refl)
    by None false o_is b_is is rest = absurd (let no : None ≡ Some place = subst (λ b. first_or_none b ≡ Some place) b_is is in cc)

-- what is kept of a process is what stands at its place
pub at_place : (i : ℕ) (rows : List OpenProcess) (d : OpenProcess) → has_number i rows ≡ true → slice_index_or rows (place_of i rows) d ≡ numbered i rows
at_place i [] d has = absurd cc
at_place i (r ∷ rows) d has = by (nat_eq r.process i) refl (at_place i rows d)
  where
    by : (b : Bool) → nat_eq r.process i ≡ b → (has_number i rows ≡ true → slice_index_or rows (place_of i rows) d ≡ numbered i rows)
        → slice_index_or (r ∷ rows) (place_of i (r ∷ rows)) d ≡ numbered i (r ∷ rows)
    by true is rest = rw is refl
    by false is rest = rw is (rest (subst (λ b. (b || has_number i rows) ≡ true) is has))

-- a change of what is kept of it is a change there
pub changed_at : (f : OpenProcess → OpenProcess) (i : ℕ) (rows : List OpenProcess) → has_number i rows ≡ true → change_numbered f i rows ≡ slice_set rows (place_of i rows) (f (numbered i rows))
changed_at f i [] has = absurd cc
changed_at f i (r ∷ rows) has = by (nat_eq r.process i) refl (changed_at f i rows)
  where
    by : (b : Bool) → nat_eq r.process i ≡ b → (has_number i rows ≡ true → change_numbered f i rows ≡ slice_set rows (place_of i rows) (f (numbered i rows)))
        → change_numbered f i (r ∷ rows) ≡ slice_set (r ∷ rows) (place_of i (r ∷ rows)) (f (numbered i (r ∷ rows)))
    by true is rest = rw is refl
    by false is rest = rw is (ap (r ∷◌) (rest (subst (λ b. (b || has_number i rows) ≡ true) is has)))

-- the least number, with one more at the end
pub least-push : (other : Option ℕ) (from : ℕ) (rows : List OpenProcess) (r : OpenProcess)
    → least_or other from (map (λ r. r.process) (rows ++ r ∷ [])) ≡ least_or (if nat_le from r.process then lesser_number r.process other else other) from (map (λ r. r.process) rows)
least-push other from [] r = refl
least-push other from (x ∷ rows) r = ap (λ o. if nat_le from x.process then lesser_number x.process o else o) (least-push other from rows r)

-- what is true of each is true of what stands at a place
pub each_place : {A : Type 0} (P : A → Type 0) (xs : List A) (place : ℕ) (d : A) → place < length xs → Each P xs → P (slice_index_or xs place d)
each_place P [] place d within each = absurd (omega arith)
each_place P (x ∷ xs) zero d within each = each.0
each_place P (x ∷ xs) (suc place) d within each = each_place P xs place d (omega arith) each.1

-- a number that stands at a place is there
pub number-at : (i : ℕ) (rows : List OpenProcess) (at : ℕ) (d : OpenProcess) → at < length rows → (slice_index_or rows at d).process ≡ i → has_number i rows ≡ true
number-at i [] at d within is = absurd (omega (arith, within))
number-at i (r ∷ rows) zero d within is = or_left (nat_eq r.process i) (has_number i rows) (eq-eqb r.process i is)
number-at i (r ∷ rows) (suc at) d within is = or_right (nat_eq r.process i) (has_number i rows) (number-at i rows at d (omega (arith, within)) is)

-- where the process stands is its place, for no number stands twice
pub place-is : (i : ℕ) (rows : List OpenProcess) (at : ℕ) (d : OpenProcess) → are_numbered rows ≡ true → at < length rows → (slice_index_or rows at d).process ≡ i → at ≡ place_of i rows
place-is i [] at d distinct within is = absurd (omega (arith, within))
place-is i (r ∷ rows) zero d distinct within is = sym (ap (λ t. if t then 0 else suc (place_of i rows)) (eq-eqb r.process i is))
place-is i (r ∷ rows) (suc at) d distinct within is =
    let there = number-at i rows at d (omega (arith, within)) is in
    by (nat_eq r.process i) refl there (place-is i rows at d (both-right (not (has_number r.process rows)) (are_numbered rows) distinct) (omega (arith, within)) is)
  where
    by : (t : Bool) → nat_eq r.process i ≡ t → has_number i rows ≡ true → at ≡ place_of i rows → suc at ≡ place_of i (r ∷ rows)
    by true same has rest =
        let none : has_number i rows ≡ false = subst (λ n. has_number n rows ≡ false) (eqb-true r.process i same) (not-true (has_number r.process rows) (both-left (not (has_number r.process rows)) (are_numbered rows) distinct)) in
        absurd (false≢true (sym none ∙ has))
    by false other has rest = rw other (ap suc rest)
