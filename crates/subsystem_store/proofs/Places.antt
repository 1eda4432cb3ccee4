-- The last forward effect that an undo can be of.
use Rattle.std.specs.Prelude.{◌-◌, nat_lt, ◌==◌, if◌then◌else◌, remove, slice_index_or, is_some}
use Rattle.std.proofs.Common.{◌≡◌, ℕ, ◌+◌, ◌≤◌, ◌<◌, pos, Bool, true, false, List, [], ◌∷◌, ◌++◌, length, get_or, Option, Some, None, refl, sym, ◌∙◌, ap, subst, arith, add-one}
use Rattle.subsystem_store.specs.declared.effect.Effect.{Effect}
use Rattle.subsystem_store.specs.declared.effect.Undoable.{Undoable}
use Rattle.subsystem_store.specs.Values.{is_of, take_last, take_later}
use Rattle.subsystem_store.specs.Matching.{last_place, later_place}
use Rattle.subsystem_store.specs.Order.{is_above, commits}
use Rattle.subsystem_store.specs.Bodies.{last_number}

-- with one more at the end
pub last_place-push : (undo : Effect) (us : List Undoable) (u : Undoable) → last_place undo (us ++ u ∷ []) ≡ (if is_of undo u.effect then Some (length us) else last_place undo us)
last_place-push undo [] u = refl
last_place-push undo (first ∷ us) u = ap (later_place undo first) (last_place-push undo us u) ∙ by (is_of undo u.effect)
  where
    by : (b : Bool) → later_place undo first (if b then Some (length us) else last_place undo us) ≡ (if b then Some (length (first ∷ us)) else last_place undo (first ∷ us))
    by true = ap Some (let size : length us + 1 ≡ length (first ∷ us) = omega arith in size)
    by false = refl

-- a place or none, by a test
abbrev first_or_none : Bool → Option ℕ
first_or_none b = if b then Some 0 else None

-- where it has no place there is none
pub none_taken : (undo : Effect) (us : List Undoable) → last_place undo us ≡ None → take_last undo us ≡ None
none_taken undo [] none = refl
none_taken undo (first ∷ us) none = by (last_place undo us) (is_of undo first.effect) refl refl none (none_taken undo us)
  where
    by : (o : Option ℕ) (b : Bool) → last_place undo us ≡ o → is_of undo first.effect ≡ b → later_place undo first o ≡ None → (last_place undo us ≡ None → take_last undo us ≡ None) → take_last undo (first ∷ us) ≡ None
    by (Some k) b o_is b_is none further = absurd cc
    by None true o_is b_is none further = absurd (let no : Some 0 ≡ None = subst (λ b. first_or_none b ≡ None) b_is none in cc)
    by None false o_is b_is none further = ap (take_later undo first us) (further o_is) ∙ ap (λ b. if b then Some (first.before, us) else None) b_is

-- it is at its place, and the others are those without it
pub found_at : (undo : Effect) (us : List Undoable) (d : Undoable) (place : ℕ) → last_place undo us ≡ Some place
    → (place < length us) × (take_last undo us ≡ Some ((slice_index_or us place d).before, remove us place))
found_at undo [] d place is = absurd cc
found_at undo (first ∷ us) d place is = by (last_place undo us) (is_of undo first.effect) refl refl is (found_at undo us d)
  where
    by : (o : Option ℕ) (b : Bool) → last_place undo us ≡ o → is_of undo first.effect ≡ b → later_place undo first o ≡ Some place
        → ((k : ℕ) → last_place undo us ≡ Some k → (k < length us) × (take_last undo us ≡ Some ((slice_index_or us k d).before, remove us k)))
        → (place < length (first ∷ us)) × (take_last undo (first ∷ us) ≡ Some ((slice_index_or (first ∷ us) place d).before, remove (first ∷ us) place))
    by (Some k) b o_is b_is is further =
        let (within, found) = further k o_is in
        let same : k + 1 ≡ place = cc in
        rw (← same, add-one) (omega arith, ap (take_later undo first us) found)
    by None true o_is b_is is further =
        let same : 0 ≡ place = let both : Some 0 ≡ Some place = subst (λ b. first_or_none b ≡ Some place) b_is is in cc in
        rw (← same) (omega arith, ap (take_later undo first us) (none_taken undo us o_is) ∙ ap (λ b. if b then Some (first.before, us) else None) b_is)
    by None false o_is b_is is further = absurd (let no : None ≡ Some place = subst (λ b. first_or_none b ≡ Some place) b_is is in cc)

-- the last effect is at the last place
pub above_last : (book : List Effect) (d : Effect) (number : ℕ) → 1 ≤ length book → is_above book number ≡ nat_lt (get_or book (length book - 1) d).number number
above_last [] d number some = absurd (omega arith)
above_last (e ∷ []) d number some = refl
above_last (e ∷ next ∷ book) d number some =
    let place : length (e ∷ next ∷ book) - 1 ≡ (length (next ∷ book) - 1) + 1 = omega arith in
    above_last (next ∷ book) d number (omega arith) ∙ rw (place, add-one) refl

pub commits_at_last : (doubt : List Effect) (d : Effect) (number : ℕ) → 1 ≤ length doubt → commits doubt number ≡ ((get_or doubt (length doubt - 1) d).number == number)
commits_at_last [] d number some = absurd (omega arith)
commits_at_last (e ∷ []) d number some = refl
commits_at_last (e ∷ next ∷ doubt) d number some =
    let place : length (e ∷ next ∷ doubt) - 1 ≡ (length (next ∷ doubt) - 1) + 1 = omega arith in
    commits_at_last (next ∷ doubt) d number (omega arith) ∙ rw (place, add-one) refl

pub last_number_at : (doubt : List Effect) (d : Effect) → 1 ≤ length doubt → last_number doubt ≡ (get_or doubt (length doubt - 1) d).number
last_number_at [] d some = absurd (omega arith)
last_number_at (e ∷ []) d some = refl
last_number_at (e ∷ next ∷ doubt) d some =
    let place : length (e ∷ next ∷ doubt) - 1 ≡ (length (next ∷ doubt) - 1) + 1 = omega arith in
    last_number_at (next ∷ doubt) d (omega arith) ∙ rw (place, add-one) refl

-- it has a place exactly where there is one
pub placed_where_taken : (undo : Effect) (us : List Undoable) → is_some (last_place undo us) ≡ is_some (take_last undo us)
placed_where_taken undo us = by (last_place undo us) refl
  where
    by : (o : Option ℕ) → last_place undo us ≡ o → is_some o ≡ is_some (take_last undo us)
    by None is = sym (ap is_some (none_taken undo us is))
    by (Some place) is = sym (ap is_some (found_at undo us (record { effect = undo; before = pos 0 }) place is).1)
