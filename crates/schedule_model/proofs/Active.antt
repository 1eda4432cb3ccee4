-- Who is active, and a history in which nobody is.
use Rattle.std.proofs.Common.{◌≡◌, ℕ, Bool, true, false, not, cond, eqb, ◌||◌, ◌&&◌, List, [], ◌∷◌, filter, sym, refl, ap, ◌∙◌}
use Rattle.std.proofs.lemmas.Bool.{eqb-true}
use Rattle.schedule_model.specs.declared.event.Event.{Event}
use Rattle.schedule_model.specs.Course.{Course}
use Rattle.schedule_model.specs.Histories.{is_in, is_active, active, starts, ends, net}
use Rattle.schedule_model.specs.Completion.{is_to_undo, all_backward_entries, completion}

is_in-step : (p : ℕ → Bool) (i x : ℕ) (ys : List ℕ) (e a b : Bool) → eqb i x ≡ e → p x ≡ a → is_in i ys ≡ (b && p i)
    → is_in i (cond a (x ∷ ys) ys) ≡ ((e || b) && p i)
is_in-step p i x ys true true b same is h = rw (same) (sym (ap p (eqb-true i x same) ∙ is))
is_in-step p i x ys true false true same is h = h
is_in-step p i x ys true false false same is h = h ∙ sym (ap p (eqb-true i x same) ∙ is)
is_in-step p i x ys false true b same is h = rw same h
is_in-step p i x ys false false b same is h = h

-- a number stands in a filtered list where it stood and passes
pub is_in-filter : (p : ℕ → Bool) (i : ℕ) (xs : List ℕ) → is_in i (filter p xs) ≡ (is_in i xs && p i)
is_in-filter p i [] = refl
is_in-filter p i (x ∷ xs) = is_in-step p i x (filter p xs) (eqb i x) (p x) (is_in i xs) refl refl (is_in-filter p i xs)

-- the active processes are those that are active
pub is_active-is_in : (h : List Event) (i : ℕ) → is_in i (active h) ≡ is_active h i
is_active-is_in h i = is_in-filter (λ k. not (is_in k (ends h))) i (starts h)

-- a filter that lets nothing through
pub filter_none : {X : Type 0} (p : X → Bool) (xs : List X) → ((x : X) → p x ≡ false) → filter p xs ≡ []
filter_none p [] none = refl
filter_none p (x ∷ xs) none = rw (none x) (filter_none p xs none)

-- where no process is active, there is nothing to undo
pub all_backward_entries-none : (courses : List Course) (h : List Event) → active h ≡ [] → all_backward_entries courses h ≡ []
all_backward_entries-none courses h none = filter_none (is_to_undo courses h) (net h) (λ e. rw (sym (is_active-is_in h e.process), none) refl)

-- and completion adds nothing
pub completion-none : (courses : List Course) (h : List Event) → active h ≡ [] → completion courses h ≡ []
completion-none courses h none = rw (all_backward_entries-none courses h none, none) refl
