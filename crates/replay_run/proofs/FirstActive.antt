-- The least active process, looked for from the first event on.
use Rattle.std.proofs.Common.{◌≡◌, ◌∙◌, ℕ, Bool, true, false, not, eqb, ◌&&◌, List, [], ◌∷◌, filter, cond, Some, None, refl, ap, sym}
use Rattle.std.proofs.lemmas.Bool.{and_parts, eq-eqb, or_left, or_right, false≢true}
use Rattle.process_tree.specs.Shape.{first_of}
use Rattle.schedule_model.specs.declared.event.Event.{Event}
use Rattle.schedule_model.specs.declared.event.Event.TheVariants.{Start}
use Rattle.schedule_model.specs.Histories.{active, ends, is_active, is_in, starts}

-- those of the processes that start in these events who are active in the whole history
abbrev pub still_active : List Event → List Event → List ℕ
still_active h rest = filter (λ i. not (is_in i (ends h))) (starts rest)

-- who is looked for stands in these events, all of whose processes started in the history
pub record LooksOn (h rest : List Event) : Type 0 where
  pub same : first_of (still_active h rest) ≡ first_of (active h)
  pub within : (i : ℕ) → is_in i (starts rest) ≡ true → is_in i (starts h) ≡ true

pub looks_from_start : (h : List Event) → LooksOn h h
looks_from_start h = record { same = refl; within = λ i is. is }

started_first : (i : ℕ) (after : List Event) → is_in i (starts (Start i ∷ after)) ≡ true
started_first i after = or_left (eqb i i) (is_in i (starts after)) (eq-eqb i i refl)

-- it is the first, where that one is active
pub found_first : (h after : List Event) (i : ℕ) → LooksOn h (Start i ∷ after) → is_active h i ≡ true → Some i ≡ first_of (active h)
found_first h after i looks goes =
    sym (ap (λ t. first_of (cond t (i ∷ still_active h after) (still_active h after))) (and_parts (is_in i (starts h)) (not (is_in i (ends h))) goes).1) ∙ looks.same

later_of : (h after : List Event) (i : ℕ) → ((k : ℕ) → is_in k (starts (Start i ∷ after)) ≡ true → is_in k (starts h) ≡ true) → (k : ℕ) → is_in k (starts after) ≡ true → is_in k (starts h) ≡ true
later_of h after i within k is = within k (or_right (eqb k i) (is_in k (starts after)) is)

-- or it stands behind
pub look_after_start : (h after : List Event) (i : ℕ) → LooksOn h (Start i ∷ after) → is_active h i ≡ false → LooksOn h after
look_after_start h after i looks rests = record { same = by_end (not (is_in i (ends h))) refl; within = later_of h after i looks.within }
  where
    by_end : (t : Bool) → not (is_in i (ends h)) ≡ t → first_of (still_active h after) ≡ first_of (active h)
    by_end false at = sym (ap (λ t. first_of (cond t (i ∷ still_active h after) (still_active h after))) at) ∙ looks.same
    by_end true at = absurd (false≢true (sym rests ∙ (ap (λ t. t && not (is_in i (ends h))) (looks.within i (started_first i after)) ∙ at)))

pub look_after_act : (h after : List Event) (e : Event) → starts (e ∷ after) ≡ starts after → LooksOn h (e ∷ after) → LooksOn h after
look_after_act h after e none looks = record {
  same = ap (λ is. first_of (filter (λ i. not (is_in i (ends h))) is)) (sym none) ∙ looks.same;
  within = λ i is. looks.within i (ap (is_in i) none ∙ is);
}

-- nobody is active where none is first
pub none_active : (is : List ℕ) → first_of is ≡ None → is ≡ []
none_active [] none = refl
none_active (i ∷ is) none = absurd cc
