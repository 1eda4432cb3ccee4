-- Completion after its first undo is the rest of it.
use Rattle.std.proofs.Common.{◌≡◌, ℕ, zero, suc, Bool, true, false, not, cond, eqb, ◌&&◌, ◌||◌, List, [], ◌∷◌, ◌++◌, map, filter, drop, reverse, sym, refl, ap, ◌∙◌, subst, append-nil, append_assoc}
use Rattle.std.proofs.Math.Bool.{and-false, and-true, or-false, and_comm}
use Rattle.std.specs.Bool.{IsTrue}
use Rattle.std.specs.List.{list_any, list_all, flat_map}
use Rattle.std.proofs.lemmas.Bool.{eq-eqb, eqb-true, and_parts, and_from, or_left, or_right, not-true}
use Rattle.std.proofs.lemmas.List.{reverse-append}
use Rattle.std.proofs.lemmas.List.Folds.{list_any-append, list_all-append}
use Rattle.std.proofs.lemmas.List.Elements.{filter-append}
use Rattle.process_tree.specs.declared.entry.Entry.{Entry}
use Rattle.process_tree.specs.Shape.{fixed_len}
use Rattle.schedule_model.specs.declared.event.Event.{Event}
use Rattle.schedule_model.specs.declared.event.Event.TheVariants.{Act, End}
use Rattle.schedule_model.specs.Course.{Course, shape}
use Rattle.schedule_model.specs.Conflict.{ConflictRelation}
use Rattle.schedule_model.specs.Histories.{active, is_active, net, net_of, net_steps, of_process, same_step, undoing}
use Rattle.schedule_model.specs.Recovery.{backward_entries, owed}
use Rattle.schedule_model.specs.Completion.{is_to_undo, all_backward_entries, closing, completion}
use Rattle.schedule_model.specs.OwnOrder.{is_of_last}
use Rattle.schedule_model.specs.Legal.{is_legal}
use Rattle.schedule_model.proofs.Snoc.{filter_twice, filter_same, net-undo, net_of-other, backward_entries-by_net, owed-by_net, is_active-do, active-do, of_process-append}
use Rattle.schedule_model.proofs.Apart.{Apart, Apart-filter, Apart-last, net-apart}
use Rattle.schedule_model.proofs.Undoing.{Undoes, undoes_last}
use Rattle.schedule_model.proofs.Behind.{same_step-itself}

-- A tail of a list, as a filter.

listed : (ps us : List Entry) (u : Entry) → list_any (same_step u) (ps ++ u ∷ us) ≡ true
listed ps us u = list_any-append (same_step u) ps (u ∷ us) ∙ or_right (list_any (same_step u) ps) _ (or_left (same_step u u) (list_any (same_step u) us) (same_step-itself u))

all_listed : (ps us : List Entry) → filter (λ e. list_any (same_step e) (ps ++ us)) us ≡ us
all_listed ps [] = refl
all_listed ps (u ∷ us) =
    ap (λ t. cond t (u ∷ filter (λ e. list_any (same_step e) (ps ++ u ∷ us)) us) (filter (λ e. list_any (same_step e) (ps ++ u ∷ us)) us)) (listed ps us u)
    ∙ ap (λ es. u ∷ es) (ap (λ vs. filter (λ e. list_any (same_step e) vs) us) (sym (append_assoc ps (u ∷ []) us)) ∙ all_listed (ps ++ u ∷ []) us)

none_of : (x : Entry) (xs : List Entry) → list_all (λ f. not (same_step x f)) xs ≡ true → (k : ℕ) → list_any (same_step x) (drop k xs) ≡ false
none_of x [] all zero = refl
none_of x [] all (suc k) = refl
none_of x (y ∷ ys) all zero =
    let parts = and_parts (not (same_step x y)) (list_all (λ f. not (same_step x f)) ys) all in
    rw (not-true (same_step x y) parts.0) (none_of x ys parts.1 zero)
none_of x (y ∷ ys) all (suc k) = none_of x ys (and_parts (not (same_step x y)) (list_all (λ f. not (same_step x f)) ys) all).1 k

-- of different steps, those of a tail's steps are the tail
pub tail_as_filter : (w : List Entry) → Apart w → (k : ℕ) → filter (λ e. list_any (same_step e) (drop k w)) w ≡ drop k w
tail_as_filter w apart zero = all_listed [] w
tail_as_filter [] apart (suc k) = refl
tail_as_filter (x ∷ xs) apart (suc k) = rw (none_of x xs apart.0 k) (tail_as_filter xs apart.1 k)

-- a list that ends with an entry of this step does
pub of_last : (us : List Entry) (x e : Entry) → is_of_last (us ++ x ∷ []) e ≡ same_step x e
of_last [] x e = refl
of_last (u ∷ []) x e = refl
of_last (u ∷ v ∷ us) x e = of_last (v ∷ us) x e

-- what a filter lets through passes
filtered_pass : {X : Type 0} (p : X → Bool) (xs : List X) → list_all p (filter p xs) ≡ true
filtered_pass p [] = refl
filtered_pass p (x ∷ xs) = by_test (p x) refl (filtered_pass p xs)
  where
    by_test : (t : Bool) → p x ≡ t → list_all p (filter p xs) ≡ true → list_all p (cond t (x ∷ filter p xs) (filter p xs)) ≡ true
    by_test true is rest = and_from (p x) (list_all p (filter p xs)) is rest
    by_test false is rest = rest

kept_all : (x : Entry) (xs : List Entry) → IsTrue (list_all (λ f. not (same_step f x)) xs) → filter (λ f. not (same_step f x)) xs ≡ xs
kept_all x [] all = refl
kept_all x (y ∷ ys) all =
    let parts = and_parts (not (same_step y x)) (list_all (λ f. not (same_step f x)) ys) all in
    ap (λ t. cond t (y ∷ filter (λ f. not (same_step f x)) ys) (filter (λ f. not (same_step f x)) ys)) parts.0 ∙ ap (λ es. y ∷ es) (kept_all x ys parts.1)

-- of different steps, the last one goes alone
without_last : (front : List Entry) (x : Entry) → Apart (front ++ x ∷ []) → filter (λ f. not (same_step f x)) (front ++ x ∷ []) ≡ front
without_last front x apart =
    filter-append (λ f. not (same_step f x)) front (x ∷ [])
    ∙ (ap (λ es. es ++ filter (λ f. not (same_step f x)) (x ∷ [])) (kept_all x front (Apart-last front x apart))
    ∙ (ap (λ s. front ++ cond (not s) (x ∷ []) []) (same_step-itself x) ∙ append-nil front))

module _ (courses : List Course) (h : List Event) where
  own_to_undo : (i : ℕ) (e : Entry) → is_active h i ≡ true → (t : Bool) → eqb e.process i ≡ t
      → (is_to_undo courses h e && t) ≡ (t && list_any (same_step e) (backward_entries courses h i))
  own_to_undo i e active true own =
      and_comm (is_to_undo courses h e) true
      ∙ (ap (λ k. is_active h k && list_any (same_step e) (backward_entries courses h k)) (eqb-true e.process i own)
      ∙ ap (λ a. a && list_any (same_step e) (backward_entries courses h i)) active)
  own_to_undo i e active false own = and-false (is_to_undo courses h e)

  -- of all that is to be undone, what is of one active process is its backward recovery
  pub all_backward_entries-of : (i : ℕ) → Apart (net h) → is_active h i ≡ true → of_process i (all_backward_entries courses h) ≡ backward_entries courses h i
  all_backward_entries-of i apart active =
      filter_twice (is_to_undo courses h) (λ e. eqb e.process i) (net h)
      ∙ (filter_same (λ e. is_to_undo courses h e && eqb e.process i) (λ e. eqb e.process i && list_any (same_step e) (backward_entries courses h i)) (net h)
      (λ e. own_to_undo i e active (eqb e.process i) refl)
      ∙ (sym (filter_twice (λ e. eqb e.process i) (λ e. list_any (same_step e) (backward_entries courses h i)) (net h))
      ∙ tail_as_filter (net_of h i) (Apart-filter (λ e. eqb e.process i) (net h) apart) (fixed_len (shape courses i) (net_steps h i))))

module _ (table : ConflictRelation) (courses : List Course) (h : List Event) (legal : IsTrue (is_legal table courses h)) (front : List Entry) (x : Entry)
    (last_is : all_backward_entries courses h ≡ front ++ x ∷ []) where
  abbrev after : List Event
  after = h ++ Act (undoing x) ∷ []

  last_passes : is_to_undo courses h x ≡ true
  last_passes =
      let all = sym (list_all-append (is_to_undo courses h) front (x ∷ [])) ∙ (ap (list_all (is_to_undo courses h)) (sym last_is) ∙ filtered_pass (is_to_undo courses h) (net h)) in
      (and_parts (is_to_undo courses h x) true (and_parts (list_all (is_to_undo courses h) front) (is_to_undo courses h x && true) all).1).0

  pub is_active_one : is_active h x.process ≡ true
  is_active_one = (and_parts (is_active h x.process) (list_any (same_step x) (backward_entries courses h x.process)) last_passes).0

  -- the last of all that is to be undone is the last of its process
  last_of_own : backward_entries courses h x.process ≡ of_process x.process front ++ x ∷ []
  last_of_own =
      sym (all_backward_entries-of courses h x.process (net-apart table courses h legal) is_active_one)
      ∙ (ap (of_process x.process) last_is
      ∙ (of_process-append x.process front (x ∷ [])
      ∙ ap (λ t. of_process x.process front ++ cond t (x ∷ []) []) (eq-eqb x.process x.process refl)))

  pub undo_of_last : IsTrue (is_of_last (backward_entries courses h x.process) (undoing x))
  undo_of_last = ap (λ us. is_of_last us (undoing x)) last_of_own ∙ (of_last (of_process x.process front) x (undoing x) ∙ same_step-itself x)

  -- its undo takes it back
  taken_back : Undoes courses (undoing x) h after
  taken_back = undoes_last table courses h (undoing x) legal refl undo_of_last

  net_after : net after ≡ filter (λ f. not (same_step f x)) (net h)
  net_after = net-undo h (undoing x) refl

  same_last : (e : Entry) → same_step e taken_back.last ≡ same_step e x
  same_last e =
      let parts = and_parts (eqb taken_back.last.process x.process) (eqb taken_back.last.step x.step) taken_back.same in
      ap (λ i. eqb e.process i && eqb e.step taken_back.last.step) (eqb-true taken_back.last.process x.process parts.0)
      ∙ ap (λ b. eqb e.process x.process && eqb e.step b) (eqb-true taken_back.last.step x.step parts.1)

  -- what else was to be undone still is
  still_listed : (e : Entry) → same_step e x ≡ false → (own : Bool) → eqb x.process e.process ≡ own
      → list_any (same_step e) (backward_entries courses after e.process) ≡ list_any (same_step e) (backward_entries courses h e.process)
  still_listed e other true own =
      let same = eqb-true x.process e.process own in
      subst (λ i. list_any (same_step e) (backward_entries courses after i) ≡ list_any (same_step e) (backward_entries courses h i)) same
      (sym (ap (list_any (same_step e)) taken_back.backward_entries
      ∙ (list_any-append (same_step e) (backward_entries courses after x.process) (taken_back.last ∷ [])
      ∙ (ap (λ t. list_any (same_step e) (backward_entries courses after x.process) || (t || false)) (same_last e ∙ other)
      ∙ or-false (list_any (same_step e) (backward_entries courses after x.process))))))
  still_listed e other false own = ap (list_any (same_step e)) (backward_entries-by_net courses after h e.process (net_of-other h (undoing x) e.process own))

  by_step : (e : Entry) (s : Bool) → same_step e x ≡ s → (not s && is_to_undo courses after e) ≡ (is_to_undo courses h e && not s)
  by_step e true is = sym (and-false (is_to_undo courses h e))
  by_step e false is =
      ap (λ a. a && list_any (same_step e) (backward_entries courses after e.process)) (is_active-do h (undoing x) e.process)
      ∙ (ap (λ l. is_active h e.process && l) (still_listed e is (eqb x.process e.process) refl)
      ∙ sym (and-true (is_to_undo courses h e)))

  -- all that is to be undone is the same without it
  pub all_backward_entries-after : all_backward_entries courses after ≡ front
  all_backward_entries-after =
      ap (filter (is_to_undo courses after)) net_after
      ∙ (filter_twice (λ f. not (same_step f x)) (is_to_undo courses after) (net h)
      ∙ (filter_same (λ f. not (same_step f x) && is_to_undo courses after f) (λ f. is_to_undo courses h f && not (same_step f x)) (net h) (λ f. by_step f (same_step f x) refl)
      ∙ (sym (filter_twice (is_to_undo courses h) (λ f. not (same_step f x)) (net h))
      ∙ (ap (filter (λ f. not (same_step f x))) last_is
      ∙ without_last front x (subst Apart last_is (Apart-filter (is_to_undo courses h) (net h) (net-apart table courses h legal)))))))

  owed_after_undo : (i : ℕ) (own : Bool) → eqb x.process i ≡ own → owed courses after i ≡ owed courses h i
  owed_after_undo i true own = subst (λ k. owed courses after k ≡ owed courses h k) (eqb-true x.process i own) taken_back.owed
  owed_after_undo i false own = owed-by_net courses after h i (net_of-other h (undoing x) i own)

  closings : (is : List ℕ) → flat_map (closing courses after) is ≡ flat_map (closing courses h) is
  closings [] = refl
  closings (i ∷ is) =
      ap (λ es. map Act es ++ End i ∷ [] ++ flat_map (closing courses after) is) (owed_after_undo i (eqb x.process i) refl)
      ∙ ap (λ es. closing courses h i ++ es) (closings is)

  -- completion goes on with the rest after its first undo
  pub completion-after_undo : completion courses h ≡ Act (undoing x) ∷ completion courses after
  completion-after_undo =
      ap (λ es. map (λ e. Act (undoing e)) (reverse es) ++ flat_map (closing courses h) (active h)) last_is
      ∙ (ap (λ es. map (λ e. Act (undoing e)) es ++ flat_map (closing courses h) (active h)) (reverse-append front (x ∷ []))
      ∙ ap (λ es. Act (undoing x) ∷ es)
      (ap (λ es. map (λ e. Act (undoing e)) (reverse es) ++ flat_map (closing courses h) (active h)) (sym all_backward_entries-after)
      ∙ (ap (λ es. map (λ e. Act (undoing e)) (reverse (all_backward_entries courses after)) ++ es) (sym (closings (active h)))
      ∙ ap (λ is. map (λ e. Act (undoing e)) (reverse (all_backward_entries courses after)) ++ flat_map (closing courses after) is) (sym (active-do h (undoing x))))))
