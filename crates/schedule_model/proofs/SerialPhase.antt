-- The serial phase leads from a list of steps to the entries of each process, in the order of the ends.
use Rattle.std.proofs.Common.{◌≡◌, ◌⊎◌, inl, inr, ⊎_elim, ℕ, zero, suc, ◌+◌, ◌-◌, Bool, true, false, not, cond, eqb, List, [], ◌∷◌, ◌++◌, length, take, drop, Some, sym, refl, ap, ◌∙◌, subst, arith, append_assoc, length-append}
use Rattle.std.specs.Bool.{IsTrue}
use Rattle.std.specs.Prelude.{unwrap_or}
use Rattle.std.specs.List.{flat_map}
use Rattle.std.proofs.lemmas.Bool.{and_from, or_cases, eqb-true, eq-eqb, false≢true, or_parts}
use Rattle.process_tree.specs.declared.entry.Entry.{Entry}
use Rattle.schedule_model.specs.Conflict.{ConflictRelation, conflict}
use Rattle.schedule_model.specs.Histories.{after_number, is_in, of_process}
use Rattle.schedule_model.specs.Reduction.{can_change, carried_back, applied_all}
use Rattle.schedule_model.specs.PrintedTrace.{Trace, entry_at, without, move_between, first_to_end, serial_phase}
use Rattle.schedule_model.proofs.Members.{Among, among-append, among_there, among-more}
use Rattle.schedule_model.proofs.Snoc.{of_process-append}
use Rattle.schedule_model.proofs.Places.{carry_back, move_back, applied_all-append, first_place-at, first_place-none, entry_at-split, without-split}

-- no number twice
abbrev pub Distinct : List ℕ → Type 0
Distinct [] = Unit {0}
Distinct (i ∷ is) = (is_in i is ≡ false) × Distinct is

-- each entry is of one of these processes
abbrev pub AllOf : List ℕ → List Entry → Type 0
AllOf order es = (e : Entry) → Among e es → IsTrue (is_in e.process order)

-- no entry conflicts with an earlier one of a process that ends later
abbrev pub LaterFree : ConflictRelation → List ℕ → List Entry → Type 0
LaterFree table order [] = Unit {0}
LaterFree table order (a ∷ es) = ((x : Entry) → Among x es → IsTrue (is_in a.process (after_number x.process order)) → conflict table a x ≡ false) × LaterFree table order es

-- the entries of these processes, one after another
abbrev pub in_order : List ℕ → List Entry → List Entry
in_order order es = flat_map (λ i. of_process i es) order

-- what the phase gives, from behind what is in place
abbrev pub Orders : ConflictRelation → List ℕ → List Entry → Type 0
Orders table order es = (done : List Entry) (t : ℕ) → t ≡ suc (length done)
    → (applied_all table (serial_phase (length es) order t es).steps (done ++ es) ≡ Some (done ++ in_order order es)) × ((serial_phase (length es) order t es).list ≡ in_order order es)

-- A list has an entry of process i, or none.
pub record FirstOf (i : ℕ) (es : List Entry) : Type 0 where
  pub before : List Entry
  pub entry : Entry
  pub after : List Entry
  pub is : es ≡ before ++ entry ∷ after
  pub own : entry.process ≡ i
  pub none : (e : Entry) → Among e before → eqb e.process i ≡ false

abbrev pub NoneOf : ℕ → List Entry → Type 0
NoneOf i es = (e : Entry) → Among e es → eqb e.process i ≡ false

pub first_or_none : (i : ℕ) (es : List Entry) → FirstOf i es ⊎ NoneOf i es
first_or_none i [] = inr (λ e is. absurd is)
first_or_none i (x ∷ es) = by_own (eqb x.process i) refl (first_or_none i es)
  where
    none_more : eqb x.process i ≡ false → NoneOf i es → NoneOf i (x ∷ es)
    none_more other rest e (inl here) = ap (λ (f : Entry). eqb f.process i) (sym here) ∙ other
    none_more other rest e (inr later) = rest e later

    by_own : (t : Bool) → eqb x.process i ≡ t → FirstOf i es ⊎ NoneOf i es → FirstOf i (x ∷ es) ⊎ NoneOf i (x ∷ es)
    by_own true own rest = inl (record { before = []; entry = x; after = es; is = refl; own = eqb-true x.process i own; none = λ e is. absurd is })
    by_own false other (inl f) = inl (record {
      before = x ∷ f.before;
      entry = f.entry;
      after = f.after;
      is = ap (λ ys. x ∷ ys) f.is;
      own = f.own;
      none = λ e is. ⊎_elim (λ here. ap (λ (g : Entry). eqb g.process i) (sym here) ∙ other) (λ later. f.none e later) is;
    })
    by_own false other (inr none) = inr (none_more other none)

pub of_process-none : (i : ℕ) (es : List Entry) → NoneOf i es → of_process i es ≡ []
of_process-none i [] none = refl
of_process-none i (e ∷ es) none = ap (λ t. cond t (e ∷ of_process i es) (of_process i es)) (none e (inl refl)) ∙ of_process-none i es (λ f is. none f (inr is))

-- without an entry of another process
of_process-other : (j : ℕ) (front : List Entry) (x : Entry) (rest : List Entry) → eqb x.process j ≡ false → of_process j (front ++ x ∷ rest) ≡ of_process j (front ++ rest)
of_process-other j front x rest other =
    of_process-append j front (x ∷ rest)
    ∙ (ap (λ t. of_process j front ++ cond t (x ∷ of_process j rest) (of_process j rest)) other ∙ sym (of_process-append j front rest))

in_order-other : (order : List ℕ) (front : List Entry) (x : Entry) (rest : List Entry) → is_in x.process order ≡ false → in_order order (front ++ x ∷ rest) ≡ in_order order (front ++ rest)
in_order-other [] front x rest out = refl
in_order-other (j ∷ order) front x rest out =
    let parts = or_parts (eqb x.process j) (is_in x.process order) out in
    ap (λ es. es ++ in_order order (front ++ x ∷ rest)) (of_process-other j front x rest parts.0)
    ∙ ap (λ es. of_process j (front ++ rest) ++ es) (in_order-other order front x rest parts.1)

-- its first entry, and then the rest
in_order-first : (i : ℕ) (order : List ℕ) (front : List Entry) (x : Entry) (rest : List Entry) → x.process ≡ i → NoneOf i front → is_in i order ≡ false
    → in_order (i ∷ order) (front ++ x ∷ rest) ≡ x ∷ in_order (i ∷ order) (front ++ rest)
in_order-first i order front x rest own none out =
    let first : of_process i (front ++ x ∷ rest) ≡ x ∷ of_process i (front ++ rest) =
    of_process-append i front (x ∷ rest)
    ∙ (ap (λ es. es ++ of_process i (x ∷ rest)) (of_process-none i front none)
    ∙ (ap (λ t. cond t (x ∷ of_process i rest) (of_process i rest)) (eq-eqb x.process i own)
    ∙ ap (λ es. x ∷ es) (sym (of_process-append i front rest ∙ ap (λ es. es ++ of_process i rest) (of_process-none i front none))))) in
    ap (λ es. es ++ in_order order (front ++ x ∷ rest)) first
    ∙ ap (λ es. (x ∷ of_process i (front ++ rest)) ++ es) (in_order-other order front x rest (ap (λ k. is_in k order) own ∙ out))

module _ (table : ConflictRelation) where
  -- A part of a list is as free.
  free-without : (order : List ℕ) (front : List Entry) (x : Entry) (rest : List Entry) → LaterFree table order (front ++ x ∷ rest) → LaterFree table order (front ++ rest)
  free-without order [] x rest free = free.1
  free-without order (a ∷ front) x rest free =
      (λ y is later. free.0 y (among-more y front x rest is) later, free-without order front x rest free.1)

  -- what stands before an entry of the first to end doesn't conflict with it
  free-before : (i : ℕ) (order : List ℕ) (front : List Entry) (x : Entry) (rest : List Entry) → x.process ≡ i → NoneOf i front → AllOf (i ∷ order) (front ++ x ∷ rest)
      → LaterFree table (i ∷ order) (front ++ x ∷ rest) → (b : Entry) → Among b front → can_change table b x ≡ true
  free-before i order [] x rest own none all free b is = absurd is
  free-before i order (a ∷ front) x rest own none all free b (inr later) = free-before i order front x rest own (λ e there. none e (inr there)) (λ e there. all e (inr there)) free.1 b later
  free-before i order (a ∷ front) x rest own none all free b (inl here) =
      subst (λ f. can_change table f x ≡ true) here
      (and_from (not (eqb a.process x.process)) (not (conflict table a x)) (ap not apart) (ap not (free.0 x (among_there front x rest) later)))
    where
      apart : eqb a.process x.process ≡ false
      apart = ap (eqb a.process) own ∙ none a (inl refl)

      listed : is_in a.process order ≡ true
      listed = ⊎_elim (λ same. absurd (false≢true (sym (none a (inl refl)) ∙ same))) (λ l. l) (or_cases (eqb a.process i) (is_in a.process order) (all a (inl refl)))

      later : IsTrue (is_in a.process (after_number x.process (i ∷ order)))
      later = ap (λ t. is_in a.process (cond t order (after_number x.process order))) (eq-eqb x.process i own) ∙ listed

  -- One that has no entry is passed over.

  skip-first : (i : ℕ) (order : List ℕ) (es : List Entry) → NoneOf i es → first_to_end (i ∷ order) es ≡ first_to_end order es
  skip-first i order es none = ap (λ o. unwrap_or o (first_to_end order es)) (first_place-none (λ (e : Entry). eqb e.process i) es none)

  none-part : (i k : ℕ) (es : List Entry) → NoneOf i es → NoneOf i (without k es)
  none-part i k es none e is =
      ⊎_elim (λ l. none e (in_take (k - 1) es l)) (λ r. none e (in_drop k es r)) (among-append e (take (k - 1) es) (drop k es) is)
    where
      in_take : (n : ℕ) (xs : List Entry) → Among e (take n xs) → Among e xs
      in_take zero [] is = absurd is
      in_take zero (x ∷ xs) is = absurd is
      in_take (suc n) [] is = absurd is
      in_take (suc n) (x ∷ xs) (inl here) = inl here
      in_take (suc n) (x ∷ xs) (inr later) = inr (in_take n xs later)

      in_drop : (n : ℕ) (xs : List Entry) → Among e (drop n xs) → Among e xs
      in_drop zero [] is = is
      in_drop zero (x ∷ xs) is = is
      in_drop (suc n) [] is = absurd is
      in_drop (suc n) (x ∷ xs) is = inr (in_drop n xs is)

  pub skip : (n i : ℕ) (order : List ℕ) (t : ℕ) (es : List Entry) → NoneOf i es → serial_phase n (i ∷ order) t es ≡ serial_phase n order t es
  skip zero i order t es none = refl
  skip (suc n) i order t es none =
      let k = first_to_end order es in
      ap (λ m. let rest = serial_phase n (i ∷ order) (t + 1) (without m es) in record { steps = move_between (t + m - 1) t ++ rest.steps; list = entry_at m es ++ rest.list }) (skip-first i order es none)
      ∙ ap (λ (rest : Trace). record { steps = move_between (t + k - 1) t ++ rest.steps; list = entry_at k es ++ rest.list }) (skip n i order (t + 1) (without k es) (none-part i k es none))

  -- The first entry of the first to end comes to its place.

  module _ (i : ℕ) (order : List ℕ) (front : List Entry) (x : Entry) (rest : List Entry) (own : x.process ≡ i) (none : NoneOf i front) (out : is_in i order ≡ false)
      (can : (b : Entry) → Among b front → can_change table b x ≡ true) where
    abbrev whole : List Entry
    whole = front ++ x ∷ rest

    abbrev k : ℕ
    k = suc (length front)

    place : first_to_end (i ∷ order) whole ≡ k
    place = ap (λ o. unwrap_or o (first_to_end order whole)) (first_place-at (λ (e : Entry). eqb e.process i) front x rest none (eq-eqb x.process i own))

    phase : (n t : ℕ) → serial_phase (suc n) (i ∷ order) t whole
        ≡ record { steps = move_between (t + k - 1) t ++ (serial_phase n (i ∷ order) (t + 1) (front ++ rest)).steps; list = x ∷ (serial_phase n (i ∷ order) (t + 1) (front ++ rest)).list }
    phase n t =
        ap (λ m. let after = serial_phase n (i ∷ order) (t + 1) (without m whole) in record { steps = move_between (t + m - 1) t ++ after.steps; list = entry_at m whole ++ after.list }) place
        ∙ (ap (λ fs. let after = serial_phase n (i ∷ order) (t + 1) fs in record { steps = move_between (t + k - 1) t ++ after.steps; list = entry_at k whole ++ after.list }) (without-split front x rest)
        ∙ ap (λ fs. let after = serial_phase n (i ∷ order) (t + 1) (front ++ rest) in record { steps = move_between (t + k - 1) t ++ after.steps; list = fs ++ after.list }) (entry_at-split front x rest))

    moved : (done : List Entry) (t : ℕ) → t ≡ suc (length done) → applied_all table (move_between (t + k - 1) t) (done ++ whole) ≡ Some ((done ++ x ∷ []) ++ (front ++ rest))
    moved done t at =
        let long = length-append done whole in
        let more = length-append front (x ∷ rest) in
        move_back table (length front) (t + k - 1) t (done ++ whole) ((done ++ x ∷ []) ++ (front ++ rest)) (omega arith) (omega arith)
        (ap (λ n. carried_back table (length front) n (done ++ whole)) (let e : t + k - 1 ≡ suc (length done) + length front = omega arith in e)
        ∙ (carry_back table done x front rest can ∙ ap Some (sym (append_assoc done (x ∷ []) (front ++ rest)))))

    comes_first : Orders table (i ∷ order) (front ++ rest) → Orders table (i ∷ order) whole
    comes_first later done t at =
        let n = length (front ++ rest) in
        let count : length whole ≡ suc n = (let a = length-append front (x ∷ rest) in let b = length-append front rest in omega arith) in
        let is : serial_phase (length whole) (i ∷ order) t whole
        ≡ record { steps = move_between (t + k - 1) t ++ (serial_phase n (i ∷ order) (t + 1) (front ++ rest)).steps; list = x ∷ (serial_phase n (i ∷ order) (t + 1) (front ++ rest)).list } =
        ap (λ m. serial_phase m (i ∷ order) t whole) count ∙ phase n t in
        let next = later (done ++ x ∷ []) (t + 1) (let l = length-append done (x ∷ []) in omega arith) in
        let goal = in_order-first i order front x rest own none out in (
          ap (λ (r : Trace). applied_all table r.steps (done ++ whole)) is
              ∙ (applied_all-append table (move_between (t + k - 1) t) (serial_phase n (i ∷ order) (t + 1) (front ++ rest)).steps (done ++ whole) ((done ++ x ∷ []) ++ (front ++ rest)) (moved done t at)
              ∙ (next.0 ∙ ap Some (append_assoc done (x ∷ []) (in_order (i ∷ order) (front ++ rest)) ∙ ap (λ fs. done ++ fs) (sym goal)))),
          ap (λ (r : Trace). r.list) is ∙ (ap (λ fs. x ∷ fs) next.1 ∙ sym goal),
        )

  all-in_rest : (i : ℕ) (order : List ℕ) (es : List Entry) → NoneOf i es → AllOf (i ∷ order) es → AllOf order es
  all-in_rest i order es none all e is =
      ⊎_elim (λ same. absurd (false≢true (sym (none e is) ∙ same))) (λ l. l) (or_cases (eqb e.process i) (is_in e.process order) (all e is))

  free-in_rest : (i : ℕ) (order : List ℕ) (es : List Entry) → NoneOf i es → LaterFree table (i ∷ order) es → LaterFree table order es
  free-in_rest i order [] none free = tt
  free-in_rest i order (a ∷ es) none free = (
    λ x is later. free.0 x is (ap (λ t. is_in a.process (cond t order (after_number x.process order))) (none x (inr is)) ∙ later),
    free-in_rest i order es (λ e is. none e (inr is)) free.1,
  )

  all-without : (order : List ℕ) (front : List Entry) (x : Entry) (rest : List Entry) → AllOf order (front ++ x ∷ rest) → AllOf order (front ++ rest)
  all-without order front x rest all e is = all e (among-more e front x rest is)

  -- process after process: an entry of the first to end comes to its place, or it has none left
  one_process : (i : ℕ) (order : List ℕ) → is_in i order ≡ false → ((es : List Entry) → AllOf order es → LaterFree table order es → Orders table order es)
      → (es : List Entry) → ((fs : List Entry) → suc (length fs) ≡ length es → AllOf (i ∷ order) fs → LaterFree table (i ∷ order) fs → Orders table (i ∷ order) fs)
      → AllOf (i ∷ order) es → LaterFree table (i ∷ order) es → FirstOf i es ⊎ NoneOf i es → Orders table (i ∷ order) es
  one_process i order out rest es smaller all free (inl f) done t at =
      let all' = subst (AllOf (i ∷ order)) f.is all in
      let free' = subst (LaterFree table (i ∷ order)) f.is free in
      let ordered = subst (Orders table (i ∷ order)) (sym f.is)
      (comes_first i order f.before f.entry f.after f.own f.none out (free-before i order f.before f.entry f.after f.own f.none all' free')
      (smaller (f.before ++ f.after) (let a = ap length f.is in let b = length-append f.before (f.entry ∷ f.after) in let c = length-append f.before f.after in omega arith)
      (all-without (i ∷ order) f.before f.entry f.after all') (free-without (i ∷ order) f.before f.entry f.after free'))) in
      ordered done t at
  one_process i order out rest es smaller all free (inr none) done t at =
      let next = rest es (all-in_rest i order es none all) (free-in_rest i order es none free) done t at in
      let same = skip (length es) i order t es none in
      let lists : in_order (i ∷ order) es ≡ in_order order es = ap (λ fs. fs ++ in_order order es) (of_process-none i es none) in (
        ap (λ (r : Trace). applied_all table r.steps (done ++ es)) same ∙ (next.0 ∙ ap (λ fs. Some (done ++ fs)) (sym lists)),
        ap (λ (r : Trace). r.list) same ∙ (next.1 ∙ sym lists),
      )

  all_of_one : (i : ℕ) (order : List ℕ) → is_in i order ≡ false → ((es : List Entry) → AllOf order es → LaterFree table order es → Orders table order es)
      → (n : ℕ) (es : List Entry) → length es ≡ n → AllOf (i ∷ order) es → LaterFree table (i ∷ order) es → Orders table (i ∷ order) es
  all_of_one i order out rest zero es long all free =
      one_process i order out rest es (λ fs shorter. absurd (omega arith)) all free (first_or_none i es)
  all_of_one i order out rest (suc n) es long all free =
      one_process i order out rest es (λ fs shorter all' free'. all_of_one i order out rest n fs (omega arith) all' free') all free (first_or_none i es)

  nothing_of : (es : List Entry) → AllOf [] es → es ≡ []
  nothing_of [] all = refl
  nothing_of (e ∷ es) all = absurd (false≢true (all e (inl refl)))

  pub orders : (order : List ℕ) → Distinct order → (es : List Entry) → AllOf order es → LaterFree table order es → Orders table order es
  orders [] distinct es all free done t at =
      let none = nothing_of es all in
      subst (λ fs. (applied_all table (serial_phase (length fs) [] t fs).steps (done ++ fs) ≡ Some (done ++ [])) × ((serial_phase (length fs) [] t fs).list ≡ [])) (sym none) (refl, refl)
  orders (i ∷ order) distinct es all free done t at =
      all_of_one i order distinct.0 (orders order distinct.1) (length es) es refl all free done t at
