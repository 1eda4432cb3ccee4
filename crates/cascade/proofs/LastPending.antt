-- The last pending entry of a process is its last net entry.
use Rattle.std.proofs.Common.{◌≡◌, ℕ, zero, suc, ◌+◌, ◌-◌, ◌<◌, Bool, true, false, List, [], ◌∷◌, ◌++◌, length, take, drop, filter, Option, Some, None, sym, refl, ap, ◌∙◌, arith, subst, length-append, if◌then◌else◌}
use Rattle.std.specs.Prelude.{nat_eq, slice_index_or}
use Rattle.std.proofs.lemmas.Bool.{eq-eqb, eqb-true}
use Rattle.std.proofs.lemmas.List.{drop-append-le, take-append-drop}
use Rattle.std.proofs.lemmas.List.Elements.{filter-append}
use Rattle.process_tree.specs.declared.entry.Entry.{Entry}
use Rattle.schedule_model.specs.Histories.{of_process}
use Rattle.schedule_model.specs.Holdings.{behind}
use Rattle.schedule_model.proofs.Apart.{Apart}
use Rattle.process_tree.specs.Conflicts.{do_conflict}
use Rattle.schedule_model.specs.Blocking.{against}
use Rattle.schedule_model.specs.Conflict.{conflict}
use Rattle.machine_model.specs.declared.blocked.Rule.TheVariants.{A5}
use Rattle.machine_model.specs.Blocks.{by_rule, least_block}
use Rattle.hold_tables.specs.Kept.{AreTidy}
use Rattle.hold_tables.specs.Reading.{least_step}
use Rattle.hold_tables.specs.Tables.{Tables, kept_of, lasts}
use Rattle.hold_tables.specs.Changes.{has_entry}
use Rattle.hold_tables.specs.Places.{last_place, later_place}
use Rattle.hold_tables.proofs.LastAway.{none_own}
use Rattle.hold_tables.proofs.Places.{no_place}
use Rattle.hold_tables.proofs.Standing.{behind-rest, net_apart}
use Rattle.cascade.specs.Undoing.{first, last_pending, step_of, undo_block}
use Rattle.cascade.proofs.Steps.{by_undo_if, least_by_undo}
use Rattle.cascade.proofs.Marking.{rest_at, rest_none}

lasts_none : {A : Type 0} (xs : List A) → lasts 0 xs ≡ []
lasts_none xs = rest_none xs (length xs - 0) (omega arith)

lasts_push : {A : Type 0} (n : ℕ) (xs : List A) (x : A) → lasts (suc n) (xs ++ x ∷ []) ≡ lasts n xs ++ x ∷ []
lasts_push n xs x =
    let longer = length-append xs (x ∷ []) in
    let from : length (xs ++ x ∷ []) - suc n ≡ length xs - n = omega (arith, longer) in
    ap (λ k. drop k (xs ++ x ∷ [])) from ∙ drop-append-le (length xs - n) xs (x ∷ []) (omega arith)

last_of_lasts : {A : Type 0} (n : ℕ) (xs : List A) (x : A) → 0 < n → lasts 1 (lasts n (xs ++ x ∷ [])) ≡ x ∷ []
last_of_lasts zero xs x some = absurd (omega (arith, some))
last_of_lasts (suc n) xs x some = ap (lasts 1) (lasts_push n xs x) ∙ lasts_push 0 (lasts n xs) x ∙ ap (λ ys. ys ++ x ∷ []) (lasts_none (lasts n xs))

-- the last entry of a process is its own, and none of its entries stands behind
last_there : (i : ℕ) (net : List Entry) (place : ℕ) (d : Entry) → last_place i net ≡ Some place
    → (place < length net) × ((slice_index_or net place d).process ≡ i) × (has_entry i (drop (place + 1) net) ≡ false)
last_there i [] place d is = absurd cc
last_there i (e ∷ es) place d is = by (last_place i es) (nat_eq e.process i) refl refl is (last_there i es)
  where
    by : (o : Option ℕ) (b : Bool) → last_place i es ≡ o → nat_eq e.process i ≡ b → later_place i e o ≡ Some place
        → ((k : ℕ) (d : Entry) → last_place i es ≡ Some k → (k < length es) × ((slice_index_or es k d).process ≡ i) × (has_entry i (drop (k + 1) es) ≡ false))
        → (place < length (e ∷ es)) × ((slice_index_or (e ∷ es) place d).process ≡ i) × (has_entry i (drop (place + 1) (e ∷ es)) ≡ false)
    by (Some k) b o_is b_is is rest =
        let found = rest k d o_is in
        let less = found.0 in
        let same : k + 1 ≡ place = cc in
        let next : place ≡ suc k = omega (arith, same) in
        let after : place + 1 ≡ suc (k + 1) = omega (arith, same) in (
          omega (arith, less, same),
          ap (λ n. (slice_index_or (e ∷ es) n d).process) next ∙ found.1,
          ap (λ n. has_entry i (drop n (e ∷ es))) after ∙ found.2,
        )
    by None true o_is b_is is rest =
        let same : Some 0 ≡ Some place = sym (ap (λ b. if b then Some 0 else None) b_is) ∙ is in
        let first_one : 0 ≡ place = cc in (
          omega (arith, first_one),
          ap (λ n. (slice_index_or (e ∷ es) n d).process) (sym first_one) ∙ eqb-true e.process i b_is,
          ap (λ n. has_entry i (drop (n + 1) (e ∷ es))) (sym first_one) ∙ no_place i es o_is,
        )
    by None false o_is b_is is rest = absurd (let no : None ≡ Some place = sym (ap (λ b. if b then Some 0 else None) b_is) ∙ is in cc)

split : (net : List Entry) (place : ℕ) (x : Entry) → place < length net → ((d : Entry) → x ≡ slice_index_or net place d) → net ≡ take place net ++ x ∷ drop (place + 1) net
split net place x less is = sym (take-append-drop place net) ∙ ap (take place net ++◌) (rest_at net place x less is)

-- a process's entries end with its last one
own_last : (i : ℕ) (front : List Entry) (x : Entry) (after : List Entry) → x.process ≡ i → has_entry i after ≡ false → of_process i (front ++ x ∷ after) ≡ of_process i front ++ x ∷ []
own_last i front x after own none =
    filter-append (λ (e : Entry). nat_eq e.process i) front (x ∷ after)
    ∙ ap (of_process i front ++◌) (ap (λ b. if b then x ∷ of_process i after else of_process i after) (eq-eqb x.process i own) ∙ ap (x ∷◌) (none_own i after none))

none_of_none : (n : ℕ) (es : List Entry) → es ≡ [] → lasts n es ≡ []
none_of_none n [] is = rest_none [] (0 - n) (omega arith)
none_of_none n (e ∷ es) is = absurd cc

module _ (t : Tables) (i step : ℕ) (last : step_of (last_pending t i) ≡ Some step) where
  -- where something is pending, the process has a last entry
  pub has_last : last_place i t.net ≡ None → ⊥
  has_last none =
      let empty = none_own i t.net (no_place i t.net none) in
      let nothing : last_pending t i ≡ None = ap (λ es. first (lasts 1 es)) (none_of_none (kept_of t i).pending (of_process i t.net) empty) in
      let no : None ≡ Some step = sym (ap step_of nothing) ∙ last in
      cc

  some_pending : (n : ℕ) → (kept_of t i).pending ≡ n → 0 < n
  some_pending zero is = absurd (let no : None ≡ Some step = sym (ap (λ n. step_of (first (lasts 1 (lasts n (of_process i t.net))))) is ∙ ap (λ es. step_of (first (lasts 1 es))) (lasts_none (of_process i t.net))) ∙ last in cc)
  some_pending (suc n) is = omega arith

  module _ (place : ℕ) (x : Entry) (at : last_place i t.net ≡ Some place) (is : (d : Entry) → x ≡ slice_index_or t.net place d) where
    pub within : place < length t.net
    within = (last_there i t.net place x at).0

    -- it is the pending one
    pub is_pending : last_pending t i ≡ Some x
    is_pending =
        let found = last_there i t.net place x at in
        let own : x.process ≡ i = ap (λ (e : Entry). e.process) (is x) ∙ found.1 in
        ap (λ es. first (lasts 1 (lasts (kept_of t i).pending es))) (ap (of_process i) (split t.net place x found.0 is) ∙ own_last i (take place t.net) x (drop (place + 1) t.net) own found.2)
        ∙ ap first (last_of_lasts (kept_of t i).pending (of_process i (take place t.net)) x (some_pending (kept_of t i).pending refl))

    pub is_step : x.step ≡ step
    is_step = let same : Some x.step ≡ Some step = sym (ap step_of is_pending) ∙ last in cc

    -- what stands behind it is the rest
    pub rest_behind : Apart t.net → behind x t.net ≡ drop (place + 1) t.net
    rest_behind apart =
        let whole = split t.net place x within is in
        ap (behind x) whole ∙ behind-rest (take place t.net) x (drop (place + 1) t.net) (subst Apart whole apart)

    -- so the undo is blocked by the least step of the rest that conflicts
    pub block_is : AreTidy t → undo_block t (last_pending t i) ≡ by_undo_if step (least_step None (filter (conflict (do_conflict t.conflicts) x) (drop (place + 1) t.net)))
    block_is tidy =
        ap (undo_block t) is_pending
        ∙ ap (λ es. least_block (by_rule A5 (against (do_conflict t.conflicts) x es))) (rest_behind (net_apart t tidy))
        ∙ least_by_undo step (do_conflict t.conflicts) x (drop (place + 1) t.net) is_step
