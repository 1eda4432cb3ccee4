-- No count grows too large: a process has fewer entries than 65536, and at most one step under way.
use Rattle.std.proofs.Common.{◌≡◌, ◌<◌, ◌≤◌, ◌+◌, ℕ, Bool, true, false, not, List, [], ◌∷◌, ◌++◌, length, Option, Some, None, refl, ap, ◌∙◌, subst, arith, length-append}
use Rattle.std.specs.Prelude.{IfSome, if◌then◌else◌, nat_eq}
use Rattle.std.proofs.lemmas.Bool.{eqb-true, not-true}
use Rattle.std.proofs.lemmas.List.Elements.{filter-append}
use Rattle.process_tree.specs.declared.entry.Entry.{Entry}
use Rattle.process_tree.specs.Conflicts.{do_conflict}
use Rattle.process_tree.specs.Order.{Each}
use Rattle.schedule_model.specs.Histories.{of_process}
use Rattle.schedule_model.proofs.Legal.{both-left, both-right}
use Rattle.hold_tables.specs.Tables.{OpenProcess, Tables, has_number, is_open, numbered}
use Rattle.hold_tables.specs.Counts.{HasRoomFor, Pairs, TellCountsBut, pairs_in}
use Rattle.hold_tables.specs.Kept.{AreTidy, IsTidy, are_numbered}
use Rattle.hold_tables.specs.Walks.{step_of, steps_under_way}
use Rattle.hold_tables.proofs.Arrows.{steps_first}
use Rattle.hold_tables.proofs.DroppedWalks.{IsOwn, all_own}
use Rattle.hold_tables.proofs.Effects.{few_own}
use Rattle.hold_tables.proofs.Marks.{neither_of}
use Rattle.hold_tables.proofs.Pairs.{from_few}
use Rattle.hold_tables.proofs.Tidy.{each_numbered}

-- what is under way in a process is at most one step of it, and none of another
step_own : (k n : ℕ) (o : Option Entry) → IfSome o (λ e. e.process ≡ n) → length (of_process k (step_of o)) ≤ 1
step_own k n None own = omega arith
step_own k n (Some e) own = by e.undo
  where
    one : (t : Bool) → nat_eq e.process k ≡ t → length (of_process k (e ∷ [])) ≤ 1
    one true is = rw is (omega arith)
    one false is = rw is (omega arith)

    by : (b : Bool) → length (of_process k (if not b then e ∷ [] else [])) ≤ 1
    by true = omega arith
    by false = one (nat_eq e.process k) refl

step_other : (k n : ℕ) (o : Option Entry) → IfSome o (λ e. e.process ≡ n) → nat_eq n k ≡ false → length (of_process k (step_of o)) ≡ 0
step_other k n None own other = refl
step_other k n (Some e) own other = by e.undo
  where
    none : of_process k (e ∷ []) ≡ []
    none = let is : nat_eq e.process k ≡ false = ap (λ m. nat_eq m k) own ∙ other in rw is refl

    by : (b : Bool) → length (of_process k (if not b then e ∷ [] else [])) ≡ 0
    by true = refl
    by false = ap length none

steps_length : (k : ℕ) (r : OpenProcess) (rows : List OpenProcess) → length (of_process k (steps_under_way (r ∷ rows))) ≡ length (of_process k (step_of r.running)) + length (of_process k (steps_under_way rows))
steps_length k r rows =
    ap (λ es. length (of_process k es)) (steps_first r rows) ∙ ap length (filter-append (λ (e : Entry). nat_eq e.process k) (step_of r.running) (steps_under_way rows))
    ∙ length-append (of_process k (step_of r.running)) (of_process k (steps_under_way rows))

-- a process that isn't among these has no step under way in them
no_steps : (k : ℕ) (rows : List OpenProcess) → Each IsOwn rows → has_number k rows ≡ false → length (of_process k (steps_under_way rows)) ≡ 0
no_steps k [] each none = refl
no_steps k (r ∷ rows) each none =
    let parts = neither_of (nat_eq r.process k) (has_number k rows) none in
    let whole = steps_length k r rows in
    let first = step_other k r.process r.running each.0 parts.0 in
    let rest = no_steps k rows each.1 parts.1 in
    omega (arith, whole, first, rest)

-- and each process has at most one
one_step : (k : ℕ) (rows : List OpenProcess) → Each IsOwn rows → are_numbered rows ≡ true → length (of_process k (steps_under_way rows)) ≤ 1
one_step k [] each once = omega arith
one_step k (r ∷ rows) each once = by (nat_eq r.process k) refl (one_step k rows each.1 (both-right (not (has_number r.process rows)) (are_numbered rows) once))
  where
    by : (b : Bool) → nat_eq r.process k ≡ b → length (of_process k (steps_under_way rows)) ≤ 1 → length (of_process k (steps_under_way (r ∷ rows))) ≤ 1
    by true is rest =
        let none : has_number k rows ≡ false = subst (λ n. has_number n rows ≡ false) (eqb-true r.process k is) (not-true (has_number r.process rows) (both-left (not (has_number r.process rows)) (are_numbered rows) once)) in
        let whole = steps_length k r rows in
        let first = step_own k r.process r.running each.0 in
        let others = no_steps k rows each.1 none in
        omega (arith, whole, first, others)
    by false is rest =
        let whole = steps_length k r rows in
        let first = step_other k r.process r.running each.0 is in
        omega (arith, whole, first, rest)

module _ (t : Tables) (tidy : AreTidy t) where
  -- an open process has fewer entries than that
  few_entries : (i : ℕ) → is_open t i ≡ true → length (of_process i t.net) < 65536
  few_entries i here =
      let found = each_numbered (IsTidy t.conflicts t.net) i t.processes here tidy.tidy in
      let r = numbered i t.processes in
      let most = few_own t.conflicts (of_process r.process t.net) r found.0 in
      let small = found.0.small in
      subst (λ n. length (of_process n t.net) < 65536) found.1 (omega (arith, most, small))

  -- so no two have too many pairs
  pub few_pairs : (i k : ℕ) → is_open t i ≡ true → is_open t k ≡ true → pairs_in t i k < 4294967296
  few_pairs i k here there =
      let first = few_entries i here in
      let last = few_entries k there in
      let under = one_step k t.processes (all_own t tidy) tidy.numbered in
      let both : length (of_process k (t.net ++ steps_under_way t.processes)) ≡ length (of_process k t.net) + length (of_process k (steps_under_way t.processes)) =
      ap length (filter-append (λ (e : Entry). nat_eq e.process k) t.net (steps_under_way t.processes)) ∙ length-append (of_process k t.net) (of_process k (steps_under_way t.processes)) in
      let most = from_few (do_conflict t.conflicts) i k (steps_under_way t.processes) t.net (omega (arith, last, under, both)) in
      omega (arith, most, first)

  -- and there is room for those that were left out
  pub room_for_more : (added : Pairs) (counts : List (List ℕ)) → TellCountsBut t added counts → HasRoomFor t.processes added counts
  room_for_more added counts tells i k here there = let most = few_pairs i k here there in let is = tells.tell i k here there in omega (arith, most, is)
