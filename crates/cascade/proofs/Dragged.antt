-- Who is dragged along by what a process takes back, and by the entries in joint order.
use Rattle.std.proofs.Common.{◌≡◌, ℕ, zero, suc, ◌-◌, Bool, true, false, not, ◌||◌, ◌&&◌, if◌then◌else◌, List, [], ◌∷◌, ◌++◌, length, drop, map, flat_map, sym, refl, ap, subst, ◌∙◌, arith, append_assoc, append-nil}
use Rattle.std.specs.Prelude.{nat_eq}
use Rattle.std.specs.List.{list_any}
use Rattle.std.proofs.Math.Dec.{eqb-suc-zero}
use Rattle.std.proofs.lemmas.Bool.{and_parts, eqb-true, not-true}
use Rattle.std.proofs.lemmas.List.Folds.{list_any-append}
use Rattle.process_tree.specs.declared.entry.Entry.{Entry}
use Rattle.process_tree.specs.Conflicts.{do_conflict}
use Rattle.schedule_model.specs.Conflict.{ConflictRelation, conflict}
use Rattle.schedule_model.specs.Histories.{of_process}
use Rattle.schedule_model.specs.Holdings.{Hold, behind}
use Rattle.schedule_model.proofs.Apart.{Apart}
use Rattle.machine_model.specs.Cascade.{drags, takes_back_all}
use Rattle.hold_tables.specs.Tables.{OpenProcess, Tables, has_number, hold_in, holdings_of, is_open, numbered}
use Rattle.hold_tables.specs.Kept.{AreTidy, are_numbered}
use Rattle.hold_tables.specs.Walks.{steps_under_way}
use Rattle.hold_tables.proofs.Reaching.{running_steps-is}
use Rattle.hold_tables.proofs.Standing.{behind-rest, net_apart}
use Rattle.cascade.specs.Walking.{drags_from, has_hit, last_entries, staying}

module _ (table : ConflictRelation) (net running gathered : List Entry) (same : (p : Entry → Bool) → list_any p gathered ≡ list_any p running) (j k : ℕ) where
  -- it is the same which list has the steps under way
  hit_same : (x : Entry) (ys : List Entry) → has_hit table x (ys ++ running) k ≡ has_hit table x (ys ++ gathered) k
  hit_same x ys =
      let p = λ (y : Entry). nat_eq y.process k && conflict table x y in
      list_any-append p ys running ∙ ap (list_any p ys ||◌) (sym (same p)) ∙ sym (list_any-append p ys gathered)

  -- what is taken back of a process drags along as its entries do in joint order
  pub drags-from : (stay : ℕ) (front es : List Entry) → net ≡ front ++ es → Apart net
      → list_any (λ x. has_hit table x (behind x net ++ running) k) (drop stay (of_process j es)) ≡ drags_from table gathered j stay es k
  drags-from zero front [] is apart = refl
  drags-from (suc stay) front [] is apart = refl
  drags-from stay front (x ∷ es) is apart =
      by (nat_eq x.process j) refl stay
      (λ n. drags-from n (front ++ x ∷ []) es (is ∙ sym (append_assoc front (x ∷ []) es)) apart)
      (ap (behind x) is ∙ behind-rest front x es (subst Apart is apart))
    where
      by : (b : Bool) → nat_eq x.process j ≡ b → (stay : ℕ) → ((n : ℕ) → list_any (λ x. has_hit table x (behind x net ++ running) k) (drop n (of_process j es)) ≡ drags_from table gathered j n es k)
          → behind x net ≡ es → list_any (λ x. has_hit table x (behind x net ++ running) k) (drop stay (of_process j (x ∷ es))) ≡ drags_from table gathered j stay (x ∷ es) k
      by false at stay rest after = rw at (rest stay)
      by true at zero rest after =
          rw at (ap (λ ys. has_hit table x (ys ++ running) k || list_any (λ x. has_hit table x (behind x net ++ running) k) (of_process j es)) after
          ∙ ap (λ t. t || list_any (λ x. has_hit table x (behind x net ++ running) k) (of_process j es)) (hit_same x es)
          ∙ ap (has_hit table x (es ++ gathered) k ||◌) (rest 0))
      by true at (suc n) rest after =
          let less : suc n - 1 ≡ n = omega arith in
          rw (at, eqb-suc-zero n, less) (rest n)

-- a process that isn't there has no backward recovery
none_backward : (net : List Entry) (j : ℕ) (rows : List OpenProcess) → has_number j rows ≡ false → flat_map (λ (o : Hold). if nat_eq o.process j then o.backward_entries else []) (map (hold_in net) rows) ≡ []
none_backward net j [] none = refl
none_backward net j (r ∷ rows) none = by (nat_eq r.process j) refl (none_backward net j rows)
  where
    by : (b : Bool) → nat_eq r.process j ≡ b → (has_number j rows ≡ false → flat_map (λ (o : Hold). if nat_eq o.process j then o.backward_entries else []) (map (hold_in net) rows) ≡ [])
        → flat_map (λ (o : Hold). if nat_eq o.process j then o.backward_entries else []) (map (hold_in net) (r ∷ rows)) ≡ []
    by true is rest = absurd (let no : true ≡ false = subst (λ b. (b || has_number j rows) ≡ false) is none in cc)
    by false is rest = rw is (rest (subst (λ b. (b || has_number j rows) ≡ false) is none))

-- the backward recovery is what isn't fixed
backward-is : (net : List Entry) (j : ℕ) (rows : List OpenProcess) → are_numbered rows ≡ true → has_number j rows ≡ true
    → flat_map (λ (o : Hold). if nat_eq o.process j then o.backward_entries else []) (map (hold_in net) rows) ≡ drop (numbered j rows).fixed (of_process j net)
backward-is net j [] distinct has = absurd cc
backward-is net j (r ∷ rows) distinct has = by (nat_eq r.process j) refl (backward-is net j rows)
  where
    apart : (not (has_number r.process rows) ≡ true) × (are_numbered rows ≡ true)
    apart = and_parts (not (has_number r.process rows)) (are_numbered rows) distinct

    by : (b : Bool) → nat_eq r.process j ≡ b → (are_numbered rows ≡ true → has_number j rows ≡ true → flat_map (λ (o : Hold). if nat_eq o.process j then o.backward_entries else []) (map (hold_in net) rows) ≡ drop (numbered j rows).fixed (of_process j net))
        → flat_map (λ (o : Hold). if nat_eq o.process j then o.backward_entries else []) (map (hold_in net) (r ∷ rows)) ≡ drop (numbered j (r ∷ rows)).fixed (of_process j net)
    by true is rest =
        let same = eqb-true r.process j is in
        let none : has_number j rows ≡ false = subst (λ n. has_number n rows ≡ false) same (not-true (has_number r.process rows) apart.0) in
        rw is (ap (drop r.fixed (of_process r.process net) ++◌) (none_backward net j rows none) ∙ append-nil (drop r.fixed (of_process r.process net)) ∙ ap (λ n. drop r.fixed (of_process n net)) same)
    by false is rest = rw is (rest apart.1 (subst (λ b. (b || has_number j rows) ≡ true) is has))

-- what a process takes back is what doesn't stay
takes_back-is : (t : Tables) (root count j : ℕ) → AreTidy t → is_open t j ≡ true → takes_back_all (holdings_of t) root (last_entries t root count) j ≡ drop (staying t root count j) (of_process j t.net)
takes_back-is t root count j tidy has = by (nat_eq j root) refl
  where
    by : (b : Bool) → nat_eq j root ≡ b → takes_back_all (holdings_of t) root (last_entries t root count) j ≡ drop (staying t root count j) (of_process j t.net)
    by true is = rw is (ap (λ n. drop (length (of_process root t.net) - count) (of_process n t.net)) (sym (eqb-true j root is)))
    by false is = rw is (backward-is t.net j t.processes tidy.numbered has)

-- so whom a process drags along is told by the entries in joint order
pub drags-is : (t : Tables) (gathered : List Entry) (root count j k : ℕ) → AreTidy t → ((p : Entry → Bool) → list_any p gathered ≡ list_any p (steps_under_way t.processes)) → is_open t j ≡ true
    → drags (do_conflict t.conflicts) (holdings_of t) root (last_entries t root count) j k ≡ drags_from (do_conflict t.conflicts) gathered j (staying t root count j) t.net k
drags-is t gathered root count j k tidy same has =
    let table = do_conflict t.conflicts in
    ap (λ (running : List Entry). list_any (λ x. has_hit table x (behind x t.net ++ running) k) (takes_back_all (holdings_of t) root (last_entries t root count) j)) (running_steps-is t)
    ∙ ap (list_any (λ x. has_hit table x (behind x t.net ++ steps_under_way t.processes) k)) (takes_back-is t root count j tidy has)
    ∙ drags-from table t.net (steps_under_way t.processes) gathered same j k (staying t root count j) [] t.net refl (net_apart t tidy)
