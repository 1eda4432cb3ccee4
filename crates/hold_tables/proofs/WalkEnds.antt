-- Arrows and walks lead from open processes to open processes.
use Rattle.std.proofs.Common.{◌≡◌, ◌⊎◌, inl, inr, ℕ, Bool, true, false, not, ◌&&◌, List, [], ◌∷◌, ◌++◌, Option, Some, None, sym, subst, ◌∙◌}
use Rattle.std.specs.Prelude.{nat_eq, IfSome, if◌then◌else◌}
use Rattle.std.specs.List.{list_any}
use Rattle.std.proofs.lemmas.Bool.{and_parts, eqb-true, false≢true, or_cases}
use Rattle.process_tree.specs.declared.entry.Entry.{Entry}
use Rattle.process_tree.specs.Conflicts.{Table, do_conflict}
use Rattle.process_tree.specs.Order.{Each}
use Rattle.schedule_model.specs.Conflict.{ConflictRelation, conflict}
use Rattle.schedule_model.specs.Graph.{Walk, one_arrow, and_then}
use Rattle.schedule_model.specs.Holdings.{holders, reaches}
use Rattle.schedule_model.proofs.Walks.{walk-from_leads}
use Rattle.hold_tables.specs.Tables.{OpenProcess, Tables, has_number, holdings_of, is_open}
use Rattle.hold_tables.specs.Kept.{AreTidy}
use Rattle.hold_tables.specs.Walks.{IsPlacedIf, arrows_by, arrows_from, step_of, steps_under_way}
use Rattle.hold_tables.proofs.Arrows.{steps_first}
use Rattle.hold_tables.proofs.Reaching.{graph-is, placed_running}
use Rattle.hold_tables.specs.Arrows.{arrows_in}
use Rattle.hold_tables.proofs.SameGraph.{graph_of}
use Rattle.hold_tables.proofs.Tidy.{each_entry}

pub each_append : {A : Type 0} (P : A → Type 0) (xs ys : List A) → Each P xs → Each P ys → Each P (xs ++ ys)
each_append P [] ys some others = others
each_append P (x ∷ xs) ys some others = (some.0, each_append P xs ys some.1 others)

each_of_step : (P : Entry → Type 0) (o : Option Entry) → IfSome o P → Each P (step_of o)
each_of_step P None is = tt
each_of_step P (Some e) is = by e.undo
  where
    by : (b : Bool) → Each P (if not b then e ∷ [] else [])
    by true = tt
    by false = (is, tt)

-- what is true of all that is under way is true of the steps
pub each_step : (P : Entry → Type 0) (rows : List OpenProcess) → Each (λ (r : OpenProcess). IfSome r.running P) rows → Each P (steps_under_way rows)
each_step P [] each = tt
each_step P (r ∷ rows) each = subst (Each P) (sym (steps_first r rows)) (each_append P (step_of r.running) (steps_under_way rows) (each_of_step P r.running each.0) (each_step P rows each.1))

module _ (table : ConflictRelation) (P : ℕ → Type 0) where
  end_of : (x : Entry) (ys : List Entry) (k : ℕ) → Each (λ (e : Entry). P e.process) ys → list_any (λ y. nat_eq y.process k && conflict table x y) ys ≡ true → P k
  end_of x [] k each a = absurd (false≢true a)
  end_of x (y ∷ ys) k each a = by (or_cases (nat_eq y.process k && conflict table x y) (list_any (λ y. nat_eq y.process k && conflict table x y) ys) a) (end_of x ys k each.1)
    where
      by : ((nat_eq y.process k && conflict table x y) ≡ true) ⊎ (list_any (λ y. nat_eq y.process k && conflict table x y) ys ≡ true)
          → (list_any (λ y. nat_eq y.process k && conflict table x y) ys ≡ true → P k) → P k
      by (inl here) rest = subst P (eqb-true y.process k (and_parts (nat_eq y.process k) (conflict table x y) here).0) each.0
      by (inr later) rest = rest later

  ends_of : (x : Entry) (ys : List Entry) (i k : ℕ) → P x.process → Each (λ (e : Entry). P e.process) ys → arrows_by table x ys i k ≡ true → P i × P k
  ends_of x ys i k first each a =
      let parts = and_parts (nat_eq x.process i) (list_any (λ y. nat_eq y.process k && conflict table x y) ys) a in
      (subst P (eqb-true x.process i parts.0) first, end_of x ys k each parts.1)

  -- what is true of the process of each entry is true of both ends of an arrow
  arrow_ends : (running es : List Entry) (i k : ℕ) → Each (λ (e : Entry). P e.process) running → Each (λ (e : Entry). P e.process) es → arrows_from table running es i k ≡ true → P i × P k
  arrow_ends running [] i k under each a = absurd (false≢true a)
  arrow_ends running (x ∷ es) i k under each a = by (or_cases (arrows_by table x (es ++ running) i k) (arrows_from table running es i k) a) (arrow_ends running es i k under each.1)
    where
      by : (arrows_by table x (es ++ running) i k ≡ true) ⊎ (arrows_from table running es i k ≡ true) → (arrows_from table running es i k ≡ true → P i × P k) → P i × P k
      by (inl here) rest = ends_of x (es ++ running) i k each.0 (each_append (λ (e : Entry). P e.process) es running each.1 under) here
      by (inr later) rest = rest later

placed_open : (table : Table) (rows : List OpenProcess) (o : Option Entry) → IsPlacedIf table rows o → IfSome o (λ e. has_number e.process rows ≡ true)
placed_open table rows None is = tt
placed_open table rows (Some e) is = is.1

-- an arrow leads from an open process to an open one
pub open_ends : (t : Tables) → AreTidy t → (j k : ℕ) → arrows_in t j k ≡ true → (is_open t j ≡ true) × (is_open t k ≡ true)
open_ends t tidy j k a =
    arrow_ends (do_conflict t.conflicts) (λ n. is_open t n ≡ true) (steps_under_way t.processes) t.net j k
    (each_step (λ e. is_open t e.process ≡ true) t.processes (each_entry t.processes (λ (r : OpenProcess) is. placed_open t.conflicts t.processes r.running is) (placed_running t tidy))) tidy.of_open a

pub walk_ends : (t : Tables) → AreTidy t → {j k : ℕ} → Walk (graph_of t) (holders (holdings_of t)) j k → (is_open t j ≡ true) × (is_open t k ≡ true)
walk_ends t tidy {j} {k} (one_arrow among a) = open_ends t tidy j k (sym (graph-is t tidy j k) ∙ a)
walk_ends t tidy {j} {k} (and_then {j = mid} walk among a) = ((walk_ends t tidy walk).0, (open_ends t tidy mid k (sym (graph-is t tidy mid k) ∙ a)).1)

-- and so does a walk
pub reach_ends : (t : Tables) → AreTidy t → (j k : ℕ) → reaches (do_conflict t.conflicts) (holdings_of t) j k ≡ true → (is_open t j ≡ true) × (is_open t k ≡ true)
reach_ends t tidy j k is = walk_ends t tidy (walk-from_leads (graph_of t) (holders (holdings_of t)) j k is)
