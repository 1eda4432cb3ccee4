-- What changes of the tables make of one row.
use Rattle.std.proofs.Common.{◌≡◌, ℕ, Bool, true, false, eqb, if◌then◌else◌, ◌||◌, List, [], ◌∷◌, length, Option, Some, None, sym, refl, ap, ◌∙◌}
use Rattle.std.proofs.lemmas.Bool.{false≢true}
use Rattle.process_tree.specs.declared.entry.Entry.{Entry}
use Rattle.process_tree.specs.declared.plan.Plan.{Plan}
use Rattle.process_tree.specs.Shape.{commits, shape_of}
use Rattle.schedule_model.specs.Histories.{of_process}
use Rattle.hold_tables.specs.Tables.{OpenProcess, Tables, has_number, is_open, kept_of, numbered}
use Rattle.hold_tables.specs.Changes.{all_fixed, change_numbered, changed, run, took_effect, with_fixed, with_reserved, with_running}
use Rattle.core_state.specs.Effects.{step_effected}
use Rattle.core_state.specs.OpenTables.{planned_behind}
use Rattle.hold_tables.proofs.Tidy.{KeepsPlan, numbers_stay}

-- a change of a row doesn't change who is open
pub open_changed : (f : OpenProcess → OpenProcess) (i k : ℕ) (rows : List OpenProcess) → KeepsPlan f → has_number k (change_numbered f i rows) ≡ has_number k rows
open_changed f i k rows keeps = numbers_stay f i k rows keeps

pub running_keeps : (e : Option Entry) → KeepsPlan (with_running e)
running_keeps e r = (refl, refl)

pub fixed_keeps : (n : ℕ) → KeepsPlan (with_fixed n)
fixed_keeps n r = (refl, refl)

-- the row of the process is the changed one
pub row_changed : (f : OpenProcess → OpenProcess) (i : ℕ) (rows : List OpenProcess) → KeepsPlan f → has_number i rows ≡ true → numbered i (change_numbered f i rows) ≡ f (numbered i rows)
row_changed f i [] keeps open' = absurd (false≢true open')
row_changed f i (r ∷ rows) keeps open' = by_first (eqb r.process i) refl open' (row_changed f i rows keeps)
  where
    by_first : (t : Bool) → eqb r.process i ≡ t → has_number i (r ∷ rows) ≡ true → (has_number i rows ≡ true → numbered i (change_numbered f i rows) ≡ f (numbered i rows))
        → numbered i (if t then f r ∷ rows else r ∷ change_numbered f i rows) ≡ f (if t then r else numbered i rows)
    by_first true is open'' later = ap (λ t. if t then f r else numbered i rows) (ap (λ k. eqb k i) (keeps r).0 ∙ is)
    by_first false is open'' later =
        ap (λ t. if t then r else numbered i (change_numbered f i rows)) is ∙ later (sym (ap (λ t. if t then true else has_number i rows) is) ∙ (or_if (eqb r.process i) ∙ open''))
      where
        or_if : (t : Bool) → (if t then true else has_number i rows) ≡ (t || has_number i rows)
        or_if true = refl
        or_if false = refl

module _ (e : Entry) (t : Tables) (open' : is_open t e.process ≡ true) where
  pub run_open : is_open (run e t) e.process ≡ true
  run_open = open_changed (with_running (Some e)) e.process e.process t.processes (running_keeps (Some e)) ∙ open'

  pub run_row : kept_of (run e t) e.process ≡ with_running (Some e) (kept_of t e.process)
  run_row = row_changed (with_running (Some e)) e.process t.processes (running_keeps (Some e)) open'

pub effect_open : (i : ℕ) (t : Tables) → is_open t i ≡ true → is_open (took_effect i t) i ≡ true
effect_open i t open' = open_changed (with_running None) i i t.processes (running_keeps None) ∙ open'

pub effect_row : (i : ℕ) (t : Tables) → is_open t i ≡ true → kept_of (took_effect i t) i ≡ with_running None (kept_of t i)
effect_row i t open' = row_changed (with_running None) i t.processes (running_keeps None) open'

pub fixed_open : (i : ℕ) (t : Tables) → is_open t i ≡ true → is_open (all_fixed i t) i ≡ true
fixed_open i t open' = open_changed (with_fixed (length (of_process i t.net))) i i t.processes (fixed_keeps (length (of_process i t.net))) ∙ open'

pub fixed_row : (i : ℕ) (t : Tables) → is_open t i ≡ true → kept_of (all_fixed i t) i ≡ with_fixed (length (of_process i t.net)) (kept_of t i)
fixed_row i t open' = row_changed (with_fixed (length (of_process i t.net))) i t.processes (fixed_keeps (length (of_process i t.net))) open'

pub reserved_open : (planned : List (ℕ × ℕ × ℕ)) (i : ℕ) (t : Tables) → is_open t i ≡ true → is_open (changed (with_reserved planned) i t) i ≡ true
reserved_open planned i t open' = open_changed (with_reserved planned) i i t.processes (λ r. (refl, refl)) ∙ open'

-- an effect of a step leaves its process open
pub step_open : (p : Plan) (i b : ℕ) (t : Tables) → is_open t i ≡ true → is_open (step_effected p i b t) i ≡ true
step_open p i b t open' = by_kind (commits (shape_of p.tree) b)
  where
    by_kind : (k : Bool) → is_open (if k then changed (with_reserved (planned_behind p b)) i (all_fixed i (took_effect i t)) else took_effect i t) i ≡ true
    by_kind true = reserved_open (planned_behind p b) i (all_fixed i (took_effect i t)) (fixed_open i (took_effect i t) (effect_open i t open'))
    by_kind false = effect_open i t open'
