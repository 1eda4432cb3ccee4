-- The steps that are under way, gathered process by process.
use Rattle.std.proofs.Common.{◌≡◌, ℕ, ◌+◌, ◌-◌, ◌<◌, ◌≤◌, Bool, true, false, not, ◌||◌, List, [], ◌∷◌, ◌++◌, length, map, Option, Some, None, IfSome, sym, ap, ◌∙◌, arith, if◌then◌else◌}
use Rattle.std.specs.List.{list_any}
use Rattle.std.proofs.lemmas.List.Folds.{list_any-append}
use Rattle.process_tree.specs.declared.entry.Entry.{Entry}
use Rattle.process_tree.specs.Order.{Each}
use Rattle.process_tree.proofs.Every.{Each-append}
use Rattle.hold_tables.specs.Tables.{OpenProcess, Tables, has_number, is_open, kept_of, numbered}
use Rattle.hold_tables.specs.Kept.{AreTidy, are_numbered}
use Rattle.hold_tables.specs.Reading.{least_from}
use Rattle.hold_tables.specs.Walks.{IsPlacedIf, steps_under_way}
use Rattle.hold_tables.proofs.Reaching.{placed_running}
use Rattle.hold_tables.proofs.Tidy.{each_numbered}
use Rattle.cascade.specs.Walking.{IsWithin, steps_among}
use Rattle.cascade.proofs.Processes as processes
use Rattle.hold_tables.proofs.Numbers.{is_one}
use Rattle.cascade.proofs.Processes.{all_on, any_step, one_on}

-- a step under way in the process passes
abbrev pub passes : (Entry → Bool) → OpenProcess → Bool
passes p r = list_any p (steps_among r.running)

abbrev pub any_on : (OpenProcess → Bool) → Option ℕ → List OpenProcess → Bool
any_on = processes.any_on

-- how many numbers are left
abbrev pub left_of : ℕ → Option ℕ → ℕ
left_of most None = 0
left_of most (Some k) = most + 1 - k

-- an open process has a number within these
pub open_within : (most k : ℕ) (rows : List OpenProcess) → has_number k rows ≡ true → Each (λ r. r.process ≤ most) rows → k ≤ most
open_within most k rows has each = let its = each_numbered (λ r. r.process ≤ most) k rows has each in let le = its.0 in let same = its.1 in omega (arith, le, same)

-- the next one is open, and its number is greater
pub next_opens : (n : ℕ) (rows : List OpenProcess) (o : Option ℕ) → o ≡ least_from n (map (λ r. r.process) rows) → IfSome o (λ k. has_number k rows ≡ true)
next_opens n rows None is = tt
next_opens n rows (Some k) is = (is_one n k rows (sym is)).1

pub next_room : (n count : ℕ) (rows : List OpenProcess) (o : Option ℕ) → o ≡ least_from n (map (λ r. r.process) rows) → count ≤ n → IfSome o (λ k. count ≤ k)
next_room n count rows None is few = tt
next_room n count rows (Some k) is few = let le = (is_one n k rows (sym is)).0 in omega (arith, le, few)

pub fewer_left : (most k : ℕ) (rows : List OpenProcess) (o : Option ℕ) → k ≤ most → o ≡ least_from (k + 1) (map (λ r. r.process) rows) → left_of most o < left_of most (Some k)
fewer_left most k rows None within is = omega (arith, within)
fewer_left most k rows (Some j) within is = let le = (is_one (k + 1) j rows (sym is)).0 in omega (arith, le, within)

-- at most one step is under way in a process
pub one_at_most : (o : Option Entry) → length (steps_among o) ≤ 1
one_at_most None = omega arith
one_at_most (Some e) = by (not e.undo)
  where
    by : (b : Bool) → length (if b then e ∷ [] else []) ≤ 1
    by true = omega arith
    by false = omega arith

-- it is of an operation of the table, and of one of the processes
among_within : (t : Tables) (most : ℕ) (o : Option Entry) → Each (λ r. r.process ≤ most) t.processes → IsPlacedIf t.conflicts t.processes o → Each (IsWithin t.conflicts (most + 1)) (steps_among o)
among_within t most None open' placed = tt
among_within t most (Some e) open' placed = by (not e.undo)
  where
    by : (b : Bool) → Each (IsWithin t.conflicts (most + 1)) (if b then e ∷ [] else [])
    by true = let le = open_within most e.process t.processes placed.1 open' in ((placed.0, omega (arith, le)), tt)
    by false = tt

pub step_within : (t : Tables) (most k : ℕ) → AreTidy t → is_open t k ≡ true → Each (λ r. r.process ≤ most) t.processes → Each (IsWithin t.conflicts (most + 1)) (steps_among (kept_of t k).running)
step_within t most k tidy has open' = among_within t most (kept_of t k).running open' (each_numbered (λ (r : OpenProcess). IsPlacedIf t.conflicts t.processes r.running) k t.processes has (placed_running t tidy)).0

pub each_with : {A : Type 0} (P : A → Type 0) (xs ys : List A) → Each P xs → Each P ys → Each P (xs ++ ys)
each_with P xs ys = Each-append P xs ys

-- at first all are to come
pub all_to_come : (p : Entry → Bool) (rows : List OpenProcess) → any_on (passes p) (least_from 0 (map (λ r. r.process) rows)) rows ≡ list_any p (steps_under_way rows)
all_to_come p rows = all_on (passes p) rows ∙ sym (any_step p rows)

-- one process more was looked at
pub one_gathered : (p : Entry → Bool) (k : ℕ) (rows : List OpenProcess) (before : List Entry) → are_numbered rows ≡ true → has_number k rows ≡ true
    → (list_any p (before ++ steps_among (numbered k rows).running) || any_on (passes p) (least_from (k + 1) (map (λ r. r.process) rows)) rows) ≡ (list_any p before || any_on (passes p) (Some k) rows)
one_gathered p k rows before distinct has =
    ap (λ t. t || any_on (passes p) (least_from (k + 1) (map (λ r. r.process) rows)) rows) (list_any-append p before (steps_among (numbered k rows).running))
    ∙ one_on (passes p) k rows (list_any p before) distinct has
