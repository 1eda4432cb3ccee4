-- Reduction: the steps by which a schedule is brought to a serial one.
use Rattle.std.specs.Prelude.{◌≡◌, ℕ, zero, suc, ◌+◌, ◌-◌, Bool, not, ◌&&◌, ◌||◌, List, [], ◌∷◌, ◌++◌, length, nat_eq, nat_lt}
use Rattle.std.specs.Prelude.{nat_le, if◌then◌else◌, Option, Some, None, is_none, IsTrue, ◌⊎◌}
use Rattle.std.specs.List.{list_any}
use Rattle.std.specs.Option.{option_map}
use Rattle.process_tree.specs.declared.entry.Entry.{Entry}
use Rattle.schedule_model.specs.declared.trace_step.TraceStep.{TraceStep}
use Rattle.schedule_model.specs.declared.trace_step.TraceStep.TheVariants.{Move, Cancel}
use Rattle.schedule_model.specs.Conflict.{ConflictRelation, conflict}
use Rattle.schedule_model.specs.Histories.{takes_back}

-- two neighbours may change places where they are of different processes and don't conflict
abbrev pub can_change : ConflictRelation → Entry → Entry → Bool
can_change table a b = not (nat_eq a.process b.process) && not (conflict table a b)

-- a step and its own undo directly after it
abbrev pub is_pair : Entry → Entry → Bool
is_pair a b = not a.undo && takes_back b a

-- two neighbours change places
abbrev pub IsExchange : ConflictRelation → List Entry → List Entry → Type 0
IsExchange table xs ys = (before after : List Entry) × (a b : Entry)
    × (xs ≡ before ++ a ∷ b ∷ after) × (ys ≡ before ++ b ∷ a ∷ after) × IsTrue (can_change table a b)

-- a step and its own undo directly after it go
abbrev pub IsCancel : List Entry → List Entry → Type 0
IsCancel xs ys = (before after : List Entry) × (a b : Entry)
    × (xs ≡ before ++ a ∷ b ∷ after) × (ys ≡ before ++ after) × IsTrue (is_pair a b)

-- one reduction step
abbrev pub IsReduced : ConflictRelation → List Entry → List Entry → Type 0
IsReduced table xs ys = IsExchange table xs ys ⊎ IsCancel xs ys

-- steps one after another
pub data AreReduced (table : ConflictRelation) : List Entry → List Entry → Type 0 where
  no_step : {xs : List Entry} → AreReduced table xs xs
  step_first : {xs ys zs : List Entry} → IsReduced table xs ys → AreReduced table ys zs → AreReduced table xs zs

-- the list after the entries at place at and the next changed places, where they may; places count from 1
abbrev pub exchanged : ConflictRelation → ℕ → List Entry → Option (List Entry)
exchanged table at [] = None
exchanged table zero (a ∷ xs) = None
exchanged table (suc zero) (a ∷ []) = None
exchanged table (suc zero) (a ∷ b ∷ xs) = if can_change table a b then Some (b ∷ a ∷ xs) else None
exchanged table (suc (suc at)) (a ∷ xs) = option_map (λ ys. a ∷ ys) (exchanged table (suc at) xs)

-- the list without the entries at place at and the next, where these are a step and its undo
abbrev pub cancelled : ℕ → List Entry → Option (List Entry)
cancelled at [] = None
cancelled zero (a ∷ xs) = None
cancelled (suc zero) (a ∷ []) = None
cancelled (suc zero) (a ∷ b ∷ xs) = if is_pair a b then Some xs else None
cancelled (suc (suc at)) (a ∷ xs) = option_map (λ ys. a ∷ ys) (cancelled (suc at) xs)

-- what comes of a list, if there is one
abbrev pub and_then : {X : Type 0} → Option X → (X → Option X) → Option X
and_then None f = None
and_then (Some x) f = f x

-- n exchanges that carry the entry at this place onward
abbrev pub carried_on : ConflictRelation → ℕ → ℕ → List Entry → Option (List Entry)
carried_on table zero from xs = Some xs
carried_on table (suc n) from xs = and_then (exchanged table from xs) (carried_on table n (from + 1))

-- n exchanges that carry it backward
abbrev pub carried_back : ConflictRelation → ℕ → ℕ → List Entry → Option (List Entry)
carried_back table zero from xs = Some xs
carried_back table (suc n) from xs = and_then (exchanged table (from - 1) xs) (carried_back table n (from - 1))

-- the list after a trace step, where it applies: a move is the exchanges that carry one entry to another place of the list
abbrev pub applied : ConflictRelation → TraceStep → List Entry → Option (List Entry)
applied table (Move from to) xs =
    if nat_lt from to then carried_on table (to - from) from xs
    else (if nat_lt to from && nat_le from (length xs) then carried_back table (from - to) from xs else None)
applied table (Cancel at) xs = cancelled at xs

-- the list after these steps in turn
abbrev pub applied_all : ConflictRelation → List TraceStep → List Entry → Option (List Entry)
applied_all table [] xs = Some xs
applied_all table (s ∷ ss) xs = and_then (applied table s xs) (applied_all table ss)

-- e is out of place after these entries, of which the last stands first: it is an undo, or takes its process up again
-- after another's entry
abbrev pub is_out_of_place : List Entry → Entry → Bool
is_out_of_place [] e = e.undo
is_out_of_place (x ∷ xs) e =
    e.undo || (not (nat_eq x.process e.process) && list_any (λ y. nat_eq y.process e.process) xs)

-- the first place that holds such an entry, the first of these having place n
abbrev pub not_serial_from : ℕ → List Entry → List Entry → Option ℕ
not_serial_from n before [] = None
not_serial_from n before (e ∷ es) = if is_out_of_place before e then Some n else not_serial_from (n + 1) (e ∷ before) es

-- the same of a whole list, counted from 1
abbrev pub not_serial : List Entry → Option ℕ
not_serial es = not_serial_from 1 [] es

-- a list is serial where no entry is an undo and each process's entries stand together
abbrev pub is_serial : List Entry → Bool
is_serial es = is_none (not_serial es)
