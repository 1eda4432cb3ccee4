-- What there is to warn of in a scenario.
use Rattle.std.specs.Prelude.{ℕ, ◌-◌, ℤ, pos, Bool, List, [], ◌∷◌, ◌++◌, length, nat_eq, int_lt, if◌then◌else◌, Option, Some, None, slice_get}
use Rattle.std.specs.List.{flat_map, list_any}
use Rattle.std.specs.Ordering.{int_eq}
use Rattle.process_tree.specs.Blocks.{numbers_from, outline}
use Rattle.process_tree.specs.Making.{same_text}
use Rattle.process_tree.specs.declared.plan.Plan.{Plan}
use Rattle.process_tree.specs.declared.step.Step.{Step}
use Rattle.commute_table.specs.declared.op.Op.{Op}
use Rattle.commute_table.specs.declared.op.Verb.{Verb}
use Rattle.commute_table.specs.declared.op.Verb.TheVariants.{Add, Take, Look, Put, Hold, Free}
use Rattle.commute_table.specs.declared.catalog.Catalog.{Catalog}
use Rattle.value_conflict.specs.ValueConflict.{is_commuting}
use Rattle.scenario_warnings.specs.declared.warning.Warning.{Warning}
use Rattle.scenario_warnings.specs.declared.warning.Warning.TheVariants.{Unused, Commuting, SameProcess, HoldOfNothing, NegativeTake}

-- a warning, where it is one
abbrev pub where_so : Bool → Warning → List Warning
where_so so w = if so then w ∷ [] else []

-- ---- operations

-- a step of the process has this operation
abbrev pub uses : ℕ → Plan → Bool
uses op p = list_any (λ used. nat_eq used op) p.ops

-- a step of one of the processes has it
abbrev pub is_used : List Plan → ℕ → Bool
is_used plans op = list_any (uses op) plans

-- no process uses the operation, where there are any: a driver's scenario has none, and spells each as it starts
abbrev pub unused : List Plan → ℕ → List Warning
unused [] op = []
unused (p ∷ ps) op = if is_used (p ∷ ps) op then [] else Unused op ∷ []

-- two operations conflict in value, and the catalog names no conflict of them
abbrev pub commuting : Catalog → ℕ → ℕ → List Warning
commuting c a b = where_so (is_commuting c a b) (Commuting a b)

-- of an operation, and of its pairs with itself and each later one
abbrev pub of_operation : Catalog → List Plan → ℕ → List Warning
of_operation c plans a = unused plans a ++ flat_map (commuting c a) (numbers_from a (length c.ops - a))

-- ---- processes

-- one of these processes has the name
abbrev pub has_name : List Plan → List ℕ → Bool
has_name plans name = list_any (λ p. same_text p.name name) plans

-- one of the earlier processes has the name of this one
abbrev pub same_process : List Plan → Plan → List Warning
same_process earlier p = where_so (has_name earlier p.name) (SameProcess (length earlier))

-- the verb of an operation; one that there isn't looks
abbrev pub verb_of : List Op → Option ℕ → Verb
verb_of ops None = Look
verb_of ops (Some n) = by (slice_get ops n)
  where
    by : Option Op → Verb
    by None = Look
    by (Some o) = o.verb

-- the verb of a step
abbrev pub verb_at : List Op → Plan → ℕ → Verb
verb_at ops p n = verb_of ops (slice_get p.ops n)

-- a hold of 0 leaves the seat free, and a take of a negative amount adds
abbrev pub of_call : ℕ → ℕ → Verb → ℤ → List Warning
of_call i n Hold a = where_so (int_eq a (pos 0)) (HoldOfNothing i n)
of_call i n Take a = where_so (int_lt a (pos 0)) (NegativeTake i n)
of_call i n Add a = []
of_call i n Look a = []
of_call i n Put a = []
of_call i n Free a = []

-- of a step of process i
abbrev pub of_step : List Op → ℕ → Plan → ℕ → List Warning
of_step ops i p n = by (slice_get (outline p.tree).steps n)
  where
    by : Option Step → List Warning
    by None = []
    by (Some s) = of_call i n (verb_at ops p n) s.amount

-- of a process behind those, and of its steps
abbrev pub of_plan : List Op → List Plan → Plan → List Warning
of_plan ops earlier p =
    same_process earlier p ++ flat_map (of_step ops (length earlier) p) (numbers_from 0 (length (outline p.tree).steps))

-- of processes behind those
abbrev pub of_plans : List Op → List Plan → List Plan → List Warning
of_plans ops earlier [] = []
of_plans ops earlier (p ∷ ps) = of_plan ops earlier p ++ of_plans ops (earlier ++ p ∷ []) ps

-- ---- all

-- of the operations by number, and then of the processes in their order
abbrev pub warnings : Catalog → List Plan → List Warning
warnings c plans = flat_map (of_operation c plans) (numbers_from 0 (length c.ops)) ++ of_plans c.ops [] plans
