-- The value law: what a history leaves of the values, and what its printed serial list leaves.
use Rattle.std.specs.Prelude.{◌≡◌, ℕ, ℤ, pos, Bool, false, List, [], ◌∷◌, ◌++◌, int_lt, nat_eq, if◌then◌else◌, IsTrue}
use Rattle.std.specs.List.{Contains, list_any}
use Rattle.process_tree.specs.declared.entry.Entry.{Entry}
use Rattle.process_tree.specs.declared.plan.Plan.{Plan}
use Rattle.process_tree.specs.Conflicts.{do_conflict, operations_in}
use Rattle.schedule_model.specs.declared.event.Event.{Event}
use Rattle.schedule_model.specs.declared.event.Event.TheVariants.{Start, End}
use Rattle.schedule_model.specs.Course.{courses_of}
use Rattle.schedule_model.specs.Conflict.{ConflictRelation}
use Rattle.schedule_model.specs.Completion.{completed}
use Rattle.schedule_model.specs.Histories.{acts, active, ends, same_step}
use Rattle.schedule_model.specs.Laws.{IsGood, IsPlanned}
use Rattle.schedule_model.specs.Legal.{is_legal}
use Rattle.schedule_model.specs.PrintedTrace.{trace_of, printed_trace}
use Rattle.commute_table.specs.declared.op.Op.{Op}
use Rattle.commute_table.specs.declared.op.Verb.TheVariants.{Take}
use Rattle.commute_table.specs.declared.catalog.Catalog.{Catalog}
use Rattle.commute_table.specs.Operations.{IsCatalog}
use Rattle.resource_box.specs.Meaning.{value_at}
use Rattle.resource_box.specs.Table.{kind_of, bars}
use Rattle.subsystem_store.specs.Values.{values}
use Rattle.history_files.specs.Effects.{effects_from, call_of, subsystem_of, verb_of, key_of, amount_of}
use Rattle.value_conflict.specs.ValueConflict.{IsValueSound}
use Rattle.value_rules.specs.Ledgers.{is_sum}

-- the value that entries leave in subsystem q at a key
abbrev pub value_after : List Op → List Plan → List Entry → ℕ → ℕ → ℤ
value_after ops plans es q key = value_at (values (kind_of q) (effects_from ops plans q 0 es)) key

-- the entries in front of the first of this step
abbrev pub in_front_of : Entry → List Entry → List Entry
in_front_of e [] = []
in_front_of e (x ∷ xs) = if same_step e x then [] else x ∷ in_front_of e xs

-- the value that a step finds among these entries, where it takes effect
abbrev pub value_found : List Op → List Plan → List Entry → Entry → ℤ
value_found ops plans es e = value_after ops plans (in_front_of e es) (subsystem_of ops e.op) (key_of plans e.process e.step)

-- the step is barred where it stands
abbrev pub is_barred_in : List Op → List Plan → List Entry → Entry → Bool
is_barred_in ops plans es e = bars (kind_of (subsystem_of ops e.op)) (call_of ops plans e) (value_found ops plans es e)

-- no step of these entries is
abbrev pub NothingIsBarred : List Op → List Plan → List Entry → Type 0
NothingIsBarred ops plans es = (e : Entry) → Contains es e → e.undo ≡ false → is_barred_in ops plans es e ≡ false

-- no take has a negative amount
abbrev pub TakesAreOfNoLess : List Op → List Plan → List Entry → Type 0
TakesAreOfNoLess ops plans es = (e : Entry) → Contains es e → verb_of ops e.op ≡ Take
    → int_lt (amount_of plans e.process e.step) (pos 0) ≡ false

-- Entries ys, of which xs are the history, leave what that leaves, and their steps find what they find there.
pub record KeepsValues (ops : List Op) (plans : List Plan) (xs ys : List Entry) : Type 0 where
  -- each subsystem has the same value at each key
  pub values : (q key : ℕ) → value_after ops plans ys q key ≡ value_after ops plans xs q key
  -- each step that is left, unless it adds or takes, finds the same
  pub found : (e : Entry) → Contains ys e → is_sum (verb_of ops e.op) ≡ false → value_found ops plans ys e ≡ value_found ops plans xs e
  -- where nothing was barred, and no take has a negative amount, nothing is
  pub barred : NothingIsBarred ops plans xs → TakesAreOfNoLess ops plans xs → NothingIsBarred ops plans ys

-- a legal history under a catalog that names each conflict in value
pub record IsSoundHistory (c : Catalog) (plans : List Plan) (h : List Event) : Type 0 where
  pub catalog : IsCatalog c
  pub sound : IsValueSound c
  pub planned : IsPlanned (operations_in c.conflicts) plans h
  pub legal : IsTrue (is_legal (do_conflict c.conflicts) (courses_of plans) h)

-- Value law: its printed serial list leaves the values that it leaves, where nobody is active in it.
abbrev pub ValueLaw : Type 0
ValueLaw = (c : Catalog) (plans : List Plan) (h : List Event) → IsSoundHistory c plans h → active h ≡ []
    → KeepsValues c.ops plans (acts h) (trace_of (ends h) (acts h)).list

-- And so does that of the completed history, of each that is legal.
abbrev pub ValueLawOfCompleted : Type 0
ValueLawOfCompleted = (c : Catalog) (plans : List Plan) (h : List Event) → IsSoundHistory c plans h
    → KeepsValues c.ops plans (acts (completed (courses_of plans) h)) (printed_trace (courses_of plans) h).list

-- the entry is of this process
abbrev pub is_of : ℕ → Entry → Bool
is_of i e = nat_eq e.process i

-- all entries of process i stand before all of process k
abbrev pub StandsBefore : ℕ → ℕ → List Entry → Type 0
StandsBefore i k es = (front rest : List Entry) × (es ≡ front ++ rest) × (list_any (is_of k) front ≡ false) × (list_any (is_of i) rest ≡ false)

-- The order of the list is one of real time: who ended before another started stands before it.
abbrev pub OrderIsOfRealTime : Type 0
OrderIsOfRealTime = (table : ConflictRelation) (plans : List Plan) (front between rest : List Event) (i k : ℕ)
    → IsGood table plans (front ++ End i ∷ between ++ Start k ∷ rest)
    → StandsBefore i k (printed_trace (courses_of plans) (front ++ End i ∷ between ++ Start k ∷ rest)).list
