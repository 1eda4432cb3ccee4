-- What a replay tells and leaves.
use Rattle.std.specs.Prelude.{◌≡◌, ◌<◌, ℕ, false, ℤ, List, [], ◌∷◌, ◌++◌, Some, None, length}
use Rattle.std.specs.List.{Contains}
use Rattle.process_tree.specs.declared.entry.Entry.{Entry}
use Rattle.process_tree.specs.declared.plan.Plan.{Plan}
use Rattle.schedule_model.specs.declared.history.History.{History}
use Rattle.schedule_model.specs.Course.{courses_of}
use Rattle.schedule_model.specs.PrintedTrace.{printed_trace}
use Rattle.commute_table.specs.declared.catalog.Catalog.{Catalog}
use Rattle.commute_table.specs.declared.op.Op.{Op}
use Rattle.resource_box.specs.Meaning.{value_at}
use Rattle.resource_box.specs.Table.{kind_of}
use Rattle.subsystem_store.specs.declared.effect.Effect.{Effect}
use Rattle.subsystem_store.specs.Values.{values}
use Rattle.history_files.specs.Effects.{effects_from, key_of, subsystem_of}
use Rattle.history_files.specs.Sound.{kinds}
use Rattle.history_files.specs.Standing.{AtEach}
use Rattle.value_rules.specs.ValueConflict.{first_commuting}
use Rattle.value_rules.specs.HistoryValues.{value_after}
use Rattle.value_replay.specs.declared.line.Line.{Line}
use Rattle.value_replay.specs.declared.line.ReplayRefused.{ReplayRefused}
use Rattle.value_replay.specs.declared.line.ReplayRefused.TheVariants.{Commuting, NoMemory}

-- the line of a step that these entries stand before: the value that they leave at its key
abbrev pub line_behind : List Op → List Plan → List Entry → Entry → Line
line_behind ops plans front e =
    record { entry = e; before = value_after ops plans front (subsystem_of ops e.op) (key_of plans e.process e.step) }

-- the lines of entries, one after another, that others stand before
abbrev pub lines_behind : List Op → List Plan → List Entry → List Entry → List Line
lines_behind ops plans front [] = []
lines_behind ops plans front (e ∷ es) = line_behind ops plans front e ∷ lines_behind ops plans (front ++ e ∷ []) es

-- the printed serial list of a history
abbrev pub serial_list : History → List Entry
serial_list h = (printed_trace (courses_of h.plans) h.events).list

-- the lines of a replay are those of the printed serial list, on nothing
abbrev pub lines_of : Catalog → History → List Line
lines_of c h = lines_behind c.ops h.plans [] (serial_list h)

-- each box has the values of the book of its subsystem
abbrev pub HaveValues : {B : Type 0} → (B → List (ℕ × ℤ)) → (ℕ → List Effect) → List B → Type 0
HaveValues values_of books boxes =
    AtEach (λ q b. (key : ℕ) → value_at (values_of b) key ≡ value_at (values (kind_of q) (books q)) key) boxes

-- the books of these entries
abbrev pub books : List Op → List Plan → List Entry → ℕ → List Effect
books ops plans es q = effects_from ops plans q 0 es

-- each of these entries is a step, and no undo
abbrev pub AreSteps : List Entry → Type 0
AreSteps es = (e : Entry) → Contains es e → e.undo ≡ false

-- how many subsystems there are
abbrev pub subsystems : ℕ
subsystems = length kinds

-- each operation is on one of the subsystems
abbrev pub ArePlaces : List Op → Type 0
ArePlaces ops = (op : ℕ) → subsystem_of ops op < subsystems

-- why a replay is refused: memory is wanting only where the catalog names each conflict in value
abbrev pub IsWhyRefused : Catalog → ReplayRefused → Type 0
IsWhyRefused c (Commuting a b) = first_commuting c ≡ Some (a, b)
IsWhyRefused c NoMemory = first_commuting c ≡ None
