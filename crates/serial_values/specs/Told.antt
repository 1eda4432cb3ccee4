-- What is told of the values that a list of steps leaves.
use Rattle.std.specs.Prelude.{◌≡◌, ℕ, ℤ, List, [], ◌∷◌, map, codes, Option, Some, None}
use Rattle.process_tree.specs.declared.entry.Entry.{Entry}
use Rattle.process_tree.specs.declared.plan.Plan.{Plan}
use Rattle.process_text.specs.Canonical.{line_of}
use Rattle.commute_table.specs.declared.catalog.Catalog.{Catalog}
use Rattle.commute_table.specs.declared.op.Op.{Op}
use Rattle.resource_box.specs.Meaning.{value_at}
use Rattle.resource_box.specs.Table.{kind_of}
use Rattle.subsystem_store.specs.Values.{values}
use Rattle.history_files.specs.Effects.{key_of}
use Rattle.process_report.specs.Lines.{Line}
use Rattle.process_report.specs.Report.{section}
use Rattle.value_conflict.specs.Names.{commuting_names}
use Rattle.value_rules.specs.HistoryValues.{value_after}
use Rattle.value_replay.specs.Replays.{books}
use Rattle.replay_run.specs.Printed.{pairs_lines, values_lines}

-- the key of each of these entries
abbrev pub entry_keys : List Plan → List Entry → List ℕ
entry_keys plans es = map (λ e. key_of plans e.process e.step) es

-- a map has the values that entries leave in subsystem q
abbrev pub HasValuesOf : List Op → List Plan → List Entry → ℕ → List (ℕ × ℤ) → Type 0
HasValuesOf ops plans es q pairs = (key : ℕ) → value_at pairs key ≡ value_after ops plans es q key

-- the lines of what entries leave in subsystem q
abbrev pub subsystem_lines : List Op → List Plan → List Entry → ℕ → List Line
subsystem_lines ops plans es q = pairs_lines q (values (kind_of q) (books ops plans es q))

-- `values`, and a line for each value that isn't 0
abbrev pub told_values : List Op → List Plan → List Entry → List ℕ
told_values ops plans es = section (codes "values") (values_lines (books ops plans es))

-- `commuting A B`
abbrev pub commuting_text : List ℕ × List ℕ → List ℕ
commuting_text names = line_of (codes "commuting" ∷ names.0 ∷ names.1 ∷ [])

-- the values, or two operations whose order may matter to them
abbrev pub values_unless : Catalog → List Plan → List Entry → Option (List ℕ × List ℕ) → List ℕ
values_unless c plans es None = told_values c.ops plans es
values_unless c plans es (Some names) = commuting_text names

abbrev pub values_text : Catalog → List Plan → List Entry → List ℕ
values_text c plans es = values_unless c plans es (commuting_names c)
