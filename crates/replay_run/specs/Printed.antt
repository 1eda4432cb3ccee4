-- What is printed of a replay: a section with each step and the value that it found, and one with the values that aren't 0.
use Rattle.std.specs.Prelude.{ℕ, ℤ, pos, Bool, not, List, [], ◌∷◌, ◌++◌, map, filter, flat_map, codes, decimal}
use Rattle.std.specs.Fmt.{signed_decimal}
use Rattle.std.specs.Ordering.{int_eq}
use Rattle.process_tree.specs.Blocks.{numbers_from}
use Rattle.process_tree.specs.declared.plan.Plan.{Plan}
use Rattle.schedule_model.specs.declared.history.History.{History}
use Rattle.commute_table.specs.declared.catalog.Catalog.{Catalog}
use Rattle.commute_table.specs.declared.op.Op.{Op}
use Rattle.resource_box.specs.Table.{kind_of}
use Rattle.subsystem_store.specs.declared.effect.Effect.{Effect}
use Rattle.subsystem_store.specs.Values.{values}
use Rattle.history_files.specs.Effects.{amount_of}
use Rattle.trace_verify.specs.declared.form.Form.TheVariants.{Plain}
use Rattle.process_report.specs.Lines.{Line, entry_line}
use Rattle.process_report.specs.Report.{section}
use Rattle.value_replay.specs.declared.line.Line.{Line as Told}
use Rattle.value_replay.specs.Replays.{books, lines_of, serial_list, subsystems}

-- `KEY AMOUNT`
abbrev pub asked_words : ℕ → ℤ → List ℕ
asked_words key amount = decimal key ++ codes " " ++ signed_decimal amount

-- what a step asked, and the value that it found: `KEY AMOUNT was W`
abbrev pub found_words : List Plan → Told → List ℕ
found_words plans l =
    asked_words l.entry.key (amount_of plans l.entry.process l.entry.step) ++ codes " was " ++ signed_decimal l.before

-- `do I.STEP OP KEY AMOUNT was W`
abbrev pub step_line : List Plan → List Op → Told → Line
step_line plans ops l = entry_line Plain plans ops l.entry ++ found_words plans l ∷ []

-- the value of a pair isn't 0
abbrev pub isnt_zero : ℕ × ℤ → Bool
isnt_zero pair = not (int_eq pair.1 (pos 0))

-- `Q KEY VALUE`
abbrev pub value_line : ℕ → ℕ × ℤ → Line
value_line q pair = decimal q ∷ decimal pair.0 ∷ signed_decimal pair.1 ∷ []

-- the lines of pairs of subsystem q, without those of value 0
abbrev pub pairs_lines : ℕ → List (ℕ × ℤ) → List Line
pairs_lines q pairs = map (value_line q) (filter isnt_zero pairs)

-- the lines of the values that books leave, by subsystem and then by key
abbrev pub values_lines : (ℕ → List Effect) → List Line
values_lines books = flat_map (λ q. pairs_lines q (values (kind_of q) (books q))) (numbers_from 0 subsystems)

-- what is printed of a history: its printed serial list, executed on nothing, and the values that this leaves
abbrev pub replay_text : Catalog → History → List ℕ
replay_text c h =
    section (codes "serial") (map (step_line h.plans c.ops) (lines_of c h))
    ++ section (codes "values") (values_lines (books c.ops h.plans (serial_list h)))
