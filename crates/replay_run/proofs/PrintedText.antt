-- The whole text, and the values in it.
use Rattle.std.proofs.Common.{◌≡◌, ℕ, ℤ, List, [], ◌++◌, map, length, sym, ap, subst, ◌∙◌, append_assoc, append-nil}
use Rattle.std.specs.Prelude.{codes}
use Rattle.std.specs.List.{Contains}
use Rattle.std.specs.List.Sorted.{IsStrictlySortedBy}
use Rattle.std.specs.Ordering.{nat_cmp}
use Rattle.std.proofs.lemmas.Bool.{and_parts}
use Rattle.std.proofs.lemmas.List.{length-map}
use Rattle.process_tree.specs.Conflicts.{do_conflict, operations_in}
use Rattle.schedule_model.specs.declared.history.History.{History}
use Rattle.schedule_model.specs.Completion.{completed}
use Rattle.schedule_model.specs.Course.{courses_of}
use Rattle.schedule_model.specs.Histories.{active, acts}
use Rattle.schedule_model.specs.Laws.{IsPlanned}
use Rattle.schedule_model.specs.Legal.{is_legal}
use Rattle.schedule_model.specs.Limits.{is_within_limits}
use Rattle.schedule_model.proofs.Active.{completion-none}
use Rattle.commute_table.specs.declared.catalog.Catalog.{Catalog}
use Rattle.process_journal.specs.Journals.{IsHistoryUnder}
use Rattle.resource_box.specs.declared.call.Kind.{Kind}
use Rattle.resource_box.specs.Meaning.{value_at}
use Rattle.resource_box.specs.Table.{kind_of}
use Rattle.subsystem_store.specs.Values.{values}
use Rattle.history_files.specs.Boxes.{AreBoxes}
use Rattle.history_files.specs.Effects.{effects}
use Rattle.process_report.specs.Lines.{text_of}
use Rattle.value_conflict.specs.ValueConflict.{IsValueSound}
use Rattle.value_rules.specs.HistoryValues.{value_after, ValueLawOfCompleted}
use Rattle.value_replay.specs.Replays.{HaveValues, books, lines_of, serial_list, subsystems}
use Rattle.replay_run.specs.Boxes.{boxes_lines, HaveKeysOf}
use Rattle.replay_run.specs.Printed.{replay_text, step_line}
use Rattle.replay_run.proofs.PrintedValues.{lines_of_boxes}
use Rattle.replay_run.proofs.UsedKeys.{keys_of_lines}

-- a history in which nobody is active is completed
completed_already : (h : History) → active h.events ≡ [] → completed (courses_of h.plans) h.events ≡ h.events
completed_already h none = ap (λ more. h.events ++ more) (completion-none (courses_of h.plans) h.events none) ∙ append-nil h.events

-- The printed serial list leaves the values that the history leaves.
pub own_values : ValueLawOfCompleted → (c : Catalog) (h : History) → IsHistoryUnder c h → IsPlanned (operations_in c.conflicts) h.plans h.events → IsValueSound c → active h.events ≡ [] → (q key : ℕ)
    → value_at (values (kind_of q) (books c.ops h.plans (serial_list h) q)) key ≡ value_at (values (kind_of q) (effects c.ops h q)) key
own_values law c h good planned sound idle q key =
    (law c h.plans h.events (record {
      catalog = good.catalog;
      sound = sound;
      planned = planned;
      legal = (and_parts (is_legal (do_conflict c.conflicts) (courses_of h.plans) h.events) (is_within_limits (courses_of h.plans) h.events) good.allowed).0;
    })).values q key
    ∙ ap (λ events. value_after c.ops h.plans (acts events) q key) (completed_already h idle)

-- so boxes with the values of the history have those of its printed serial list
pub have_serial : {B : Type 0} (values_of : B → List (ℕ × ℤ)) (boxes : List B) → ValueLawOfCompleted → (c : Catalog) (h : History) → IsHistoryUnder c h → IsPlanned (operations_in c.conflicts) h.plans h.events
    → IsValueSound c → active h.events ≡ [] → HaveValues values_of (effects c.ops h) boxes → HaveValues values_of (books c.ops h.plans (serial_list h)) boxes
have_serial values_of boxes law c h good planned sound idle have q b at key = have q b at key ∙ sym (own_values law c h good planned sound idle q key)

-- The text, as it is written from steps and boxes.
pub text_written : {B : Type 0} (sort : B → Kind) (values_of : B → List (ℕ × ℤ)) (boxes : List B) (c : Catalog) (h : History) (keys : List ℕ) (steps titled all : List ℕ) → AreBoxes sort boxes
    → HaveKeysOf h.plans (lines_of c h) keys → IsStrictlySortedBy nat_cmp keys → HaveValues values_of (books c.ops h.plans (serial_list h)) boxes
    → steps ≡ codes "serial\n" ++ text_of (map (step_line h.plans c.ops) (lines_of c h)) → titled ≡ steps ++ codes "values\n" → all ≡ titled ++ text_of (boxes_lines values_of keys 0 boxes)
    → all ≡ replay_text c h
text_written sort values_of boxes c h keys steps titled all are have sorted have_values one two three =
    let es = serial_list h in
    let eight : length boxes ≡ subsystems = sym (length-map boxes sort) ∙ ap length are in
    let written = text_of (map (step_line h.plans c.ops) (lines_of c h)) in
    let told =
    lines_of_boxes c.ops h.plans es keys (λ x at. have x (subst (λ ks. Contains ks x) (sym (keys_of_lines c.ops h.plans [] es)) at)) sorted values_of boxes eight have_values in
    three
    ∙ (ap (λ t. t ++ text_of (boxes_lines values_of keys 0 boxes)) (two ∙ ap (λ s. s ++ codes "values\n") one)
    ∙ (append_assoc (codes "serial\n" ++ written) (codes "values\n") (text_of (boxes_lines values_of keys 0 boxes))
    ∙ ap (λ ls. (codes "serial\n" ++ written) ++ (codes "values\n" ++ text_of ls)) told))
