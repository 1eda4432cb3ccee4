-- What the list that is printed of a history says of values.
use Rattle.std.proofs.Common.{◌≡◌, ◌∙◌, ℕ, List, [], ◌∷◌, ◌++◌, sym, ap, subst, append-nil}
use Rattle.std.specs.Prelude.{IsTrue}
use Rattle.std.proofs.lemmas.Bool.{and_parts}
use Rattle.process_disk.specs.Disk.{FileSet}
use Rattle.process_tree.specs.Conflicts.{do_conflict, operations_in}
use Rattle.process_tree.proofs.Tables.{do_conflict-symmetric}
use Rattle.schedule_model.specs.declared.event.Event.{Event}
use Rattle.schedule_model.specs.declared.event.Event.TheVariants.{Start, End}
use Rattle.schedule_model.specs.declared.history.History.{History}
use Rattle.schedule_model.specs.Completion.{completed}
use Rattle.schedule_model.specs.Course.{courses_of}
use Rattle.schedule_model.specs.Histories.{active, acts}
use Rattle.schedule_model.specs.Laws.{IsGood, IsPlanned}
use Rattle.schedule_model.specs.Legal.{is_legal}
use Rattle.schedule_model.specs.Limits.{is_within_limits}
use Rattle.schedule_model.specs.PrintedTrace.{printed_trace}
use Rattle.schedule_model.proofs.Active.{completion-none}
use Rattle.commute_table.specs.declared.catalog.Catalog.{Catalog}
use Rattle.process_journal.specs.Journals.{IsHistoryUnder}
use Rattle.process_journal.specs.Laws.{beginning}
use Rattle.process_journal.proofs.Beginnings.{beginning_is_good}
use Rattle.process_journal.proofs.GoodPlans.{histories_are_planned}
use Rattle.history_files.specs.Effects.{effects}
use Rattle.history_files.specs.Sound.{IsSound}
use Rattle.value_conflict.specs.ValueConflict.{IsValueSound}
use Rattle.value_rules.specs.HistoryValues.{IsSoundHistory, OrderIsOfRealTime, StandsBefore, ValueLawOfCompleted, value_after}
use Rattle.value_replay.specs.Replays.{serial_list}
use Rattle.process_top.specs.Values.{ListsAreOfValues, ShowValues}

-- a history that a journal may have is legal
legal_history : (c : Catalog) (h : History) → IsHistoryUnder c h → IsTrue (is_legal (do_conflict c.conflicts) (courses_of h.plans) h.events)
legal_history c h under =
    (and_parts (is_legal (do_conflict c.conflicts) (courses_of h.plans) h.events) (is_within_limits (courses_of h.plans) h.events) under.allowed).0

-- so the law of values speaks of it, where its catalog names each conflict in value,
sound_history : (c : Catalog) (h : History) → IsHistoryUnder c h → IsValueSound c → IsSoundHistory c h.plans h.events
sound_history c h under sound = record {
  catalog = under.catalog;
  sound = sound;
  planned = histories_are_planned c h under;
  legal = legal_history c h under;
}

-- and that of real time
pub good_history : (c : Catalog) (h : History) → IsHistoryUnder c h → IsGood (do_conflict c.conflicts) h.plans h.events
good_history c h under =
    let planned : IsPlanned (operations_in c.conflicts) h.plans h.events = histories_are_planned c h under in
    record {
      symmetric = do_conflict-symmetric c.conflicts;
      good = planned.good;
      one_each = planned.one_each;
      legal = legal_history c h under;
    }

real_time : OrderIsOfRealTime → (c : Catalog) (h : History) → IsHistoryUnder c h → (front between rest : List Event) (i k : ℕ) → h.events ≡ front ++ End i ∷ between ++ Start k ∷ rest
    → StandsBefore i k (serial_list h)
real_time law c h under front between rest i k is =
    subst (λ es. StandsBefore i k (printed_trace (courses_of h.plans) es).list) (sym is)
    (law (do_conflict c.conflicts) h.plans front between rest i k (subst (IsGood (do_conflict c.conflicts) h.plans) is (good_history c h under)))

-- a history in which nobody is active is completed
completed_already : (h : History) → active h.events ≡ [] → completed (courses_of h.plans) h.events ≡ h.events
completed_already h none = ap (λ more. h.events ++ more) (completion-none (courses_of h.plans) h.events none) ∙ append-nil h.events

-- The printed list is one of values, in the order of real time.
pub list_of_values : ValueLawOfCompleted → OrderIsOfRealTime → ListsAreOfValues
list_of_values law in_time c h under = record {
  keeps = λ sound. law c h.plans h.events (sound_history c h under sound);
  order = real_time in_time c h under;
}

-- Files that are sound for a history show its values.
pub files_show : ListsAreOfValues → (c : Catalog) (h : History) (files : FileSet) → IsSound c h files → ShowValues c h files
files_show law c h files is = record {
  sound = is;
  list = law c h is.history;
  lists = λ g k parts. law c (beginning h g) (beginning_is_good c h g k is.history parts);
  books = λ sound none q low. (
    effects c.ops h q,
    is.books q low,
    λ key.
        ap (λ es. value_after c.ops h.plans (acts es) q key) (sym (completed_already h none))
        ∙ sym (((law c h is.history).keeps sound).values q key),
  );
}
