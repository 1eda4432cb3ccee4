-- What the record of a start makes of the history of a core.
use Rattle.std.proofs.Common.{◌≡◌, ◌∙◌, ◌<◌, ◌≤◌, ◌+◌, length, None, ap, refl, subst, sym, arith}
use Rattle.process_disk.specs.Disk.{Disk, Told}
use Rattle.process_tree.specs.declared.plan.Plan.{Plan}
use Rattle.schedule_model.specs.Course.{course_of}
use Rattle.schedule_model.specs.Laws.{IsGoodPlan}
use Rattle.commute_table.specs.declared.catalog.Catalog.{Catalog}
use Rattle.journal_records.specs.declared.record.Record.TheVariants.{Start as IsStart}
use Rattle.machine_model.specs.Runs.{start_refusal}
use Rattle.machine_model.proofs.RunsWithin.{runs_are_legal}
use Rattle.process_core.specs.Answers.{after_start}
use Rattle.process_core.specs.Cores.{CoreState, IsCore, courses_in, history_of, machine_of, moment_of, relation}
use Rattle.process_core.proofs.FewEvents.{few_events}
use Rattle.process_core.proofs.StartedProcesses.{few_start}
use Rattle.process_journal.specs.Journals.{IsHistoryUnder, IsMadeBy}
use Rattle.process_journal.specs.Laws.{RecordsMakeHistories}
use Rattle.process_journal.specs.Opened.{GoesOn}
use Rattle.process_journal.specs.Plans.{IsPlanUnder, text_of}
use Rattle.history_files.specs.Laws.{StartsAddNone}
use Rattle.history_files.specs.Standing.{ComeTo, FilesState, Stand}
use Rattle.engine_steps.specs.Beginning.{history_with}
use Rattle.engine_steps.specs.Engines.{AreAtRest, IsUnder, full_history}
use Rattle.engine_steps.proofs.StartedHistory.{allowed_after, history_after}
use Rattle.engine_steps.proofs.StartedRest.{come_after, rest_after}

-- no more have started than can be numbered
pub few_plans : (core : CoreState) → IsCore core → length core.plans ≤ 4096
few_plans core is =
    let few = few_start (courses_in core) (history_of core) (runs_are_legal (relation core) core.plans (machine_of core) is.session).1 in
    let each = is.session.one_each in
    omega arith

-- the journal has room for a record more
pub room_left : {R B : Type 0} (c : Catalog) (core : CoreState) (files : FilesState R B) (disk : Disk) → IsCore core → AreAtRest c (full_history core) files disk → files.journal.count < 65536
room_left c core files disk is rest =
    let few = few_events core is in
    let count = rest.count in
    omega arith

module _ (c : Catalog) (core : CoreState) (is : IsCore core) (under : IsUnder c core) (law : RecordsMakeHistories) (p : Plan) (own : IsPlanUnder c p) (good : IsGoodPlan p)
    (free : start_refusal (courses_in core) (moment_of core) (course_of p) ≡ None) where
  pub made_after : IsMadeBy c (IsStart (length core.plans + 1) (text_of p)) (full_history core) (history_with core p)
  made_after = (p, own, refl)

  -- a journal may have the history with the start
  pub under_after : IsHistoryUnder c (history_with core p)
  under_after =
      let few = few_plans core is in
      law c (IsStart (length core.plans + 1) (text_of p)) (full_history core) (history_with core p) under.history made_after (omega arith) (allowed_after core is p free c under.table good)

  -- so the journal goes on with its record
  pub goes_on_after : {R B : Type 0} (files : FilesState R B) (disk : Disk) → AreAtRest c (full_history core) files disk → Told disk → GoesOn files.journal (IsStart (length core.plans + 1) (text_of p)) disk
  goes_on_after files disk rest told = record {
    catalog = c;
    before = full_history core;
    after = history_with core p;
    stands = (rest.stand told).journal;
    made = made_after;
    may = under_after;
  }

  -- the books come to the effects of that history
  pub come_with : {R B : Type 0} → StartsAddNone → (files : FilesState R B) (disk : Disk) → AreAtRest c (full_history core) files disk → ComeTo c.ops (history_with core p) files.stores
  come_with adds files disk rest = come_after c (full_history core) (length core.plans + 1) p adds under.history files disk rest

  module _ (new : CoreState) (after : new ≡ after_start core p) where
    history_new : full_history new ≡ history_with core p
    history_new = ap full_history after ∙ history_after core is p free

    -- once the process has started the core is under the catalog still,
    pub under_new : IsUnder c new
    under_new = record { table = ap (λ (x : CoreState). x.conflicts) after ∙ under.table; history = subst (IsHistoryUnder c) (sym history_new) under_after }

    -- and the files are at rest
    pub rest_new : {R B : Type 0} → StartsAddNone → (old now : FilesState R B) (before disk : Disk) → AreAtRest c (full_history core) old before → now.stores ≡ old.stores
        → now.journal.count ≡ old.journal.count + 1 → (Told disk → Stand c (history_with core p) now.journal now.stores disk) → AreAtRest c (full_history new) now disk
    rest_new adds old now before disk rest same one stand = subst (λ h. AreAtRest c h now disk) (sym history_new)
        (rest_after c (full_history core) (length core.plans + 1) p adds under.history old before rest now disk same one stand)
