-- An engine whose core has another state of the same history.
use Rattle.std.proofs.Common.{◌≡◌, ◌∙◌, ap, subst, sym}
use Rattle.process_disk.specs.Disk.{Disk}
use Rattle.commute_table.specs.declared.catalog.Catalog.{Catalog}
use Rattle.machine_model.specs.Calls.{Call}
use Rattle.process_core.specs.Answers.{after_call}
use Rattle.process_core.specs.Cores.{CoreState}
use Rattle.process_journal.specs.Journals.{IsHistoryUnder}
use Rattle.history_files.specs.Standing.{FilesState}
use Rattle.engine_steps.specs.Engines.{AreAtRest, IsUnder, full_history}

module _ (c : Catalog) (old new : CoreState) (call : Call) (is : new ≡ after_call old call) (same : full_history (after_call old call) ≡ full_history old) where
  now_same : full_history new ≡ full_history old
  now_same = ap full_history is ∙ same

  pub still_under : IsUnder c old → IsUnder c new
  still_under under = record { table = ap (λ (x : CoreState). x.conflicts) is ∙ under.table; history = subst (IsHistoryUnder c) (sym now_same) under.history }

  pub still_rest : {R B : Type 0} (files : FilesState R B) (disk : Disk) → AreAtRest c (full_history old) files disk → AreAtRest c (full_history new) files disk
  still_rest files disk rest = subst (λ h. AreAtRest c h files disk) (sym now_same) rest
