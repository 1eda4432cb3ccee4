-- Where no call of the rack failed, the history is replayed, or its catalog refused, or memory was wanting.
use Rattle.std.proofs.Common.{◌≡◌, ◌⊎◌, ℕ, List, [], ◌∷◌, Some, None, Result, Ok, Err, inl, inr, sym, ap, subst, ◌∙◌}
use Rattle.process_flow.specs.Causes.{Rose}
use Rattle.process_disk.specs.Disk.{file_of}
use Rattle.process_tree.specs.Shape.{first_of}
use Rattle.schedule_model.specs.declared.history.History.{History}
use Rattle.schedule_model.specs.Histories.{active}
use Rattle.commute_table.specs.declared.catalog.Catalog.{Catalog}
use Rattle.process_journal.specs.declared.errors.JournalError.{JournalError}
use Rattle.process_journal.specs.declared.errors.JournalError.TheVariants as journal
use Rattle.process_journal.specs.Laws.{IsSameHistory, JournalsAreOpened, OneHistoryAtMost}
use Rattle.value_conflict.specs.ValueConflict.{IsValueSound}
use Rattle.command_refusals.specs.declared.refusal.Refusal.{Refusal}
use Rattle.command_refusals.specs.declared.status.Status.TheVariants.{Done, BadInput, NoMemory}
use Rattle.command_refusals.specs.Refusals.{refusal_status}
use Rattle.command_refusals.specs.Statuses.{IsOneOf}
use Rattle.command_input.specs.declared.said.Said.{Said}
use Rattle.command_input.specs.FilesLeft.{Files}
use Rattle.journal_input.specs.Opening.{journal_refusal, journal_test, IsOpened}
use Rattle.replay_run.specs.Replay.{found_status, IsIdleHistory, IsReplayComplete, IsReplayDue}
use Rattle.replay_run.specs.Soundness.{IsUnsound}
use Rattle.replay_run.proofs.SoundCatalogs.{unsound_memory}

opened_or_memory : (e : JournalError) (before after : ℕ) → (e ≡ journal.DiskFault) ⊎ (e ≡ journal.NoMemory) → (e ≡ journal.DiskFault → Rose before after) → ¬ Rose before after → refusal_status (journal_refusal e) ≡ NoMemory
opened_or_memory e before after (inl fault) rose quiet = absurd (quiet (rose fault))
opened_or_memory e before after (inr memory) rose quiet = ap (λ (x : JournalError). refusal_status (journal_refusal x)) memory

none_first : (is : List ℕ) (i : ℕ) → is ≡ [] → ¬ (first_of is ≡ Some i)
none_first is i none first =
    let at : None ≡ Some i = sym (ap first_of none) ∙ first in
    absurd (cc)

unsound_status : (c : Catalog) (r : Refusal) → IsUnsound c r → IsOneOf (refusal_status r) (BadInput ∷ NoMemory ∷ [])
unsound_status c r (inl memory) = inr (inl (ap refusal_status memory))
unsound_status c r (inr pair) = inl (ap refusal_status pair.2)

module _ (one : OneHistoryAtMost) (opened : JournalsAreOpened) (before after : Files) (quiet : ¬ Rose before.faults after.faults) where
  -- the journal of a history is read, or memory was wanting
  pub not_read_quietly : (r : Refusal) (c : Catalog) (h : History) → IsIdleHistory c h before.disk → (journal_test before after).refuses r → refusal_status r ≡ NoMemory
  not_read_quietly r c h is why =
      ap refusal_status why.1
      ∙ opened_or_memory why.0 before.faults after.faults (opened c h (file_of before.disk.files 0) why.0 is.history is.journal (why.2 is.told)) why.3 quiet

  -- what was read is that history
  same_read : (c d : Catalog) (h k : History) → IsIdleHistory c h before.disk → IsOpened d k before after → (d ≡ c) × IsSameHistory h k
  same_read c d h k is read = one c d h k (file_of before.disk.files 0) is.history read.0 is.journal (read.1 is.told).0

  sound_found : (found : Result Said Refusal) → IsReplayDue before after found → (c : Catalog) (h : History) → IsIdleHistory c h before.disk → IsValueSound c
      → IsOneOf (found_status found) (Done ∷ NoMemory ∷ [])
  sound_found (Ok said) (d, k, read, replayed) c h is sound = inl replayed.ended
  sound_found (Err r) (inl why) c h is sound = inr (inl (not_read_quietly r c h is why))
  sound_found (Err r) (inr (own, read, inl busy)) c h is sound =
      absurd (none_first (active own.1.events) busy.0 (ap active (sym (same_read c own.0 h own.1 is read).1.events) ∙ is.idle) busy.2)
  sound_found (Err r) (inr (own, read, inr (done, idle, why))) c h is sound =
      inr (inl (unsound_memory own.0 r (subst IsValueSound (sym (same_read c own.0 h own.1 is read).0) sound) why))

  unsound_found : (found : Result Said Refusal) → IsReplayDue before after found → (c : Catalog) (h : History) → IsIdleHistory c h before.disk → ¬ IsValueSound c
      → IsOneOf (found_status found) (BadInput ∷ NoMemory ∷ [])
  unsound_found (Ok said) (d, k, read, replayed) c h is unsound = absurd (unsound (subst IsValueSound (same_read c d h k is read).0 replayed.sound))
  unsound_found (Err r) (inl why) c h is unsound = inr (inl (not_read_quietly r c h is why))
  unsound_found (Err r) (inr (own, read, inl busy)) c h is unsound =
      absurd (none_first (active own.1.events) busy.0 (ap active (sym (same_read c own.0 h own.1 is read).1.events) ∙ is.idle) busy.2)
  unsound_found (Err r) (inr (own, read, inr (done, idle, why))) c h is unsound = unsound_status own.0 r why

  pub replay_complete : (found : Result Said Refusal) → IsReplayDue before after found → IsReplayComplete before.disk (found_status found)
  replay_complete found due = record { sound = sound_found found due; unsound = unsound_found found due }
