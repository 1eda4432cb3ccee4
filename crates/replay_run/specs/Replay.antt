-- The command `replay`: of the history of file 0, in which no process is active, it says what the printed serial list makes of
-- empty books.
use Rattle.std.specs.Prelude.{◌≡◌, ⊤, ℕ, ℤ, List, [], ◌∷◌, Some, Result, Ok, Err}
use Rattle.process_disk.specs.Disk.{Disk, Told}
use Rattle.process_tree.specs.Shape.{first_of}
use Rattle.schedule_model.specs.declared.history.History.{History}
use Rattle.schedule_model.specs.Histories.{active}
use Rattle.commute_table.specs.declared.catalog.Catalog.{Catalog}
use Rattle.process_journal.specs.Journals.{IsHistoryUnder}
use Rattle.process_journal.specs.Opened.{IsJournalOf}
use Rattle.history_files.specs.Effects.{effects}
use Rattle.value_conflict.specs.ValueConflict.{IsValueSound}
use Rattle.value_replay.specs.Replays.{HaveValues, books, serial_list}
use Rattle.command_refusals.specs.declared.refusal.Refusal.{Refusal}
use Rattle.command_refusals.specs.declared.refusal.Refusal.TheVariants as refusals
use Rattle.command_refusals.specs.declared.status.Status.{Status}
use Rattle.command_refusals.specs.declared.status.Status.TheVariants.{Done, BadInput, NoMemory}
use Rattle.command_refusals.specs.Order.{Test, Tests, last_test, test_then, IsFirstRefusal}
use Rattle.command_refusals.specs.Refusals.{refusal_status}
use Rattle.command_refusals.specs.Statuses.{IsOneOf}
use Rattle.command_input.specs.declared.said.Said.{Said}
use Rattle.command_input.specs.FilesLeft.{Files}
use Rattle.journal_input.specs.Opening.{journal_test, IsOpened}
use Rattle.replay_run.specs.Printed.{replay_text, values_lines}
use Rattle.replay_run.specs.Soundness.{sound_test}

-- the test of a history: no process is active in it; the least that is active is named
abbrev pub idle_test : History → Test Refusal ⊤
idle_test h = record {
  hands_on = λ _. active h.events ≡ [];
  refuses = λ r. (i : ℕ) × (r ≡ refusals.Unfinished i) × (first_of (active h.events) ≡ Some i);
}

-- The order of the refusals of `replay`: the journal, its history, and then its catalog.
abbrev pub replay_tests : Files → Files → Tests Refusal ⊤
replay_tests before after =
    test_then (journal_test before after) (λ own. test_then (idle_test own.1) (λ _. last_test (sound_test own.0)))

-- What is said of a history in which no process is active, under a catalog that names each conflict in value.
pub record IsReplayed (c : Catalog) (h : History) (said : Said) : Type 0 where
  pub idle : active h.events ≡ []
  pub sound : IsValueSound c
  pub printed : said.text.items ≡ replay_text c h
  pub ended : said.status ≡ Done
  -- the values that are printed are those that the history itself leaves
  pub own : values_lines (books c.ops h.plans (serial_list h)) ≡ values_lines (effects c.ops h)

-- What there is to say of the files: the replay of the history of file 0, or what is refused first.
abbrev pub IsReplayDue : Files → Files → Result Said Refusal → Type 0
IsReplayDue before after (Ok said) = (c : Catalog) × (h : History) × IsOpened c h before after × IsReplayed c h said
IsReplayDue before after (Err r) = IsFirstRefusal (replay_tests before after) r

-- the boxes have the values that the history of file 0 leaves
abbrev pub HaveValuesOfFile : {B : Type 0} → (B → List (ℕ × ℤ)) → Files → Files → List B → Type 0
HaveValuesOfFile values_of before after boxes =
    (c : Catalog) × (h : History) × IsOpened c h before after × HaveValues values_of (effects c.ops h) boxes

-- the status of what was found
abbrev pub found_status : Result Said Refusal → Status
found_status (Ok said) = said.status
found_status (Err r) = refusal_status r

-- File 0, where it is told, is the journal of this history, in which no process is active.
pub record IsIdleHistory (c : Catalog) (h : History) (disk : Disk) : Type 0 where
  pub history : IsHistoryUnder c h
  pub told : Told disk
  pub journal : IsJournalOf c h disk.files
  pub idle : active h.events ≡ []

-- Where file 0 is the journal of a history in which no process is active, it is replayed where its catalog names each conflict in
-- value, and else the catalog is refused; or memory was wanting.
pub record IsReplayComplete (disk : Disk) (status : Status) : Type 0 where
  pub sound : (c : Catalog) (h : History) → IsIdleHistory c h disk → IsValueSound c → IsOneOf status (Done ∷ NoMemory ∷ [])
  pub unsound : (c : Catalog) (h : History) → IsIdleHistory c h disk → ¬ IsValueSound c
      → IsOneOf status (BadInput ∷ NoMemory ∷ [])
