-- What is kept while records are read, and why one is refused.
use Rattle.std.specs.Prelude.{◌≡◌, ◌+◌, ⊤, ℕ, List, ◌++◌, length}
use Rattle.schedule_model.specs.declared.history.History.{History}
use Rattle.history_judging.specs.Keeping.{IsJudged}
use Rattle.process_journal.specs.declared.replay.Replay.{Replay}
use Rattle.commute_table.specs.declared.catalog.Catalog.{Catalog}
use Rattle.process_journal.specs.declared.errors.JournalError.{JournalError}
use Rattle.process_journal.specs.declared.errors.JournalError.TheVariants.{DiskFault, BadHeader, BadRecord, BadHistory, NoMemory}
use Rattle.process_journal.specs.Bodies.{journal_bodies}
use Rattle.process_journal.specs.Journals.{IsHistoryUnder}
use Rattle.process_journal.specs.Reading.{HasNoForm, IsOutOfPlace}

-- a journal of this catalog may have the history, and these are its tables
pub record IsReplayed (c : Catalog) (r : Replay) : Type 0 where
  pub history : IsHistoryUnder c r.history
  pub judged : IsJudged c.conflicts r.history.plans r.history.events r.legality

-- What was read of these bodies makes the journal of this history, and the rest is left, of which the first is record n.
pub record IsReadTo (c : Catalog) (bodies : List (List ℕ)) (r : Replay) (rest : List (List ℕ)) (n : ℕ) : Type 0 where
  pub replayed : IsReplayed c r
  pub are : journal_bodies c r.history ++ rest ≡ bodies
  pub number : n ≡ length (journal_bodies c r.history) + 1

-- the body of record n, behind a history, is refused for its form or for its place; want of memory is free here
abbrev pub IsFaultOf : Catalog → History → ℕ → List ℕ → JournalError → Type 0
IsFaultOf c h n body DiskFault = ⊥
IsFaultOf c h n body BadHeader = ⊥
IsFaultOf c h n body (BadRecord m) = (m ≡ n) × HasNoForm c h body
IsFaultOf c h n body (BadHistory m) = (m ≡ n) × IsOutOfPlace c h body
IsFaultOf c h n body NoMemory = ⊤
