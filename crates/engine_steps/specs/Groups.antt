-- Several events that take effect together: prepared in their stores, recorded by one write of the journal, and committed.
use Rattle.std.specs.Prelude.{◌≡◌, ◌≢◌, ◌≤◌, ℕ, ◌+◌, ⊤, List, [], ◌∷◌, length, map, Bool, Result}
use Rattle.std.specs.Prelude.{OnErr}
use Rattle.std.specs.List.{list_any}
use Rattle.process_tree.specs.Order.{Each}
use Rattle.process_disk.specs.Disk.{Disk, Told}
use Rattle.process_disk.specs.Images.{OthersAsBefore}
use Rattle.gate_log.specs.declared.errors.DiskFault.{DiskFault as DiskFailed}
use Rattle.schedule_model.specs.declared.event.Event.{Event}
use Rattle.schedule_model.specs.declared.event.Event.TheVariants.{Start, Act, End}
use Rattle.schedule_model.specs.declared.history.History.{History}
use Rattle.schedule_model.specs.Limits.{most_active}
use Rattle.commute_table.specs.declared.op.Op.{Op}
use Rattle.journal_records.specs.Bytes.{bytes_of}
use Rattle.journal_records.specs.declared.record.Record.{Record}
use Rattle.journal_records.specs.declared.record.Record.TheVariants as records
use Rattle.subsystem_store.specs.declared.effect.Effect.{Effect}
use Rattle.subsystem_store.specs.Opened.{Opened}
use Rattle.store_group.specs.Events.{BecomeEach, IsPrepared, effects_for, has_any}
use Rattle.process_journal.specs.Journals.{AreMadeBy}
use Rattle.process_journal.specs.Staged.{IsOnDisk}
use Rattle.history_files.specs.Groups.{AddsGroup}
use Rattle.history_files.specs.Laws.{AreSettled}
pub use Rattle.history_files.specs.NextGroups.{with_events, IsNoStart}
use Rattle.history_files.specs.Standing.{AreGoodBooks, FilesState, Stand}
use Rattle.engine_steps.specs.Engines.{AreAtRest, EngineState, full_history}
use Rattle.engine_steps.specs.declared.engines.Phase.TheVariants as phase

-- the record of an event; no group has a start, which the text of a plan would belong to
abbrev pub record_for : Event → Record
record_for (Start i) = records.Start i []
record_for (Act e) = records.Act e
record_for (End i) = records.End i

-- the bodies of the records of these events
abbrev pub bodies_of : List Event → List (List ℕ)
bodies_of events = map (λ e. bytes_of (record_for e)) events

-- the events of a group: one at least, one of each process that may be active at most, and no start
pub record AreGroupEvents (events : List Event) : Type 0 where
  pub acts_or_ends : Each IsNoStart events
  pub some : events ≢ []
  pub few : length events ≤ most_active

-- there is an effect at some place
abbrev pub has_effect : List (List Effect) → Bool
has_effect group = list_any has_any group

-- The effects of a group are in doubt, each in the store of its subsystem, behind books that are the effects of the history.
pub record AreInDoubt {B : Type 0} (ops : List Op) (h : History) (group : List (List Effect)) (stores : List (Opened B)) : Type 0
  where
    pub settled : List (Opened B)
    pub before : AreSettled ops h settled
    pub became : BecomeEach (λ q s t. IsPrepared (effects_for group q) s t) settled stores

-- A group is prepared: its effects are in doubt, the records of its events are on the disk behind the closed gate of the journal, and
-- the files stand for the history, which lacks its events.
pub record IsGroupPrepared {R B : Type 0} (e : EngineState R B) (disk : Disk) (events : List Event) (group : List (List Effect))
    : Type 0 where
  pub phase : e.phase ≡ phase.UnderWay
  pub are : AreGroupEvents events
  pub count : e.files.journal.count ≡ length (full_history e.core).events + 1
  pub staged : e.files.journal.staged ≡ bodies_of events
  pub there : Told disk → IsOnDisk e.files.journal e.catalog (full_history e.core) disk
  pub doubt : AreInDoubt e.catalog.ops (full_history e.core) group e.files.stores
  pub good : AreGoodBooks e.files.stores
  pub stand : Told disk → Stand e.catalog (full_history e.core) e.files.journal e.files.stores disk

-- A group is recorded: its effects are in doubt, and the files stand for the history with its events, which adds them.
pub record IsGroupRecorded {R B : Type 0} (e : EngineState R B) (disk : Disk) (group : List (List Effect)) (h : History) : Type 0
  where
    pub phase : e.phase ≡ phase.UnderWay
    pub count : e.files.journal.count ≡ length h.events + 1
    pub adds : AddsGroup e.catalog.ops (full_history e.core) h group
    pub doubt : AreInDoubt e.catalog.ops (full_history e.core) group e.files.stores
    pub good : AreGoodBooks e.files.stores
    pub stand : Told disk → Stand e.catalog h e.files.journal e.files.stores disk

-- A group is committed: the files are at rest for the history with its events, which the core hasn't yet.
pub record IsGroupCommitted {R B : Type 0} (e : EngineState R B) (disk : Disk) (h : History) : Type 0 where
  pub phase : e.phase ≡ phase.UnderWay
  pub rest : AreAtRest e.catalog h e.files disk

-- A step of a group leaves the core, and where a call of the rack failed, the engine is closed.
pub record LeavesCore {R B : Type 0} (old new : EngineState R B) (result : Result Unit DiskFailed) : Type 0 where
  pub core : new.core ≡ old.core
  pub catalog : new.catalog ≡ old.catalog
  pub closed : OnErr result (new.phase ≡ phase.Closed)

-- A prepared group may be recorded by its events: the journal may have the history with each, and they add its effects.
pub record MayBeRecorded {R B : Type 0} (e : EngineState R B) (disk : Disk) (events : List Event) (group : List (List Effect))
    : Type 0 where
  pub prepared : IsGroupPrepared e disk events group
  pub made : AreMadeBy e.catalog (map record_for events) (full_history e.core) (with_events (full_history e.core) events)
  pub adds : AddsGroup e.catalog.ops (full_history e.core) (with_events (full_history e.core) events) group

-- No file but the journal is touched, and the stores stay.
pub record TouchesJournal {R B : Type 0} (disk : R → Disk) (old new : FilesState R B) : Type 0 where
  pub stores : new.stores ≡ old.stores
  pub others : Told (disk old.rack) → OthersAsBefore 0 (disk old.rack) (disk new.rack)

-- the engine with nothing under way
abbrev pub settled_as : {R B : Type 0} → EngineState R B → EngineState R B
settled_as e = record { core = e.core; catalog = e.catalog; files = e.files; phase = phase.Settled }
