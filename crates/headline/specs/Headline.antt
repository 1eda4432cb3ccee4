-- The sentence that this crate is named for:
--
--     However admissions, outcomes and aborts interleave and wherever a stop falls in a device write, restart reads a prefix of the
--     history that holds every acknowledged activity, ends each started process on one whole path or with nothing left, makes the
--     subsystems' books exactly the completed schedule of that prefix, and prints steps that swap nonconflicting neighbours and
--     cancel adjacent compensated pairs until that schedule is serial.
--
-- What its parts are in the definitions:
--
-- - 'However .. interleave': the call that stops is one of `run`, `session`, `serve` or `restart`, on any words, over any source,
--   sink, rack, boxes and gates. The machine came to where it is by what its gate answered or its lines said, whatever that was
--   (`CameBy`).
-- - 'Wherever a stop falls': a moment of the call, between two device calls or within one, and any files that the device may have
--   kept since then (`WereLeft`). The next call finds such files, and nobody else wrote them (`FindsLeft`). Where the power was cut,
--   they are all that is there. Where the program alone was killed, what it had written and not synced is still to be read, and a
--   crash later on may leave less of it.
-- - 'A prefix of the history': the first events of the machine's history, or of that with what was under way, one event or those of
--   one group, with the plans of the processes that start in them (`IsBeginningOf`).
-- - 'Every acknowledged activity': each group of events of the call, one event by itself or several that took effect together,
--   stands beside the moment from which on every image holds all of it. All with a moment no later than the stop are there, and so
--   is all that was there at entry (`HoldsAcknowledged`).
-- - 'One whole path or nothing left', 'books exactly', 'prints steps .. until serial': the fields of `IsCompleted`. A process has
--   ended with the steps of one whole path as its net, or with none; each book is the effects of the completed history, and each
--   box has its values; the report has these steps, which apply one after another to the completed schedule, and the list that they
--   come to is serial.
--
-- Beside the sentence, where the catalog names each conflict in value: the books show what this list makes of empty books, one
-- process after another. And its order is one of real time.
--
-- Where a process uses up its tries, memory is wanting or a device fails, what `restart` read is still such a prefix
-- (`IsRecovered`).
use Rattle.std.specs.Prelude.{◌≡◌, ◌≢◌, ◌⊎◌, ◌≤◌, ℕ, Bool, true, false, List, [], ◌∷◌, ◌++◌, Option, Some, IsTrue, nat_le}
use Rattle.std.proofs.Common.{inl, inr}
use Rattle.std.specs.Io.KnownBytes.{Appends}
use Rattle.process_flow.specs.Causes.{Rose}
use Rattle.process_flow.specs.declared.source.Source.{Ghosts as Sources}
use Rattle.process_flow.specs.declared.sink.Sink.{Ghosts as Sinks}
use Rattle.process_disk.specs.declared.rack.Rack.{Ghosts as Racks}
use Rattle.process_disk.specs.Disk.{Disk, FileSet, Only, Told}
use Rattle.process_disk.specs.Images.{AllAsBefore, EachImage}
use Rattle.process_tree.specs.declared.entry.Entry.{Entry}
use Rattle.process_tree.specs.declared.plan.Plan.{Plan}
use Rattle.process_tree.specs.Conflicts.{do_conflict}
use Rattle.process_tree.specs.Order.{Each}
use Rattle.schedule_model.specs.declared.event.Event.{Event}
use Rattle.schedule_model.specs.declared.event.Event.TheVariants.{Start, End}
use Rattle.schedule_model.specs.declared.history.History.{History}
use Rattle.schedule_model.specs.declared.trace_step.TraceStep.{TraceStep}
use Rattle.schedule_model.specs.Course.{courses_of}
use Rattle.schedule_model.specs.Histories.{acts, active}
use Rattle.schedule_model.specs.Laws.{AllAtEnds}
use Rattle.schedule_model.specs.Reduction.{AreReduced, applied_all, is_serial}
use Rattle.reduction_trace.specs.Whole.{completed_history}
use Rattle.commute_table.specs.declared.catalog.Catalog.{Catalog}
use Rattle.value_conflict.specs.ValueConflict.{IsValueSound}
use Rattle.value_rules.specs.HistoryValues.{KeepsValues, StandsBefore}
use Rattle.machine_model.specs.Laws.{next_in_restart}
use Rattle.machine_model.specs.State.{is_exhausted}
use Rattle.process_core.specs.Cores.{CoreState, IsCore, courses_in, history_of, moment_of, opened_on}
use Rattle.process_journal.specs.Laws.{IsSameHistory, beginning}
use Rattle.history_files.specs.Images.{IsWithin}
use Rattle.history_files.specs.Sound.{IsSound}
use Rattle.engine_steps.specs.Engines.{AreExactly, full_history}
use Rattle.process_engine.specs.declared.gates.Gate.{Ghosts as Gates}
use Rattle.resource_box.specs.declared.resource.Resource.{Ghosts as Resources}
use Rattle.process_report.specs.Report.{report_of, report_text}
use Rattle.command_refusals.specs.declared.refusal.Refusal.{Refusal}
use Rattle.command_refusals.specs.declared.status.Status.{Status}
use Rattle.command_refusals.specs.declared.status.Status.TheVariants.{Done, BadWords, BadInput, IllFormed, Limit, Unfinished}
use Rattle.command_refusals.specs.declared.status.Status.TheVariants.{BadFile}
use Rattle.command_refusals.specs.declared.status.Status.TheVariants.{BookDiffers, ReadFault, WriteFault, DiskFault, Exhausted}
use Rattle.command_refusals.specs.declared.status.Status.TheVariants.{NoMemory}
use Rattle.command_refusals.specs.Statuses.{IsOneOf, number_of}
use Rattle.program_words.specs.Commands.{asked}
use Rattle.program_words.specs.declared.reading.Command.{Command}
use Rattle.program_words.specs.declared.reading.Command.TheVariants.{Run, Session, Serve, Restart}
use Rattle.command_input.specs.Inputs.{Input}
use Rattle.scenario_run.specs.Reports.{exhausted_line}
use Rattle.engine_calls.specs.GateAnswers.{AskedGate}
use Rattle.worker_gate.specs.ManyGates.{AskedGates}
use Rattle.scenario_run.specs.Scenario.{IsScenarioRead}
use Rattle.session_run.specs.Playthrough.{HasPlayed}
use Rattle.session_run.specs.Session.{IsSessionRead}
use Rattle.session_text.specs.declared.line.Line.{Line}
use Rattle.serve_run.specs.Dialogue.{Dialogue, IsAskedBy}
use Rattle.serve_run.specs.Serve.{IsServeRead, IsSpoken}
use Rattle.process_top.specs.Run.{first_gate, first_gates, gates_asked}
use Rattle.process_top.specs.Worlds.{BoxState, World, world}
use Rattle.process_top.specs.Values.{BooksHave}
use Rattle.engine_calls.specs.Acknowledged.{ComeInTurn, IsUnderWay, acknowledged, events_of}
use Rattle.engine_calls.specs.Opened.{FromOpening}
use Rattle.scenario_run.specs.Run.{HasGone}
use Rattle.process_restart.specs.Completing.{IsCompleting, IsHeldUpBy, IsNextHistory, restart_causes, with_completion}
use Rattle.history_files.specs.Effects.{effects}
use Rattle.restart_run.specs.Boxes.{HaveValues}
use Rattle.process_top.specs.Commands.{Answers, IsQuiet}

-- The call that stops.

-- the command opens an engine and goes on with it
abbrev pub goes_on : Option Command → Bool
goes_on (Some (Run workers)) = true
goes_on (Some Session) = true
goes_on (Some Serve) = true
goes_on (Some Restart) = true
goes_on o = false

-- The machine that opened on this history came to this one as the command says: by processes of the scenario, which started in its
-- order, and what the gates answer; by lines of the session; by lines of a driver, once whoever was active had begun to complete;
-- or by what completes the history.
abbrev pub CameBy : Option Command → AskedGates → Input → Input → Catalog → History → CoreState → Type 0
CameBy (Some (Run workers)) gates before after c h now =
    (plans started rest : List Plan) × IsScenarioRead before after c plans × (plans ≡ started ++ rest)
    × HasGone (first_gates workers gates) c h started now
CameBy (Some Session) gates before after c h now =
    (plans : List Plan) × (lines : List Line) × (text : List ℕ) × (status : Status)
    × IsSessionRead before after c plans lines × (active h.events ≡ [])
    × HasPlayed c plans (opened_on c.conflicts h.plans h.events) now lines text status
CameBy (Some Serve) gates before after c h now =
    (plans : List Plan) × (first : ℕ) × (taken : List ℕ) × (d : Dialogue) × (status : Status)
    × IsServeRead before after c plans first taken × IsSpoken c plans h first now taken after.left d status
CameBy (Some Restart) gates before after c h now = IsCompleting (first_gate gates) c h now
CameBy o gates before after c h now = ⊥

-- The history of the machine with what may have been under way: the event of a piece that is out, those of several, a start of the
-- scenario's, or the next event of the completion. In a dialogue a start is under way only where the line that was taken last, and
-- whose answer was not given, asks for one: by the name of a process of the scenario, or as it spells it out.
abbrev pub IsAhead : Option Command → Input → Input → Catalog → History → CoreState → History → Type 0
IsAhead (Some (Run workers)) before after c h now k =
    (plans : List Plan) × IsScenarioRead before after c plans × IsUnderWay plans now k
IsAhead (Some Session) before after c h now k =
    (plans : List Plan) × (lines : List Line) × IsSessionRead before after c plans lines × IsUnderWay plans now k
IsAhead (Some Serve) before after c h now k =
    (plans : List Plan) × (first : ℕ) × (taken : List ℕ) × (d : Dialogue) × (status : Status)
    × IsServeRead before after c plans first taken × IsSpoken c plans h first now taken after.left d status
    × (asked : List Plan) × Each (IsAskedBy c plans d.unanswered) asked × IsUnderWay asked now k
IsAhead (Some Restart) before after c h now k = IsNextHistory h now k
IsAhead o before after c h now k = ⊥

-- Nothing came, the machine stands where it opened, and all nine files are as before.
pub record IsLeftAlone (h : History) (now : CoreState) (came : List (ℕ × List Event)) (old new : Disk) : Type 0 where
  pub nothing : came ≡ []
  pub still : full_history now ≡ h
  pub as_before : AllAsBefore old new

-- Since the files were opened, what came is acknowledged group by group, and kept from then on. An image may be ahead of it by what
-- was under way.
abbrev pub IsKeptInTurn : {S K R : Type 0} → Option Command → Catalog → History → World S K R → World S K R → History → CoreState
    → List (ℕ × List Event) → Type 0
IsKeptInTurn o c h before after opened now came =
    FromOpening (λ t. ComeInTurn c (full_history now)
    (λ files. (k : History) × IsAhead o before.input after.input c opened now k × IsSound c k files)
    after.files.disk h.events t came)
    before.files.disk after.files.disk

-- A call on files that read as those of this history, from one world to another: the machine opened on the history, wherever its
-- plans lie, and went on to where it is now. What came was kept in turn; or the files were left alone.
pub record WentOn {S K R : Type 0} (o : Option Command) (c : Catalog) (h : History) (before after : World S K R) (now : CoreState)
    (came : List (ℕ × List Event)) : Type 0 where
  pub opened : History
  pub same : IsSameHistory h opened
  pub machine : IsCore now
  pub begins : opened ≡ beginning (full_history now) opened.events
  pub by : (now ≡ opened_on c.conflicts opened.plans opened.events)
      ⊎ CameBy o (gates_asked before.gates after.gates) before.input after.input c opened now
  pub events : history_of now ≡ h.events ++ events_of came
  pub kept : IsLeftAlone h now came before.files.disk after.files.disk ⊎ IsKeptInTurn o c h before after opened now came

-- the files had been opened by this moment: from then on a crash leaves what was read of them
abbrev pub was_opened_by : {Alone : Type 0} {holds : ℕ → Type 0} {old new : Disk} → ℕ → Alone ⊎ FromOpening holds old new → Bool
was_opened_by moment (inl alone) = false
was_opened_by moment (inr opening) = nat_le opening.moment moment

-- the statuses of what is refused beforehand: of words, of an input, and of files that can't be gone on with
abbrev pub is_refused_beforehand : Status → Bool
is_refused_beforehand BadWords = true
is_refused_beforehand BadInput = true
is_refused_beforehand IllFormed = true
is_refused_beforehand Limit = true
is_refused_beforehand Unfinished = true
is_refused_beforehand BadFile = true
is_refused_beforehand BookDiffers = true
is_refused_beforehand ReadFault = true
is_refused_beforehand status = false

-- the source failed a call of a dialogue
abbrev pub FailsInDialogue : Option Command → Status → Type 0
FailsInDialogue o status = (o ≡ Some Serve) × (status ≡ ReadFault)

-- the rack failed a call and the status says so, or the sink failed beside it and the status is that of the sink
abbrev pub IsRackFault : {S K R : Type 0} → Status → World S K R → World S K R → Type 0
IsRackFault status before after = (status ≡ DiskFault) ⊎ ((status ≡ WriteFault) × Rose before.files.faults after.files.faults)

-- What a call finds, and what it leaves.

-- The rack tells its bytes, which read as those of this history under this catalog.
pub record ReadsAs (c : Catalog) (h : History) (disk : Disk) : Type 0 where
  pub told : Told disk
  pub reads : IsSound c h disk.files

-- The rack tells its bytes. The files were created for this catalog and are sound for this history, and so is whatever a crash at
-- once would leave: as where nothing is unsynced, and where the last call kept them.
pub record IsAtEntry (c : Catalog) (h : History) (disk : Disk) : Type 0 where
  pub told : Told disk
  pub created : IsSound c h disk.files
  pub images : (files : FileSet) → disk.may_leave files → IsSound c h files

-- What a call that ended leaves, of which this came.
pub record LeavesFiles {S K R : Type 0} (o : Option Command) (c : Catalog) (h : History) (before after : World S K R) (number : ℕ)
    (now : CoreState) (came : List (ℕ × List Event)) : Type 0 where
  pub status : Status
  pub numbered : number ≡ number_of status
  -- what was refused beforehand did nothing; but in a dialogue the source may fail at any line
  pub nothing : is_refused_beforehand status ≡ true → ¬ FailsInDialogue o status → came ≡ []
  -- by the end all that came is acknowledged
  pub all : acknowledged after.files.disk.moment came ≡ events_of came
  -- unless the rack failed, or the files were left alone, they are sound for the history that the machine has come to, and so is
  -- whatever a crash leaves of them from now on
  pub kept : ¬ IsRackFault status before after → IsLeftAlone h now came before.files.disk after.files.disk
      ⊎ EachImage after.files.disk after.files.disk.moment (IsSound c (full_history now))

-- What a call leaves of files that were sound for its history at entry, as was whatever a crash would have left.
pub record LeavesSound {S K R : Type 0} (o : Option Command) (c : Catalog) (h : History) (before after : World S K R)
    (status : Status) (opened : History) (now : CoreState) (came : List (ℕ × List Event)) : Type 0 where
  -- what came was kept in turn
  pub in_turn : IsKeptInTurn o c h before after opened now came
  -- unless the rack failed, the files are sound for the history that the machine has come to, and so is whatever a crash leaves of
  -- them from now on: the next call finds them so
  pub kept : ¬ IsRackFault status before after → EachImage after.files.disk after.files.disk.moment (IsSound c (full_history now))
  pub next : ¬ IsRackFault status before after → IsAtEntry c (full_history now) after.files.disk

-- The stop, and the call after it.

-- These files were left by a stop at some moment of a call, or later in it.
pub record WereLeft {S K R : Type 0} (before after : World S K R) (moment : ℕ) (left : FileSet) : Type 0 where
  pub begun : before.files.disk.moment ≤ moment
  pub image : after.files.disk.left_since moment left

-- A call finds what was left, and nobody else wrote it: the rack tells its bytes, they read as files that may have been left, and so
-- does whatever a crash at once would leave. After a cut of the power that is what reads; where the program alone was killed, what
-- it had not synced may be lost later on.
pub record FindsLeft (Left : FileSet → Type 0) (disk : Disk) : Type 0 where
  pub told : Told disk
  pub found : Left disk.files
  pub images : (files : FileSet) → disk.may_leave files → Left files

-- The rack tells its bytes and nothing is unsynced, so that a crash at once would leave the files as they read.
pub record IsKnown (disk : Disk) : Type 0 where
  pub told : Told disk
  pub synced : Only disk.files disk.may_leave

-- The command `restart` was called on files that were left.
pub record IsRestartOn {S K R : Type 0} (Left : FileSet → Type 0) (words : List (List ℕ)) (again last : World S K R)
    (number : ℕ) : Type 0 where
  pub asks : asked words ≡ Some Restart
  pub finds : FindsLeft Left again.files.disk
  pub refusal : Option Refusal
  pub answered : Answers words again last number refusal

-- No step of a completion and no undo of it is refused by this gate, or barred by the values, as often as its tries: in no restart
-- on this history, as far as it may go, is the process whose turn it is exhausted.
abbrev pub NothingIsExhausted : AskedGate → Catalog → History → Type 0
NothingIsExhausted gate c h =
    (now : CoreState) (i : ℕ) → IsCompleting gate c h now → next_in_restart (courses_in now) (moment_of now) ≡ Some i
    → is_exhausted (courses_in now) (moment_of now) i ≡ false

-- The conclusion.

-- a history is a beginning of that of the machine, or of that with what was under way, wherever its plans lie
abbrev pub IsBeginningOf : (History → Type 0) → CoreState → History → Type 0
IsBeginningOf MayBeAhead now read =
    (k : History) × ((k ≡ full_history now) ⊎ MayBeAhead k) × (rest : List Event) × (k.events ≡ read.events ++ rest)
    × IsSameHistory (beginning k read.events) read

-- it holds what was there at first, and every event that was acknowledged by a moment
abbrev pub HoldsAcknowledged : History → List (ℕ × List Event) → ℕ → History → Type 0
HoldsAcknowledged h came moment read = (rest : List Event) × (read.events ≡ h.events ++ acknowledged moment came ++ rest)

-- A history of files that a stop left at a moment: where the files had not been opened by then, one of those that might have been
-- left before; or else a beginning, which holds every acknowledged event.
abbrev pub MayLeave : (History → Type 0) → (History → Type 0) → History → CoreState → List (ℕ × List Event) → ℕ → Bool → History
    → Type 0
MayLeave MayBe MayBeAhead h now came moment opened k =
    ((opened ≡ false) × MayBe k) ⊎ (IsBeginningOf MayBeAhead now k × HoldsAcknowledged h came moment k)

-- So it is of a call that went on so.
abbrev pub MayBeLeft : {S K R : Type 0} (o : Option Command) (c : Catalog) (h : History) (before after : World S K R)
    (now : CoreState) (came : List (ℕ × List Event)) → WentOn o c h before after now came → (History → Type 0) → ℕ → History → Type 0
MayBeLeft o c h before after now came went MayBe moment =
    MayLeave MayBe (IsAhead o before.input after.input c went.opened now) h now came moment (was_opened_by moment went.kept)

-- What `restart` reads of files that a stop left, whatever becomes of it: of a history of which this may be ahead, this is read.
pub record IsRecovered {S K R : Type 0} (c : Catalog) (h : History) (MayBeAhead : History → Type 0) (now : CoreState)
    (came : List (ℕ × List Event)) (moment : ℕ) (read : History)
    (words : List (List ℕ)) (again last : World S K R) (number : ℕ) : Type 0 where
  pub reads : IsSound c read again.files.disk.files
  -- it is a beginning of the history, and holds every acknowledged event
  pub begins : IsBeginningOf MayBeAhead now read
  pub holds : HoldsAcknowledged h came moment read
  -- a stop of the restart itself, at whatever moment, leaves a history on the way to the same completed one, or what a crash might
  -- have left before it
  pub images : EachImage last.files.disk again.files.disk.moment
      (λ files. again.files.disk.may_leave files ⊎ IsWithin c read.events (with_completion read) files)
  -- it ends with one of these statuses, and well where nothing goes wrong
  pub status : Status
  pub numbered : number ≡ number_of status
  pub one_of : IsOneOf status (Done ∷ WriteFault ∷ DiskFault ∷ Exhausted ∷ NoMemory ∷ [])
  pub well : NothingIsExhausted (first_gate (gates_asked again.gates last.gates)) c read → number ≢ number_of NoMemory
      → IsQuiet (asked words) again last → status ≡ Done

-- What `restart` makes of the history that it read, and what it prints of it.
pub record IsCompleted {S K R : Type 0} (c : Catalog) (read : History) (again last : World S K R) : Type 0 where
  -- each process that started has done one whole path, or nothing of it is left; and nobody is active
  pub ended : AllAtEnds (courses_of read.plans) (completed_history read)
  pub nobody : active (completed_history read) ≡ []
  -- the journal is that of the completed history, and the books are exactly its schedule, now and in each image from now on
  pub books : AreExactly c (with_completion read) last.files.disk.files
  pub kept : EachImage last.files.disk last.files.disk.moment (AreExactly c (with_completion read))
  -- each box has the values of its book
  pub boxes : HaveValues (λ (b : BoxState). b.values) (λ q. effects c.ops (with_completion read) q) last.boxes
  -- the report of the completed history is printed, which has these steps and this list
  pub steps : List TraceStep
  pub list : List Entry
  pub printed : Appends again.output.taken last.output.taken
      (report_of c (with_completion read) (restart_causes read) [] (record { steps = steps; list = list }))
  -- the steps apply in turn to the completed schedule, each being swaps of neighbours that don't conflict or the removal of a step
  -- and its undo behind it, and lead to the list
  pub applies : applied_all (do_conflict c.conflicts) steps (acts (completed_history read)) ≡ Some list
  pub reduced : AreReduced (do_conflict c.conflicts) (acts (completed_history read)) list
  -- which is serial
  pub serial : IsTrue (is_serial list)
  -- where the catalog names each conflict in value: executed on empty books, the list leaves what the completed history leaves; each of
  -- its steps, unless it adds or takes, finds what it found there; and where nothing was barred there, and no take has a negative
  -- amount, nothing is barred in it
  pub keeps : IsValueSound c → KeepsValues c.ops read.plans (acts (completed_history read)) list
  -- so the books have the values that it leaves
  pub values : IsValueSound c → BooksHave c read list last.files.disk.files
  -- who ended before another started stands before it in the list
  pub order : (front between rest : List Event) (i k : ℕ) → read.events ≡ front ++ End i ∷ between ++ Start k ∷ rest
      → StandsBefore i k list

-- The sentence: what `restart` makes of files that a stop left at a moment of a call, where nothing goes wrong.
pub record IsRestored {S K R : Type 0} (c : Catalog) (h : History) (MayBeAhead : History → Type 0) (now : CoreState)
    (came : List (ℕ × List Event)) (moment : ℕ) (again last : World S K R) : Type 0 where
  -- it reads a beginning of the history
  pub read : History
  pub reads : IsSound c read again.files.disk.files
  pub begins : IsBeginningOf MayBeAhead now read
  -- that holds every acknowledged event
  pub holds : HoldsAcknowledged h came moment read
  -- ends each process on one whole path or with nothing left, makes the books exactly the completed schedule, and prints the steps
  -- that lead to a serial list
  pub completed : IsCompleted c read again last

-- What `restart` leaves where a process is exhausted: the history is on the way to the completed one, the books are exactly its
-- schedule, and the report of it is printed with a line that names the process whose turn it is.
pub record IsHeldUp {S K R : Type 0} (c : Catalog) (read : History) (again last : World S K R) : Type 0 where
  pub now : CoreState
  pub completing : IsCompleting (first_gate (gates_asked again.gates last.gates)) c read now
  pub process : ℕ
  pub step : ℕ
  pub exhausted : IsHeldUpBy now process step
  pub books : AreExactly c (full_history now) last.files.disk.files
  pub kept : EachImage last.files.disk last.files.disk.moment (AreExactly c (full_history now))
  pub printed : Appends again.output.taken last.output.taken
      (report_text c (full_history now) (restart_causes read) ++ exhausted_line now process)

-- The laws, over sources, sinks, racks, boxes and gates of any types.

-- what a call finds, or leaves
pub record Outside (S K R B G : Type 0) : Type 0 where
  pub source : S
  pub sink : K
  pub rack : R
  pub boxes : List B
  pub gates : List G

module _ {S K R B G : Type 0} (sources : Sources S) (sinks : Sinks K) (racks : Racks R) (resources : Resources B)
    (workers : Gates G) where
  abbrev pub seen : Outside S K R B G → World S K R
  seen x = world sources sinks racks resources workers x.source x.sink x.rack x.boxes x.gates

  -- What is said of a restart, of a stopped call that went on so, and of the files that it left.
  abbrev pub OfEachRestart : List (List ℕ) → Catalog → History → Outside S K R B G → Outside S K R B G → CoreState
      → List (ℕ × List Event) → History → Type 0
  OfEachRestart words c h before after now came opened =
      (moment : ℕ) (words' : List (List ℕ)) (again last : Outside S K R B G) (number : ℕ)
      → IsRestartOn (WereLeft (seen before) (seen after) moment) words' (seen again) (seen last) number
      → (read : History)
      × IsRecovered c h (IsAhead (asked words) (seen before).input (seen after).input c opened now) now came moment read words'
      (seen again) (seen last) number
      × (asked words ≡ Some Restart → completed_history read ≡ completed_history h)
      × (number ≡ number_of Done → IsCompleted c read (seen again) (seen last))
      × (number ≡ number_of Exhausted → IsHeldUp c read (seen again) (seen last))

  -- Whatever a call of `run`, of `session`, of `serve` or of `restart` did, and wherever a stop falls in it: what it left is
  -- restored. And where it ends, the next call finds the files of its history.
  abbrev pub StopsAreRestored : Type 0
  StopsAreRestored =
      (words : List (List ℕ)) (before after : Outside S K R B G) (number : ℕ) (refusal : Option Refusal) (c : Catalog) (h : History)
      → goes_on (asked words) ≡ true → Answers words (seen before) (seen after) number refusal → IsAtEntry c h (seen before).files.disk
      → (now : CoreState) × (came : List (ℕ × List Event)) × (went : WentOn (asked words) c h (seen before) (seen after) now came)
      × (leaves : LeavesFiles (asked words) c h (seen before) (seen after) number now came)
      × LeavesSound (asked words) c h (seen before) (seen after) leaves.status went.opened now came
      × OfEachRestart words c h before after now came went.opened

  -- The premises on a stop and on the restart after it.
  pub record Premises (before after : Outside S K R B G) (c : Catalog) (moment : ℕ) (words : List (List ℕ))
      (again last : Outside S K R B G) (number : ℕ) : Type 0 where
    -- nobody but the stopped call wrote the files that `restart` finds
    pub restarted : IsRestartOn (WereLeft (seen before) (seen after) moment) words (seen again) (seen last) number
    -- no retriable and no undo is refused or barred as often as its tries
    pub willing : (read : History) → IsSound c read (seen again).files.disk.files
        → NothingIsExhausted (first_gate (gates_asked (seen again).gates (seen last).gates)) c read
    -- memory is found
    pub memory : number ≢ number_of NoMemory
    -- no device fails during the restart, and the sink takes the text
    pub quiet : IsQuiet (asked words) (seen again) (seen last)

  -- The headline.
  abbrev pub Headline : Type 0
  Headline =
      (words : List (List ℕ)) (before after : Outside S K R B G) (number : ℕ) (refusal : Option Refusal) (c : Catalog) (h : History)
      → goes_on (asked words) ≡ true → Answers words (seen before) (seen after) number refusal → IsAtEntry c h (seen before).files.disk
      → (now : CoreState) × (came : List (ℕ × List Event)) × (went : WentOn (asked words) c h (seen before) (seen after) now came)
      × ((moment : ℕ) (words' : List (List ℕ)) (again last : Outside S K R B G) (number' : ℕ)
      → Premises before after c moment words' again last number'
      → (number' ≡ number_of Done)
      × IsRestored c h (IsAhead (asked words) (seen before).input (seen after).input c went.opened now) now came moment
      (seen again) (seen last))
