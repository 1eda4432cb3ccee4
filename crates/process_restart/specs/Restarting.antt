-- Files that are restarted: opened on their history, which is then completed.
use Rattle.std.specs.Prelude.{◌≡◌, ◌⊎◌}
use Rattle.process_disk.specs.declared.rack.Rack.{Ghosts as Racks}
use Rattle.process_disk.specs.Racks.{LeavesRack}
use Rattle.process_disk.specs.Disk.{Disk, Told}
use Rattle.process_disk.specs.Images.{EachImage}
use Rattle.resource_box.specs.declared.resource.Resource.{Ghosts as Resources}
use Rattle.schedule_model.specs.declared.history.History.{History}
use Rattle.reduction_trace.specs.Whole.{completed_history}
use Rattle.commute_table.specs.declared.catalog.Catalog.{Catalog}
use Rattle.process_core.specs.Cores.{CoreState, history_of}
use Rattle.history_opening.specs.declared.faults.OpenError.{OpenError}
use Rattle.history_opening.specs.declared.faults.OpenError.TheVariants.{DiskFault, NoMemory}
use Rattle.history_opening.specs.Opening.{IsDueToOpening}
use Rattle.history_files.specs.Boxes.{AreCleared}
use Rattle.engine_steps.specs.Engines.{AreExactly, full_history}
use Rattle.engine_steps.specs.Opening.{LeftByOpening}
use Rattle.engine_steps.specs.declared.engines.Phase.{Phase}
use Rattle.engine_steps.specs.declared.engines.Phase.TheVariants.{Settled, Closed}
use Rattle.engine_calls.specs.GateAnswers.{AskedGate}
use Rattle.engine_calls.specs.Opened.{AreKept}
use Rattle.engine_calls.specs.Runs.{IsReady}
use Rattle.process_restart.specs.Completing.{IsCompleting, IsHeldUpBy, IsNextOfCompletion}
use Rattle.process_restart.specs.declared.restarting.Restarted.{Restarted}
use Rattle.process_restart.specs.declared.restarting.Restarted.TheVariants.{Ended, Exhausted, Refused}

-- A restart on files of this history, up to now. Unless a call of the rack failed, the books are exactly the effects of the history
-- now.
pub record IsRestart (gate : AskedGate) (c : Catalog) (h : History) (now : CoreState) (on : Phase) (old new : Disk) : Type 0 where
  pub completing : IsCompleting gate c h now
  pub kept : AreKept c h now (IsNextOfCompletion c h now on) on old new
  pub read : on ≡ Settled → Told old → AreExactly c (full_history now) new.files
  pub each : on ≡ Settled → Told old → EachImage new new.moment (AreExactly c (full_history now))

-- The files were not opened: this is the first file or book at fault, and nothing was written, as all are read before; or the rack
-- failed; or memory was wanting. No gate was asked.
pub record IsNotOpened (gate : AskedGate) (e : OpenError) (old new : Disk) : Type 0 where
  pub due : Told old → IsDueToOpening old.files e
  pub left : Told old → LeftByOpening e old new
  pub unasked : gate.after ≡ gate.before

-- why a restart was cut off, and what its engine was left in: memory was wanting, or a call of the rack failed
abbrev pub IsCutOffBy : OpenError → Phase → Type 0
IsCutOffBy e on = ((e ≡ NoMemory) × (on ≡ Settled)) ⊎ ((e ≡ DiskFault) × (on ≡ Closed))

-- What a restart came to: the history is completed; or the process whose turn it is is exhausted; or the files were not opened, or
-- it was cut off.
abbrev pub IsRestartedAs : {R B : Type 0} → (R → Disk) → AskedGate → R → Restarted R B → Type 0
IsRestartedAs disk gate entry (Ended e) =
    (h : History) × IsRestart gate e.catalog h e.core Settled (disk entry) (disk e.files.rack)
    × (history_of e.core ≡ completed_history h)
IsRestartedAs disk gate entry (Exhausted e process step) =
    (h : History) × IsRestart gate e.catalog h e.core Settled (disk entry) (disk e.files.rack) × IsHeldUpBy e.core process step
IsRestartedAs disk gate entry (Refused parts why) = IsNotOpened gate why (disk entry) (disk parts.rack)
    ⊎ ((c : Catalog) × (h : History) × (now : CoreState) × (on : Phase) × IsCutOffBy why on
    × IsRestart gate c h now on (disk entry) (disk parts.rack))

-- What a restart hands back: an engine that may be called; or the boxes empty, and where a call of the rack failed its count of
-- faults rose.
abbrev pub HandsBackParts : {R B : Type 0} → Racks R → Resources B → R → Restarted R B → Type 0
HandsBackParts racks box entry (Ended e) = LeavesRack racks entry e.files.rack ⊥ × IsReady box e
HandsBackParts racks box entry (Exhausted e process step) = LeavesRack racks entry e.files.rack ⊥ × IsReady box e
HandsBackParts racks box entry (Refused parts why) =
    LeavesRack racks entry parts.rack (why ≡ DiskFault) × AreCleared box parts.resources.items
