-- What an engine that is shared stands for.
use Rattle.std.specs.Prelude.{⊤, Bool, false, List, []}
use Rattle.std.proofs.Common.{◌≡◌, refl, subst, sym}
use Rattle.process_flow.specs.Causes.{Rose}
use Rattle.process_disk.specs.declared.rack.Rack.{Ghosts as Racks}
use Rattle.process_disk.specs.Disk.{Disk, Told}
use Rattle.process_disk.specs.Images.{EachImage}
use Rattle.process_tree.specs.Order.{Each}
use Rattle.resource_box.specs.declared.resource.Resource.{Ghosts as Resources}
use Rattle.process_core.specs.Cores.{IsCore}
use Rattle.engine_steps.specs.Targets.{targets_of}
use Rattle.history_files.specs.Sound.{IsSound}
use Rattle.history_files.specs.Standing.{EachFits}
use Rattle.engine_steps.specs.Engines.{EngineState, full_history}
use Rattle.engine_steps.specs.declared.engines.Phase.{Phase}
use Rattle.engine_steps.specs.declared.engines.Phase.TheVariants.{Settled, UnderWay, Closed}
use Rattle.process_engine.specs.Queues.{AreQueued}
use Rattle.process_engine.proofs.StillQueued.{none_queued as nothing_queued}
use Rattle.engine_calls.specs.GateAnswers.{IsHandedAs}
use Rattle.engine_calls.specs.Runs.{GoesOnAlone, IsReady}
use Rattle.engine_calls.proofs.Goes.{goes_none}
use Rattle.shared_engine.specs.declared.entries.TurnEntry.{TurnEntry}
use Rattle.shared_engine.specs.declared.shared.SharedEngine.{SharedEngine}
use Rattle.shared_engine.specs.Progress.{AreTold, opened, progress}
use Rattle.shared_engine.specs.Tallies.{IsByEntries, by_none}

-- no piece is half done
abbrev pub IsAtRest : Phase → Type 0
IsAtRest Settled = ⊤
IsAtRest Closed = ⊤
IsAtRest UnderWay = ⊥

-- this holds where the engine is closed
abbrev pub IfClosed : Phase → Type 0 → Type 0
IfClosed Settled P = ⊤
IfClosed UnderWay P = ⊤
IfClosed Closed P = P

-- An engine with which a history of turns may begin: it is settled, its files are sound for what happened, nothing is queued at it,
-- and no flush is due.
pub record IsOpening {R B : Type 0} (disk : R → Disk) (box : Resources B) (o : SharedEngine R B) : Type 0 where
  pub ready : IsReady box o.engine
  pub core : IsCore o.engine.core
  pub each : Told (disk o.engine.files.rack) → EachImage (disk o.engine.files.rack) (disk o.engine.files.rack).moment
      (IsSound o.engine.catalog (full_history o.engine.core))
  pub none : o.queued ≡ []
  pub clear : o.due ≡ false

-- A turn may be made: no piece is half done, each box has the values of its book, and while the engine is open what is queued may
-- take effect.
pub record MayBeCalled {R B : Type 0} (box : Resources B) (x : SharedEngine R B) : Type 0 where
  pub rest : IsAtRest x.engine.phase
  pub fits : EachFits box x.engine.files.stores
  pub queued : x.engine.phase ≡ Settled → AreQueued x.engine x.queued

-- These entries led from an engine, at which nothing was queued, to another: each is the machine's turn at its place, and a flush
-- only where one was due; the engine went on meanwhile, and asked for no start; a turn may be made; it is closed only where a call
-- of the rack failed; what is queued was handed out; and what was kept is by the answers that the entries tell of.
pub record AreOf {R B : Type 0} (racks : Racks R) (box : Resources B) (o : EngineState R B)
    (entries : List TurnEntry) (x : SharedEngine R B) : Type 0 where
  pub told : AreTold (targets_of o.catalog.ops) (opened o) entries (progress x)
  pub goes : GoesOnAlone racks o x.engine
  pub called : MayBeCalled box x
  pub fault : IfClosed x.engine.phase (Rose (racks.faults o.files.rack) (racks.faults x.engine.files.rack))
  pub handed : Each (IsHandedAs x.engine.core) x.queued
  pub by_entries : IsByEntries o.catalog o.core x.engine.core x.queued entries

-- an engine stands for an opening one and these entries, if that may be an opening
abbrev pub StandsFor : {R B : Type 0} → Racks R → Resources B → SharedEngine R B → List TurnEntry
    → SharedEngine R B
    → Type 0
StandsFor racks box o entries x = IsOpening racks.disk box o → AreOf racks box o.engine entries x

-- an engine at which nothing is queued
abbrev none_queued : {R B : Type 0} → EngineState R B → Bool → SharedEngine R B
none_queued e starved = record { engine = e; queued = []; due = false; starved = starved }

alone : {R B : Type 0} (disk : R → Disk) (box : Resources B) (o : SharedEngine R B)
    → IsOpening disk box o → none_queued o.engine o.starved ≡ o
alone disk box o is = λ i. record {
  engine = o.engine;
  queued = (sym is.none) i;
  due = (sym is.clear) i;
  starved = o.starved;
}

-- with no entry it stands for itself
pub opens : {R B : Type 0} (racks : Racks R) (box : Resources B) (o : SharedEngine R B)
    → StandsFor racks box o [] o
opens racks box o is = subst (AreOf racks box o.engine []) (alone racks.disk box o is) (record {
  told = refl;
  goes = λ may_start. goes_none racks may_start o.engine is.core is.each;
  called = record {
    rest = subst IsAtRest (sym is.ready.settled) tt;
    fits = is.ready.fits;
    queued = λ settled. nothing_queued o.engine;
  };
  fault =
      let faults = racks.faults o.engine.files.rack in
      subst (λ p. IfClosed p (Rose faults faults)) (sym is.ready.settled) tt;
  handed = tt;
  by_entries = by_none o.engine.catalog o.engine.core;
})
