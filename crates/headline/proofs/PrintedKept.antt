-- What was printed at the end is kept.
use Rattle.std.proofs.Common.{◌≡◌, ◌≢◌, ℕ, true, List, Option, Some, None, Ok, inl, inr, refl, subst}
use Rattle.process_flow.specs.declared.source.Source.{Ghosts as Sources}
use Rattle.process_flow.specs.declared.sink.Sink.{Ghosts as Sinks}
use Rattle.process_disk.specs.declared.rack.Rack.{Ghosts as Racks}
use Rattle.process_disk.specs.Disk.{IsHonest, Told}
use Rattle.process_disk.specs.Images.{EachImage}
use Rattle.process_disk.proofs.Images.{still_told}
use Rattle.commute_table.specs.declared.catalog.Catalog.{Catalog}
use Rattle.process_core.specs.Cores.{CoreState}
use Rattle.history_files.specs.Sound.{IsSound}
use Rattle.engine_steps.specs.Engines.{full_history}
use Rattle.engine_steps.specs.declared.engines.Phase.TheVariants.{Settled}
use Rattle.process_engine.specs.declared.gates.Gate.{Ghosts as Gates}
use Rattle.resource_box.specs.declared.resource.Resource.{Ghosts as Resources}
use Rattle.worker_gate.specs.ManyGates.{AskedGates}
use Rattle.command_refusals.specs.declared.status.Status.{Status}
use Rattle.command_refusals.specs.declared.status.Status.TheVariants as statuses
use Rattle.command_input.specs.declared.said.Said.{Said}
use Rattle.program_words.specs.Commands.{asked}
use Rattle.program_words.specs.declared.reading.Command.{Command}
use Rattle.program_words.specs.declared.reading.Command.TheVariants.{Check, Expand, Init, Run, Session, Serve, Restart, Show, Replay, Verify, Audit, Gen, Bulk, Help, Version}
use Rattle.scenario_run.specs.Run.{SaysRun, IsRunDue as IsRunFound}
use Rattle.session_run.specs.Session.{phase_by, IsSessionDue as IsSessionFound}
use Rattle.process_top.specs.Commands.{IsDueTo}
use Rattle.process_top.specs.Replies.{ended}
use Rattle.process_top.specs.Run.{first_gates, gates_asked}
use Rattle.process_top.specs.Worlds.{World}
use Rattle.headline.specs.Headline.{seen}
use Rattle.headline.specs.Printed.{IsSaidOf, PrintedIsKept, prints_at_end}

-- a session that didn't end by a fault of the rack leaves its engine settled
settled : (s : Status) → s ≢ statuses.DiskFault → phase_by s ≡ Settled
settled statuses.Done other = refl
settled statuses.BadWords other = refl
settled statuses.BadInput other = refl
settled statuses.IllFormed other = refl
settled statuses.Limit other = refl
settled statuses.Unfinished other = refl
settled statuses.BadFile other = refl
settled statuses.BookDiffers other = refl
settled statuses.ReadFault other = refl
settled statuses.WriteFault other = refl
settled statuses.DiskFault other = absurd (other refl)
settled statuses.Exhausted other = refl
settled statuses.NotReduced other = refl
settled statuses.NoMemory other = refl

module _ {S K R : Type 0} (before after : World S K R) (known : Told before.files.disk) (said : Said) (well_formed : said.status ≢ statuses.IllFormed) where
  -- what was said is said of this, which is in each image from the end on
  abbrev IsHeldIn : Option Command → Type 0
  IsHeldIn o = (c : Catalog) × (now : CoreState) × IsSaidOf o before.input after.input c now said × EachImage after.files.disk after.files.disk.moment (IsSound c (full_history now))

  run_held : (workers : ℕ) (gates : AskedGates) → IsRunFound gates before.input after.input before.files after.files (Ok said) → IsHeldIn (Some (Run workers))
  run_held workers gates (inl none) = absurd (well_formed none.0.0)
  run_held workers gates (inr (c, plans, read, (h, now, run, says))) = (c, now, says, run.1.each refl known)

  session_held : said.status ≢ statuses.DiskFault → IsSessionFound before.input after.input before.files after.files (Ok said) → IsHeldIn (Some Session)
  session_held other (inl none) = absurd (well_formed none.0)
  session_held other (inr (c, plans, lines, read, is)) = (c, is.now, (is.history, plans, lines, read, is.played), is.kept.each (settled said.status other) known)

  held : said.status ≢ statuses.DiskFault → (o : Option Command) (gates : AskedGates) → prints_at_end o ≡ true → IsDueTo o gates before.input after.input before.files after.files (ended said) → IsHeldIn o
  held other (Some (Run workers)) gates prints due = run_held workers (first_gates workers gates) due
  held other (Some Session) gates prints due = session_held other due
  held other (Some Serve) gates prints due = absurd cc
  held other (Some Restart) gates prints due = absurd cc
  held other (Some Check) gates prints due = absurd cc
  held other (Some Expand) gates prints due = absurd cc
  held other (Some (Init values strict)) gates prints due = absurd cc
  held other (Some Show) gates prints due = absurd cc
  held other (Some Verify) gates prints due = absurd cc
  held other (Some Replay) gates prints due = absurd cc
  held other (Some (Audit history)) gates prints due = absurd cc
  held other (Some (Gen number count)) gates prints due = absurd cc
  held other (Some (Bulk number count)) gates prints due = absurd cc
  held other (Some (Help about)) gates prints due = absurd cc
  held other (Some Version) gates prints due = absurd cc
  held other None gates prints due = absurd cc

module _ {S K R B G : Type 0} (sources : Sources S) (sinks : Sinks K) (racks : Racks R) (resources : Resources B) (workers : Gates G)
    (honest : (rack : R) → Told (racks.disk rack) → IsHonest (racks.disk rack)) where
  pub printed_is_kept : PrintedIsKept sources sinks racks resources workers
  printed_is_kept words before after number refusal said prints answered known is well_formed other =
      let old = seen sources sinks racks resources workers before in
      let new = seen sources sinks racks resources workers after in
      let good = honest after.rack (still_told old.files.disk new.files.disk answered.left.tells known) in
      let due = subst (IsDueTo (asked words) (gates_asked old.gates new.gates) old.input new.input old.files new.files) is answered.due in
      let found = held old new known said well_formed other (asked words) (gates_asked old.gates new.gates) prints due in (
        found.0,
        found.1,
        found.2,
        λ moment late again finds. record {
          reads =
              let files = (seen sources sinks racks resources workers again).files.disk.files in
              found.3.has files (good.earlier new.files.disk.moment moment files late finds.found.image);
          images = λ files left. found.3.has files (good.earlier new.files.disk.moment moment files late (finds.images files left).image);
        },
      )
