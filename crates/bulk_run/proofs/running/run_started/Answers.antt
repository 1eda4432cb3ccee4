use Rattle.std.proofs.Common.{◌≡◌, ◌⊎◌, inl, inr, ℕ, refl, subst, sym}
use Rattle.process_flow.specs.Causes.{Rose}
use Rattle.history_files.specs.Standing.{EachFits}
use Rattle.engine_steps.specs.Engines.{EngineState}
use Rattle.engine_steps.specs.declared.engines.Phase.TheVariants.{Settled, Closed}
use Rattle.worker_gate.specs.Running.{IsOutcome}
use Rattle.command_refusals.specs.declared.refusal.Refusal.TheVariants as refusals
use Rattle.scenario_run.proofs.SaidOutcomes.{said_err, said_ok}
use Rattle.bulk_run.specs.Bulk.{SaysBulk}
use Rattle.bulk_run.proofs.running.run_started.Goals as goal

pub returns-clause-said : goal.returns-clause-said
returns-clause-said g c =
    let mid = c.run_alone-outcome.new.engine in
    let new = c.said_of.new.engine in
    let left = sym c.said_of.ensures.left in
    said_ok c.run_alone-outcome.result (SaysBulk mid.core) (λ s. (new.phase ≡ Settled) × SaysBulk new.core s) c.said_of.result
    (λ on s says. (
      subst (λ (e : EngineState g.row.R.Denot g.row.B.Denot). e.phase ≡ Settled) left (c.run_alone-outcome.ensures.ready on).settled,
      subst (λ (e : EngineState g.row.R.Denot g.row.B.Denot). SaysBulk e.core s) left says,
    )) c.said_of.ensures.said

pub returns-clause-refused : goal.returns-clause-refused
returns-clause-refused g c =
    let ran = c.run_alone-outcome in
    let faults : EngineState g.row.R.Denot g.row.B.Denot → ℕ = λ e. g.R.Rack.faults e.files.rack in
    let left = sym c.said_of.ensures.left in
    said_err ran.result (SaysBulk ran.new.engine.core)
    (λ r. ((r ≡ refusals.NoMemory) × (c.said_of.new.engine.phase ≡ Settled))
    ⊎ ((r ≡ refusals.DiskFault) × (c.said_of.new.engine.phase ≡ Closed) × Rose (faults c.args.engine.now) (faults c.said_of.new.engine)))
    c.said_of.result
    (λ on. inl (refl, subst (λ (e : EngineState g.row.R.Denot g.row.B.Denot). e.phase ≡ Settled) left (ran.ensures.ready on).settled))
    (λ fault. inr (
      refl,
      subst (λ (e : EngineState g.row.R.Denot g.row.B.Denot). e.phase ≡ Closed) left (subst (IsOutcome ran.new.engine) fault ran.ensures.outcome),
      subst (λ (e : EngineState g.row.R.Denot g.row.B.Denot). Rose (faults c.args.engine.now) (faults e)) left (ran.ensures.fault fault),
    )) c.said_of.ensures.said

pub returns-clause-fits : goal.returns-clause-fits
returns-clause-fits g c =
    subst (λ (e : EngineState g.row.R.Denot g.row.B.Denot). EachFits g.B.Resource e.files.stores) (sym c.said_of.ensures.left) c.run_alone-outcome.ensures.fits
