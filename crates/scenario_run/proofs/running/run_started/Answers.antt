use Rattle.std.proofs.Common.{◌≡◌, ◌⊎◌, inl, inr, ℕ, refl, subst, sym}
use Rattle.process_flow.specs.Causes.{Rose}
use Rattle.history_files.specs.Standing.{EachFits}
use Rattle.engine_steps.specs.Engines.{EngineState}
use Rattle.engine_steps.specs.declared.engines.Phase.TheVariants.{Settled, Closed}
use Rattle.worker_gate.specs.ManyGates.{RanByGates, asked_gates}
use Rattle.worker_gate.specs.Running.{IsOutcome}
use Rattle.thread_workers.proofs.ByHistory.{ran_by_history}
use Rattle.command_refusals.specs.declared.refusal.Refusal.TheVariants as refusals
use Rattle.scenario_run.specs.Run.{SaysRun}
use Rattle.scenario_run.proofs.SaidOutcomes.{said_err, said_ok}
use Rattle.scenario_run.proofs.running.run_started.Goals as goal

pub returns-clause-ran : goal.returns-clause-ran
returns-clause-ran g c =
    let gates = asked_gates g.G.Gate c.args.gates.items c.run_workers-engine.result.gates.items in
    subst (RanByGates g.R.Rack gates c.args.engine) (sym c.said_of-found.ensures.left)
    (ran_by_history g.R.Rack g.B.Resource gates c.args.engine c.run_workers-engine.result.engine c.run_workers-engine.ensures.history)

pub returns-clause-said : goal.returns-clause-said
returns-clause-said g c =
    let ran = c.run_workers-engine in
    let mid = ran.result.engine in
    let new = c.said_of-found.new.engine in
    let left = sym c.said_of-found.ensures.left in
    said_ok ran.result.outcome (SaysRun mid.catalog mid.core) (λ s. (new.phase ≡ Settled) × SaysRun new.catalog new.core s) c.said_of-found.result
    (λ on s says. (
      subst (λ (e : EngineState g.row.R.Denot g.row.B.Denot). e.phase ≡ Settled) left (ran.ensures.ready on).settled,
      subst (λ (e : EngineState g.row.R.Denot g.row.B.Denot). SaysRun e.catalog e.core s) left says,
    )) c.said_of-found.ensures.said

pub returns-clause-refused : goal.returns-clause-refused
returns-clause-refused g c =
    let ran = c.run_workers-engine in
    let outcome = ran.result.outcome in
    let faults : EngineState g.row.R.Denot g.row.B.Denot → ℕ = λ e. g.R.Rack.faults e.files.rack in
    let left = sym c.said_of-found.ensures.left in
    said_err outcome (SaysRun ran.result.engine.catalog ran.result.engine.core)
    (λ r. ((r ≡ refusals.NoMemory) × (c.said_of-found.new.engine.phase ≡ Settled))
    ⊎ ((r ≡ refusals.DiskFault) × (c.said_of-found.new.engine.phase ≡ Closed) × Rose (faults c.args.engine) (faults c.said_of-found.new.engine)))
    c.said_of-found.result
    (λ on. inl (refl, subst (λ (e : EngineState g.row.R.Denot g.row.B.Denot). e.phase ≡ Settled) left (ran.ensures.ready on).settled))
    (λ fault. inr (
      refl,
      subst (λ (e : EngineState g.row.R.Denot g.row.B.Denot). e.phase ≡ Closed) left (subst (IsOutcome ran.result.engine) fault ran.ensures.outcome),
      subst (λ (e : EngineState g.row.R.Denot g.row.B.Denot). Rose (faults c.args.engine) (faults e)) left (ran.ensures.fault fault),
    )) c.said_of-found.ensures.said

pub returns-clause-fits : goal.returns-clause-fits
returns-clause-fits g c =
    subst (λ (e : EngineState g.row.R.Denot g.row.B.Denot). EachFits g.B.Resource e.files.stores) (sym c.said_of-found.ensures.left) c.run_workers-engine.ensures.fits
