use Rattle.std.proofs.Common.{◌≡◌, ◌∙◌, [], inl, inr, ⊎_elim, subst, map}
use Rattle.engine_steps.specs.declared.engines.Phase.TheVariants.{Settled}
use Rattle.engine_steps.specs.Engines.{full_history}
use Rattle.engine_calls.specs.GateAnswers.{counts_of}
use Rattle.engine_calls.proofs.Goes.{goes_none, goes_then}
use Rattle.worker_gate.specs.ManyGates.{asked_gates}
use Rattle.scenario_run.specs.Run.{HasGone, SaysRun}
use Rattle.scenario_run.proofs.Causes.{so_ok}
use Rattle.scenario_run.proofs.Gone.{gone_run, gone_started}
use Rattle.scenario_run.proofs.Stopped.{all_started}
use Rattle.scenario_run.proofs.running.run_on.Goals as goal

pub returns-in-Err-clause-goes : goal.returns-in-Err-clause-goes
returns-in-Err-clause-goes g c =
    goes_none g.R.Rack c.args.plans.items c.args.engine c.invariant_holds.ensures.run (c.invariant_holds.ensures.each c.requires.opened.phase)

pub returns-in-Err-start_all-clause-refused : goal.returns-in-Err-start_all-clause-refused
returns-in-Err-start_all-clause-refused g c =
    let cut = c.in-Err-start_all.ensures.cut_off in
    inr (
      cut.0,
      cut.1,
      cut.2,
      gone_started c.args.engine c.requires.opened c.requires.idle cut.0 g.G.Gate.answers (map (counts_of g.G.Gate) c.args.gates.items) c.start_all.new.engine.core c.invariant_holds-in-Err-start_all.ensures.run cut.3,
      ⊎_elim (λ memory. inl (memory.0, memory.1.settled)) (λ fault. inr fault) c.in-Err-start_all.ensures.why,
    )

pub returns-clause-goes : goal.returns-clause-goes
returns-clause-goes g c =
    goes_then g.R.Rack c.args.plans.items c.args.engine c.start_all.new.engine c.run_started-ran.result.engine c.in_default-start_all.ensures.ready.settled c.invariant_holds-2.ensures.run.session.one_each
    (c.racks_are_honest.ensures c.run_started-ran.result.engine.files.rack) c.start_all.ensures.goes (c.run_started-ran.ensures.ran.goes c.args.plans.items)

pub returns-clause-ran : goal.returns-clause-ran
returns-clause-ran g c =
    let old = c.args.engine in
    let mid = c.start_all.new.engine in
    let now = c.run_started-ran.result.engine in
    let ran = c.run_started-ran.ensures.ran in
    let first = c.start_all.ensures.goes in
    let gates = asked_gates g.G.Gate c.args.gates.items c.run_started-ran.result.gates.items in
    let gone = gone_run old c.requires.opened c.requires.idle c.args.plans.items g.R.Rack gates mid now c.invariant_holds-3.ensures.run first.catalog c.in_default-start_all.ensures.started ran in
    so_ok c.run_started-ran.result.found (λ s. (now.phase ≡ Settled) × SaysRun now.catalog now.core s)
    (λ s. HasGone gates old.catalog (full_history old.core) c.args.plans.items now.core × (now.phase ≡ Settled) × SaysRun old.catalog now.core s)
    (λ s said. (gone, said.0, subst (λ d. SaysRun d now.core s) ((ran.goes []).catalog ∙ first.catalog) said.1)) c.run_started-ran.ensures.said

pub returns-clause-refused : goal.returns-clause-refused
returns-clause-refused g c =
    let old = c.args.engine in
    let mid = c.start_all.new.engine in
    let now = c.run_started-ran.result.engine in
    let first = c.start_all.ensures.goes in
    let gates = asked_gates g.G.Gate c.args.gates.items c.run_started-ran.result.gates.items in
    let gone = gone_run old c.requires.opened c.requires.idle c.args.plans.items g.R.Rack gates mid now c.invariant_holds-3.ensures.run first.catalog c.in_default-start_all.ensures.started c.run_started-ran.ensures.ran in
    all_started g.R.Rack.faults gates old mid now c.args.plans.items first.later (HasGone gates old.catalog (full_history old.core)) gone c.run_started-ran.result.found c.run_started-ran.ensures.refused
