use Rattle.std.proofs.Common.{◌≡◌, inl, inr, ⊎_elim}
use Rattle.engine_steps.specs.declared.engines.Phase.TheVariants.{Settled}
use Rattle.engine_steps.specs.Engines.{full_history}
use Rattle.engine_calls.specs.GateAnswers.{asked, counts_of}
use Rattle.engine_calls.proofs.Goes.{goes_none, goes_then}
use Rattle.scenario_run.specs.Run.{one_gate}
use Rattle.scenario_run.proofs.Causes.{so_ok}
use Rattle.scenario_run.proofs.IdleStarts.{nothing_out}
use Rattle.scenario_run.proofs.Stopped.{all_started}
use Rattle.bulk_run.specs.Bulk.{HasGoneAlone, SaysBulk}
use Rattle.bulk_run.proofs.GoneAlone.{run_alone, started_alone}
use Rattle.bulk_run.proofs.running.run_on.Goals as goal

pub returns-in_err-all_fit-clause-goes : goal.returns-in_err-all_fit-clause-goes
returns-in_err-all_fit-clause-goes g c =
    goes_none g.R.Rack c.args.plans.items c.args.engine.now c.invariant_holds.ensures.run (c.invariant_holds.ensures.each c.requires.opened.phase)

pub returns-in-Err-clause-refused : goal.returns-in-Err-clause-refused
returns-in-Err-clause-refused g c =
    let cut = c.in-Err.ensures.cut_off in
    inr (
      cut.0,
      cut.1,
      cut.2,
      started_alone c.args.engine.now c.requires.opened c.requires.idle cut.0 g.G.Gate.answers (counts_of g.G.Gate c.args.gate.now) c.start_all.new.engine.core c.invariant_holds-in-Err.ensures.run cut.3,
      ⊎_elim (λ memory. inl (memory.0, memory.1.settled)) (λ fault. inr fault) c.in-Err.ensures.why,
    )

pub run_started-found-requires-clause-alone : goal.run_started-found-requires-clause-alone
run_started-found-requires-clause-alone g c = nothing_out c.args.engine.now c.start_all.new.engine.core c.args.plans.items c.requires.opened c.in_default.ensures.started

pub returns-clause-goes : goal.returns-clause-goes
returns-clause-goes g c =
    goes_then g.R.Rack c.args.plans.items c.args.engine.now c.start_all.new.engine c.run_started-found.new.engine c.in_default.ensures.ready.settled c.invariant_holds-2.ensures.run.session.one_each
    (g.met.R.Rack.honest c.run_started-found.new.engine.files.rack) c.start_all.ensures.goes (c.run_started-found.ensures.ran.goes c.args.plans.items)

pub returns-clause-ran : goal.returns-clause-ran
returns-clause-ran g c =
    let old = c.args.engine.now in
    let mid = c.start_all.new.engine in
    let now = c.run_started-found.new.engine in
    let ran = c.run_started-found.ensures.ran in
    let first = c.start_all.ensures.goes in
    let gate = asked g.G.Gate c.args.gate.now c.run_started-found.new.gate in
    let gone = run_alone old c.requires.opened c.requires.idle c.args.plans.items g.R.Rack gate mid now c.invariant_holds-3.ensures.run first.catalog c.in_default.ensures.started ran in
    so_ok c.run_started-found.result (λ s. (now.phase ≡ Settled) × SaysBulk now.core s)
    (λ s. HasGoneAlone gate old.catalog (full_history old.core) c.args.plans.items now.core × (now.phase ≡ Settled) × SaysBulk now.core s)
    (λ s said. (gone, said.0, said.1)) c.run_started-found.ensures.said

pub returns-clause-refused : goal.returns-clause-refused
returns-clause-refused g c =
    let old = c.args.engine.now in
    let mid = c.start_all.new.engine in
    let now = c.run_started-found.new.engine in
    let first = c.start_all.ensures.goes in
    let gate = asked g.G.Gate c.args.gate.now c.run_started-found.new.gate in
    let gone = run_alone old c.requires.opened c.requires.idle c.args.plans.items g.R.Rack gate mid now c.invariant_holds-3.ensures.run first.catalog c.in_default.ensures.started c.run_started-found.ensures.ran in
    all_started g.R.Rack.faults (one_gate gate) old mid now c.args.plans.items first.later (HasGoneAlone gate old.catalog (full_history old.core)) gone c.run_started-found.result c.run_started-found.ensures.refused
