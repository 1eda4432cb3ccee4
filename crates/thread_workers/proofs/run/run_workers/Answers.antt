use Rattle.std.proofs.Common.{◌≡◌, ◌+◌, ◌∙◌, ◌++◌, [], Some, ap, sym, refl, subst, arith}
use Rattle.process_tree.specs.Order.{Each}
use Rattle.history_lock.specs.Weights.{total}
use Rattle.shared_engine.specs.declared.shared.SharedEngine.{SharedEngine}
use Rattle.process_flow.specs.Causes.{Rose}
use Rattle.history_files.specs.Standing.{EachFits}
use Rattle.engine_steps.specs.Engines.{EngineState}
use Rattle.worker_gate.specs.Running.{IsOutcome}
use Rattle.shared_engine.specs.Shared.{IfClosed}
use Rattle.shared_engine.proofs.Leading.{settled_of}
use Rattle.thread_workers.specs.Jobs.{all_gates, all_places, job_opening, job_seen, job_share}
use Rattle.thread_workers.specs.Workers.{IsBeginning}
use Rattle.thread_workers.proofs.Lists.{none_left, take_whole}
use Rattle.thread_workers.proofs.WholeRun.{no_call, one_history, outcome_at_end, led_at_end, shared_at, sound_at}
use Rattle.thread_workers.proofs.run.run_workers.Goals as goal

pub returns-in-Err-clause-history : goal.returns-in-Err-clause-history
returns-in-Err-clause-history g c =
    let core = c.invariant_holds.ensures in
    let sound = sound_at g.R.Rack.disk g.B.Resource c.args.engine [] refl c.requires.ready core.run (core.each c.requires.ready.settled) in
    no_call g.R.Rack g.B.Resource g.G.Gate c.args.gates.items c.args.engine c.args.engine refl sound

pub returns-in-Err-new-clause-history : goal.returns-in-Err-new-clause-history
returns-in-Err-new-clause-history g c =
    let core = c.invariant_holds.ensures in
    let sound = sound_at g.R.Rack.disk g.B.Resource c.args.engine [] refl c.requires.ready core.run (core.each c.requires.ready.settled) in
    no_call g.R.Rack g.B.Resource g.G.Gate c.args.gates.items c.args.engine c.args.engine refl sound

pub returns-in-Err-new-2-clause-history : goal.returns-in-Err-new-2-clause-history
returns-in-Err-new-2-clause-history g c =
    let core = c.invariant_holds.ensures in
    let sound = sound_at g.R.Rack.disk g.B.Resource c.args.engine [] refl c.requires.ready core.run (core.each c.requires.ready.settled) in
    no_call g.R.Rack g.B.Resource g.G.Gate c.args.gates.items c.args.engine _
    (ap (λ (w : SharedEngine g.row.R.Denot g.row.B.Denot). w.engine) c.in-Err-new-2.ensures.err) sound

pub returns-in-Err-new-2-clause-fits : goal.returns-in-Err-new-2-clause-fits
returns-in-Err-new-2-clause-fits g c =
    subst (λ (e : EngineState g.row.R.Denot g.row.B.Denot). EachFits g.B.Resource e.files.stores)
    (sym (ap (λ (w : SharedEngine g.row.R.Denot g.row.B.Denot). w.engine) c.in-Err-new-2.ensures.err)) c.requires.ready.fits

pub give_jobs-seat-requires-clause-opened : goal.give_jobs-seat-requires-clause-opened
give_jobs-seat-requires-clause-opened g c =
    let core = c.invariant_holds.ensures in
    let sound = sound_at g.R.Rack.disk g.B.Resource c.args.engine c.in-Ok-new.queued c.in-Ok-new.ensures c.requires.ready core.run (core.each c.requires.ready.settled) in
    record { opening = shared_at c.args.engine c.in-Ok-new.queued; known = c.in-Ok-new-2.ensures.seat.0; sound = sound }

pub close-engine-requires-clause-only : goal.close-engine-requires-clause-only
close-engine-requires-clause-only g c =
    let jobs = c.run_jobs.new.jobs in
    let same = take_whole c.give_jobs-seat.new.jobs.len jobs _ (c.run_jobs.ensures.len ∙ c.deref_mut.ensures.len) in
    let rest = c.give_jobs-seat.result.place.me.0.share in
    c.take_all_in-seat.ensures.share ∙ ap (λ js. rest + total job_share js) same
    ∙ ap (λ n. rest + n) (c.run_jobs.ensures.share ∙ ap (total job_share) c.deref_mut.ensures.value) ∙ c.give_jobs-seat.ensures.share ∙ c.in-Ok-new-2.ensures.seat.3

pub outcome_of-outcome-requires : goal.outcome_of-outcome-requires
outcome_of-outcome-requires g c =
    let core = c.invariant_holds.ensures in
    let sound = sound_at g.R.Rack.disk g.B.Resource c.args.engine c.in-Ok-new.queued c.in-Ok-new.ensures c.requires.ready core.run (core.each c.requires.ready.settled) in
    let known = c.take_all_in-seat.ensures.opening ∙ c.give_jobs-seat.ensures.opening ∙ c.in-Ok-new-2.ensures.seat.0 in
    let e = c.take_all_in-seat.ensures.stopped (omega (arith, c.give_jobs-seat.ensures.len, c.requires.few.0)) in
    (e.0, e.1, outcome_at_end g.R.Rack g.B.Resource e.0 (shared_at c.args.engine c.in-Ok-new.queued) c.close-engine.result _ _ _ c.close-engine.ensures known sound e.2)

pub returns-clause-history : goal.returns-clause-history
returns-clause-history g c =
    let o : SharedEngine g.row.R.Denot g.row.B.Denot = shared_at c.args.engine c.in-Ok-new.queued in
    let core = c.invariant_holds.ensures in
    let sound = sound_at g.R.Rack.disk g.B.Resource c.args.engine c.in-Ok-new.queued c.in-Ok-new.ensures c.requires.ready core.run (core.each c.requires.ready.settled) in
    let known = c.take_all_in-seat.ensures.opening ∙ c.give_jobs-seat.ensures.opening ∙ c.in-Ok-new-2.ensures.seat.0 in
    let jobs = c.run_jobs.new.jobs in
    let none = c.give_jobs-seat.ensures.places ∙ c.in-Ok-new-2.ensures.seat.2 in
    let long = c.run_jobs.ensures.len ∙ c.deref_mut.ensures.len in
    let same = take_whole c.give_jobs-seat.new.jobs.len jobs _ long in
    let all = c.take_all_in-seat.ensures.places ∙ ap (λ js. c.give_jobs-seat.result.place.me.0.places ++ all_places js) same
    ∙ ap (λ l. l ++ all_places jobs) none in
    let begins = subst (Each (λ j. IsBeginning (job_seen j) c.take_all_in-seat.result.0.place.me.0.seen)) same c.take_all_in-seat.ensures.begins in
    let given = subst (λ m. Each (λ j. job_opening j ≡ m) c.give_jobs-seat.new.jobs.items) c.in-Ok-new-2.ensures.seat.0 c.give_jobs-seat.ensures.openings in
    let openings = c.run_jobs.ensures.openings (Some o) (subst (Each (λ j. job_opening j ≡ Some o)) (sym c.deref_mut.ensures.value) given) in
    let empty = none_left c.give_jobs-seat.new.gates.items (omega (arith, c.give_jobs-seat.ensures.gates.0, c.give_jobs-seat.new.gates.ok)) in
    let back = c.take_all_in-seat.ensures.gates.2 ∙ (ap (λ js. c.give_jobs-seat.new.gates.items ++ all_gates js) same ∙ ap (λ gs. gs ++ all_gates jobs) empty) in
    let gave = ap all_gates c.deref_mut.ensures.value ∙ c.give_jobs-seat.ensures.gates.2 in
    one_history g.R.Rack g.B.Resource g.G.Gate _ c.deref_mut.result.now jobs _ _ o c.close-engine.result _ _ _ c.close-engine.ensures known sound all c.run_jobs.ensures.done
    openings begins c.run_jobs.ensures.ran gave back

pub returns-clause-fits : goal.returns-clause-fits
returns-clause-fits g c =
    let core = c.invariant_holds.ensures in
    let sound = sound_at g.R.Rack.disk g.B.Resource c.args.engine c.in-Ok-new.queued c.in-Ok-new.ensures c.requires.ready core.run (core.each c.requires.ready.settled) in
    let known = c.take_all_in-seat.ensures.opening ∙ c.give_jobs-seat.ensures.opening ∙ c.in-Ok-new-2.ensures.seat.0 in
    let led = (led_at_end g.R.Rack g.B.Resource (shared_at c.args.engine c.in-Ok-new.queued) c.close-engine.result _ _ _ c.close-engine.ensures known sound).1 in
    led.called.fits

pub returns-clause-ready : goal.returns-clause-ready
returns-clause-ready g c not_fault =
    let core = c.invariant_holds.ensures in
    let sound = sound_at g.R.Rack.disk g.B.Resource c.args.engine c.in-Ok-new.queued c.in-Ok-new.ensures c.requires.ready core.run (core.each c.requires.ready.settled) in
    let known = c.take_all_in-seat.ensures.opening ∙ c.give_jobs-seat.ensures.opening ∙ c.in-Ok-new-2.ensures.seat.0 in
    let led = (led_at_end g.R.Rack g.B.Resource (shared_at c.args.engine c.in-Ok-new.queued) c.close-engine.result _ _ _ c.close-engine.ensures known sound).1 in
    record { settled = settled_of c.close-engine.result.engine.phase led.called.rest (c.outcome_of-outcome.ensures.open not_fault); fits = led.called.fits }

pub returns-clause-fault : goal.returns-clause-fault
returns-clause-fault g c is_fault =
    let core = c.invariant_holds.ensures in
    let sound = sound_at g.R.Rack.disk g.B.Resource c.args.engine c.in-Ok-new.queued c.in-Ok-new.ensures c.requires.ready core.run (core.each c.requires.ready.settled) in
    let known = c.take_all_in-seat.ensures.opening ∙ c.give_jobs-seat.ensures.opening ∙ c.in-Ok-new-2.ensures.seat.0 in
    let led = (led_at_end g.R.Rack g.B.Resource (shared_at c.args.engine c.in-Ok-new.queued) c.close-engine.result _ _ _ c.close-engine.ensures known sound).1 in
    let closed = subst (IsOutcome c.close-engine.result.engine) is_fault c.outcome_of-outcome.ensures.outcome in
    subst (λ p. IfClosed p (Rose (g.R.Rack.faults c.args.engine.files.rack) (g.R.Rack.faults c.close-engine.result.engine.files.rack))) closed led.fault
