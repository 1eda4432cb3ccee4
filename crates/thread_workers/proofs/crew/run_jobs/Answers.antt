use Rattle.std.proofs.Common.{◌≡◌, ◌∙◌, rules, sym, subst, subst₂, arith, get_or}
use Rattle.engine_calls.specs.GateAnswers.{counts_of}
use Rattle.thread_workers.specs.Jobs.{HasRun, IsDone, IsReady, job_opening, job_share}
use Rattle.thread_workers.proofs.Jobs.{ran_from}
use Rattle.thread_workers.proofs.Lists.{each_at, each_from, totals_same}
use denote.Exit.{no}
use denote.Param.{param}
use denote.Param.Send.{param_send, param_sync, arg_send, arg_sync, shr_sync}
use Rattle.history_lock.proofs.desk.Desk.TheSendSync as desk
use Rattle.history_lock.specs.contracts.desk.Desk as desk_row
use Rattle.shared_engine.specs.contracts.entries.TurnEntry as entry
use Rattle.shared_engine.specs.contracts.shared.SharedEngine as state
use Rattle.shared_engine.specs.contracts.shared.SharedEngineHeld.TheImpl as held
use Rattle.thread_workers.proofs.Sent.{shared_send, two_sync}
use Rattle.thread_workers.proofs.crew.Job.TheSendSync as job
use Rattle.thread_workers.proofs.crew.run_jobs.Goals as goal

pub for_each_mut-requires-send-T : goal.for_each_mut-requires-send-T
for_each_mut-requires-send-T g c κs within =
    let sent = c.type_bounds in
    param_send 1 _ (arg_send _ no _ (job.the_send _ _ _ _ (shared_send _ _ g.R.Rack sent.send-R sent.send-B) sent.send-G))

pub for_each_mut-requires-sync-F : goal.for_each_mut-requires-sync-F
for_each_mut-requires-sync-F g c κs within =
    let sent = c.type_bounds in
    let R = param 1 g.row.R in
    let B = param 2 g.row.B in
    let ghosts = held.ghosts R B g.R.Rack held.no_dict g.B.Resource held.no_dict held.no_dict held.no_dict in
    param_sync 2 _ (arg_sync _ no _ (two_sync _ _ _ (shr_sync _ _ (param 0 g.row.H) sent.sync-H) (shr_sync _ _ (desk_row.the_row (state.the_row R B g.R.Rack) entry.the_row ghosts) (desk.the_sync (state.the_row R B g.R.Rack) entry.the_row ghosts (shared_send R B g.R.Rack sent.send-R sent.send-B)))))

pub for_each_mut-requires-clause-accepts : goal.for_each_mut-requires-clause-accepts
for_each_mut-requires-clause-accepts g c κs within = λ i p h e.
    let P = IsReady g.R.Rack.disk g.B.Resource g.G.Gate.answers (counts_of g.G.Gate) c.args.desk.now.table.shared.table_id in
    (search rules, subst P (sym e) (each_at P c.args.jobs.now i p.now h c.requires))

pub returns-clause-done : goal.returns-clause-done
returns-clause-done g c =
    let disk = g.R.Rack.disk in
    let box = g.B.Resource in
    let answers = g.G.Gate.answers in
    let desk = c.args.desk.now.table.shared.table_id in
    let counts = counts_of g.G.Gate in
    each_from (IsDone disk box answers counts desk) c.for_each_mut.new.s (λ i d h.
    let at = (c.for_each_mut.ensures i d (omega (arith, h, c.for_each_mut.auto.s))).1 in
    (counts (get_or c.args.jobs.now i d).gate, (subst₂ (HasRun disk box answers counts desk) at.argument_is at.left at.call).0))

pub returns-clause-ran : goal.returns-clause-ran
returns-clause-ran g c =
    let disk = g.R.Rack.disk in
    let box = g.B.Resource in
    let answers = g.G.Gate.answers in
    let desk = c.args.desk.now.table.shared.table_id in
    let counts = counts_of g.G.Gate in
    ran_from disk box answers counts desk c.args.jobs.now c.for_each_mut.new.s (omega (arith, c.for_each_mut.auto.s)) (λ i d h.
    let at = (c.for_each_mut.ensures i d h).1 in
    subst₂ (HasRun disk box answers counts desk) at.argument_is at.left at.call)

pub returns-clause-share : goal.returns-clause-share
returns-clause-share g c =
    let disk = g.R.Rack.disk in
    let box = g.B.Resource in
    let answers = g.G.Gate.answers in
    let desk = c.args.desk.now.table.shared.table_id in
    totals_same job_share c.args.jobs.now c.for_each_mut.new.s (omega (arith, c.for_each_mut.auto.s)) (λ i d h.
    let at = (c.for_each_mut.ensures i d h).1 in
    (subst₂ (HasRun disk box answers (counts_of g.G.Gate) desk) at.argument_is at.left at.call).1)

pub returns-clause-openings : goal.returns-clause-openings
returns-clause-openings g c first all =
    let disk = g.R.Rack.disk in
    let box = g.B.Resource in
    let answers = g.G.Gate.answers in
    let desk = c.args.desk.now.table.shared.table_id in
    each_from (λ j. job_opening j ≡ first) c.for_each_mut.new.s (λ i d h.
    let at = (c.for_each_mut.ensures i d (omega (arith, h, c.for_each_mut.auto.s))).1 in
    (subst₂ (HasRun disk box answers (counts_of g.G.Gate) desk) at.argument_is at.left at.call).2 ∙ each_at (λ j. job_opening j ≡ first) c.args.jobs.now i d (omega (arith, h, c.for_each_mut.auto.s)) all)
