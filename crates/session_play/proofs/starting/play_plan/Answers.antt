use Rattle.std.proofs.Common.{◌≢◌, ◌∙◌, [], ◌∷◌, subst, sym}
use Rattle.machine_model.specs.declared.replies.StartWhy.{StartWhy}
use Rattle.machine_model.specs.declared.replies.StartWhy.TheVariants as whys
use Rattle.engine_steps.specs.Beginning.{of_start_why}
use Rattle.engine_steps.specs.declared.beginning.EngineStartWhy.TheVariants.{DiskFault}
use Rattle.process_engine.specs.Queues.{AreQueued}
use Rattle.process_engine.proofs.QueuedCalls.{queued_at_start}
use Rattle.scenario_run.proofs.OneOf.{stands_among}
use Rattle.session_play.proofs.starting.play_plan.Goals as goal
use Rattle.session_play.proofs.starting.play_plan.Goals.{in-Ok+in_ok-put_started-in-Ok, in-Err+in_ok-put_refusal-in-Err}

-- a refusal of the machine is no fault of the rack
no_fault : (why : StartWhy) → of_start_why why ≢ DiskFault
no_fault (whys.TooMany n) is = absurd cc
no_fault (whys.NoRoom n) is = absurd cc
no_fault whys.NoMemory is = absurd cc

pub returns-clause-queued : goal.returns-clause-queued
returns-clause-queued g c queued was =
    let old = c.args.engine.now in
    let new = c.start.new.engine in
    elim c.match-start.branch [
      | in-Ok+in_ok-put_started-in-Ok w ↦ queued_at_start old new c.args.plan c.invariant_holds.ensures.run w.in-Ok.ensures.core _ w.in-Ok.ensures.reply (c.start.ensures.goes (c.args.plan ∷ []) (stands_among [] [] c.args.plan)).catalog c.start.ensures.stores queued was
      | in-Err+in_ok-put_refusal-in-Err w ↦
          subst (λ e. AreQueued e queued) (sym (w.in-Err.ensures.refused.left (λ fault. no_fault w.in_ok-put_refusal-in-Err.ensures.told.0 (sym w.in_ok-put_refusal-in-Err.ensures.told.1 ∙ fault)))) was
    ]
