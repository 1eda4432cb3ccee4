use Rattle.std.proofs.Common.{List, Option, Some, sym, subst}
use Rattle.process_tree.specs.Making.{same_text}
use Rattle.engine_steps.specs.Beginning.{IsPlanFor}
use Rattle.engine_calls.proofs.Goes.{goes_none}
use Rattle.process_tree.specs.declared.plan.Plan.{Plan}
use Rattle.machine_model.specs.Replies.{Handed}
use Rattle.machine_model.proofs.TidyMoments.{Each-find}
use Rattle.session_play.specs.Answering.{IsAnswered, IsCopy, IsCut}
use Rattle.session_play.specs.Pieces.{session_of}
use Rattle.session_play.specs.Playing.{plan_named, play_start}
use Rattle.session_play.proofs.Outcomes.{copy_itself, cut_none, equal_swap, err_all, err_map, ok_map}
use Rattle.session_play.proofs.StartedLines.{copy_starts, one_of_copy}
use Rattle.session_play.proofs.starting.play_start.Goals as goal

pub returns-in_err-copy-in-Some-clause-goes : goal.returns-in_err-copy-in-Some-clause-goes
returns-in_err-copy-in-Some-clause-goes g c may_start one = goes_none g.R.Rack may_start c.args.engine.now c.invariant_holds.ensures.run (c.invariant_holds.ensures.each c.requires.ready.settled)

pub returns-in_err-no_process-in-None-clause-goes : goal.returns-in_err-no_process-in-None-clause-goes
returns-in_err-no_process-in-None-clause-goes g c may_start one = goes_none g.R.Rack may_start c.args.engine.now c.invariant_holds.ensures.run (c.invariant_holds.ensures.each c.requires.ready.settled)

pub returns-in_ok-no_process-in-None-clause-goes : goal.returns-in_ok-no_process-in-None-clause-goes
returns-in_ok-no_process-in-None-clause-goes g c may_start one = goes_none g.R.Rack may_start c.args.engine.now c.invariant_holds.ensures.run (c.invariant_holds.ensures.each c.requires.ready.settled)

pub returns-in_err-copy-in-Some-clause-cut : goal.returns-in_err-copy-in-Some-clause-cut
returns-in_err-copy-in-Some-clause-cut g c =
    let core = c.args.engine.now.core in
    let named = plan_named c.args.plans.now c.args.name.now in
    err_all c.from_residual.result (λ cut. (copy : Option Plan) × IsCopy named copy × ((ps qs : List Handed) → IsCut cut (play_start (session_of core ps qs) c.args.name.now copy) core core))
    (λ cut. (named, copy_itself named, (λ ps qs. cut_none cut (play_start (session_of core ps qs) c.args.name.now named) core)))

pub play_plan-requires-clause-plan : goal.play_plan-requires-clause-plan
play_plan-requires-clause-plan g c =
    let cat = c.args.engine.now.catalog in
    let plan = c.in-Some.plan.now in
    copy_starts cat plan c.in_ok-copy-in-Some.copy (equal_swap c.in_ok-copy-in-Some.copy plan c.in_ok-copy-in-Some.ensures)
    (Each-find (IsPlanFor cat) (λ (p : Plan). same_text p.name c.args.name.now) c.args.plans.now plan c.requires.plans c.in-Some.ensures.some)

pub returns-in_ok-copy-in-Some-clause-goes : goal.returns-in_ok-copy-in-Some-clause-goes
returns-in_ok-copy-in-Some-clause-goes g c may_start one =
    let plan = c.in-Some.plan.now in
    let copy = c.in_ok-copy-in-Some.copy in
    c.play_plan.ensures.goes may_start (one_of_copy may_start plan copy (one plan c.in-Some.ensures.some) (equal_swap copy plan c.in_ok-copy-in-Some.ensures))

pub returns-in_ok-copy-in-Some-clause-answered : goal.returns-in_ok-copy-in-Some-clause-answered
returns-in_ok-copy-in-Some-clause-answered g c =
    let core = c.args.engine.now.core in
    let new = c.play_plan.new.engine.core in
    let named = plan_named c.args.plans.now c.args.name.now in
    let copy = c.in_ok-copy-in-Some.copy in
    let equal : IsCopy named (Some copy) = subst (λ o. IsCopy o (Some copy)) (sym c.in-Some.ensures.some) (equal_swap copy c.in-Some.plan.now c.in_ok-copy-in-Some.ensures) in
    ok_map c.play_plan.result (λ text. (ps qs : List Handed) → IsAnswered (play_start (session_of core ps qs) c.args.name.now (Some copy)) new ps qs text.items)
    (λ text. (x : Option Plan) × IsCopy named x × ((ps qs : List Handed) → IsAnswered (play_start (session_of core ps qs) c.args.name.now x) new ps qs text.items)) c.play_plan.ensures.answered
    (λ text is. (Some copy, equal, is))

pub returns-in_ok-copy-in-Some-clause-cut : goal.returns-in_ok-copy-in-Some-clause-cut
returns-in_ok-copy-in-Some-clause-cut g c =
    let core = c.args.engine.now.core in
    let new = c.play_plan.new.engine.core in
    let named = plan_named c.args.plans.now c.args.name.now in
    let copy = c.in_ok-copy-in-Some.copy in
    let equal : IsCopy named (Some copy) = subst (λ o. IsCopy o (Some copy)) (sym c.in-Some.ensures.some) (equal_swap copy c.in-Some.plan.now c.in_ok-copy-in-Some.ensures) in
    err_map c.play_plan.result (λ cut. (ps qs : List Handed) → IsCut cut (play_start (session_of core ps qs) c.args.name.now (Some copy)) core new)
    (λ cut. (x : Option Plan) × IsCopy named x × ((ps qs : List Handed) → IsCut cut (play_start (session_of core ps qs) c.args.name.now x) core new)) c.play_plan.ensures.cut
    (λ cut is. (Some copy, equal, is))
