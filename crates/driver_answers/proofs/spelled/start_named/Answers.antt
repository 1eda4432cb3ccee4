use Rattle.std.proofs.Common.{◌≡◌, ◌∙◌, List, Some, subst}
use Rattle.engine_calls.proofs.Goes.{goes_none}
use Rattle.machine_model.specs.Replies.{Handed}
use Rattle.session_play.specs.Answering.{IsAnswered, IsCut}
use Rattle.session_play.specs.Pieces.{session_of}
use Rattle.session_play.specs.Playing.{play_start}
use Rattle.session_play.proofs.Outcomes.{err_map, ok_map}
use Rattle.driver_answers.proofs.spelled.start_named.Goals as goal

pub returns-in_err-name-clause-goes : goal.returns-in_err-name-clause-goes
returns-in_err-name-clause-goes g c may_start one = goes_none g.R.Rack may_start c.args.engine.now c.invariant_holds.ensures.run (c.invariant_holds.ensures.each c.requires.ready.settled)

pub returns-clause-answered : goal.returns-clause-answered
returns-clause-answered g c =
    let same : c.deref.result.now ≡ c.args.plan.name = c.deref.ensures.value ∙ (c.in_ok-name.ensures.items_if_clones_equal (λ x y h. h) ∙ c.bytes.ensures.bytes) in
    let core = c.args.engine.now.core in
    let new = c.play_plan.new.engine.core in
    ok_map c.play_plan.result (λ text. (ps qs : List Handed) → IsAnswered (play_start (session_of core ps qs) c.deref.result.now (Some c.args.plan)) new ps qs text.items)
    (λ text. (ps qs : List Handed) → IsAnswered (play_start (session_of core ps qs) c.args.plan.name (Some c.args.plan)) new ps qs text.items) c.play_plan.ensures.answered
    (λ text is ps qs. subst (λ name. IsAnswered (play_start (session_of core ps qs) name (Some c.args.plan)) new ps qs text.items) same (is ps qs))

pub returns-clause-cut : goal.returns-clause-cut
returns-clause-cut g c =
    let same : c.deref.result.now ≡ c.args.plan.name = c.deref.ensures.value ∙ (c.in_ok-name.ensures.items_if_clones_equal (λ x y h. h) ∙ c.bytes.ensures.bytes) in
    let core = c.args.engine.now.core in
    let new = c.play_plan.new.engine.core in
    err_map c.play_plan.result (λ cut. (ps qs : List Handed) → IsCut cut (play_start (session_of core ps qs) c.deref.result.now (Some c.args.plan)) core new)
    (λ cut. (ps qs : List Handed) → IsCut cut (play_start (session_of core ps qs) c.args.plan.name (Some c.args.plan)) core new) c.play_plan.ensures.cut
    (λ cut is ps qs. subst (λ name. IsCut cut (play_start (session_of core ps qs) name (Some c.args.plan)) core new) same (is ps qs))
