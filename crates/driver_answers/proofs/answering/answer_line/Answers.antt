use Rattle.std.proofs.Common.{◌≡◌, ◌∙◌, ◌⊎◌, List, [], ◌∷◌, length, nat_eq, true, Some, ap, sym, subst}
use Rattle.process_tree.proofs.Every.{Each-weaker}
use Rattle.process_tree.specs.declared.plan.Plan.{Plan}
use Rattle.command_input.specs.Scenarios.{AreGoodPlans}
use Rattle.machine_model.specs.Replies.{Handed}
use Rattle.process_engine.specs.Queues.{AreQueued}
use Rattle.session_play.specs.AtHand.{AreAtHand}
use Rattle.session_play.specs.Pieces.{session_of}
use Rattle.session_play.specs.Playing.{play_start}
use Rattle.session_play.specs.declared.cut.Cut.TheVariants.{DiskFault, NoMemory}
use Rattle.session_play.proofs.AskedPieces.{all_stay}
use Rattle.session_play.proofs.Outcomes.{err_map, ok_map, on_ok_both}
use Rattle.driver_requests.specs.Requests.{request_of}
use Rattle.driver_requests.specs.declared.request.Request.TheVariants.{Session, StartSpelled}
use Rattle.driver_answers.specs.Serving.{AsksToStart, IsLineAnswered, IsLineCut, IsSpelledAnswered}
use Rattle.driver_answers.proofs.AnsweredLines.{line_answered, spelled_line_cut}
use Rattle.driver_answers.proofs.MoreStarts.{goes_at_rest, goes_by_session}
use Rattle.driver_answers.proofs.answering.answer_line.Goals as goal

pub returns-then-is_empty-clause-goes : goal.returns-then-is_empty-clause-goes
returns-then-is_empty-clause-goes g c = goes_at_rest g.R.Rack (AsksToStart c.args.engine.now.catalog c.args.plans.now c.args.line.now (request_of c.args.line.now)) c.args.engine.now c.invariant_holds.ensures.run (c.invariant_holds.ensures.each c.requires.ready.settled)

pub returns-in_err-line-clause-goes : goal.returns-in_err-line-clause-goes
returns-in_err-line-clause-goes g c = goes_at_rest g.R.Rack (AsksToStart c.args.engine.now.catalog c.args.plans.now c.args.line.now (request_of c.args.line.now)) c.args.engine.now c.invariant_holds.ensures.run (c.invariant_holds.ensures.each c.requires.ready.settled)

pub returns-in_err-pieces_text-in-Some-Pieces-clause-goes : goal.returns-in_err-pieces_text-in-Some-Pieces-clause-goes
returns-in_err-pieces_text-in-Some-Pieces-clause-goes g c = goes_at_rest g.R.Rack (AsksToStart c.args.engine.now.catalog c.args.plans.now c.args.line.now (request_of c.args.line.now)) c.args.engine.now c.invariant_holds.ensures.run (c.invariant_holds.ensures.each c.requires.ready.settled)

pub returns-in_ok-pieces_text-in-Some-Pieces-clause-goes : goal.returns-in_ok-pieces_text-in-Some-Pieces-clause-goes
returns-in_ok-pieces_text-in-Some-Pieces-clause-goes g c = goes_at_rest g.R.Rack (AsksToStart c.args.engine.now.catalog c.args.plans.now c.args.line.now (request_of c.args.line.now)) c.args.engine.now c.invariant_holds.ensures.run (c.invariant_holds.ensures.each c.requires.ready.settled)

pub returns-in_err-waits_text-in-Some-Waits-clause-goes : goal.returns-in_err-waits_text-in-Some-Waits-clause-goes
returns-in_err-waits_text-in-Some-Waits-clause-goes g c = goes_at_rest g.R.Rack (AsksToStart c.args.engine.now.catalog c.args.plans.now c.args.line.now (request_of c.args.line.now)) c.args.engine.now c.invariant_holds.ensures.run (c.invariant_holds.ensures.each c.requires.ready.settled)

pub returns-in_ok-waits_text-in-Some-Waits-clause-goes : goal.returns-in_ok-waits_text-in-Some-Waits-clause-goes
returns-in_ok-waits_text-in-Some-Waits-clause-goes g c = goes_at_rest g.R.Rack (AsksToStart c.args.engine.now.catalog c.args.plans.now c.args.line.now (request_of c.args.line.now)) c.args.engine.now c.invariant_holds.ensures.run (c.invariant_holds.ensures.each c.requires.ready.settled)

pub returns-in_err-happened_text-in-Some-Happened-clause-goes : goal.returns-in_err-happened_text-in-Some-Happened-clause-goes
returns-in_err-happened_text-in-Some-Happened-clause-goes g c = goes_at_rest g.R.Rack (AsksToStart c.args.engine.now.catalog c.args.plans.now c.args.line.now (request_of c.args.line.now)) c.args.engine.now c.invariant_holds.ensures.run (c.invariant_holds.ensures.each c.requires.ready.settled)

pub returns-in_ok-happened_text-in-Some-Happened-clause-goes : goal.returns-in_ok-happened_text-in-Some-Happened-clause-goes
returns-in_ok-happened_text-in-Some-Happened-clause-goes g c = goes_at_rest g.R.Rack (AsksToStart c.args.engine.now.catalog c.args.plans.now c.args.line.now (request_of c.args.line.now)) c.args.engine.now c.invariant_holds.ensures.run (c.invariant_holds.ensures.each c.requires.ready.settled)

pub returns-in_err-started_text-in-Some-Started-clause-goes : goal.returns-in_err-started_text-in-Some-Started-clause-goes
returns-in_err-started_text-in-Some-Started-clause-goes g c = goes_at_rest g.R.Rack (AsksToStart c.args.engine.now.catalog c.args.plans.now c.args.line.now (request_of c.args.line.now)) c.args.engine.now c.invariant_holds.ensures.run (c.invariant_holds.ensures.each c.requires.ready.settled)

pub returns-in_ok-started_text-in-Some-Started-clause-goes : goal.returns-in_ok-started_text-in-Some-Started-clause-goes
returns-in_ok-started_text-in-Some-Started-clause-goes g c = goes_at_rest g.R.Rack (AsksToStart c.args.engine.now.catalog c.args.plans.now c.args.line.now (request_of c.args.line.now)) c.args.engine.now c.invariant_holds.ensures.run (c.invariant_holds.ensures.each c.requires.ready.settled)

pub returns-in_err-bad_line-in-None-clause-goes : goal.returns-in_err-bad_line-in-None-clause-goes
returns-in_err-bad_line-in-None-clause-goes g c = goes_at_rest g.R.Rack (AsksToStart c.args.engine.now.catalog c.args.plans.now c.args.line.now (request_of c.args.line.now)) c.args.engine.now c.invariant_holds.ensures.run (c.invariant_holds.ensures.each c.requires.ready.settled)

pub returns-in_ok-bad_line-in-None-clause-goes : goal.returns-in_ok-bad_line-in-None-clause-goes
returns-in_ok-bad_line-in-None-clause-goes g c = goes_at_rest g.R.Rack (AsksToStart c.args.engine.now.catalog c.args.plans.now c.args.line.now (request_of c.args.line.now)) c.args.engine.now c.invariant_holds.ensures.run (c.invariant_holds.ensures.each c.requires.ready.settled)

pub returns-in-Some-Session-clause-goes : goal.returns-in-Some-Session-clause-goes
returns-in-Some-Session-clause-goes g c =
    let form : request_of c.args.line.now ≡ Some (Session c.in-Some-Session.line) = sym c.in_ok-line.ensures ∙ (c.in-Some-Session.is ∙ ap Some c.in-Some-Session.field-0-is) in
    goes_by_session g.R.Rack c.args.engine.now.catalog c.args.plans.now c.args.line.now c.in-Some-Session.line c.args.engine.now c.answer_session.new.engine form c.answer_session.ensures.goes

pub returns-in-Some-StartSpelled-clause-goes : goal.returns-in-Some-StartSpelled-clause-goes
returns-in-Some-StartSpelled-clause-goes g c =
    let cat = c.args.engine.now.catalog in
    let plans = c.args.plans.now in
    let line = c.args.line.now in
    let form : request_of line ≡ Some StartSpelled = sym c.in_ok-line.ensures ∙ (c.in-Some-StartSpelled.is ∙ ap Some c.in-Some-StartSpelled.field-0-is) in
    let goes = c.start_spelled.ensures.goes in (
      goes.0,
      Each-weaker (λ p. AreGoodPlans cat.ops c.behind.result.now (p ∷ [])) (AsksToStart cat plans line (request_of line))
          (λ p good. subst (λ r. AsksToStart cat plans line r p) (sym form) (subst (λ text. AreGoodPlans cat.ops text (p ∷ [])) c.behind.ensures good)) goes.0 goes.1,
      goes.2 goes.0 (λ p one. one),
    )

pub returns-in-Some-StartSpelled-clause-at_hand : goal.returns-in-Some-StartSpelled-clause-at_hand
returns-in-Some-StartSpelled-clause-at_hand g c =
    let old = c.args.engine.now in
    let new = c.start_spelled.new.engine in
    let spelled = c.start_spelled.ensures.goes in
    let goes = spelled.2 spelled.0 (λ p one. one) in
    on_ok_both c.start_spelled.result ((queued : List Handed) → AreQueued old queued → AreQueued new queued) (AreAtHand new c.args.hand.now) c.start_spelled.ensures.queued
    (λ stays. record {
      handed = all_stay old.core new.core goes.added c.args.hand.now.unfinished.items goes.kept c.requires.at_hand.handed;
      queued = stays c.args.hand.now.queued c.requires.at_hand.queued;
    })

pub returns-in-Some-StartSpelled-clause-answered : goal.returns-in-Some-StartSpelled-clause-answered
returns-in-Some-StartSpelled-clause-answered g c =
    let old = c.args.engine.now in
    let new = c.start_spelled.new.engine in
    let hs = c.args.hand.now.unfinished.items in
    let gs = c.args.hand.now.queued in
    let line = c.args.line.now in
    let plans = c.args.plans.now in
    let n = c.args.number in
    let some : length line ≡ 0 → ⊥ = λ none. absurd (let zero : nat_eq (length line) 0 ≡ true = ap (λ n. nat_eq n 0) none in cc) in
    let form : request_of line ≡ Some StartSpelled = sym c.in_ok-line.ensures ∙ (c.in-Some-StartSpelled.is ∙ ap Some c.in-Some-StartSpelled.field-0-is) in
    ok_map c.start_spelled.result (λ text. (ps qs : List Handed) → IsSpelledAnswered old.catalog (record { core = old.core; hand = record { unfinished = ps; queued = qs } }) n c.behind.result.now (record { core = new.core; hand = record { unfinished = ps; queued = qs } }) text.items)
    (λ text. IsLineAnswered old.catalog plans (record { core = old.core; hand = record { unfinished = hs; queued = gs } }) n line (record { core = new.core; hand = record { unfinished = hs; queued = gs } }) text.items) c.start_spelled.ensures.answered
    (λ text is. line_answered old.catalog plans (record { core = old.core; hand = record { unfinished = hs; queued = gs } }) n line (Some StartSpelled) (record { core = new.core; hand = record { unfinished = hs; queued = gs } }) text.items some form
    (subst (λ spelled. IsSpelledAnswered old.catalog (record { core = old.core; hand = record { unfinished = hs; queued = gs } }) n spelled (record { core = new.core; hand = record { unfinished = hs; queued = gs } }) text.items) c.behind.ensures (is hs gs)))

pub returns-in-Some-StartSpelled-clause-cut : goal.returns-in-Some-StartSpelled-clause-cut
returns-in-Some-StartSpelled-clause-cut g c =
    let old = c.args.engine.now in
    let new = c.start_spelled.new.engine in
    let hs = c.args.hand.now.unfinished.items in
    let gs = c.args.hand.now.queued in
    let line = c.args.line.now in
    let form : request_of line ≡ Some StartSpelled = sym c.in_ok-line.ensures ∙ (c.in-Some-StartSpelled.is ∙ ap Some c.in-Some-StartSpelled.field-0-is) in
    err_map c.start_spelled.result (λ cut. ((cut ≡ DiskFault) × (new.core ≡ old.core))
    ⊎ ((cut ≡ NoMemory) × ((new.core ≡ old.core) ⊎ ((p : Plan) × AreGoodPlans old.catalog.ops c.behind.result.now (p ∷ []) × ((ps qs : List Handed) → new.core ≡ (play_start (session_of old.core ps qs) p.name (Some p)).state.core)))))
    (λ cut. IsLineCut old.catalog c.args.plans.now (record { core = old.core; hand = record { unfinished = hs; queued = gs } }) line cut new.core) c.start_spelled.ensures.cut
    (λ cut is. spelled_line_cut old.catalog c.args.plans.now old.core new.core hs gs line cut form
    (subst (λ spelled. ((cut ≡ DiskFault) × (new.core ≡ old.core))
    ⊎ ((cut ≡ NoMemory) × ((new.core ≡ old.core) ⊎ ((p : Plan) × AreGoodPlans old.catalog.ops spelled (p ∷ []) × ((ps qs : List Handed) → new.core ≡ (play_start (session_of old.core ps qs) p.name (Some p)).state.core))))) c.behind.ensures is))
