use Rattle.std.proofs.Common.{◌∙◌, ap, sym, subst}
use Rattle.engine_calls.specs.GateAnswers.{IsHandedAs}
use Rattle.shared_engine.specs.Outcomes.{queue_entry}
use Rattle.shared_engine.specs.Progress.{opened}
use Rattle.shared_engine.specs.Seats.{HasAdded, core_at}
use Rattle.shared_engine.specs.Shared.{MayBeCalled}
use Rattle.shared_engine.proofs.HandedLater.{handed_later}
use Rattle.shared_engine.proofs.MadeTurns.{added_by, core_is, turn_stands}
use Rattle.shared_engine.proofs.turns.hand_in.Goals as goal

pub hand_in-reply-requires-clause-called : goal.hand_in-reply-requires-clause-called
hand_in-reply-requires-clause-called g c =
    let turn = c.turn-turn.result in
    let opening = c.requires.opened in
    let are = turn_stands g.R.Rack g.B.Resource turn.place.me.0.opening opening.opening turn.state turn.place.me.0.seen c.turn-turn.ensures.stands
    (c.turn-turn.ensures.keeps.0 ∙ opening.known) opening.sound in
    subst (λ w. MayBeCalled g.B.Resource w) (sym c.state.ensures.value) are.called

pub hand_in-reply-requires-clause-handed : goal.hand_in-reply-requires-clause-handed
hand_in-reply-requires-clause-handed g c =
    let turn = c.turn-turn.result in
    let opening = c.requires.opened in
    let o = opening.opening.engine in
    let p = c.args.piece in
    let seen = c.args.seat.place.me.0.seen in
    let are = turn_stands g.R.Rack g.B.Resource turn.place.me.0.opening opening.opening turn.state turn.place.me.0.seen c.turn-turn.ensures.stands
    (c.turn-turn.ensures.keeps.0 ∙ opening.known) opening.sound in
    let here = core_is g.R.Rack g.B.Resource o turn.state turn.place.me.0.seen are ∙ ap (core_at o) c.turn-turn.ensures.seen.1 in
    let later = handed_later (opened o) seen c.turn-turn.ensures.seen.0 p (c.requires.handed opening.opening opening.known) in
    subst (λ w. IsHandedAs w.engine.core p) (sym c.state.ensures.value) (subst (λ k. IsHandedAs k p) (sym here) later)

pub returns-clause-turn : goal.returns-clause-turn
returns-clause-turn g c =
    let t = c.turn-turn.ensures in
    let d = c.end.ensures in
    subst (λ e. HasAdded e c.args.seat.place.me.0 c.end.result.place.me.0) (c.queue_entry-entry.ensures ∙ ap (λ n. queue_entry n c.args.answer c.hand_in-reply.result) c.number-number.ensures)
    (added_by c.queue_entry-entry.result c.args.seat.place.me.0 c.turn-turn.result.place.me.0 c.end.result.place.me.0 t.seen.0 t.keeps.0 t.keeps.1 t.keeps.2 t.seen.1 d.keeps.0 d.keeps.1 d.seen d.places)
