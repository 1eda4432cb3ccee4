use Rattle.std.proofs.Common.{◌∙◌, [], ◌∷◌, ◌++◌, ap, sym, subst}
use Rattle.shared_engine.specs.Outcomes.{IsGivenBy, next_entry}
use Rattle.shared_engine.specs.Seats.{HasAdded, core_at}
use Rattle.shared_engine.specs.Shared.{AreOf, MayBeCalled}
use Rattle.shared_engine.proofs.MadeTurns.{added_by, core_is, turn_stands}
use Rattle.shared_engine.proofs.turns.ask.Goals as goal

pub ask-reply-requires : goal.ask-reply-requires
ask-reply-requires g c =
    let turn = c.turn-turn.result in
    let opened = c.requires.opened in
    let are = turn_stands g.R.Rack g.B.Resource turn.place.me.0.opening opened.opening turn.state turn.place.me.0.seen c.turn-turn.ensures.stands
    (c.turn-turn.ensures.keeps.0 ∙ opened.known) opened.sound in
    record { called = subst (λ w. MayBeCalled g.B.Resource w) (sym c.state.ensures.value) are.called }

pub returns-clause-turn : goal.returns-clause-turn
returns-clause-turn g c =
    let t = c.turn-turn.ensures in
    let d = c.end.ensures in
    subst (λ e. HasAdded e c.args.seat.place.me.0 c.end.result.place.me.0) c.entry-entry.ensures
    (added_by c.entry-entry.result c.args.seat.place.me.0 c.turn-turn.result.place.me.0 c.end.result.place.me.0 t.seen.0 t.keeps.0 t.keeps.1 t.keeps.2 t.seen.1 d.keeps.0 d.keeps.1 d.seen d.places)

pub returns-clause-given : goal.returns-clause-given
returns-clause-given g c o known sound =
    let turn = c.turn-turn.result in
    let seen = turn.place.me.0.seen in
    let racks = g.R.Rack in
    let box = g.B.Resource in
    let r = c.ask-reply.result.0 in
    let before = turn_stands racks box turn.place.me.0.opening o turn.state seen c.turn-turn.ensures.stands (c.turn-turn.ensures.keeps.0 ∙ known) sound in
    let after = c.ask-reply.ensures.leads o.engine seen (subst (λ w. AreOf racks box o.engine seen w) (sym c.state.ensures.value) before) in
    subst (λ k. IsGivenBy k r) (core_is racks box o.engine c.ask-reply.new.self (seen ++ next_entry r ∷ []) after ∙ (ap (λ e. core_at o.engine (seen ++ e ∷ [])) (sym c.entry-entry.ensures) ∙ ap (core_at o.engine) (sym c.end.ensures.seen)))
    c.ask-reply.ensures.given
