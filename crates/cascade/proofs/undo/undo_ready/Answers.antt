use Rattle.std.proofs.Common.{◌∙◌, sym, ap}
use Rattle.hold_tables.proofs.Places.{last_away}
use Rattle.cascade.specs.Undoing.{admitted}
use Rattle.cascade.proofs.LastPending.{block_is, has_last}
use Rattle.cascade.proofs.Steps.{by_undo_if}
use Rattle.cascade.proofs.undo.undo_ready.Goals as goal

pub unreachable-requires : goal.unreachable-requires
unreachable-requires c = has_last c.args.holds.now c.args.process c.args.step c.requires.last (sym c.last_place.ensures.place ∙ c.in_default.is)

pub net_at-requires : goal.net_at-requires
net_at-requires c = (last_away c.args.process c.args.holds.now.net c.in-Some.place (sym c.last_place.ensures.place ∙ c.in-Some.is)).0

pub least_behind-requires-clause-place : goal.least_behind-requires-clause-place
least_behind-requires-clause-place c = (last_away c.args.process c.args.holds.now.net c.in-Some.place (sym c.last_place.ensures.place ∙ c.in-Some.is)).0

pub returns-in-Some-least_behind : goal.returns-in-Some-least_behind
returns-in-Some-least_behind c =
    ap (λ o. admitted (by_undo_if c.args.step o)) (sym c.in-Some-least_behind.is ∙ c.least_behind.ensures)
    ∙ sym (ap admitted (block_is c.args.holds.now c.args.process c.args.step c.requires.last c.in-Some.place c.net_at.result (sym c.last_place.ensures.place ∙ c.in-Some.is) c.net_at.ensures.entry c.last_place.ensures.tidy))

pub returns-in-None : goal.returns-in-None
returns-in-None c =
    ap (λ o. admitted (by_undo_if c.args.step o)) (sym c.in-None.is ∙ c.least_behind.ensures)
    ∙ sym (ap admitted (block_is c.args.holds.now c.args.process c.args.step c.requires.last c.in-Some.place c.net_at.result (sym c.last_place.ensures.place ∙ c.in-Some.is) c.net_at.ensures.entry c.last_place.ensures.tidy))
