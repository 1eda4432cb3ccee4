use Rattle.std.proofs.Common.{sym, ap, ◌∙◌}
use Rattle.hold_tables.specs.Tables.{OpenProcess}
use Rattle.hold_tables.proofs.Places.{place-is}
use Rattle.hold_tables.proofs.looking.place_of.Goals as goal

pub returns-then-process-clause-place : goal.returns-then-process-clause-place
returns-then-process-clause-place c =
    let own = ap (λ (r : OpenProcess). r.process) (sym c.index-rows-at.is) ∙ sym c.process.ensures ∙ c.if-process.true in
    place-is c.args.process c.args.rows.now c.likely_place-at.result c.index-rows-at.result c.requires.numbered c.if-at-rows.true own
