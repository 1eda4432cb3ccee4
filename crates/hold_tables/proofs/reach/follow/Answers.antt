use Rattle.std.proofs.Common.{◌∙◌, sym, subst}
use Rattle.process_tree.specs.Conflicts.{do_conflict}
use Rattle.hold_tables.specs.Places.{place_of}
use Rattle.bit_rows.specs.Cells.{IsJoined}
use Rattle.hold_tables.proofs.Arrows.{arrow_alone}
use Rattle.hold_tables.proofs.Extended.{extended_one, extended_same, one, told_joined}
use Rattle.hold_tables.proofs.reach.follow.Goals as goal

pub returns-then-not-has : goal.returns-then-not-has
returns-then-not-has c =
    let rows = c.args.rows.now in
    let p = c.args.x.process in
    let q = c.args.y.process in
    let marks = c.args.walks.now in
    let joined = subst (λ a. IsJoined a (place_of q rows) marks c.join.new.self) c.place_of-from.ensures.place (subst (λ b. IsJoined c.place_of-from.result b marks c.join.new.self) c.place_of-to.ensures.place c.join.ensures) in
    extended_same rows (one p q) _ marks c.join.new.self (arrow_alone (do_conflict c.args.conflicts.now) c.args.x c.args.y (sym c.between.ensures ∙ c.if-between.true))
    (extended_one rows p q marks c.join.new.self c.requires.first.1 c.requires.later.1 (told_joined rows p q marks c.join.new.self c.requires.rows c.requires.first.1 c.requires.later.1 joined) joined.0)
