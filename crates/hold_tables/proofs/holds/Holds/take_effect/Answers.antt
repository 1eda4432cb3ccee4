use Rattle.std.proofs.Common.{sym, ◌∙◌, ap}
use Rattle.std.specs.Prelude.{is_some}
use Rattle.hold_tables.specs.Changes.{undoes}
use Rattle.hold_tables.specs.Tables.{OpenProcess}
use Rattle.hold_tables.specs.Places.{place_of}
use Rattle.hold_tables.proofs.Tidy.{found}
use Rattle.hold_tables.proofs.holds.Holds.take_effect.Goals as goal

pub unreachable-requires : goal.unreachable-requires
unreachable-requires c =
    let row = found c.args.process c.self.inside.conflicts c.self.inside.net.items c.self.inside.rows.items c.place_of-at.result c.index.result.now c.args.self.now c.self.view_is c.requires.open (c.place_of-at.ensures.place ∙ ap (place_of c.args.process) c.deref.ensures.value) c.index.ensures in
    let no = ap is_some (sym c.in_default.is ∙ c.running.ensures ∙ ap (λ (r : OpenProcess). r.running) row) ∙ c.requires.running in
    cc

pub undone-requires-clause-undo : goal.undone-requires-clause-undo
undone-requires-clause-undo c =
    let row = found c.args.process c.self.inside.conflicts c.self.inside.net.items c.self.inside.rows.items c.place_of-at.result c.index.result.now c.args.self.now c.self.view_is c.requires.open (c.place_of-at.ensures.place ∙ ap (place_of c.args.process) c.deref.ensures.value) c.index.ensures in
    ap undoes (ap (λ (r : OpenProcess). r.running) (sym row) ∙ sym c.running.ensures ∙ c.in-Some.is) ∙ c.if-e.true

pub done-requires-clause-running : goal.done-requires-clause-running
done-requires-clause-running c =
    let row = found c.args.process c.self.inside.conflicts c.self.inside.net.items c.self.inside.rows.items c.place_of-at.result c.index.result.now c.args.self.now c.self.view_is c.requires.open (c.place_of-at.ensures.place ∙ ap (place_of c.args.process) c.deref.ensures.value) c.index.ensures in
    ap (λ (r : OpenProcess). r.running) (sym row) ∙ sym c.running.ensures ∙ c.in-Some.is
