use Rattle.std.proofs.Common.{ap, ◌∙◌}
use Rattle.hold_tables.specs.Places.{place_of}
use Rattle.hold_tables.proofs.Tidy.{found}
use Rattle.hold_tables.proofs.holds.Holds.row.Goals as goal

pub returns : goal.returns
returns c =
    found c.args.process c.self.inside.conflicts c.self.inside.net.items c.self.inside.rows.items c.place_of-at.result c.index.result.now c.args.self.now c.self.view_is c.requires.open (c.place_of-at.ensures.place ∙ ap (place_of c.args.process) c.deref.ensures.value) c.index.ensures
