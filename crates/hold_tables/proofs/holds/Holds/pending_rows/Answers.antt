use Rattle.std.proofs.Common.{ap, ◌∙◌}
use Rattle.schedule_model.specs.Histories.{is_in}
use Rattle.hold_tables.specs.Operations.{pending_ops}
use Rattle.hold_tables.specs.Slots.{slot}
use Rattle.hold_tables.specs.Tables.{Tables, kept_of}
use Rattle.hold_tables.proofs.SlotPlaces.{slot_told}
use Rattle.hold_tables.proofs.holds.Holds.pending_rows.Goals as goal

pub returns : goal.returns
returns c op i a less is =
    slot_told (pending_ops c.self.inside.net.items) op i a c.self.inside.rows.items c.self.inside.beside.pending c.self.invariant.2.pending less (ap (λ (t : Tables). slot t i) c.self.view_is ∙ is)
    ∙ ap (λ (t : Tables). is_in op (pending_ops t.net (kept_of t i))) c.self.view_is
