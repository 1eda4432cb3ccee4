use Rattle.std.proofs.Common.{ap, ◌∙◌}
use Rattle.schedule_model.specs.Histories.{is_in}
use Rattle.hold_tables.specs.Operations.{net_ops}
use Rattle.hold_tables.specs.Slots.{slot}
use Rattle.hold_tables.specs.Tables.{Tables, kept_of}
use Rattle.hold_tables.proofs.SlotPlaces.{slot_told}
use Rattle.hold_tables.proofs.holds.Holds.net_rows.Goals as goal

pub returns : goal.returns
returns c op i a less is =
    slot_told (net_ops c.self.inside.net.items) op i a c.self.inside.rows.items c.self.inside.in_net c.self.invariant.3 less (ap (λ (t : Tables). slot t i) c.self.view_is ∙ is)
    ∙ ap (λ (t : Tables). is_in op (net_ops t.net (kept_of t i))) c.self.view_is
