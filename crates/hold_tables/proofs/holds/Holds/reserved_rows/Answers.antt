use Rattle.std.proofs.Common.{ap, ◌∙◌}
use Rattle.schedule_model.specs.Histories.{is_in}
use Rattle.hold_tables.specs.Operations.{reserved_ops}
use Rattle.hold_tables.specs.Slots.{slot}
use Rattle.hold_tables.specs.Tables.{Tables, kept_of}
use Rattle.hold_tables.proofs.SlotPlaces.{slot_told}
use Rattle.hold_tables.proofs.holds.Holds.reserved_rows.Goals as goal

pub returns : goal.returns
returns c op i a less is =
    slot_told reserved_ops op i a c.self.inside.rows.items c.self.inside.beside.reserved c.self.invariant.2.reserved less (ap (λ (t : Tables). slot t i) c.self.view_is ∙ is)
    ∙ ap (λ (t : Tables). is_in op (reserved_ops (kept_of t i))) c.self.view_is
