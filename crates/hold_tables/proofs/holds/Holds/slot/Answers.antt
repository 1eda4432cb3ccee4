use Rattle.std.proofs.Common.{ap, sym, ◌∙◌, arith}
use Rattle.hold_tables.specs.Slots.{slot}
use Rattle.hold_tables.specs.Tables.{Tables}
use Rattle.hold_tables.proofs.SlotPlaces.{slot_among, slot_apart, slot_small}
use Rattle.hold_tables.proofs.holds.Holds.slot.Goals as goal

pub returns-in-Some-clause-small : goal.returns-in-Some-clause-small
returns-in-Some-clause-small c =
    slot_small c.args.process c.in-Some.place c.self.inside.rows.items c.self.invariant.1.1.rows.1
    (ap (slot_among c.args.process) (sym c.deref.ensures.value) ∙ sym c.place_if.ensures ∙ c.in-Some.is)

pub overflow_cast-result : goal.overflow_cast-result
overflow_cast-result c = let small = returns-in-Some-clause-small c in omega (arith, small)

pub returns-in-Some-clause-apart : goal.returns-in-Some-clause-apart
returns-in-Some-clause-apart c k s first other =
    slot_apart c.args.process k s c.self.inside.rows.items (ap (λ (t : Tables). slot t c.args.process) c.self.view_is ∙ first) (ap (λ (t : Tables). slot t k) c.self.view_is ∙ other)
