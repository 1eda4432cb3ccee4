use Rattle.std.proofs.Common.{sym, ◌∙◌, ap, arith, length}
use Rattle.hold_tables.specs.Places.{last_place}
use Rattle.hold_tables.proofs.Places.{last_away, none_away, no_place}
use Rattle.hold_tables.proofs.looking.remove_last.Goals as goal

pub remove-requires : goal.remove-requires
remove-requires c =
    let found = last_away c.args.process c.args.net.now.items c.in-Some.place (sym (ap (last_place c.args.process) c.deref.ensures.value) ∙ sym c.last_place.ensures ∙ c.in-Some.is) in
    let within = found.0 in
    omega (arith, within, ap length c.deref.ensures.value, c.deref.ensures.len)

pub returns-in-Some-clause-net : goal.returns-in-Some-clause-net
returns-in-Some-clause-net c =
    let found = last_away c.args.process c.args.net.now.items c.in-Some.place (sym (ap (last_place c.args.process) c.deref.ensures.value) ∙ sym c.last_place.ensures ∙ c.in-Some.is) in
    c.remove.ensures.items ∙ sym found.2

pub returns-in_default-clause-net : goal.returns-in_default-clause-net
returns-in_default-clause-net c =
    let none = sym (ap (last_place c.args.process) c.deref.ensures.value) ∙ sym c.last_place.ensures ∙ c.in_default.is in
    sym (none_away c.args.process c.args.net.now.items (no_place c.args.process c.args.net.now.items none))
