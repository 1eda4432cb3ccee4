use Rattle.std.proofs.Common.{◌<◌, length, sym, subst}
use Rattle.hold_tables.specs.Kept.{IsKnown}
use Rattle.hold_tables.specs.Tables.{Tables}
use Rattle.hold_tables.proofs.Places.{each_place}
use Rattle.hold_tables.proofs.holds.Holds.net_at.Goals as goal

pub returns-clause-known : goal.returns-clause-known
returns-clause-known c =
    let e = c.index.result.now in
    let inside = c.self.inside in
    let within = subst (λ (t : Tables). c.args.place < length t.net) (sym c.self.view_is) c.requires in
    let known = each_place (IsKnown inside.conflicts) inside.net.items c.args.place e within c.self.invariant.0.0.known in
    subst (λ (t : Tables). IsKnown t.conflicts e) c.self.view_is (subst (IsKnown inside.conflicts) (sym c.index.ensures) known)
