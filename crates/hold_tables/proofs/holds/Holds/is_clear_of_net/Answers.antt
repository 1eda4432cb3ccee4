use Rattle.std.proofs.Common.{◌≡◌, false, subst}
use Rattle.std.specs.List.{list_any}
use Rattle.hold_tables.specs.Operations.{may_conflict, ops_of}
use Rattle.hold_tables.specs.Tables.{Tables}
use Rattle.hold_tables.proofs.Tidy.{tables}
use Rattle.hold_tables.proofs.ToldNet.{net_kept}
use Rattle.hold_tables.proofs.holds.Holds.is_clear_of_net.Goals as goal

pub is_clear_of-requires-clause-rows : goal.is_clear_of-requires-clause-rows
is_clear_of-requires-clause-rows c = c.self.invariant.3.count

pub is_clear_of-requires-clause-known : goal.is_clear_of-requires-clause-known
is_clear_of-requires-clause-known c = (net_kept (tables c.self.inside.conflicts c.self.inside.net.items c.self.inside.rows.items) c.self.invariant.0.0 c.self.inside.in_net c.self.invariant.3).known

pub returns : goal.returns
returns c = record {
  clear = λ is.
      let keeps = net_kept (tables c.self.inside.conflicts c.self.inside.net.items c.self.inside.rows.items) c.self.invariant.0.0 c.self.inside.in_net c.self.invariant.3 in
      subst (λ (t : Tables). list_any (may_conflict t.conflicts c.args.op) (ops_of t.net) ≡ false) c.self.view_is (c.is_clear_of.ensures (ops_of c.self.inside.net.items) keeps is);
}
