use Rattle.std.proofs.Common.{subst}
use Rattle.hold_tables.specs.Kept.{AreTidy}
use Rattle.hold_tables.proofs.holds.Holds.net_len.Goals as goal

pub returns-clause-tidy : goal.returns-clause-tidy
returns-clause-tidy c = subst AreTidy c.self.view_is c.self.invariant.0.0
