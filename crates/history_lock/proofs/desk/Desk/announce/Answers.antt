use Rattle.std.proofs.Common.{arith}
use Rattle.history_lock.proofs.Calls.{may_announce}
use Rattle.history_lock.proofs.desk.Desk.announce.Goals as goal

pub fetch_add-requires : goal.fetch_add-requires
fetch_add-requires g c = (c.requires.table, omega (arith, c.requires.count, c.args.self.now.sized), may_announce g.S.Held.stands_for c.args.self.now.table.shared.key.value _ _ _ c.args.count c.requires.count.0)
