use Rattle.std.proofs.Common.{◌≢◌, ◌+◌, ◌≤◌, [], arith, ap, length, subst, sym}
use Rattle.gate_log.specs.LogFile.{records_size}
use Rattle.gate_log.specs.contracts.log.Log.{the_view}
use Rattle.gate_log.proofs.Logs.{end_with, last_of_staged}
use Rattle.gate_log.proofs.log.Log.take_staged.Goals as goal

pub invariant_of-self : goal.invariant_of-self
invariant_of-self c =
    let was = c.self.invariant in
    let some = subst (λ l. l.staged ≢ []) (sym c.self.view_is) c.requires.staged in (
      was.0,
      omega (arith, was.4, c.count.ensures),
      end_with c.self.inside.staged c.self.inside.end c.self.inside.count c.size.result c.count.result some c.count.ensures c.size.ensures.bound was.2,
      omega (arith, was.3),
      omega (arith, was.4, c.count.ensures, ap length c.clear.ensures),
    )

pub returns-clause-last : goal.returns-clause-last
returns-clause-last c =
    let was = c.self.invariant in
    let room : records_size c.self.inside.staged ≤ 65538 = omega (arith, c.size.ensures.size, c.size.ensures.bound) in
    rw (← c.self.view_is) (last_of_staged (the_view c.self.inside) _ (ap (λ n. c.self.inside.count + n) c.count.ensures) (ap (λ n. c.self.inside.end + n) c.size.ensures.size) was.3 was.2 room)
