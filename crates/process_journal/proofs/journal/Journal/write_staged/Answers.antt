use Rattle.std.proofs.Common.{subst}
use Rattle.process_disk.specs.Images.{EachImage, OthersAsBefore}
use Rattle.gate_log.specs.Standing.{Logs}
use Rattle.gate_log.proofs.StagedImages.{ok_so}
use Rattle.process_journal.specs.Bodies.{journal_bodies}
use Rattle.process_journal.proofs.journal.Journal.write_staged.Goals as goal

pub returns-clause-written : goal.returns-clause-written
returns-clause-written g c = rw (← c.self.view_is) (λ told catalog h stands.
    ok_so c.write_staged.result (λ is. record { history = stands.history; log = is }) (c.write_staged.ensures.written told _ stands.log))

pub returns-clause-any_moment : goal.returns-clause-any_moment
returns-clause-any_moment g c = rw (← c.self.view_is) (λ told catalog h stands.
    subst (λ q. EachImage (g.R.Rack.disk c.write_staged.new.rack) (g.R.Rack.disk c.args.rack.now).moment (Logs q (journal_bodies catalog h))) c.self.invariant.0 (c.write_staged.ensures.any_moment told _ stands.log))

pub returns-clause-others : goal.returns-clause-others
returns-clause-others g c = λ told.
    subst (λ q. OthersAsBefore q (g.R.Rack.disk c.args.rack.now) (g.R.Rack.disk c.write_staged.new.rack)) c.self.invariant.0 (c.write_staged.ensures.others told)
