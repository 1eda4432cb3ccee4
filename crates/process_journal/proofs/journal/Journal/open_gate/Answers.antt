use Rattle.std.proofs.Common.{subst}
use Rattle.process_disk.specs.Images.{OthersAsBefore}
use Rattle.gate_log.proofs.StagedImages.{ok_so}
use Rattle.process_journal.proofs.Appending.{images_appended_all}
use Rattle.process_journal.proofs.journal.Journal.open_gate.Goals as goal

pub returns-clause-opened : goal.returns-clause-opened
returns-clause-opened g c = rw (← c.self.view_is) (λ told catalog h there.
    ok_so c.open_gate.result (λ is. record { history = there.history; log = is }) (c.open_gate.ensures.opened told _ there.log))

pub returns-clause-any_moment : goal.returns-clause-any_moment
returns-clause-any_moment g c = rw (← c.self.view_is) (λ told catalog h after rs there are made.
    images_appended_all catalog rs h after _ c.self.inside.log.file _ _ there.history are made c.self.invariant.0 (c.open_gate.ensures.any_moment told _ there.log))

pub returns-clause-others : goal.returns-clause-others
returns-clause-others g c = λ told.
    subst (λ q. OthersAsBefore q (g.R.Rack.disk c.args.rack.now) (g.R.Rack.disk c.open_gate.new.rack)) c.self.invariant.0 (c.open_gate.ensures.others told)
