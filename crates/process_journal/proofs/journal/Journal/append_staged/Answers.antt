use Rattle.std.proofs.Common.{sym, subst}
use Rattle.gate_log.specs.Standing.{IsOpen}
use Rattle.gate_log.proofs.Standing.{open_of_stands}
use Rattle.process_journal.proofs.Appending.{appended_all, images_appended_all, bytes_appended_all}
use Rattle.process_journal.proofs.journal.Journal.append_staged.Goals as goal

pub append_staged-requires-clause-open : goal.append_staged-requires-clause-open
append_staged-requires-clause-open g c = λ told.
    let on = c.requires.goes_on told in
    subst (λ log. IsOpen log (g.R.Rack.disk c.args.rack.now)) (sym c.self.view_is) (open_of_stands _ _ _ on.stands.log)

pub returns-clause-acknowledged : goal.returns-clause-acknowledged
returns-clause-acknowledged g c = rw (← c.self.view_is) (λ told catalog h after rs stands are made.
    appended_all catalog rs h after _ _ _ (g.R.Rack.disk c.append_staged.new.rack) stands.history are made (c.append_staged.ensures.acknowledged told _ stands.log))

pub returns-clause-any_moment : goal.returns-clause-any_moment
returns-clause-any_moment g c = rw (← c.self.view_is) (λ told catalog h after rs stands are made.
    images_appended_all catalog rs h after _ c.self.inside.log.file _ _ stands.history are made c.self.invariant.0 (c.append_staged.ensures.any_moment told _ stands.log))

pub returns-clause-bytes : goal.returns-clause-bytes
returns-clause-bytes g c = rw (← c.self.view_is) (λ told version catalog h after rs stands are made before.
    bytes_appended_all version catalog rs h after _ c.self.inside.log.file _ _ _ stands.history are made c.self.invariant.0 (c.append_staged.ensures.bytes told version _ stands.log) before)
