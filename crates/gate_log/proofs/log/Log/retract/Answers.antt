use Rattle.std.proofs.Common.{◌++◌, ap, arith}
use Rattle.process_disk.proofs.Images.{still_told}
use Rattle.gate_log.specs.contracts.log.Log.{the_view}
use Rattle.gate_log.proofs.Appending.{gate_within}
use Rattle.gate_log.proofs.Retracting.{gate_place, some_of, images_of_retract, last_retracted}
use Rattle.gate_log.proofs.log.Log.retract.Goals as goal

pub write_and_sync-requires-clause-place : goal.write_and_sync-requires-clause-place
write_and_sync-requires-clause-place g c = λ told.
    let log = c.requires.open told in
    let within = gate_within c.args.self.now.file (log.bodies ++ log.last) _ log.stands.read in
    rw (ap (λ l. l.file) c.self.view_is) (omega (arith, ap (λ l. l.end) c.self.view_is, log.stands.end, within))

pub returns-in_err-write_and_sync-clause-any_moment : goal.returns-in_err-write_and_sync-clause-any_moment
returns-in_err-write_and_sync-clause-any_moment g c = rw (← c.self.view_is) (λ told bodies last number size stands.
    let old = g.R.Rack.disk c.args.rack.now in
    let new = g.R.Rack.disk c.write_and_sync.new.rack in
    let log = the_view c.self.inside in
    images_of_retract log bodies last _ old new (g.met.R.Rack.honest c.args.rack.now told) (some_of last c.args.number number c.requires.last.some) (gate_place log bodies last old c.args.size size stands) stands (c.write_and_sync.ensures.run told))

pub returns-clause-acknowledged : goal.returns-clause-acknowledged
returns-clause-acknowledged g c = rw (← c.self.view_is) (λ told bodies last number size stands.
    let old = g.R.Rack.disk c.args.rack.now in
    let new = g.R.Rack.disk c.write_and_sync.new.rack in
    let log = the_view c.self.inside in
    let honest_new = g.met.R.Rack.honest c.write_and_sync.new.rack (still_told old new c.write_and_sync.ensures.rack.tells told) in
    let stands_now = last_retracted log bodies last c.args.number c.args.size old new (g.met.R.Rack.honest c.args.rack.now told) honest_new c.self.invariant.0 (some_of last c.args.number number c.requires.last.some) number size stands
    (c.in_ok-write_and_sync.ensures.written told) (c.in_ok-write_and_sync.ensures.durable told) in
    record { count = stands_now.count; end = stands_now.end; read = stands_now.read; each = stands_now.each })

pub returns-clause-any_moment : goal.returns-clause-any_moment
returns-clause-any_moment g c = rw (← c.self.view_is) (λ told bodies last number size stands.
    let old = g.R.Rack.disk c.args.rack.now in
    let new = g.R.Rack.disk c.write_and_sync.new.rack in
    let log = the_view c.self.inside in
    images_of_retract log bodies last _ old new (g.met.R.Rack.honest c.args.rack.now told) (some_of last c.args.number number c.requires.last.some) (gate_place log bodies last old c.args.size size stands) stands (c.write_and_sync.ensures.run told))
