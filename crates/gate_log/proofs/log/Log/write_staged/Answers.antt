use Rattle.std.proofs.Common.{◌≢◌, ◌+◌, ◌∙◌, [], ap, subst, sym}
use Rattle.process_disk.proofs.Images.{still_told}
use Rattle.process_disk.specs.Disk.{put}
use Rattle.gate_log.specs.contracts.log.Log.{the_view}
use Rattle.gate_log.proofs.Appending.{gate_within, images_of_record}
use Rattle.gate_log.proofs.StagedImages.{ok_so, staged_written}
use Rattle.gate_log.proofs.log.Log.write_staged.Goals as goal

pub write-requires-clause-place : goal.write-requires-clause-place
write-requires-clause-place g c = λ told.
    let log = c.requires.open told in
    rw (ap (λ l. l.end) c.self.view_is, ap (λ l. l.file) c.self.view_is, log.stands.end) (gate_within c.args.self.now.file log.bodies _ log.stands.read)

pub returns-clause-written : goal.returns-clause-written
returns-clause-written g c = rw (← c.self.view_is) (λ told bodies stands.
    let old = g.R.Rack.disk c.args.rack.now in
    let new = g.R.Rack.disk c.write.new.rack in
    let told_new = still_told old new c.write.ensures.rack.tells told in
    let some = subst (λ l. l.staged ≢ []) (sym c.self.view_is) c.requires.staged in
    let by_write = staged_written (the_view c.self.inside) bodies _ old new (g.met.R.Rack.honest c.args.rack.now told) (g.met.R.Rack.honest c.write.new.rack told_new) c.self.invariant.0 some c.self.invariant.4 stands (c.write.ensures.run told) in
    ok_so c.write.result (λ is. by_write (is ∙ ap (put old.files c.self.inside.file (c.self.inside.end + 1)) c.behind_gate.ensures)) (c.write.ensures.written told))

pub returns-clause-any_moment : goal.returns-clause-any_moment
returns-clause-any_moment g c = rw (← c.self.view_is) (λ told bodies stands.
    let old = g.R.Rack.disk c.args.rack.now in
    let new = g.R.Rack.disk c.write.new.rack in
    images_of_record _ bodies _ old new (g.met.R.Rack.honest c.args.rack.now told) stands (c.write.ensures.run told))
