use Rattle.std.proofs.Common.{ap, arith}
use Rattle.process_disk.proofs.Images.{still_told}
use Rattle.gate_log.proofs.Appending.{gate_within}
use Rattle.gate_log.proofs.StagedImages.{ok_so, images_of_opening, gate_opened}
use Rattle.gate_log.proofs.log.Log.open_gate.Goals as goal

pub write-requires-clause-place : goal.write-requires-clause-place
write-requires-clause-place g c = λ told.
    let may = c.requires.on_disk told in
    let within = gate_within c.args.self.now.file may.bodies _ may.there.stands.read in
    rw (ap (λ l. l.file) c.self.view_is) (omega (arith, ap (λ l. l.end) c.self.view_is, may.there.stands.end, within))

pub returns-clause-opened : goal.returns-clause-opened
returns-clause-opened g c = rw (← c.self.view_is) (λ told bodies are.
    let old = g.R.Rack.disk c.args.rack.now in
    let new = g.R.Rack.disk c.write.new.rack in
    let told_new = still_told old new c.write.ensures.rack.tells told in
    ok_so c.write.result (gate_opened _ bodies old new (g.met.R.Rack.honest c.args.rack.now told) (g.met.R.Rack.honest c.write.new.rack told_new) c.self.invariant.0 are (c.write.ensures.run told)) (c.write.ensures.written told))

pub returns-clause-any_moment : goal.returns-clause-any_moment
returns-clause-any_moment g c = rw (← c.self.view_is) (λ told bodies are.
    let old = g.R.Rack.disk c.args.rack.now in
    let new = g.R.Rack.disk c.write.new.rack in
    images_of_opening _ bodies old new (g.met.R.Rack.honest c.args.rack.now told) are (c.write.ensures.run told))
