use Rattle.process_disk.proofs.Images.{still_told, others_then, others_of_all, each_then}
use Rattle.gate_log.specs.Standing.{Logs}
use Rattle.gate_log.proofs.StagedImages.{ok_so, each_still, staged_on_disk}
use Rattle.gate_log.proofs.log.Log.put_on_disk.Goals as goal

pub returns-clause-on_disk : goal.returns-clause-on_disk
returns-clause-on_disk g c = λ told bodies stands.
    let old = g.R.Rack.disk c.args.rack.now in
    let mid = g.R.Rack.disk c.write_staged.new.rack in
    let new = g.R.Rack.disk c.sync.new.rack in
    let told_mid = still_told old mid c.write_staged.ensures.rack.tells told in
    let told_new = still_told mid new c.sync.ensures.rack.tells told_mid in
    let were = c.in_ok-write_staged.ensures.written told bodies stands in
    ok_so c.sync.result (λ only. staged_on_disk _ bodies mid new (g.met.R.Rack.honest c.sync.new.rack told_new) (c.sync.ensures.all told_mid) only were) (c.sync.ensures.durable told_mid)

pub returns-clause-may : goal.returns-clause-may
returns-clause-may g c = λ told.
    let old = g.R.Rack.disk c.args.rack.now in
    let mid = g.R.Rack.disk c.write_staged.new.rack in
    let new = g.R.Rack.disk c.sync.new.rack in
    let told_mid = still_told old mid c.write_staged.ensures.rack.tells told in
    let told_new = still_told mid new c.sync.ensures.rack.tells told_mid in
    let log = c.requires.open told in
    let were = c.in_ok-write_staged.ensures.written told log.bodies log.stands in
    ok_so c.sync.result (λ only. record { bodies = log.bodies; there = staged_on_disk _ log.bodies mid new (g.met.R.Rack.honest c.sync.new.rack told_new) (c.sync.ensures.all told_mid) only were }) (c.sync.ensures.durable told_mid)

pub returns-clause-any_moment : goal.returns-clause-any_moment
returns-clause-any_moment g c = λ told bodies stands.
    let old = g.R.Rack.disk c.args.rack.now in
    let mid = g.R.Rack.disk c.write_staged.new.rack in
    let new = g.R.Rack.disk c.sync.new.rack in
    let told_mid = still_told old mid c.write_staged.ensures.rack.tells told in
    let P = Logs c.args.self.now.file bodies in
    let run = c.sync.ensures.all told_mid in
    let were = c.in_ok-write_staged.ensures.written told bodies stands in
    each_then mid new old.moment P (c.write_staged.ensures.others told).follow.later run.follow (c.write_staged.ensures.any_moment told bodies stands)
    (each_still P mid new (g.met.R.Rack.honest c.write_staged.new.rack told_mid) run were.stands.each)

pub returns-clause-others : goal.returns-clause-others
returns-clause-others g c = λ told.
    let old = g.R.Rack.disk c.args.rack.now in
    let mid = g.R.Rack.disk c.write_staged.new.rack in
    let new = g.R.Rack.disk c.sync.new.rack in
    let told_mid = still_told old mid c.write_staged.ensures.rack.tells told in
    let told_new = still_told mid new c.sync.ensures.rack.tells told_mid in
    let q = c.args.self.now.file in
    others_then q old mid new (g.met.R.Rack.honest c.write_staged.new.rack told_mid) (g.met.R.Rack.honest c.sync.new.rack told_new)
    (c.write_staged.ensures.others told) (others_of_all q mid new (c.sync.ensures.all told_mid))
