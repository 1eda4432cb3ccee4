use Rattle.process_disk.proofs.Images.{still_told}
use Rattle.gate_log.proofs.StagedImages.{ok_so}
use Rattle.store_group.specs.Groups.{AreAsBefore}
use Rattle.store_group.proofs.InTurn.{run_of_all, runs_then, stands_of_file}
use Rattle.store_group.proofs.Synced.{all_on_disk, images_then_all}
use Rattle.store_group.proofs.disk.put_behind_gates.Goals as goal

pub returns-clause-on_disk : goal.returns-clause-on_disk
returns-clause-on_disk g c = λ told.
    let mid = g.R.Rack.disk c.write_each.new.rack in
    let new = g.R.Rack.disk c.sync.new.rack in
    let told_mid = still_told (g.R.Rack.disk c.args.rack.now) mid c.write_each.ensures.rack.tells told in
    let told_new = still_told mid new c.sync.ensures.rack.tells told_mid in
    ok_so c.sync.result
    (λ only. all_on_disk c.args.stores.now mid new (g.met.R.Rack.honest c.write_each.new.rack told_mid) (g.met.R.Rack.honest c.sync.new.rack told_new) (c.sync.ensures.all told_mid) only (c.in_ok-write_each.ensures.written told))
    (c.sync.ensures.durable told_mid)

pub returns-clause-any_moment : goal.returns-clause-any_moment
returns-clause-any_moment g c = λ told.
    let old = g.R.Rack.disk c.args.rack.now in
    let mid = g.R.Rack.disk c.write_each.new.rack in
    let new = g.R.Rack.disk c.sync.new.rack in
    let told_mid = still_told old mid c.write_each.ensures.rack.tells told in
    let written = c.in_ok-write_each.ensures.written told in
    images_then_all (AreAsBefore c.args.stores.now) old mid new (g.met.R.Rack.honest c.write_each.new.rack told_mid) (c.write_each.ensures.others told).follow.later (c.sync.ensures.all told_mid)
    (c.write_each.ensures.any_moment told) (record { has = λ files left q s at. (stands_of_file.each s mid (written q s at).stands).has files left })

pub returns-clause-others : goal.returns-clause-others
returns-clause-others g c = λ told.
    let old = g.R.Rack.disk c.args.rack.now in
    let mid = g.R.Rack.disk c.write_each.new.rack in
    let new = g.R.Rack.disk c.sync.new.rack in
    let told_mid = still_told old mid c.write_each.ensures.rack.tells told in
    let told_new = still_told mid new c.sync.ensures.rack.tells told_mid in
    runs_then c.args.stores.now old mid new (g.met.R.Rack.honest c.write_each.new.rack told_mid) (g.met.R.Rack.honest c.sync.new.rack told_new) (c.write_each.ensures.others told)
    (run_of_all c.args.stores.now mid new (c.sync.ensures.all told_mid))
