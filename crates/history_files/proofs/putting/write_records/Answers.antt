use Rattle.process_disk.proofs.Images.{others_of_all, others_then, still_told}
use Rattle.gate_log.proofs.StagedImages.{ok_so}
use Rattle.process_journal.proofs.StagedParts.{records_on_disk}
use Rattle.history_files.proofs.PreparedGroups.{images_of_written}
use Rattle.history_files.proofs.putting.write_records.Goals as goal

pub returns-clause-on_disk : goal.returns-clause-on_disk
returns-clause-on_disk g c = λ told catalog h stands.
    let mid = g.R.Rack.disk c.write_staged.new.rack in
    let new = g.R.Rack.disk c.sync.new.rack in
    let told_mid = still_told (g.R.Rack.disk c.args.rack.now) mid c.write_staged.ensures.rack.tells told in
    let told_new = still_told mid new c.sync.ensures.rack.tells told_mid in
    ok_so c.sync.result (λ only. records_on_disk c.args.journal.now catalog h mid new (g.met.R.Rack.honest c.sync.new.rack told_new) (c.sync.ensures.all told_mid) only (c.in_ok-write_staged.ensures.written told catalog h stands))
    (c.sync.ensures.durable told_mid)

pub returns-clause-any_moment : goal.returns-clause-any_moment
returns-clause-any_moment g c = λ told catalog h stands.
    let old = g.R.Rack.disk c.args.rack.now in
    let mid = g.R.Rack.disk c.write_staged.new.rack in
    let new = g.R.Rack.disk c.sync.new.rack in
    let told_mid = still_told old mid c.write_staged.ensures.rack.tells told in
    images_of_written c.args.journal.now catalog h old mid new c.requires.file (g.met.R.Rack.honest c.write_staged.new.rack told_mid) (c.write_staged.ensures.others told).follow.later (c.sync.ensures.all told_mid)
    (c.in_ok-write_staged.ensures.written told catalog h stands) (c.write_staged.ensures.any_moment told catalog h stands)

pub returns-clause-others : goal.returns-clause-others
returns-clause-others g c = λ told.
    let old = g.R.Rack.disk c.args.rack.now in
    let mid = g.R.Rack.disk c.write_staged.new.rack in
    let new = g.R.Rack.disk c.sync.new.rack in
    let told_mid = still_told old mid c.write_staged.ensures.rack.tells told in
    let told_new = still_told mid new c.sync.ensures.rack.tells told_mid in
    others_then 0 old mid new (g.met.R.Rack.honest c.write_staged.new.rack told_mid) (g.met.R.Rack.honest c.sync.new.rack told_new) (c.write_staged.ensures.others told) (others_of_all 0 mid new (c.sync.ensures.all told_mid))
