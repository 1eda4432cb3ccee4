use Rattle.std.proofs.Common.{subst, sym}
use Rattle.process_disk.proofs.Images.{others_of_all, others_then, still_told}
use Rattle.process_journal.specs.Opened.{Stands}
use Rattle.process_journal.proofs.StagedParts.{images_of_opened, records_stand}
use Rattle.process_journal.proofs.journal.Journal.open_staged.Goals as goal

pub returns-in_err-sync-clause-any_moment : goal.returns-in_err-sync-clause-any_moment
returns-in_err-sync-clause-any_moment g c = λ told catalog h after rs there are made.
    let old = g.R.Rack.disk c.args.rack.now in
    let mid = g.R.Rack.disk c.open_gate.new.rack in
    let told_mid = still_told old mid c.open_gate.ensures.rack.tells told in
    images_of_opened c.args.self.now catalog h after rs old mid (g.R.Rack.disk c.sync.new.rack) (g.met.R.Rack.honest c.open_gate.new.rack told_mid) (c.open_gate.ensures.others told).follow.later (c.sync.ensures.all told_mid)
    c.open_gate.ensures.file (c.in_ok-open_gate.ensures.opened told catalog h there) are made (c.open_gate.ensures.any_moment told catalog h after rs there are made)

pub returns-in_err-sync-clause-others : goal.returns-in_err-sync-clause-others
returns-in_err-sync-clause-others g c = λ told.
    let old = g.R.Rack.disk c.args.rack.now in
    let mid = g.R.Rack.disk c.open_gate.new.rack in
    let new = g.R.Rack.disk c.sync.new.rack in
    let told_mid = still_told old mid c.open_gate.ensures.rack.tells told in
    let told_new = still_told mid new c.sync.ensures.rack.tells told_mid in
    others_then 0 old mid new (g.met.R.Rack.honest c.open_gate.new.rack told_mid) (g.met.R.Rack.honest c.sync.new.rack told_new) (c.open_gate.ensures.others told) (others_of_all 0 mid new (c.sync.ensures.all told_mid))

pub returns-clause-acknowledged : goal.returns-clause-acknowledged
returns-clause-acknowledged g c = λ told catalog h after rs there are made.
    let mid = g.R.Rack.disk c.open_gate.new.rack in
    let new = g.R.Rack.disk c.sync.new.rack in
    let told_mid = still_told (g.R.Rack.disk c.args.rack.now) mid c.open_gate.ensures.rack.tells told in
    let told_new = still_told mid new c.sync.ensures.rack.tells told_mid in
    subst (λ log. Stands log catalog after new) (sym c.take_staged.ensures)
    (records_stand c.args.self.now catalog h mid new (g.met.R.Rack.honest c.sync.new.rack told_new) (c.sync.ensures.all told_mid) (c.in_ok-sync.ensures.durable told_mid) rs after
    (c.in_ok-open_gate.ensures.opened told catalog h there) are made)

pub returns-clause-any_moment : goal.returns-clause-any_moment
returns-clause-any_moment g c = λ told catalog h after rs there are made.
    let old = g.R.Rack.disk c.args.rack.now in
    let mid = g.R.Rack.disk c.open_gate.new.rack in
    let told_mid = still_told old mid c.open_gate.ensures.rack.tells told in
    images_of_opened c.args.self.now catalog h after rs old mid (g.R.Rack.disk c.sync.new.rack) (g.met.R.Rack.honest c.open_gate.new.rack told_mid) (c.open_gate.ensures.others told).follow.later (c.sync.ensures.all told_mid)
    c.open_gate.ensures.file (c.in_ok-open_gate.ensures.opened told catalog h there) are made (c.open_gate.ensures.any_moment told catalog h after rs there are made)

pub returns-clause-others : goal.returns-clause-others
returns-clause-others g c = λ told.
    let old = g.R.Rack.disk c.args.rack.now in
    let mid = g.R.Rack.disk c.open_gate.new.rack in
    let new = g.R.Rack.disk c.sync.new.rack in
    let told_mid = still_told old mid c.open_gate.ensures.rack.tells told in
    let told_new = still_told mid new c.sync.ensures.rack.tells told_mid in
    others_then 0 old mid new (g.met.R.Rack.honest c.open_gate.new.rack told_mid) (g.met.R.Rack.honest c.sync.new.rack told_new) (c.open_gate.ensures.others told) (others_of_all 0 mid new (c.sync.ensures.all told_mid))
