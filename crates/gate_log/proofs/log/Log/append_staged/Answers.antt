use Rattle.std.proofs.Common.{◌<◌, inl, subst}
use Rattle.process_disk.proofs.Images.{still_told, others_then, each_then}
use Rattle.process_disk.specs.Images.{EachImage}
use Rattle.gate_log.specs.Staging.{LogsBeforeOrWithAll}
use Rattle.gate_log.proofs.Plain.{plain_with}
use Rattle.gate_log.proofs.log.Log.append_staged.Goals as goal

pub returns-in_err-open_on_disk-clause-others : goal.returns-in_err-open_on_disk-clause-others
returns-in_err-open_on_disk-clause-others g c = λ told.
    let old = g.R.Rack.disk c.args.rack.now in
    let mid = g.R.Rack.disk c.put_on_disk.new.rack in
    let new = g.R.Rack.disk c.open_on_disk.new.rack in
    let told_mid = still_told old mid c.put_on_disk.ensures.rack.tells told in
    let told_new = still_told mid new c.open_on_disk.ensures.rack.tells told_mid in
    others_then c.args.self.now.file old mid new (g.met.R.Rack.honest c.put_on_disk.new.rack told_mid) (g.met.R.Rack.honest c.open_on_disk.new.rack told_new) (c.put_on_disk.ensures.others told) (c.open_on_disk.ensures.others told_mid)

pub returns-clause-bytes : goal.returns-clause-bytes
returns-clause-bytes g c = λ told version bodies stands plain.
    let old = g.R.Rack.disk c.args.rack.now in
    let mid = g.R.Rack.disk c.put_on_disk.new.rack in
    let new = g.R.Rack.disk c.open_on_disk.new.rack in
    let told_mid = still_told old mid c.put_on_disk.ensures.rack.tells told in
    let log = c.args.self.now in
    let below : log.file < 9 = subst (λ l. l.file < 9) c.self.view_is c.self.invariant.0 in
    plain_with version log.file log.end bodies log.staged old mid new (g.met.R.Rack.honest c.args.rack.now told) (g.met.R.Rack.honest c.put_on_disk.new.rack told_mid) below stands.end c.requires.staged
    (c.in_ok-put_on_disk.ensures.bytes told) (c.in_ok-open_on_disk.ensures.bytes told_mid) plain

pub returns-clause-others : goal.returns-clause-others
returns-clause-others g c = λ told.
    let old = g.R.Rack.disk c.args.rack.now in
    let mid = g.R.Rack.disk c.put_on_disk.new.rack in
    let new = g.R.Rack.disk c.open_on_disk.new.rack in
    let told_mid = still_told old mid c.put_on_disk.ensures.rack.tells told in
    let told_new = still_told mid new c.open_on_disk.ensures.rack.tells told_mid in
    others_then c.args.self.now.file old mid new (g.met.R.Rack.honest c.put_on_disk.new.rack told_mid) (g.met.R.Rack.honest c.open_on_disk.new.rack told_new) (c.put_on_disk.ensures.others told) (c.open_on_disk.ensures.others told_mid)

pub returns-in_err-open_on_disk-clause-any_moment : goal.returns-in_err-open_on_disk-clause-any_moment
returns-in_err-open_on_disk-clause-any_moment g c = λ told bodies stands.
    let old = g.R.Rack.disk c.args.rack.now in
    let mid = g.R.Rack.disk c.put_on_disk.new.rack in
    let new = g.R.Rack.disk c.open_on_disk.new.rack in
    let told_mid = still_told old mid c.put_on_disk.ensures.rack.tells told in
    let P = LogsBeforeOrWithAll c.args.self.now.file bodies c.args.self.now.staged in
    let first = c.put_on_disk.ensures.any_moment told bodies stands in
    let before : EachImage mid old.moment P = record { has = λ d left. inl (first.has d left) } in
    each_then mid new old.moment P (c.put_on_disk.ensures.others told).follow.later (c.open_on_disk.ensures.others told_mid).follow before
    (c.open_on_disk.ensures.any_moment told_mid bodies (c.in_ok-put_on_disk.ensures.on_disk told bodies stands))

pub returns-clause-any_moment : goal.returns-clause-any_moment
returns-clause-any_moment g c = λ told bodies stands.
    let old = g.R.Rack.disk c.args.rack.now in
    let mid = g.R.Rack.disk c.put_on_disk.new.rack in
    let new = g.R.Rack.disk c.open_on_disk.new.rack in
    let told_mid = still_told old mid c.put_on_disk.ensures.rack.tells told in
    let P = LogsBeforeOrWithAll c.args.self.now.file bodies c.args.self.now.staged in
    let first = c.put_on_disk.ensures.any_moment told bodies stands in
    let before : EachImage mid old.moment P = record { has = λ d left. inl (first.has d left) } in
    each_then mid new old.moment P (c.put_on_disk.ensures.others told).follow.later (c.open_on_disk.ensures.others told_mid).follow before
    (c.open_on_disk.ensures.any_moment told_mid bodies (c.in_ok-put_on_disk.ensures.on_disk told bodies stands))
