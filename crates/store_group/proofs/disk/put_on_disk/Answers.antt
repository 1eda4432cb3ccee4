use Rattle.std.proofs.Common.{inl}
use Rattle.process_disk.proofs.Images.{each_so, each_then, still_told, told_before}
use Rattle.store_group.specs.Groups.{AreAsBefore, AreBeforeOrWith}
use Rattle.store_group.proofs.InTurn.{runs_then}
use Rattle.store_group.proofs.disk.put_on_disk.Goals as goal

pub returns-in_err-put_behind_gates-clause-any_moment : goal.returns-in_err-put_behind_gates-clause-any_moment
returns-in_err-put_behind_gates-clause-any_moment g c = λ told.
    let stores = c.args.stores.now in
    each_so (g.R.Rack.disk c.put_behind_gates.new.rack) _ (AreAsBefore stores) (AreBeforeOrWith stores) (λ files all q s at. let is = all q s at in record { bodies = is.bodies; of = is.of; so = inl is.so }) (c.put_behind_gates.ensures.any_moment told)

pub open_on_disk-requires-clause-on_disk : goal.open_on_disk-requires-clause-on_disk
open_on_disk-requires-clause-on_disk g c = λ told_mid.
    c.in_ok-put_behind_gates.ensures.on_disk (told_before (g.R.Rack.disk c.args.rack.now) (g.R.Rack.disk c.put_behind_gates.new.rack) c.put_behind_gates.ensures.rack.tells told_mid)

pub returns-clause-any_moment : goal.returns-clause-any_moment
returns-clause-any_moment g c = λ told.
    let stores = c.args.stores.now in
    let old = g.R.Rack.disk c.args.rack.now in
    let mid = g.R.Rack.disk c.put_behind_gates.new.rack in
    let new = g.R.Rack.disk c.open_on_disk.new.rack in
    let told_mid = still_told old mid c.put_behind_gates.ensures.rack.tells told in
    each_then mid new old.moment (AreBeforeOrWith stores) (c.put_behind_gates.ensures.others told).follow.later (c.open_on_disk.ensures.others told_mid).follow
    (each_so mid old.moment (AreAsBefore stores) (AreBeforeOrWith stores) (λ files all q s at. let is = all q s at in record { bodies = is.bodies; of = is.of; so = inl is.so }) (c.put_behind_gates.ensures.any_moment told)) (c.open_on_disk.ensures.any_moment told_mid)

pub returns-clause-others : goal.returns-clause-others
returns-clause-others g c = λ told.
    let old = g.R.Rack.disk c.args.rack.now in
    let mid = g.R.Rack.disk c.put_behind_gates.new.rack in
    let new = g.R.Rack.disk c.open_on_disk.new.rack in
    let told_mid = still_told old mid c.put_behind_gates.ensures.rack.tells told in
    let told_new = still_told mid new c.open_on_disk.ensures.rack.tells told_mid in
    runs_then c.args.stores.now old mid new (g.met.R.Rack.honest c.put_behind_gates.new.rack told_mid) (g.met.R.Rack.honest c.open_on_disk.new.rack told_new) (c.put_behind_gates.ensures.others told) (c.open_on_disk.ensures.others told_mid)
