use Rattle.std.proofs.Common.{◌≤◌, arith, rules}
use Rattle.process_disk.proofs.Images.{each_then, follow_then, still_told, told_before}
use Rattle.gate_log.proofs.StagedImages.{ok_so}
use Rattle.process_journal.proofs.StagedParts.{records_on_disk}
use Rattle.store_group.proofs.Synced.{all_on_disk, images_then_all}
use Rattle.history_files.specs.Sound.{IsSound}
use Rattle.history_files.proofs.SoundImages.{sound_each}
use Rattle.history_files.proofs.WrittenGroups.{images_of_journal, images_written, open_written, stand_all_written, stand_written, stores_still_written}
use Rattle.history_files.proofs.putting.write_all.Goals as goal

pub write_staged-requires-clause-open : goal.write_staged-requires-clause-open
write_staged-requires-clause-open g c = λ told_mid.
    let log = c.args.journal.now in
    let stores = c.args.stores.now in
    let old = g.R.Rack.disk c.args.rack.now in
    let mid = g.R.Rack.disk c.write_each.new.rack in
    let told = told_before old mid c.write_each.ensures.rack.tells told_mid in
    let stand = c.requires.stand told in
    open_written stand.0 stand.1 log stores c.requires.are c.requires.file mid
    (stand_written stand.0 stand.1 log stores c.requires.are c.requires.file old mid (g.met.R.Rack.honest c.args.rack.now told) (g.met.R.Rack.honest c.write_each.new.rack told_mid) stand.2
    (c.write_each.ensures.others told) (c.in_ok-write_each.ensures.written told))

pub returns-in_err-write_each-clause-any_moment : goal.returns-in_err-write_each-clause-any_moment
returns-in_err-write_each-clause-any_moment g c = λ told catalog h stand.
    images_written catalog h c.args.journal.now c.args.stores.now c.requires.are c.requires.file (g.R.Rack.disk c.args.rack.now) (g.R.Rack.disk c.write_each.new.rack) (g.met.R.Rack.honest c.args.rack.now told) stand
    (c.write_each.ensures.others told) (c.write_each.ensures.any_moment told)

pub returns-in_err-write_each-clause-rack : goal.returns-in_err-write_each-clause-rack
returns-in_err-write_each-clause-rack g c = record { follow = λ told. (c.write_each.ensures.others told).follow; tells = search rules; later = search rules; fault = search rules }

pub returns-in_err-write_staged-clause-any_moment : goal.returns-in_err-write_staged-clause-any_moment
returns-in_err-write_staged-clause-any_moment g c = λ told catalog h stand.
    let log = c.args.journal.now in
    let stores = c.args.stores.now in
    let old = g.R.Rack.disk c.args.rack.now in
    let mid = g.R.Rack.disk c.write_each.new.rack in
    let two = g.R.Rack.disk c.write_staged.new.rack in
    let told_mid = still_told old mid c.write_each.ensures.rack.tells told in
    let honest = g.met.R.Rack.honest c.args.rack.now told in
    let honest_mid = g.met.R.Rack.honest c.write_each.new.rack told_mid in
    let run = c.write_each.ensures.others told in
    let stand_mid = stand_written catalog h log stores c.requires.are c.requires.file old mid honest honest_mid stand run (c.in_ok-write_each.ensures.written told) in
    each_then mid two old.moment (IsSound catalog h) run.follow.later (c.write_staged.ensures.others told_mid).follow
    (images_written catalog h log stores c.requires.are c.requires.file old mid honest stand run (c.write_each.ensures.any_moment told))
    (images_of_journal catalog h log stores c.requires.are c.requires.file mid two honest_mid stand_mid (c.write_staged.ensures.others told_mid) (c.write_staged.ensures.any_moment told_mid catalog h stand_mid.journal))

pub returns-in_err-write_staged-clause-rack : goal.returns-in_err-write_staged-clause-rack
returns-in_err-write_staged-clause-rack g c = record {
  follow = λ told.
      let old = g.R.Rack.disk c.args.rack.now in
      let mid = g.R.Rack.disk c.write_each.new.rack in
      let two = g.R.Rack.disk c.write_staged.new.rack in
      let told_mid = still_told old mid c.write_each.ensures.rack.tells told in
      let told_two = still_told mid two c.write_staged.ensures.rack.tells told_mid in
      follow_then old mid two (g.met.R.Rack.honest c.write_staged.new.rack told_two) (c.write_each.ensures.others told).follow (c.write_staged.ensures.others told_mid).follow;
  tells = search rules;
  later = search rules;
  fault = search rules;
}

pub returns-clause-stores : goal.returns-clause-stores
returns-clause-stores g c = λ told.
    let stores = c.args.stores.now in
    let mid = g.R.Rack.disk c.write_each.new.rack in
    let two = g.R.Rack.disk c.write_staged.new.rack in
    let new = g.R.Rack.disk c.sync.new.rack in
    let told_mid = still_told (g.R.Rack.disk c.args.rack.now) mid c.write_each.ensures.rack.tells told in
    let told_two = still_told mid two c.write_staged.ensures.rack.tells told_mid in
    let told_new = still_told two new c.sync.ensures.rack.tells told_two in
    let honest_two = g.met.R.Rack.honest c.write_staged.new.rack told_two in
    ok_so c.sync.result
    (λ only. all_on_disk stores two new honest_two (g.met.R.Rack.honest c.sync.new.rack told_new) (c.sync.ensures.all told_two) only
    (stores_still_written stores mid two c.requires.are (g.met.R.Rack.honest c.write_each.new.rack told_mid) honest_two (c.write_staged.ensures.others told_mid) (c.in_ok-write_each.ensures.written told)))
    (c.sync.ensures.durable told_two)

pub returns-clause-journal : goal.returns-clause-journal
returns-clause-journal g c = λ told catalog h stand.
    let log = c.args.journal.now in
    let stores = c.args.stores.now in
    let old = g.R.Rack.disk c.args.rack.now in
    let mid = g.R.Rack.disk c.write_each.new.rack in
    let two = g.R.Rack.disk c.write_staged.new.rack in
    let new = g.R.Rack.disk c.sync.new.rack in
    let told_mid = still_told old mid c.write_each.ensures.rack.tells told in
    let told_two = still_told mid two c.write_staged.ensures.rack.tells told_mid in
    let told_new = still_told two new c.sync.ensures.rack.tells told_two in
    let stand_mid = stand_written catalog h log stores c.requires.are c.requires.file old mid (g.met.R.Rack.honest c.args.rack.now told) (g.met.R.Rack.honest c.write_each.new.rack told_mid) stand (c.write_each.ensures.others told) (c.in_ok-write_each.ensures.written told) in
    ok_so c.sync.result
    (λ only. records_on_disk log catalog h two new (g.met.R.Rack.honest c.sync.new.rack told_new) (c.sync.ensures.all told_two) only (c.in_ok-write_staged.ensures.written told_mid catalog h stand_mid.journal))
    (c.sync.ensures.durable told_two)

pub returns-clause-any_moment : goal.returns-clause-any_moment
returns-clause-any_moment g c = λ told catalog h stand.
    let log = c.args.journal.now in
    let stores = c.args.stores.now in
    let old = g.R.Rack.disk c.args.rack.now in
    let mid = g.R.Rack.disk c.write_each.new.rack in
    let two = g.R.Rack.disk c.write_staged.new.rack in
    let new = g.R.Rack.disk c.sync.new.rack in
    let told_mid = still_told old mid c.write_each.ensures.rack.tells told in
    let told_two = still_told mid two c.write_staged.ensures.rack.tells told_mid in
    let honest = g.met.R.Rack.honest c.args.rack.now told in
    let honest_mid = g.met.R.Rack.honest c.write_each.new.rack told_mid in
    let honest_two = g.met.R.Rack.honest c.write_staged.new.rack told_two in
    let run = c.write_each.ensures.others told in
    let others = c.write_staged.ensures.others told_mid in
    let written = c.in_ok-write_each.ensures.written told in
    let stand_mid = stand_written catalog h log stores c.requires.are c.requires.file old mid honest honest_mid stand run written in
    let stand_two = stand_all_written catalog h log stores c.requires.are c.requires.file mid two stand_mid (c.in_ok-write_staged.ensures.written told_mid catalog h stand_mid.journal) (stores_still_written stores mid two c.requires.are honest_mid honest_two others written) in
    let later : old.moment ≤ two.moment = let first = run.follow.later in let second = others.follow.later in omega (arith, first, second) in
    images_then_all (IsSound catalog h) old two new honest_two later (c.sync.ensures.all told_two)
    (each_then mid two old.moment (IsSound catalog h) run.follow.later others.follow
    (images_written catalog h log stores c.requires.are c.requires.file old mid honest stand run (c.write_each.ensures.any_moment told))
    (images_of_journal catalog h log stores c.requires.are c.requires.file mid two honest_mid stand_mid others (c.write_staged.ensures.any_moment told_mid catalog h stand_mid.journal)))
    (sound_each catalog h log stores two c.requires.are stand_two c.requires.file)

pub returns-clause-rack : goal.returns-clause-rack
returns-clause-rack g c = record {
  follow = λ told.
      let old = g.R.Rack.disk c.args.rack.now in
      let mid = g.R.Rack.disk c.write_each.new.rack in
      let two = g.R.Rack.disk c.write_staged.new.rack in
      let new = g.R.Rack.disk c.sync.new.rack in
      let told_mid = still_told old mid c.write_each.ensures.rack.tells told in
      let told_two = still_told mid two c.write_staged.ensures.rack.tells told_mid in
      let told_new = still_told two new c.sync.ensures.rack.tells told_two in
      follow_then old two new (g.met.R.Rack.honest c.sync.new.rack told_new)
      (follow_then old mid two (g.met.R.Rack.honest c.write_staged.new.rack told_two) (c.write_each.ensures.others told).follow (c.write_staged.ensures.others told_mid).follow)
      (c.sync.ensures.all told_two).follow;
  tells = search rules;
  later = search rules;
  fault = search rules;
}
