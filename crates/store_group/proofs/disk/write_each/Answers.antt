use Rattle.std.proofs.Common.{◌≡◌, ◌≤◌, ◌∙◌, refl, arith, length, Some}
use Rattle.std.specs.List.{slice_get}
use Rattle.std.proofs.lemmas.Option.{slice_get_read, slice_get_within}
use Rattle.process_disk.proofs.Images.{still_told, told_before}
use Rattle.store_group.proofs.InTurn.{images_of_one, none_called, one_more, run_of_one, runs_then, stands_of_file, written_of_file}
use Rattle.store_group.proofs.disk.write_each.Goals as goal

pub loop-store-init : goal.loop-store-init
loop-store-init g c = record {
  told = λ told. none_called stands_of_file written_of_file c.args.stores.now (g.R.Rack.disk c.args.rack.now) (g.met.R.Rack.honest c.args.rack.now told) (c.requires.stand told);
  tells = refl;
  later = omega arith;
}

pub write_one-requires : goal.write_one-requires
write_one-requires g c =
    let old = c.loop-store in
    let found = c.in-Some.ensures.lookup.3 in
    let s = c.in-Some.store.now in
    let at : slice_get c.args.stores.now old.place ≡ Some s = slice_get_read c.args.stores.now _ old.place s refl found.0 (found.1 s) in
    record { stands = λ told. (old.invariant.told (told_before (g.R.Rack.disk c.args.rack.now) (g.R.Rack.disk old.rack) old.invariant.tells told)).others old.place s (omega arith) at }

pub returns-in_err-write_one-clause-any_moment : goal.returns-in_err-write_one-clause-any_moment
returns-in_err-write_one-clause-any_moment g c = λ told.
    let old = c.loop-store in
    let start = g.R.Rack.disk c.args.rack.now in
    let mid = g.R.Rack.disk old.rack in
    let new = g.R.Rack.disk c.write_one.new.rack in
    let told_mid = still_told start mid old.invariant.tells told in
    let found = c.in-Some.ensures.lookup.3 in
    let s = c.in-Some.store.now in
    let at : slice_get c.args.stores.now old.place ≡ Some s = slice_get_read c.args.stores.now _ old.place s refl found.0 (found.1 s) in
    images_of_one stands_of_file written_of_file c.args.stores.now c.requires.order old.place s start mid new (g.met.R.Rack.honest old.rack told_mid) at (old.invariant.told told) (c.write_one.ensures.others told_mid) (c.write_one.ensures.any_moment told_mid)

pub returns-in_err-write_one-clause-others : goal.returns-in_err-write_one-clause-others
returns-in_err-write_one-clause-others g c = λ told.
    let old = c.loop-store in
    let start = g.R.Rack.disk c.args.rack.now in
    let mid = g.R.Rack.disk old.rack in
    let new = g.R.Rack.disk c.write_one.new.rack in
    let told_mid = still_told start mid old.invariant.tells told in
    let told_new = still_told mid new c.write_one.ensures.rack.tells told_mid in
    let found = c.in-Some.ensures.lookup.3 in
    let s = c.in-Some.store.now in
    let at : slice_get c.args.stores.now old.place ≡ Some s = slice_get_read c.args.stores.now _ old.place s refl found.0 (found.1 s) in
    runs_then c.args.stores.now start mid new (g.met.R.Rack.honest old.rack told_mid) (g.met.R.Rack.honest c.write_one.new.rack told_new) (old.invariant.told told).run
    (run_of_one c.args.stores.now old.place s mid new at (c.write_one.ensures.others told_mid))

pub loop-store-preserved : goal.loop-store-preserved
loop-store-preserved g c =
    let old = c.loop-store in
    let start = g.R.Rack.disk c.args.rack.now in
    let mid = g.R.Rack.disk old.rack in
    let new = g.R.Rack.disk c.write_one.new.rack in
    let found = c.in-Some.ensures.lookup.3 in
    let s = c.in-Some.store.now in
    let at : slice_get c.args.stores.now old.place ≡ Some s = slice_get_read c.args.stores.now _ old.place s refl found.0 (found.1 s) in
    record {
      told = λ told.
          let told_mid = still_told start mid old.invariant.tells told in
          let told_new = still_told mid new c.write_one.ensures.rack.tells told_mid in
          one_more stands_of_file written_of_file c.args.stores.now c.requires.order old.place s start mid new (g.met.R.Rack.honest old.rack told_mid) (g.met.R.Rack.honest c.write_one.new.rack told_new) at (old.invariant.told told)
          (c.write_one.ensures.others told_mid) (c.write_one.ensures.any_moment told_mid) (c.in_ok-write_one.ensures.written told_mid);
      tells = c.write_one.ensures.rack.tells ∙ old.invariant.tells;
      later = omega (arith, c.write_one.ensures.rack.later, old.invariant.later);
    }

pub returns-clause-written : goal.returns-clause-written
returns-clause-written g c = λ told q s at.
    let past : length c.args.stores.now ≤ c.loop-store.place = c.in_default.ensures.lookup.3 in
    let within = slice_get_within c.args.stores.now q s at in
    (c.loop-store.invariant.told told).called q s (omega (arith, within, past)) at
