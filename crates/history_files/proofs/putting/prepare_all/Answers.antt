use Rattle.std.proofs.Common.{rules, subst, sym}
use Rattle.process_disk.specs.Disk.{Told}
use Rattle.process_disk.specs.Images.{EachImage, RunBy}
use Rattle.process_disk.proofs.Images.{follow_then, still_told, told_before}
use Rattle.schedule_model.specs.declared.history.History.{History}
use Rattle.commute_table.specs.declared.catalog.Catalog.{Catalog}
use Rattle.process_journal.specs.Staged.{IsOnDisk}
use Rattle.store_group.specs.Groups.{AreBeforeOrWith, AreInOrder, HasOnDisk, HasStaged, OfEach, SameButStores}
use Rattle.store_group.proofs.InOrder.{on_err}
use Rattle.store_group.proofs.Taken.{effects_may_be_taken, effects_prepared, effects_unchanged, fits_unchanged}
use Rattle.history_files.specs.Standing.{AreStores, Stand}
use Rattle.history_files.proofs.Groups.{good_unchanged, good_with_effects}
use Rattle.history_files.proofs.PreparedGroups.{images_prepared, records_still, stand_on_disk, stand_staged, stand_taken, stores_staged}
use Rattle.history_files.proofs.putting.prepare_all.Given as given
use Rattle.history_files.proofs.putting.prepare_all.Goals as goal
use Rattle.history_files.proofs.putting.prepare_all.Goals.{After-deref-2}

-- the rack tells still,
told_one : (g : given.Over) (c : After-deref-2 g) → Told (g.R.Rack.disk c.args.rack.now) → Told (g.R.Rack.disk c.write_all.new.rack)
told_one g c told = still_told (g.R.Rack.disk c.args.rack.now) (g.R.Rack.disk c.write_all.new.rack) c.write_all.ensures.rack.tells told

-- the files stand with the effects staged,
stand_mid : (g : given.Over) (c : After-deref-2 g) (catalog : Catalog) (h : History) → Stand catalog h c.args.journal.now c.args.stores.now.items (g.R.Rack.disk c.args.rack.now)
    → Stand catalog h c.args.journal.now c.deref.result.now (g.R.Rack.disk c.args.rack.now)
stand_mid g c catalog h stand = subst (λ ss. Stand catalog h c.args.journal.now ss (g.R.Rack.disk c.args.rack.now)) (sym c.deref.ensures.value)
    (stand_staged c.args.group.now c.args.stores.now.items c.stage_effects.new.stores.items c.stage_effects.ensures catalog h c.args.journal.now (g.R.Rack.disk c.args.rack.now) stand)

-- all is on the disk behind the closed gates,
there : (g : given.Over) (c : After-deref-2 g) → Told (g.R.Rack.disk c.args.rack.now) → (catalog : Catalog) (h : History) → Stand catalog h c.args.journal.now c.args.stores.now.items (g.R.Rack.disk c.args.rack.now)
    → IsOnDisk c.args.journal.now catalog h (g.R.Rack.disk c.write_all.new.rack)
there g c told catalog h stand = c.in_ok-write_all.ensures.journal told catalog h (stand_mid g c catalog h stand)

has : (g : given.Over) (c : After-deref-2 g) → Told (g.R.Rack.disk c.args.rack.now) → OfEach (λ s. HasOnDisk s (g.R.Rack.disk c.write_all.new.rack)) c.stage_effects.new.stores.items
has g c told = subst (λ ss. OfEach (λ s. HasOnDisk s (g.R.Rack.disk c.write_all.new.rack)) ss) c.deref.ensures.value (c.in_ok-write_all.ensures.stores told)

-- and the files stand there
stand_one : (g : given.Over) (c : After-deref-2 g) → Told (g.R.Rack.disk c.args.rack.now) → (catalog : Catalog) (h : History) → Stand catalog h c.args.journal.now c.args.stores.now.items (g.R.Rack.disk c.args.rack.now)
    → Stand catalog h c.args.journal.now c.stage_effects.new.stores.items (g.R.Rack.disk c.write_all.new.rack)
stand_one g c told catalog h stand = stand_on_disk catalog h c.args.journal.now c.stage_effects.new.stores.items (g.R.Rack.disk c.args.rack.now) (g.R.Rack.disk c.write_all.new.rack)
    (stand_staged c.args.group.now c.args.stores.now.items c.stage_effects.new.stores.items c.stage_effects.ensures catalog h c.args.journal.now (g.R.Rack.disk c.args.rack.now) stand) (there g c told catalog h stand) (has g c told)

pub write_all-requires-clause-are : goal.write_all-requires-clause-are
write_all-requires-clause-are g c = subst AreStores (sym c.deref.ensures.value) (stores_staged c.args.group.now c.args.stores.now.items c.stage_effects.new.stores.items c.stage_effects.ensures c.requires.are)

pub write_all-requires-clause-stand : goal.write_all-requires-clause-stand
write_all-requires-clause-stand g c = λ told.
    let stand = c.requires.stand told in (
      stand.0,
      stand.1,
      subst (λ ss. Stand stand.0 stand.1 c.args.journal.now ss (g.R.Rack.disk c.args.rack.now)) (sym c.deref.ensures.value)
          (stand_staged c.args.group.now c.args.stores.now.items c.stage_effects.new.stores.items c.stage_effects.ensures stand.0 stand.1 c.args.journal.now (g.R.Rack.disk c.args.rack.now) stand.2),
    )

pub returns-in_err-write_all-clause-any_moment : goal.returns-in_err-write_all-clause-any_moment
returns-in_err-write_all-clause-any_moment g c = λ told catalog h stand lacks.
    c.write_all.ensures.any_moment told catalog h
    (subst (λ ss. Stand catalog h c.args.journal.now ss (g.R.Rack.disk c.args.rack.now)) (sym c.deref.ensures.value) (stand_staged c.args.group.now c.args.stores.now.items c.stage_effects.new.stores.items c.stage_effects.ensures catalog h c.args.journal.now (g.R.Rack.disk c.args.rack.now) stand))

pub returns-in_err-write_all-clause-fits : goal.returns-in_err-write_all-clause-fits
returns-in_err-write_all-clause-fits g c = fits_unchanged c.args.stores.now.items c.stage_effects.new.stores.items (effects_unchanged c.args.group.now c.args.stores.now.items c.stage_effects.new.stores.items c.stage_effects.ensures) g.B.Resource c.requires.fits

pub returns-in_err-write_all-clause-good : goal.returns-in_err-write_all-clause-good
returns-in_err-write_all-clause-good g c = good_unchanged c.args.stores.now.items c.stage_effects.new.stores.items (effects_unchanged c.args.group.now c.args.stores.now.items c.stage_effects.new.stores.items c.stage_effects.ensures)

pub returns-in_err-write_all-clause-err : goal.returns-in_err-write_all-clause-err
returns-in_err-write_all-clause-err g c = on_err c.from_residual.result (effects_unchanged c.args.group.now c.args.stores.now.items c.stage_effects.new.stores.items c.stage_effects.ensures)

pub open_on_disk-requires-clause-order : goal.open_on_disk-requires-clause-order
open_on_disk-requires-clause-order g c = subst AreInOrder (sym c.deref-2.ensures.value) (stores_staged c.args.group.now c.args.stores.now.items c.stage_effects.new.stores.items c.stage_effects.ensures c.requires.are).file

pub open_on_disk-requires-clause-on_disk : goal.open_on_disk-requires-clause-on_disk
open_on_disk-requires-clause-on_disk g c = λ told.
    let d = (goal.at.open_on_disk-requires-clause-on_disk g c).After-deref-2 in
    subst (λ ss. OfEach (λ s. HasOnDisk s (g.R.Rack.disk c.write_all.new.rack)) ss) (sym c.deref-2.ensures.value)
    (has g d (told_before (g.R.Rack.disk c.args.rack.now) (g.R.Rack.disk c.write_all.new.rack) c.write_all.ensures.rack.tells told))

pub returns-in_err-open_on_disk-clause-any_moment : goal.returns-in_err-open_on_disk-clause-any_moment
returns-in_err-open_on_disk-clause-any_moment g c = λ told catalog h stand lacks.
    let d = (goal.at.returns-in_err-open_on_disk-clause-any_moment g c).After-deref-2 in
    images_prepared c.args.group.now c.args.stores.now.items c.stage_effects.new.stores.items c.stage_effects.ensures c.calls_make_good_books.ensures.prepare catalog h c.args.journal.now (g.R.Rack.disk c.write_all.new.rack) (g.R.Rack.disk c.open_on_disk.new.rack) c.requires.are c.requires.file
    (g.met.R.Rack.honest c.write_all.new.rack (told_one g d told)) (stand_one g d told catalog h stand)
    (subst (λ ss. RunBy (SameButStores ss) (g.R.Rack.disk c.write_all.new.rack) (g.R.Rack.disk c.open_on_disk.new.rack)) c.deref-2.ensures.value (c.open_on_disk.ensures.others (told_one g d told))) lacks c.requires.bytes c.requires.may
    (g.R.Rack.disk c.args.rack.now) (c.write_all.ensures.rack.follow told).later (c.write_all.ensures.any_moment told catalog h (stand_mid g d catalog h stand))
    (subst (λ ss. EachImage (g.R.Rack.disk c.open_on_disk.new.rack) (g.R.Rack.disk c.write_all.new.rack).moment (AreBeforeOrWith ss)) c.deref-2.ensures.value (c.open_on_disk.ensures.any_moment (told_one g d told)))

pub returns-in_err-open_on_disk-clause-fits : goal.returns-in_err-open_on_disk-clause-fits
returns-in_err-open_on_disk-clause-fits g c = fits_unchanged c.args.stores.now.items c.stage_effects.new.stores.items (effects_unchanged c.args.group.now c.args.stores.now.items c.stage_effects.new.stores.items c.stage_effects.ensures) g.B.Resource c.requires.fits

pub returns-in_err-open_on_disk-clause-good : goal.returns-in_err-open_on_disk-clause-good
returns-in_err-open_on_disk-clause-good g c = good_unchanged c.args.stores.now.items c.stage_effects.new.stores.items (effects_unchanged c.args.group.now c.args.stores.now.items c.stage_effects.new.stores.items c.stage_effects.ensures)

pub returns-in_err-open_on_disk-clause-err : goal.returns-in_err-open_on_disk-clause-err
returns-in_err-open_on_disk-clause-err g c = on_err c.from_residual-in_err-open_on_disk.result (effects_unchanged c.args.group.now c.args.stores.now.items c.stage_effects.new.stores.items c.stage_effects.ensures)

pub returns-in_err-open_on_disk-clause-rack : goal.returns-in_err-open_on_disk-clause-rack
returns-in_err-open_on_disk-clause-rack g c = record {
  follow = λ told.
      let d = (goal.at.returns-in_err-open_on_disk-clause-rack g c).After-deref-2 in
      let told_two = still_told (g.R.Rack.disk c.write_all.new.rack) (g.R.Rack.disk c.open_on_disk.new.rack) c.open_on_disk.ensures.rack.tells (told_one g d told) in
      follow_then (g.R.Rack.disk c.args.rack.now) (g.R.Rack.disk c.write_all.new.rack) (g.R.Rack.disk c.open_on_disk.new.rack) (g.met.R.Rack.honest c.open_on_disk.new.rack told_two)
      (c.write_all.ensures.rack.follow told) (c.open_on_disk.ensures.others (told_one g d told)).follow;
  tells = search rules;
  later = search rules;
  fault = search rules;
}

pub take_effects-requires-clause-may : goal.take_effects-requires-clause-may
take_effects-requires-clause-may g c = effects_may_be_taken c.args.group.now c.args.stores.now.items c.stage_effects.new.stores.items c.stage_effects.ensures c.requires.may

pub take_effects-requires-clause-fits : goal.take_effects-requires-clause-fits
take_effects-requires-clause-fits g c = fits_unchanged c.args.stores.now.items c.stage_effects.new.stores.items (effects_unchanged c.args.group.now c.args.stores.now.items c.stage_effects.new.stores.items c.stage_effects.ensures) g.B.Resource c.requires.fits

pub returns-clause-acknowledged : goal.returns-clause-acknowledged
returns-clause-acknowledged g c = λ told catalog h stand lacks.
    let d = (goal.at.returns-clause-acknowledged g c).After-deref-2 in
    let told_two = still_told (g.R.Rack.disk c.write_all.new.rack) (g.R.Rack.disk c.open_on_disk.new.rack) c.open_on_disk.ensures.rack.tells (told_one g d told) in
    stand_taken c.args.group.now c.args.stores.now.items c.stage_effects.new.stores.items c.stage_effects.ensures c.calls_make_good_books.ensures.prepare catalog h c.args.journal.now (g.R.Rack.disk c.write_all.new.rack) (g.R.Rack.disk c.open_on_disk.new.rack) c.requires.are c.requires.file
    (g.met.R.Rack.honest c.write_all.new.rack (told_one g d told)) (stand_one g d told catalog h stand)
    (subst (λ ss. RunBy (SameButStores ss) (g.R.Rack.disk c.write_all.new.rack) (g.R.Rack.disk c.open_on_disk.new.rack)) c.deref-2.ensures.value (c.open_on_disk.ensures.others (told_one g d told))) lacks c.requires.bytes c.requires.may
    (g.met.R.Rack.honest c.open_on_disk.new.rack told_two) c.take_effects.new.stores.items
    (subst (λ ss. OfEach (λ s. HasStaged s (g.R.Rack.disk c.open_on_disk.new.rack)) ss) c.deref-2.ensures.value (c.in_ok-open_on_disk.ensures.staged (told_one g d told))) c.take_effects.ensures.takes

pub returns-clause-on_disk : goal.returns-clause-on_disk
returns-clause-on_disk g c = λ told catalog h stand.
    let d = (goal.at.returns-clause-on_disk g c).After-deref-2 in
    let told_two = still_told (g.R.Rack.disk c.write_all.new.rack) (g.R.Rack.disk c.open_on_disk.new.rack) c.open_on_disk.ensures.rack.tells (told_one g d told) in
    records_still c.args.group.now c.args.stores.now.items c.stage_effects.new.stores.items c.stage_effects.ensures c.calls_make_good_books.ensures.prepare catalog h c.args.journal.now (g.R.Rack.disk c.write_all.new.rack) (g.R.Rack.disk c.open_on_disk.new.rack) c.requires.are c.requires.file
    (g.met.R.Rack.honest c.write_all.new.rack (told_one g d told)) (stand_one g d told catalog h stand)
    (subst (λ ss. RunBy (SameButStores ss) (g.R.Rack.disk c.write_all.new.rack) (g.R.Rack.disk c.open_on_disk.new.rack)) c.deref-2.ensures.value (c.open_on_disk.ensures.others (told_one g d told)))
    (g.met.R.Rack.honest c.open_on_disk.new.rack told_two) (there g d told catalog h stand)

pub returns-clause-any_moment : goal.returns-clause-any_moment
returns-clause-any_moment g c = λ told catalog h stand lacks.
    let d = (goal.at.returns-clause-any_moment g c).After-deref-2 in
    images_prepared c.args.group.now c.args.stores.now.items c.stage_effects.new.stores.items c.stage_effects.ensures c.calls_make_good_books.ensures.prepare catalog h c.args.journal.now (g.R.Rack.disk c.write_all.new.rack) (g.R.Rack.disk c.open_on_disk.new.rack) c.requires.are c.requires.file
    (g.met.R.Rack.honest c.write_all.new.rack (told_one g d told)) (stand_one g d told catalog h stand)
    (subst (λ ss. RunBy (SameButStores ss) (g.R.Rack.disk c.write_all.new.rack) (g.R.Rack.disk c.open_on_disk.new.rack)) c.deref-2.ensures.value (c.open_on_disk.ensures.others (told_one g d told))) lacks c.requires.bytes c.requires.may
    (g.R.Rack.disk c.args.rack.now) (c.write_all.ensures.rack.follow told).later (c.write_all.ensures.any_moment told catalog h (stand_mid g d catalog h stand))
    (subst (λ ss. EachImage (g.R.Rack.disk c.open_on_disk.new.rack) (g.R.Rack.disk c.write_all.new.rack).moment (AreBeforeOrWith ss)) c.deref-2.ensures.value (c.open_on_disk.ensures.any_moment (told_one g d told)))

pub returns-clause-good : goal.returns-clause-good
returns-clause-good g c = good_with_effects c.calls_make_good_books.ensures.prepare c.args.group.now c.args.stores.now.items c.take_effects.new.stores.items c.requires.bytes c.requires.may (effects_prepared c.args.group.now c.args.stores.now.items c.stage_effects.new.stores.items c.stage_effects.ensures c.take_effects.new.stores.items c.take_effects.ensures.takes)

pub returns-clause-ok : goal.returns-clause-ok
returns-clause-ok g c = effects_prepared c.args.group.now c.args.stores.now.items c.stage_effects.new.stores.items c.stage_effects.ensures c.take_effects.new.stores.items c.take_effects.ensures.takes

pub returns-clause-rack : goal.returns-clause-rack
returns-clause-rack g c = record {
  follow = λ told.
      let d = (goal.at.returns-clause-rack g c).After-deref-2 in
      let told_two = still_told (g.R.Rack.disk c.write_all.new.rack) (g.R.Rack.disk c.open_on_disk.new.rack) c.open_on_disk.ensures.rack.tells (told_one g d told) in
      follow_then (g.R.Rack.disk c.args.rack.now) (g.R.Rack.disk c.write_all.new.rack) (g.R.Rack.disk c.open_on_disk.new.rack) (g.met.R.Rack.honest c.open_on_disk.new.rack told_two)
      (c.write_all.ensures.rack.follow told) (c.open_on_disk.ensures.others (told_one g d told)).follow;
  tells = search rules;
  later = search rules;
  fault = search rules;
}
