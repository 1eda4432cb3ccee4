use Rattle.std.proofs.Common.{◌≢◌, ◌∙◌, [], subst, sym, OnOk, rules}
use Rattle.process_disk.specs.Disk.{Told}
use Rattle.process_disk.specs.Images.{EachImage, ImagesFollow, OthersAsBefore}
use Rattle.schedule_model.specs.declared.history.History.{History}
use Rattle.commute_table.specs.declared.catalog.Catalog.{Catalog}
use Rattle.process_journal.specs.Staged.{IsOnDisk}
use Rattle.history_files.specs.Sound.{IsSound}
use Rattle.history_files.specs.Standing.{Stand, StandForSome}
use Rattle.history_files.proofs.Answered.{OnOk-then}
use Rattle.history_files.proofs.OneRecord.{stands_with_record}
use Rattle.history_files.proofs.WrittenGroups.{images_of_journal, open_written}
use Rattle.history_files.proofs.files.Files.write_staged.Goals as goal

pub write_records-requires-clause-file : goal.write_records-requires-clause-file
write_records-requires-clause-file g c = c.self.invariant.1

pub write_records-requires-clause-staged : goal.write_records-requires-clause-staged
write_records-requires-clause-staged g c = subst (λ f. f.journal.staged ≢ []) (sym c.self.view_is) c.requires.staged

pub write_records-requires-clause-open : goal.write_records-requires-clause-open
write_records-requires-clause-open g c = λ told.
    let stand = subst (λ f. Told (g.R.Rack.disk f.rack) → StandForSome f.journal f.stores (g.R.Rack.disk f.rack)) (sym c.self.view_is) c.requires.stand told in
    open_written stand.0 stand.1 c.self.inside.journal c.self.inside.stores.items c.self.invariant.0 c.self.invariant.1 (g.R.Rack.disk c.self.inside.rack) stand.2

pub returns-clause-acknowledged : goal.returns-clause-acknowledged
returns-clause-acknowledged g c =
    subst (λ f. Told (g.R.Rack.disk f.rack) → (c' : Catalog) (h : History) → Stand c' h f.journal f.stores (g.R.Rack.disk f.rack)
    → OnOk c.write_records.result (Stand c' h c.self.inside.journal c.self.inside.stores.items (g.R.Rack.disk c.write_records.new.rack))) c.self.view_is
    (λ told c' h stand. OnOk-then (λ there.
    stands_with_record c' h h c.self.inside.journal c.self.inside.journal c.self.inside.stores.items (g.R.Rack.disk c.self.inside.rack) (g.R.Rack.disk c.write_records.new.rack)
    (g.met.R.Rack.honest c.self.inside.rack told) (g.met.R.Rack.honest c.write_records.new.rack (c.write_records.ensures.rack.tells ∙ told)) c.self.invariant.0 stand (c.write_records.ensures.others told) stand.books
    (record { history = there.history; log = there.log.stands }))
    c.write_records.result (c.write_records.ensures.on_disk told c' h stand.journal))

pub returns-clause-on_disk : goal.returns-clause-on_disk
returns-clause-on_disk g c =
    subst (λ f. Told (g.R.Rack.disk f.rack) → (c' : Catalog) (h : History) → Stand c' h f.journal f.stores (g.R.Rack.disk f.rack)
    → OnOk c.write_records.result (IsOnDisk c.self.inside.journal c' h (g.R.Rack.disk c.write_records.new.rack))) c.self.view_is
    (λ told c' h stand. c.write_records.ensures.on_disk told c' h stand.journal)

pub returns-clause-any_moment : goal.returns-clause-any_moment
returns-clause-any_moment g c =
    subst (λ f. Told (g.R.Rack.disk f.rack) → (c' : Catalog) (h : History) → Stand c' h f.journal f.stores (g.R.Rack.disk f.rack)
    → EachImage (g.R.Rack.disk c.write_records.new.rack) (g.R.Rack.disk f.rack).moment (IsSound c' h)) c.self.view_is
    (λ told c' h stand.
    images_of_journal c' h c.self.inside.journal c.self.inside.stores.items c.self.invariant.0 c.self.invariant.1 (g.R.Rack.disk c.self.inside.rack) (g.R.Rack.disk c.write_records.new.rack)
    (g.met.R.Rack.honest c.self.inside.rack told) stand (c.write_records.ensures.others told) (c.write_records.ensures.any_moment told c' h stand.journal))

pub returns-clause-others : goal.returns-clause-others
returns-clause-others g c =
    subst (λ f. Told (g.R.Rack.disk f.rack) → OthersAsBefore 0 (g.R.Rack.disk f.rack) (g.R.Rack.disk c.write_records.new.rack)) c.self.view_is c.write_records.ensures.others

pub returns-clause-rack : goal.returns-clause-rack
returns-clause-rack g c = record {
  follow =
      subst (λ f. Told (g.R.Rack.disk f.rack) → ImagesFollow (g.R.Rack.disk f.rack) (g.R.Rack.disk c.write_records.new.rack)) c.self.view_is (λ told. (c.write_records.ensures.others told).follow);
  tells = search rules;
  later = search rules;
  fault = search rules;
}
