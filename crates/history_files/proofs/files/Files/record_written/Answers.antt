use Rattle.std.proofs.Common.{◌≡◌, ◌∙◌, List, map, subst, OnOk}
use Rattle.process_disk.specs.Disk.{Told}
use Rattle.process_disk.specs.Images.{EachImage}
use Rattle.schedule_model.specs.declared.history.History.{History}
use Rattle.commute_table.specs.declared.catalog.Catalog.{Catalog}
use Rattle.journal_records.specs.declared.record.Record.{Record}
use Rattle.journal_records.specs.Bytes.{bytes_of}
use Rattle.process_journal.specs.Journals.{AreMadeBy}
use Rattle.process_journal.specs.Staged.{IsOnDisk}
use Rattle.process_journal.proofs.BodiesPushed.{are_good}
use Rattle.history_files.specs.Sound.{IsSoundForEither}
use Rattle.history_files.specs.Standing.{Stand, ComeTo}
use Rattle.history_files.proofs.Answered.{OnOk-then}
use Rattle.history_files.proofs.OneRecord.{images_of_record, stands_with_record}
use Rattle.history_files.proofs.files.Files.record_written.Goals as goal

pub returns-clause-acknowledged : goal.returns-clause-acknowledged
returns-clause-acknowledged g c =
    subst (λ f. Told (g.R.Rack.disk f.rack) → (c' : Catalog) (h after : History) (rs : List Record) → Stand c' h f.journal f.stores (g.R.Rack.disk f.rack) → IsOnDisk f.journal c' h (g.R.Rack.disk f.rack) → f.journal.staged ≡ map bytes_of rs → AreMadeBy c' rs h after → ComeTo c'.ops after f.stores
    → OnOk c.open_staged.result (Stand c' after c.open_staged.new.self c.self.inside.stores.items (g.R.Rack.disk c.open_staged.new.rack)))
    c.self.view_is
    (λ told c' h after rs stand there are made come. OnOk-then
    (stands_with_record c' h after c.self.inside.journal c.open_staged.new.self c.self.inside.stores.items (g.R.Rack.disk c.self.inside.rack) (g.R.Rack.disk c.open_staged.new.rack)
    (g.met.R.Rack.honest c.self.inside.rack told) (g.met.R.Rack.honest c.open_staged.new.rack (c.open_staged.ensures.rack.tells ∙ told)) c.self.invariant.0 stand (c.open_staged.ensures.others told) come)
    c.open_staged.result (c.open_staged.ensures.acknowledged told c' h after rs there are made))

pub returns-clause-any_moment : goal.returns-clause-any_moment
returns-clause-any_moment g c =
    subst (λ f. Told (g.R.Rack.disk f.rack) → (c' : Catalog) (h after : History) (rs : List Record) → Stand c' h f.journal f.stores (g.R.Rack.disk f.rack) → IsOnDisk f.journal c' h (g.R.Rack.disk f.rack) → f.journal.staged ≡ map bytes_of rs → AreMadeBy c' rs h after → ComeTo c'.ops after f.stores
    → EachImage (g.R.Rack.disk c.open_staged.new.rack) (g.R.Rack.disk f.rack).moment (IsSoundForEither c' h after))
    c.self.view_is
    (λ told c' h after rs stand there are made come.
    images_of_record c' h after c.self.inside.journal c.self.inside.stores.items (g.R.Rack.disk c.self.inside.rack) (g.R.Rack.disk c.open_staged.new.rack)
    (g.met.R.Rack.honest c.self.inside.rack told) c.self.invariant.0 stand (c.open_staged.ensures.others told) (are_good c' rs h after stand.journal.history made) come
    (c.open_staged.ensures.any_moment told c' h after rs there are made))
