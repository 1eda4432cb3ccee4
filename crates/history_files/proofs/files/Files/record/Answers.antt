use Rattle.std.proofs.Common.{◌∙◌, subst, OnOk}
use Rattle.process_disk.specs.Disk.{Told}
use Rattle.process_disk.specs.Images.{EachImage}
use Rattle.schedule_model.specs.declared.history.History.{History}
use Rattle.commute_table.specs.declared.catalog.Catalog.{Catalog}
use Rattle.process_journal.specs.Journals.{IsHistoryUnder, IsMadeBy}
use Rattle.history_files.specs.Sound.{IsSoundForEither}
use Rattle.history_files.specs.Standing.{Stand, ComeTo}
use Rattle.history_files.proofs.Answered.{OnOk-then}
use Rattle.history_files.proofs.OneRecord.{images_of_record, stands_with_record}
use Rattle.history_files.proofs.files.Files.record.Goals as goal

pub returns-clause-acknowledged : goal.returns-clause-acknowledged
returns-clause-acknowledged g c =
    subst (λ f. Told (g.R.Rack.disk f.rack) → (c' : Catalog) (h after : History) → Stand c' h f.journal f.stores (g.R.Rack.disk f.rack) → IsMadeBy c' c.args.entry.now h after → IsHistoryUnder c' after → ComeTo c'.ops after f.stores
    → OnOk c.append.result (Stand c' after c.append.new.self c.self.inside.stores.items (g.R.Rack.disk c.append.new.rack)))
    c.self.view_is
    (λ told c' h after stand made may come. OnOk-then
    (stands_with_record c' h after c.self.inside.journal c.append.new.self c.self.inside.stores.items (g.R.Rack.disk c.self.inside.rack) (g.R.Rack.disk c.append.new.rack)
    (g.met.R.Rack.honest c.self.inside.rack told) (g.met.R.Rack.honest c.append.new.rack (c.append.ensures.rack.tells ∙ told)) c.self.invariant.0 stand (c.append.ensures.others told) come)
    c.append.result (c.append.ensures.acknowledged told c' h after stand.journal made may))

pub returns-clause-any_moment : goal.returns-clause-any_moment
returns-clause-any_moment g c =
    subst (λ f. Told (g.R.Rack.disk f.rack) → (c' : Catalog) (h after : History) → Stand c' h f.journal f.stores (g.R.Rack.disk f.rack) → IsMadeBy c' c.args.entry.now h after → IsHistoryUnder c' after → ComeTo c'.ops after f.stores
    → EachImage (g.R.Rack.disk c.append.new.rack) (g.R.Rack.disk f.rack).moment (IsSoundForEither c' h after))
    c.self.view_is
    (λ told c' h after stand made may come.
    images_of_record c' h after c.self.inside.journal c.self.inside.stores.items (g.R.Rack.disk c.self.inside.rack) (g.R.Rack.disk c.append.new.rack)
    (g.met.R.Rack.honest c.self.inside.rack told) c.self.invariant.0 stand (c.append.ensures.others told) may come
    (c.append.ensures.any_moment told c' h after stand.journal made may))
