use Rattle.std.proofs.Common.{subst}
use Rattle.process_disk.specs.Disk.{Told}
use Rattle.process_disk.specs.Images.{EachImage}
use Rattle.schedule_model.specs.declared.history.History.{History}
use Rattle.commute_table.specs.declared.catalog.Catalog.{Catalog}
use Rattle.history_files.specs.Sound.{IsSound}
use Rattle.history_files.specs.Standing.{Stand}
use Rattle.history_files.proofs.SoundImages.{sound_now, sound_each}
use Rattle.history_files.proofs.files.Files.soundness_holds.Goals as goal

pub returns-clause-read : goal.returns-clause-read
returns-clause-read g c =
    subst (λ f. Told (g.R.Rack.disk f.rack) → (c' : Catalog) (h : History) → Stand c' h f.journal f.stores (g.R.Rack.disk f.rack) → IsSound c' h (g.R.Rack.disk f.rack).files)
    c.self.view_is
    (λ told c' h stand. sound_now c' h c.self.inside.journal c.self.inside.stores.items (g.R.Rack.disk c.self.inside.rack) c.self.invariant.0 stand c.self.invariant.1)

pub returns-clause-each : goal.returns-clause-each
returns-clause-each g c =
    subst (λ f. Told (g.R.Rack.disk f.rack) → (c' : Catalog) (h : History) → Stand c' h f.journal f.stores (g.R.Rack.disk f.rack) → EachImage (g.R.Rack.disk f.rack) (g.R.Rack.disk f.rack).moment (IsSound c' h))
    c.self.view_is
    (λ told c' h stand. sound_each c' h c.self.inside.journal c.self.inside.stores.items (g.R.Rack.disk c.self.inside.rack) c.self.invariant.0 stand c.self.invariant.1)
