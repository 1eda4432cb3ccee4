use Rattle.std.proofs.Common.{◌≡◌, ◌∷◌, ◌∙◌, refl, rules}
use Rattle.process_disk.specs.Memory.{syncing}
use Rattle.process_disk.specs.MemoryLaws.{read_is_image}
use Rattle.process_disk.specs.MemoryView.{memory}
use Rattle.process_disk.proofs.Kept.{looks_by_sync}
use Rattle.process_disk.proofs.memory_rack.MemoryRackRack.sync.Goals as goal

pub returns-in-Ok-clause-looks : goal.returns-in-Ok-clause-looks
returns-in-Ok-clause-looks c =
    let old = memory c.args.self.now in
    let new = memory c.finish_sync.new.self in
    let sound = c.args.self.now.sound in
    let first : new.first ≡ old.first = c.finish_sync.ensures.same.first ∙ c.begin.ensures.same.first in
    let made : new.made ≡ syncing old.calls ∷ old.made = search rules in
    record {
      looks = λ told. looks_by_sync old new old.calls sound.nine (read_is_image old.first old.made sound.nine sound.placed) first made;
      tells = refl;
    }
