use Rattle.std.proofs.Common.{◌≡◌, ◌∷◌, ◌∙◌, refl, rules}
use Rattle.process_disk.specs.Memory.{writing}
use Rattle.process_disk.specs.MemoryView.{memory}
use Rattle.process_disk.proofs.Kept.{writes_by_write}
use Rattle.process_disk.proofs.memory_rack.MemoryRackRack.write_at.Goals as goal

pub returns-then-fails-clause-writes : goal.returns-then-fails-clause-writes
returns-then-fails-clause-writes c =
    let old = memory c.args.self.now in
    let new = memory c.fail.new.self in
    let first : new.first ≡ old.first = c.fail.ensures.fault.same.first ∙ c.write.ensures.same.first ∙ c.begin-fails.ensures.same.first in
    let made : new.made ≡ writing old.calls c.args.file c.args.at c.args.bytes.now ∷ old.made = search rules in
    record { writes = λ told. writes_by_write old new old.calls _ _ _ c.args.self.now.sound.nine c.requires.file c.requires.place first made; tells = refl }

pub returns-else-fails-clause-writes : goal.returns-else-fails-clause-writes
returns-else-fails-clause-writes c =
    let old = memory c.args.self.now in
    let new = memory c.write.new.self in
    let first : new.first ≡ old.first = c.write.ensures.same.first ∙ c.begin-fails.ensures.same.first in
    let made : new.made ≡ writing old.calls c.args.file c.args.at c.args.bytes.now ∷ old.made = search rules in
    record { writes = λ told. writes_by_write old new old.calls _ _ _ c.args.self.now.sound.nine c.requires.file c.requires.place first made; tells = refl }
