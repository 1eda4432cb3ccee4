use Rattle.std.proofs.Common.{ap, refl}
use Rattle.process_disk.specs.Memory.{MemoryDisk}
use Rattle.process_disk.specs.MemoryView.{memory}
use Rattle.headline_tests.proofs.Chained.{stopped_run}
use Rattle.headline_tests.proofs.FoundLeft.{off_itself}
use Rattle.headline_tests.proofs.OneWord.{of_some}
use Rattle.headline_tests.proofs.example.run_and_stopped.Goals as goal

pub returns-clause-left : goal.returns-clause-left
returns-clause-left g c =
    let left = c.in_ok-left in
    let ran = c.in_ok-ran in
    let entry = of_some _ _ _ c.in-Some.is c.in_ok-rack.ensures.entry in
    let uncalled = of_some _ _ _ c.in-Some.is c.in_ok-rack.ensures.uncalled in
    let off = off_itself (memory left.left) _ left.ensures.files in
    stopped_run _ _ _ _ _ (λ rack. refl) c.in-Some.rack ran.ran.rack left.left ran.ran.status _ _ ran.ran.sink entry.0 entry.1 uncalled ran.ensures left.ensures.image off

pub returns-clause-uncalled : goal.returns-clause-uncalled
returns-clause-uncalled g c = ap (λ (m : MemoryDisk). m.made) c.in_ok-left.ensures.files
