use Rattle.std.proofs.Common.{refl}
use Rattle.process_disk.specs.MemoryView.{memory}
use Rattle.headline_tests.proofs.Chained.{restarted_chain}
use Rattle.headline_tests.proofs.FoundLeft.{off_itself}
use Rattle.headline_tests.proofs.OneWord.{of_some}
use Rattle.headline_tests.proofs.example.run_served_and_restarted.Goals as goal

pub returns : goal.returns
returns g c =
    let left = c.in_ok-left in
    let served = c.in_ok-served in
    let ended = c.in_ok-answered in
    let first = of_some _ _ _ c.in-Some.is c.in_ok-rack.ensures.left in
    let uncalled = of_some _ _ _ c.in-Some.is c.in_ok-rack.ensures.uncalled in
    let off = off_itself (memory left.left) _ left.ensures.files in
    restarted_chain _ _ _ _ _ (λ rack. refl) c.nothing_is_lost.ensures c.in-Some.rack served.served.rack left.left ended.field-0.rack served.served.status ended.field-0.status _ _
    served.served.sink ended.field-0.sink first uncalled served.ensures left.ensures.image off ended.ensures
