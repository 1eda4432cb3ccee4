use Rattle.std.proofs.Common.{◌≡◌, ◌∙◌, [], IfSome, ap, refl, subst, sym}
use Rattle.process_disk.specs.Memory.{MemoryDisk, disk_of, fresh}
use Rattle.process_disk.specs.MemoryView.{memory}
use Rattle.process_disk.specs.declared.memory.MemoryRack.{MemoryRack}
use Rattle.process_journal.specs.Bodies.{no_history}
use Rattle.commute_table.specs.declared.catalog.Catalog.{Catalog}
use Rattle.headline.specs.Headline.{IsAtEntry}
use Rattle.headline_tests.proofs.Restarted.{restarted_session}
use Rattle.headline_tests.proofs.example.stopped_and_restarted.Goals as goal

pub returns : goal.returns
returns g c =
    let left = c.in_ok-left in
    let played = c.in_ok-played in
    let ended = c.in_ok-answered in
    let entry = subst (λ o. IfSome o (λ (rack : MemoryRack). (d : Catalog) × IsAtEntry d no_history (disk_of (memory rack)))) c.in-Some.is c.in_ok-rack.ensures.entry in
    let uncalled = subst (λ o. IfSome o (λ (rack : MemoryRack). (memory rack).made ≡ [])) c.in-Some.is c.in_ok-rack.ensures.uncalled in
    let off = left.ensures.files ∙ ap (λ fs. fresh fs []) (sym (ap (λ (m : MemoryDisk). m.first) left.ensures.files)) in
    restarted_session _ _ _ _ _ c.stops_are_restored.ensures.stops (λ rack. refl) c.in-Some.rack played.played.rack left.left ended.field-0.rack played.played.status ended.field-0.status c.args.call _
    played.played.sink ended.field-0.sink entry.0 entry.1 uncalled played.ensures left.ensures.image off ended.ensures
