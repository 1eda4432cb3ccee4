use Rattle.std.proofs.Common.{◌≡◌, [], IfSome, ap, refl}
use Rattle.std.proofs.lemmas.Result.{IfOk-weaker}
use Rattle.process_disk.specs.Memory.{MemoryDisk, disk_of, files_after, fresh}
use Rattle.process_disk.specs.MemoryView.{memory}
use Rattle.process_journal.specs.Bodies.{no_history}
use Rattle.commute_table.specs.declared.catalog.Catalog.{Catalog}
use Rattle.headline.specs.Headline.{IsAtEntry}
use Rattle.headline_tests.proofs.Made.{fresh_at_entry, made_well, some_so}
use Rattle.headline_tests.proofs.example.made.Goals as goal

pub returns-clause-entry : goal.returns-clause-entry
returns-clause-entry g c =
    let told = c.in_ok-told.told in
    let files = files_after (memory told.rack).first (memory told.rack).made in
    let made = made_well _ _ _ _ _ c.in_ok-new.field-0 told.rack told.status told.sink refl c.if-told-ne0.false c.in_ok-told.ensures in
    IfOk-weaker c.switched_off.result (λ o. IfSome o (λ off. memory off ≡ fresh files [])) (λ o. IfSome o (λ rack. (d : Catalog) × IsAtEntry d no_history (disk_of (memory rack))))
    (λ o some. some_so o (λ off. memory off ≡ fresh files []) (λ rack. (d : Catalog) × IsAtEntry d no_history (disk_of (memory rack)))
    (λ off is. (made.0, fresh_at_entry made.0 files (memory off) is made.1)) some) c.switched_off.ensures

pub returns-clause-uncalled : goal.returns-clause-uncalled
returns-clause-uncalled g c =
    let told = c.in_ok-told.told in
    let files = files_after (memory told.rack).first (memory told.rack).made in
    IfOk-weaker c.switched_off.result (λ o. IfSome o (λ off. memory off ≡ fresh files [])) (λ o. IfSome o (λ rack. (memory rack).made ≡ []))
    (λ o some. some_so o (λ off. memory off ≡ fresh files []) (λ rack. (memory rack).made ≡ []) (λ off is. ap (λ (m : MemoryDisk). m.made) is) some) c.switched_off.ensures
