-- No catalog differs from itself: what is refused of it is want of memory.
use Rattle.std.proofs.Common.{◌≡◌, Some, refl}
use Rattle.commute_table.specs.declared.catalog.Catalog.{Catalog}
use Rattle.commute_table.specs.Bytes.{bytes_of}
use Rattle.command_refusals.specs.declared.refusal.Refusal.{Refusal}
use Rattle.command_refusals.specs.declared.refusal.Refusal.TheVariants as refusals
use Rattle.scenario_run.specs.Opening.{IsOther, first_difference}
use Rattle.scenario_run.proofs.Differences.{none_of_itself}

pub own_catalog : (c : Catalog) (r : Refusal) → IsOther c c r → r ≡ refusals.NoMemory
own_catalog c (refusals.CatalogDiffers n) why = absurd (let none = none_of_itself (bytes_of c) in let some : first_difference (bytes_of c) (bytes_of c) ≡ Some n = why in cc)
own_catalog c refusals.NoMemory why = refl
own_catalog c (refusals.Unfinished i) why = absurd why
own_catalog c refusals.BadWords why = absurd why
own_catalog c (refusals.Text e) why = absurd why
own_catalog c (refusals.Scenario fault) why = absurd why
own_catalog c (refusals.Commuting a b) why = absurd why
own_catalog c (refusals.BadLine n) why = absurd why
own_catalog c (refusals.Limit q n) why = absurd why
own_catalog c (refusals.File fault) why = absurd why
own_catalog c (refusals.BookDiffers q n) why = absurd why
own_catalog c (refusals.Report fault) why = absurd why
own_catalog c refusals.ReadFault why = absurd why
own_catalog c refusals.DiskFault why = absurd why
own_catalog c (refusals.Exhausted i step) why = absurd why
