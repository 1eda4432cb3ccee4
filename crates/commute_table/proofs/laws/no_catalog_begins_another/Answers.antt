use Rattle.commute_table.proofs.CatalogLaws.{none_begins_another}
use Rattle.commute_table.proofs.laws.no_catalog_begins_another.Goals as goal

pub returns : goal.returns
returns c = none_begins_another
