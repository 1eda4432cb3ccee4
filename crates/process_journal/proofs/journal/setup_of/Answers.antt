use Rattle.std.proofs.Common.{length, ap, arith}
use Rattle.process_journal.proofs.CatalogSize.{catalog_is_short}
use Rattle.process_journal.proofs.journal.setup_of.Goals as goal

pub returns-clause-short : goal.returns-clause-short
returns-clause-short c = let short = catalog_is_short c.args.catalog.now c.requires in omega (arith, short, ap length c.in_ok-bytes.ensures, ap length c.new.ensures)
