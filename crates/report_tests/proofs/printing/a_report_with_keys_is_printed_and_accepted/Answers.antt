use Rattle.std.proofs.Common.{refl, ap, subst, sym, arith}
use Rattle.commute_table.specs.Operations.{IsCatalog}
use Rattle.schedule_model.specs.declared.history.History.{History}
use Rattle.process_report.specs.KeyedExamples.{goods}
use Rattle.report_tests.proofs.PlannedHistory.{two_goods-is_planned}
use Rattle.report_tests.proofs.printing.a_report_with_keys_is_printed_and_accepted.Goals as goal

is_catalog : IsCatalog goods
is_catalog = record { version = refl; few = omega arith; good = refl; own_names = refl; table = refl; of_all = refl; modes = refl }

pub report-requires-clause-catalog : goal.report-requires-clause-catalog
report-requires-clause-catalog g c = subst IsCatalog (sym c.catalog_of_goods-catalog.ensures) is_catalog

pub report-requires-clause-planned : goal.report-requires-clause-planned
report-requires-clause-planned g c =
    rw (c.catalog_of_goods-catalog.ensures, ap (λ (h : History). h.plans) c.two_goods-history.ensures, ap (λ (h : History). h.events) c.two_goods-history.ensures) two_goods-is_planned
