use Rattle.std.proofs.Common.{◌≡◌, ◌∙◌, [], length, None, ap, sym, append-nil, arith}
use Rattle.commute_table.specs.Bytes.{bytes_of}
use Rattle.process_journal.proofs.CatalogSize.{catalog_is_short}
use Rattle.scenario_run.specs.Opening.{first_difference}
use Rattle.scenario_run.proofs.Differences.{same_where_none}
use Rattle.scenario_run.proofs.opening.same_catalog.Goals as goal

pub first_difference-requires : goal.first_difference-requires
first_difference-requires c =
    let few = catalog_is_short c.args.own.now c.requires.own in
    let read = ap length c.deref.ensures.value in
    let bytes = ap length c.in_ok-own.ensures in
    record { short = omega arith }

pub returns-in-None-clause-same : goal.returns-in-None-clause-same
returns-in-None-clause-same c =
    let one = c.deref.ensures.value in
    let two = c.deref-2.ensures.value in
    let own = c.in_ok-own.ensures in
    let other = c.in_ok-other.ensures in
    let found = c.first_difference.ensures in
    let is = c.in-None.is in
    let none : first_difference (bytes_of c.args.own.now) (bytes_of c.args.c.now) ≡ None = cc in
    let same = same_where_none (bytes_of c.args.own.now) (bytes_of c.args.c.now) none in
    (c.no_catalog_begins_another.ensures c.args.own.now c.args.c.now [] c.requires.own c.requires.other (sym same ∙ sym (append-nil (bytes_of c.args.own.now)))).1
