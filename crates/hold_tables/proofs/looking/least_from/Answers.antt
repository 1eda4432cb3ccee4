use Rattle.std.proofs.Common.{◌<◌, sym, ap, subst, ◌∙◌}
use Rattle.std.specs.Prelude.{if◌then◌else◌, map, nat_le}
use Rattle.hold_tables.specs.Tables.{OpenProcess}
use Rattle.hold_tables.specs.Reading.{least_or, lesser_number}
use Rattle.process_tree.specs.Order.{Each}
use Rattle.hold_tables.proofs.Entries.{each_more}
use Rattle.hold_tables.proofs.Places.{least-push}
use Rattle.hold_tables.proofs.looking.least_from.Goals as goal

pub rows-preserved : goal.rows-preserved
rows-preserved c =
    let from = c.args.from in
    let last = c.in-Some.last.now in
    record {
      numbers = λ each. c.rows.invariant.numbers (subst (Each (λ r. r.process < 4294967296)) (sym c.in-Some.ensures.cases.0)
          (each_more (λ r. r.process < 4294967296) c.in-Some.front.now last each (subst (λ n. n < 4294967296) c.process.ensures c.process.type_inv)));
      least =
          ap (λ o. least_or o from (map (λ (r : OpenProcess). r.process) c.in-Some.front.now)) (c.least_with-least.ensures ∙ ap (λ n. if nat_le from n then lesser_number n c.rows.least else c.rows.least) c.process.ensures)
          ∙ sym (least-push c.rows.least from c.in-Some.front.now c.in-Some.last.now) ∙ ap (λ rs. least_or c.rows.least from (map (λ (r : OpenProcess). r.process) rs)) (sym c.in-Some.ensures.cases.0) ∙ c.rows.invariant.least;
    }
