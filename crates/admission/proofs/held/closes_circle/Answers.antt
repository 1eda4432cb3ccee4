use Rattle.std.proofs.Common.{true, sym, subst, ◌∙◌}
use Rattle.std.specs.Prelude.{◌≡◌}
use Rattle.process_tree.specs.declared.entry.Entry.{Entry}
use Rattle.process_tree.specs.Conflicts.{Table, do_conflict}
use Rattle.schedule_model.specs.Conflict.{conflict}
use Rattle.hold_tables.specs.Tables.{is_open}
use Rattle.hold_tables.proofs.Places.{each_place}
use Rattle.admission.proofs.Barred.{some_circle}
use Rattle.admission.proofs.WalksBack.{circle-is}
use Rattle.admission.proofs.held.closes_circle.Goals as goal

pub reaches-requires-clause-to : goal.reaches-requires-clause-to
reaches-requires-clause-to c =
    let t = c.args.holds.now in
    let e = c.net_at-other.result in
    subst (λ (x : Entry). is_open t x.process ≡ true) (sym (c.net_at-other.ensures.entry e))
    (each_place (λ (x : Entry). is_open t x.process ≡ true) t.net c.args.place e c.requires.place c.conflicts.ensures.tidy.of_open)

pub returns-then-between-clause-circle : goal.returns-then-between-clause-circle
returns-then-between-clause-circle c is =
    let t = c.args.holds.now in
    let e = c.net_at-other.result in
    let meets = subst (λ (table : Table). conflict (do_conflict table) c.args.own e ≡ true) c.conflicts.ensures.table (sym c.between.ensures ∙ c.if-between.true) in
    let found = some_circle t c.args.own t.net c.args.place e c.requires.place c.net_at-other.ensures.entry meets (sym c.reaches.ensures ∙ is) in
    (found.0, circle-is t c.args.own c.conflicts.ensures.tidy ∙ found.1)
