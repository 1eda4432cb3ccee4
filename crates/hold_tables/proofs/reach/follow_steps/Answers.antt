use Rattle.std.proofs.Common.{◌∙◌, ◌++◌, List, Option, ap, subst, sym, not, filter}
use Rattle.std.specs.Option.{option_to_list}
use Rattle.process_tree.specs.declared.entry.Entry.{Entry}
use Rattle.process_tree.specs.Conflicts.{do_conflict}
use Rattle.process_tree.specs.Order.{Each}
use Rattle.hold_tables.specs.Tables.{OpenProcess}
use Rattle.hold_tables.specs.Walks.{IsPlacedIf, arrows_by, steps_under_way}
use Rattle.hold_tables.proofs.Arrows.{arrows_append, no_steps, steps_first}
use Rattle.hold_tables.proofs.Extended.{extended_on}
use Rattle.hold_tables.proofs.reach.follow_steps.Goals as goal

pub rows-preserved : goal.rows-preserved
rows-preserved c =
    let table = do_conflict c.args.conflicts.now in
    let x = c.args.x in
    let row = c.in-Some.row.now in
    let after = c.in-Some.after.now in
    let is = c.in-Some.ensures.cases.0 in
    let before = c.rows.invariant in
    let first : List Entry = filter (λ (e : Entry). not e.undo) (option_to_list c.running.result) in (
      (c.follow_step.ensures.count ∙ before.0.0, before.0.1, before.0.2),
      (subst (Each (λ (r : OpenProcess). IsPlacedIf c.args.conflicts.now c.args.rows.now r.running)) is before.1).1,
      λ new e. before.2 new (extended_on c.args.rows.now (arrows_by table x first) (arrows_by table x (steps_under_way after)) (arrows_by table x (steps_under_way c.rows.rest.now)) c.rows.walks c.follow_step.new.walks new
          (λ i k. ap (λ (rs : List OpenProcess). arrows_by table x (steps_under_way rs) i k) is
          ∙ ap (λ (es : List Entry). arrows_by table x es i k) (steps_first row after ∙ ap (λ (o : Option Entry). filter (λ (e : Entry). not e.undo) (option_to_list o) ++ steps_under_way after) (sym c.running.ensures))
          ∙ arrows_append table x first (steps_under_way after) i k) c.follow_step.ensures e),
    )

pub returns : goal.returns
returns c = c.rows.invariant.2 c.rows.walks (no_steps c.args.rows.now (do_conflict c.args.conflicts.now) c.args.x c.rows.rest.now c.rows.walks c.in_default.ensures.cases)
