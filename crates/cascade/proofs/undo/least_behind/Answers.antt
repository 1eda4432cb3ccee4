use Rattle.std.proofs.Common.{◌∙◌, sym, ap, arith, List, None, filter, if◌then◌else◌}
use Rattle.process_tree.specs.declared.entry.Entry.{Entry}
use Rattle.process_tree.specs.Conflicts.{Table, do_conflict}
use Rattle.schedule_model.specs.Conflict.{conflict}
use Rattle.hold_tables.specs.Reading.{least_step, lesser}
use Rattle.cascade.proofs.Marking.{rest_back}
use Rattle.cascade.proofs.Steps.{least_head}
use Rattle.cascade.proofs.undo.least_behind.Goals as goal

pub places-preserved : goal.places-preserved
places-preserved c =
    let net = c.args.holds.now.net in
    let x = c.args.x in
    let y = c.net_at.result in
    let after = c.places.invariant.0 in
    let before = c.places.invariant.1 in
    let on = c.places-test.true in
    let rest = rest_back net c.places.at y (omega (arith, after)) before c.net_at.ensures.entry in
    let test = conflict (do_conflict c.args.holds.now.conflicts) x in (
      omega (arith, on),
      omega (arith, before),
      c.least_with-least.ensures
          ∙ ap (λ (t : Table). if conflict (do_conflict t) x y then lesser (y.process, y.step) c.places.least else c.places.least) c.conflicts-conflicts.ensures.table
          ∙ ap (λ o. if test y then lesser (y.process, y.step) o else o) c.places.invariant.2
          ∙ sym (least_head test y _)
          ∙ ap (λ (es : List Entry). least_step None (filter test es)) (sym rest),
    )
