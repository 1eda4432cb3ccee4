use Rattle.std.proofs.Common.{◌<◌, ◌-◌, ◌||◌, ◌∷◌, [], length, List, ap, ◌∙◌, sym, subst, arith}
use Rattle.process_tree.specs.declared.entry.Entry.{Entry}
use Rattle.process_tree.specs.Conflicts.{Table, do_conflict}
use Rattle.cascade.specs.Sets.{marked}
use Rattle.cascade.specs.Walking.{IsWithin, has_hit}
use Rattle.cascade.proofs.Marking.{each_at, hit_before, rest_back}
use Rattle.cascade.proofs.drag.drag_behind.Goals as goal

pub drag-requires-clause-later : goal.drag-requires-clause-later
drag-requires-clause-later c =
    let net = c.args.holds.now.net in
    let table = c.args.holds.now.conflicts in
    let n = length c.args.marks.now in
    let before = c.places.invariant.1 in
    let after = c.places.invariant.0 in
    let less : c.places.at - 1 < length net = omega (arith, before, after) in
    let its = each_at (IsWithin table n) net (c.places.at - 1) c.net_at.result less c.requires.later in
    let here : IsWithin table n c.net_at.result = subst (IsWithin table n) (sym (c.net_at.ensures.entry c.net_at.result)) its in
    subst (λ (t : Table). IsWithin t (length c.places.marks) c.net_at.result) (sym c.conflicts-conflicts.ensures.table) (subst (λ m. IsWithin table m c.net_at.result) (sym c.places.auto.marks) here)

pub places-preserved : goal.places-preserved
places-preserved c =
    let net = c.args.holds.now.net in
    let table = c.args.holds.now.conflicts in
    let x = c.args.x in
    let before = c.places.invariant.1 in
    let after = c.places.invariant.0 in
    let on = c.places-test.true in
    let rest = rest_back net c.places.at c.net_at.result (omega (arith, after)) before c.net_at.ensures.entry in (
      omega (arith, on),
      omega (arith, before),
      (λ k. hit_before (marked c.args.marks.now k) _ (marked c.places.marks k) _ (marked c.drag.new.marks k) (c.places.invariant.2 k)
          (c.drag.ensures.in_set k ∙ ap (λ (t : Table). marked c.places.marks k || has_hit (do_conflict t) x (c.net_at.result ∷ []) k) c.conflicts-conflicts.ensures.table)
          ∙ ap (λ (es : List Entry). marked c.args.marks.now k || has_hit (do_conflict table) x es k) (sym rest)),
      λ k. c.drag.ensures.looked_at k ∙ c.places.invariant.3 k,
    )
