use Rattle.std.proofs.Common.{◌<◌, ◌∙◌, length, slice_set, sym, subst, length-set}
use Rattle.process_tree.specs.Order.{Each}
use Rattle.cascade.specs.declared.marks.Mark.TheVariants.{Done}
use Rattle.process_tree.specs.Conflicts.{do_conflict}
use Rattle.cascade.specs.Sets.{IsMarked}
use Rattle.cascade.specs.Walking.{IsWithin, drags_from}
use Rattle.cascade.proofs.OnTheWay.{below, fewer_left, left, looked_done, looked_marked, net_within, one_looked_at, same_left}
use Rattle.cascade.proofs.spread.go_on.Goals as goal

pub begin-requires : goal.begin-requires
begin-requires c = below c.args.holds.now (length c.args.marks.now) c.args.root.process c.requires.open c.requires.root

pub drag_along-requires-clause-net : goal.drag_along-requires-clause-net
drag_along-requires-clause-net c =
    let same = length-set c.waiting.marks c.in-Some.next Done ∙ c.waiting.invariant.1 in
    subst (λ n. Each (IsWithin c.args.holds.now.conflicts n) c.args.holds.now.net) (sym same) (net_within c.args.holds.now (length c.args.marks.now) c.requires.tidy c.requires.open)

pub waiting-smaller : goal.waiting-smaller
waiting-smaller c =
    let looked = slice_set c.waiting.marks c.in-Some.next Done in
    let waits = c.in-Some.ensures.some in
    subst (λ n. n < left c.waiting.marks) (sym (same_left c.drag_along.new.marks looked c.drag_along.ensures.count c.drag_along.ensures.looked_at)) (fewer_left c.waiting.marks c.in-Some.next waits.0 waits.2)

pub waiting-preserved : goal.waiting-preserved
waiting-preserved c =
    let looked = slice_set c.waiting.marks c.in-Some.next Done in
    let waits = c.in-Some.ensures.some in
    let t = c.args.holds.now in
    let gathered = c.args.running.now in
    let dragged = subst (λ stay. IsMarked (drags_from (do_conflict t.conflicts) gathered c.in-Some.next stay t.net) looked c.drag_along.new.marks) c.staying-stay.ensures c.drag_along.ensures in (
      one_looked_at t gathered c.args.root.process c.args.root.count c.in-Some.next c.waiting.marks looked c.drag_along.new.marks c.requires.tidy c.requires.same c.waiting.invariant.0 waits.1
          (looked_marked c.waiting.marks c.in-Some.next waits.0 waits.1) (looked_done c.waiting.marks c.in-Some.next waits.0) dragged,
      c.drag_along.ensures.count ∙ length-set c.waiting.marks c.in-Some.next Done ∙ c.waiting.invariant.1,
    )
