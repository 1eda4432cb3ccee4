use Rattle.std.proofs.Common.{◌+◌, ◌||◌, ◌++◌, ℕ, Bool, List, drop, sym, ap, ◌∙◌, arith}
use Rattle.std.proofs.Math.Bool.{or_assoc}
use Rattle.process_tree.specs.declared.entry.Entry.{Entry}
use Rattle.process_tree.specs.Conflicts.{do_conflict}
use Rattle.cascade.specs.Sets.{done, marked}
use Rattle.cascade.specs.Walking.{drags_from, has_hit}
use Rattle.cascade.specs.declared.marks.Mark.{Mark}
use Rattle.cascade.proofs.Dragging.{of_another, stays, taken_back}
use Rattle.cascade.proofs.Marking.{rest_at}
use Rattle.cascade.proofs.drag.drag_along.Goals as goal
use Rattle.cascade.proofs.drag.drag_along.Goals.{then-net_at-process+then-left-eq0, then-net_at-process+else-left-eq0, else-net_at-process}

pub places-preserved : goal.places-preserved
places-preserved c =
    let net = c.args.holds.now.net in
    let table = do_conflict c.args.holds.now.conflicts in
    let running = c.args.running.now in
    let j = c.args.process in
    let x = c.net_at.result in
    let after = drop (c.places.place + 1) net in
    let on = c.places-test.true in
    let end = c.net_len-end.ensures.len in
    let rest = rest_at net c.places.place x (omega (arith, on, end)) c.net_at.ensures.entry in
    let within = c.places.invariant.0 in
    elim c.if-net_at-process.branch [
      | then-net_at-process+then-left-eq0 w ↦ let dragged = w.drag_at.ensures x (c.net_at.ensures.entry x) in (
        omega (arith, on, end),
        (λ k. ap (λ (m : List Mark). marked m k || drags_from table running j c.if-net_at-process.left after k) w.marks-is
            ∙ ap (λ (n : ℕ). marked w.drag_at.new.marks k || drags_from table running j n after k) w.left-is
            ∙ ap (λ (t : Bool). t || drags_from table running j c.places.left after k) (dragged.in_set k)
            ∙ or_assoc (marked c.places.marks k) (has_hit table x (after ++ running) k) (drags_from table running j c.places.left after k)
            ∙ ap (marked c.places.marks k ||◌) (sym (taken_back table running j x after k c.places.left w.if-net_at-process.true w.if-left-eq0.true) ∙ ap (λ (es : List Entry). drags_from table running j c.places.left es k) (sym rest))
            ∙ c.places.invariant.1 k),
        λ k. ap (λ (m : List Mark). done m k) w.marks-is ∙ dragged.looked_at k ∙ c.places.invariant.2 k,
      )
      | then-net_at-process+else-left-eq0 w ↦ (
        omega (arith, on, end),
        (λ k. ap (λ (m : List Mark). marked m k || drags_from table running j c.if-net_at-process.left after k) w.marks-is
            ∙ ap (λ (n : ℕ). marked c.places.marks k || drags_from table running j n after k) w.left-is
            ∙ ap (marked c.places.marks k ||◌) (sym (stays table running j x after k c.places.left w.if-net_at-process.true w.if-left-eq0.false) ∙ ap (λ (es : List Entry). drags_from table running j c.places.left es k) (sym rest))
            ∙ c.places.invariant.1 k),
        λ k. ap (λ (m : List Mark). done m k) w.marks-is ∙ c.places.invariant.2 k,
      )
      | else-net_at-process w ↦ (
        omega (arith, on, end),
        (λ k. ap (λ (m : List Mark). marked m k || drags_from table running j c.if-net_at-process.left after k) w.marks-is
            ∙ ap (λ (n : ℕ). marked c.places.marks k || drags_from table running j n after k) w.left-is
            ∙ ap (marked c.places.marks k ||◌) (sym (of_another table running j x after k c.places.left w.if-net_at-process.false) ∙ ap (λ (es : List Entry). drags_from table running j c.places.left es k) (sym rest))
            ∙ c.places.invariant.1 k),
        λ k. ap (λ (m : List Mark). done m k) w.marks-is ∙ c.places.invariant.2 k,
      )
    ]
