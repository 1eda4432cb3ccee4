use Rattle.std.proofs.Common.{◌∙◌, List, length, ap, arith}
use Rattle.process_tree.specs.declared.entry.Entry.{Entry}
use Rattle.schedule_model.specs.Histories.{of_process}
use Rattle.cascade.proofs.Marking.{rest_back}
use Rattle.cascade.proofs.Processes.{one_counted, none_counted}
use Rattle.cascade.proofs.spread.count_of.Goals as goal

pub places-preserved-then-net_at-process : goal.places-preserved-then-net_at-process
places-preserved-then-net_at-process c =
    let net = c.args.holds.now.net in
    let most = c.places.invariant.0 in
    let count = c.places.invariant.1 in
    let room = c.places.invariant.2 in
    let on = c.places-test.true in
    let rest = rest_back net c.places.place c.net_at.result on most c.net_at.ensures.entry in
    let longer = ap (λ (es : List Entry). length (of_process c.args.process es)) rest ∙ one_counted c.args.process c.net_at.result _ c.if-net_at-process.true in
    (omega (arith, most), omega (arith, count, longer), omega (arith, room, on))

pub places-preserved : goal.places-preserved
places-preserved c =
    let net = c.args.holds.now.net in
    let most = c.places.invariant.0 in
    let count = c.places.invariant.1 in
    let room = c.places.invariant.2 in
    let on = c.places-test.true in
    let rest = rest_back net c.places.place c.net_at.result on most c.net_at.ensures.entry in
    let same = ap (λ (es : List Entry). length (of_process c.args.process es)) rest ∙ none_counted c.args.process c.net_at.result _ c.if-net_at-process.false in
    (omega (arith, most), omega (arith, count, same), omega (arith, room, on))
