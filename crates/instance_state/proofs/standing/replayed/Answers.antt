use Rattle.std.proofs.Common.{false, subst, sym, suc, take, drop}
use Rattle.process_tree.specs.declared.entry.Entry.{Entry}
use Rattle.instance_state.proofs.Replays.{HasReplayed, after_step, after_undo, at_place, place_passed, step_follows}
use Rattle.instance_state.proofs.standing.replayed.Goals as goal
use Rattle.instance_state.proofs.standing.replayed.Goals.{then-act, else-act}

no_entry : Entry
no_entry = record { process = 0; step = 0; op = 0; key = 0; undo = false }

pub done-at-requires-clause-later : goal.done-at-requires-clause-later
done-at-requires-clause-later c _ =
    let n = c.loop-act.act-index in
    let es = c.args.acts.now in
    (step_follows c.args.rows.now (take n es) (drop (suc n) es) c.loop-act.at _ (at_place c.args.rows.now es n _ c.loop-act.at c.loop-act-test.true c.loop-act.invariant) c.if-act.false).1

pub loop-act-preserved : goal.loop-act-preserved
loop-act-preserved c =
    let n = c.loop-act.act-index in
    let es = c.args.acts.now in
    let k = c.args.rows.now in
    let here = at_place k es n _ c.loop-act.at c.loop-act-test.true c.loop-act.invariant in
    place_passed k es n _ c.if-act.at c.loop-act-test.true
    (elim c.if-act.branch [
      | then-act w ↦ subst (HasReplayed k _ (drop (suc n) es)) (sym w.at-is) (after_undo k (take n es) (drop (suc n) es) c.loop-act.at w.undone-at.result _ here w.if-act.true w.undone-at.ensures.keeps w.undone-at.ensures.state)
      | else-act w ↦ subst (HasReplayed k _ (drop (suc n) es)) (sym w.at-is) (after_step k (take n es) (drop (suc n) es) c.loop-act.at w.done-at.result _ here w.if-act.false w.done-at.ensures.keeps w.done-at.ensures.state)
    ])
