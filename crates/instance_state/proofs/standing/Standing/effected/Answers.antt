use Rattle.std.proofs.Common.{◌∙◌, subst, sym}
use Rattle.instance_state.specs.Standings.{progress_of}
use Rattle.instance_state.proofs.Forward.{IsNextStep, next_goes, next_step, on_way, undo_is_free}
use Rattle.instance_state.proofs.standing.Standing.effected.Goals as goal

pub done-requires-clause-goes : goal.done-requires-clause-goes
done-requires-clause-goes c =
    let t = c.args.rows.now.shape in
    let s = c.args.self.now in
    next_goes t s c.requires c.next-work.result.1
    (subst (IsNextStep (progress_of t s)) (sym c.next-work.ensures.step) (next_step (progress_of t s) (sym c.next-work.ensures.work ∙ c.in-Forward.is)))

pub done-requires-clause-later : goal.done-requires-clause-later
done-requires-clause-later c begun =
    let t = c.args.rows.now.shape in
    let s = c.args.self.now in
    (on_way (progress_of t s) c.requires.tree c.next-work.result.1
    (subst (IsNextStep (progress_of t s)) (sym c.next-work.ensures.step) (next_step (progress_of t s) (sym c.next-work.ensures.work ∙ c.in-Forward.is))) begun).later

pub undone-requires-clause-free : goal.undone-requires-clause-free
undone-requires-clause-free c =
    let t = c.args.rows.now.shape in
    undo_is_free (progress_of t c.args.self.now) c.requires.tree (sym c.next-work.ensures.work ∙ c.in-Undo.is)
