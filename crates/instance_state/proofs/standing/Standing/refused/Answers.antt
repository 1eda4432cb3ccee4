use Rattle.std.proofs.Common.{◌∙◌, length, subst, sym}
use Rattle.process_tree.proofs.InTurn.{goes_within}
use Rattle.process_tree.proofs.TreeLaws.{paths_lie_in_order}
use Rattle.instance_state.specs.Standings.{progress_of}
use Rattle.instance_state.proofs.Forward.{IsNextStep, next_goes, next_step}
use Rattle.instance_state.proofs.standing.Standing.refused.Goals as goal

pub is_only_try-requires : goal.is_only_try-requires
is_only_try-requires c forward =
    let t = c.args.rows.now.shape in
    let s = c.args.self.now in
    goes_within t (length t.kinds) (progress_of t s).net c.next-work.result.1 (paths_lie_in_order t c.requires.keeps.tree).within
    (next_goes t s c.requires.keeps c.next-work.result.1
    (subst (IsNextStep (progress_of t s)) (sym c.next-work.ensures.step) (next_step (progress_of t s) (sym c.next-work.ensures.work ∙ forward))))
