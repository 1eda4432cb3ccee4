use Rattle.std.proofs.Common.{◌∙◌, ◌++◌, ◌∷◌, [], Some, length, ap, refl, arith}
use Rattle.process_tree.proofs.InTurn.{goes_within}
use Rattle.process_tree.proofs.Onward.{branch_from}
use Rattle.process_tree.proofs.TreeLaws.{paths_lie_in_order}
use Rattle.instance_state.specs.declared.rows.Row.{Row}
use Rattle.instance_state.specs.Rows.{done_to, way_from}
use Rattle.instance_state.specs.Standings.{progress_of}
use Rattle.instance_state.proofs.States.{same_state}
use Rattle.instance_state.proofs.standing.Standing.done.Goals as goal

pub row-requires : goal.row-requires
row-requires c =
    let t = c.args.rows.now.shape in
    goes_within t (length t.kinds) (progress_of t c.args.self.now).net c.args.step (paths_lie_in_order t c.requires.keeps.tree).within c.requires.goes

pub returns-clause-keeps : goal.returns-clause-keeps
returns-clause-keeps c =
    let t = c.args.rows.now.shape in
    record {
      tree = c.requires.keeps.tree;
      last_is = goes_within t (length t.kinds) (progress_of t c.args.self.now).net c.args.step (paths_lie_in_order t c.requires.keeps.tree).within c.requires.goes;
      way_is = λ on.
          let low = c.requires.later on in
          ap (λ (r : Row). r.way) c.row.ensures.row ∙ ap (way_from t (done_to t (Some c.args.step))) (omega (arith, c.max.ensures, c.from.ensures));
    }

pub returns-clause-state : goal.returns-clause-state
returns-clause-state c =
    let t = c.args.rows.now.shape in
    let p = progress_of t c.args.self.now in
    let laid = paths_lie_in_order t c.requires.keeps.tree in
    same_state t _ _ _ _ p.begun p.begun 0 0
    (ap (λ v. v ++ c.args.step ∷ []) (branch_from t p.net c.args.step laid.in_order laid.rising c.requires.goes))
    (omega (arith, c.max.ensures, c.from.ensures)) refl refl
