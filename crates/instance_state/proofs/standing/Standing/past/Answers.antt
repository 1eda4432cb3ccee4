use Rattle.std.proofs.Common.{◌≡◌, ◌∙◌, ◌+◌, length, max, ap, is_none, refl, subst, sym, arith}
use Rattle.process_tree.proofs.InTurn.{goes_within}
use Rattle.process_tree.proofs.TreeLaws.{paths_lie_in_order}
use Rattle.machine_model.specs.ProcessState.{past}
use Rattle.instance_state.specs.declared.rows.Row.{Row}
use Rattle.instance_state.specs.Standings.{progress_of, with_progress}
use Rattle.instance_state.proofs.Forward.{IsNextStep, completes, next_goes, next_step, on_way, way_on-here, way_past_refused}
use Rattle.instance_state.proofs.NextPieces.{none_told}
use Rattle.instance_state.proofs.standing.Standing.past.Goals as goal

pub row-requires : goal.row-requires
row-requires c =
    let t = c.args.rows.now.shape in
    let s = c.args.self.now in
    goes_within t (length t.kinds) (progress_of t s).net c.args.step (paths_lie_in_order t c.requires.keeps.tree).within
    (next_goes t s c.requires.keeps c.args.step (subst (IsNextStep (progress_of t s)) c.requires.step (next_step (progress_of t s) c.requires.work)))

pub returns-else-self-clause-keeps : goal.returns-else-self-clause-keeps
returns-else-self-clause-keeps c =
    let t = c.args.rows.now.shape in
    let s = c.args.self.now in
    let on = on_way (progress_of t s) c.requires.keeps.tree c.args.step (subst (IsNextStep (progress_of t s)) c.requires.step (next_step (progress_of t s) c.requires.work)) c.if-self.false in
    record {
      tree = c.requires.keeps.tree;
      last_is = c.requires.keeps.last_is;
      way_is = λ _. way_past_refused (progress_of t s) c.args.step on c.row.result.other (ap (λ (r : Row). r.other) c.row.ensures.row) c.max.result (omega (arith, c.max.ensures, c.from.ensures));
    }

pub returns-else-self-clause-state : goal.returns-else-self-clause-state
returns-else-self-clause-state c =
    let t = c.args.rows.now.shape in
    let s = c.args.self.now in
    let p = progress_of t s in
    let q = past p c.args.step in
    let on = on_way p c.requires.keeps.tree c.args.step (subst (IsNextStep p) c.requires.step (next_step p c.requires.work)) c.if-self.false in
    let bound : c.max.result ≡ max p.onward (c.args.step + 1) = omega (arith, c.max.ensures, c.from.ensures) in
    let way = way_past_refused p c.args.step on c.row.result.other (ap (λ (r : Row). r.other) c.row.ensures.row) q.onward refl in
    let none = none_told c.row.result.other c.is_none.result c.is_none.ensures in
    ap (λ o. with_progress (record { shape = t; net = p.net; onward = o; begun = c.is_none.result })) bound
    ∙ ap with_progress (completes q c.is_none.result c.if-self.false (sym (none ∙ ap is_none (way ∙ sym (way_on-here q c.if-self.false on.not_whole)))))
