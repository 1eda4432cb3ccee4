use Rattle.std.proofs.Common.{◌≡◌, ◌∙◌, ◌<◌, Some, length, ap, refl, subst, sym}
use Rattle.std.specs.Option.{IfSome}
use Rattle.process_tree.specs.Shape.{branch_to, fixed_len}
use Rattle.instance_state.specs.declared.rows.Row.{Row}
use Rattle.instance_state.specs.Rows.{done_to, way_from}
use Rattle.instance_state.specs.Standings.{progress_of}
use Rattle.instance_state.proofs.RowFacts.{behind_within, branch_behind}
use Rattle.instance_state.proofs.States.{last_is_free, same_state, without_last}
use Rattle.instance_state.proofs.standing.Standing.undone.Goals as goal

free : (c : goal.After-row) → fixed_len c.args.rows.now.shape (done_to c.args.rows.now.shape (Some c.in-Some.last)) ≡ fixed_len c.args.rows.now.shape (branch_to c.args.rows.now.shape c.in-Some.last)
free c =
    let t = c.args.rows.now.shape in
    last_is_free t (branch_to t c.in-Some.last) c.in-Some.last (subst (λ o. fixed_len t (done_to t o) < length (done_to t o)) c.in-Some.is c.requires.free)

pub way_before-requires-clause-free : goal.way_before-requires-clause-free
way_before-requires-clause-free c = free c

pub returns-clause-keeps : goal.returns-clause-keeps
returns-clause-keeps c =
    let t = c.args.rows.now.shape in
    let b = c.in-Some.last in
    let lt = subst (λ o. IfSome o (λ b. b < length t.kinds)) c.in-Some.is c.requires.keeps.last_is in
    let before = ap (λ (r : Row). r.before) c.row.ensures.row in
    record {
      tree = c.requires.keeps.tree;
      last_is = subst (λ o. IfSome o (λ a. a < length t.kinds)) (sym before) (behind_within t c.requires.keeps.tree b lt);
      way_is = λ on. c.way_before.ensures on ∙ ap (λ w. way_from t w c.args.self.now.onward) (branch_behind t c.requires.keeps.tree b lt ∙ sym (ap (done_to t) before));
    }

pub returns-clause-state : goal.returns-clause-state
returns-clause-state c =
    let t = c.args.rows.now.shape in
    let b = c.in-Some.last in
    let lt = subst (λ o. IfSome o (λ b. b < length t.kinds)) c.in-Some.is c.requires.keeps.last_is in
    let p = progress_of t c.args.self.now in
    same_state t _ _ p.onward p.onward p.begun p.begun 0 0
    (ap (λ (r : Row). done_to t r.before) c.row.ensures.row ∙ without_last t c.requires.keeps.tree c.args.self.now.last b c.in-Some.is lt)
    refl refl refl
