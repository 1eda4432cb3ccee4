use Rattle.std.proofs.Common.{◌≡◌, ◌∙◌, ◌<◌, Some, None, length, ap, sym, subst}
use Rattle.std.specs.Option.{IfSome}
use Rattle.process_tree.specs.Recovery.{forward}
use Rattle.process_tree.specs.Shape.{last_commit}
use Rattle.instance_state.specs.declared.rows.Row.{Row}
use Rattle.instance_state.specs.Rows.{done_to}
use Rattle.instance_state.proofs.CommitPoints.{IsFixedTo, fixed_to, nothing_owed, owed_behind_commit}
use Rattle.instance_state.proofs.standing.Standing.owed_count.Goals as goal

fixed : (c : goal.After-count_behind) → IsFixedTo c.args.rows.now.shape c.in-Some.last c.in-Some-commit.commit
fixed c =
    let t = c.args.rows.now.shape in
    let lt = subst (λ o. IfSome o (λ b. b < length t.kinds)) c.in-Some.is c.requires.last_is in
    fixed_to t c.requires.tree c.in-Some.last c.in-Some-commit.commit lt (sym (ap (λ (r : Row). r.commit) c.row.ensures.row) ∙ c.in-Some-commit.is)

pub count_behind-requires : goal.count_behind-requires
count_behind-requires c =
    let t = c.args.rows.now.shape in
    let lt = subst (λ o. IfSome o (λ b. b < length t.kinds)) c.in-Some.is c.requires.last_is in
    (fixed_to t c.requires.tree c.in-Some.last c.in-Some-commit.commit lt (sym (ap (λ (r : Row). r.commit) c.row.ensures.row) ∙ c.in-Some-commit.is)).within

pub returns-in-None : goal.returns-in-None
returns-in-None c =
    let t = c.args.rows.now.shape in
    let none : last_commit t (done_to t (Some c.in-Some.last)) ≡ None = sym (ap (λ (r : Row). r.commit) c.row.ensures.row) ∙ c.in-None.is in
    sym (ap (λ o. length (forward t (done_to t o))) c.in-Some.is ∙ ap length (nothing_owed t (done_to t (Some c.in-Some.last)) none))

pub returns-in-Some-commit : goal.returns-in-Some-commit
returns-in-Some-commit c =
    let t = c.args.rows.now.shape in
    c.count_behind.ensures ∙ (ap length (owed_behind_commit t c.in-Some.last c.in-Some-commit.commit (fixed c)) ∙ sym (ap (λ o. length (forward t (done_to t o))) c.in-Some.is))
