use Rattle.std.proofs.Common.{◌∙◌, ◌<◌, length, is_none, ap, subst, sym}
use Rattle.process_tree.specs.Shape.{is_whole}
use Rattle.std.specs.Option.{IfSome}
use Rattle.instance_state.specs.declared.rows.Row.{Row}
use Rattle.instance_state.specs.Rows.{done_to}
use Rattle.instance_state.proofs.NextPieces.{none_told, nothing_is_no_end, whole_where_nothing_follows}
use Rattle.instance_state.proofs.standing.Standing.is_whole.Goals as goal

pub returns-in-None : goal.returns-in-None
returns-in-None c =
    let t = c.args.rows.now.shape in
    sym (ap (λ l. is_whole t (done_to t l)) c.in-None.is ∙ nothing_is_no_end t c.requires.tree)

pub returns-in-Some : goal.returns-in-Some
returns-in-Some c =
    let t = c.args.rows.now.shape in
    let step = c.in-Some.step in
    none_told c.row.result.after c.is_none.result c.is_none.ensures ∙ ap (λ (r : Row). is_none r.after) c.row.ensures.row
    ∙ whole_where_nothing_follows t c.requires.tree step (subst (λ o. IfSome o (λ b. b < length t.kinds)) c.in-Some.is c.requires.last_is)
    ∙ ap (λ l. is_whole t (done_to t l)) (sym c.in-Some.is)
