use Rattle.std.proofs.Common.{sym, ap, ◌∙◌}
use Rattle.machine_model.specs.Blocks.{blocks_of, least_block}
use Rattle.admission.specs.Admission.{admitted, against_todo}
use Rattle.admission.proofs.Assembled.{end-is}
use Rattle.admission.proofs.admission.admit.Goals.{in-End, in-Forward, in-Undo}
use Rattle.admission.proofs.admission.admit.Goals as goal

pub returns : goal.returns
returns c =
    let t = c.args.holds.now in
    let plan = c.args.plan.now in
    let i = c.args.process in
    c.admitted.ensures ∙ ap admitted (elim c.match-todo.branch [
      | in-Forward w ↦ w.least-is ∙ w.least_of_step-least.ensures ∙ ap (λ d. least_block (blocks_of (against_todo t plan i d))) (sym w.in-Forward.is)
      | in-Undo w ↦ w.least-is ∙ w.least_of_undo-least.ensures plan ∙ ap (λ d. least_block (blocks_of (against_todo t plan i d))) (sym w.in-Undo.is)
      | in-End w ↦ w.least-is ∙ w.least_in_front-least.ensures.least ∙ sym (end-is t w.least_in_front-least.ensures.tidy i) ∙ ap (λ d. least_block (blocks_of (against_todo t plan i d))) (sym w.in-End.is)
    ])
