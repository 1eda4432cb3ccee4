use Rattle.std.proofs.Common.{rules, ◌≡◌, ◌∙◌, Err, inl, inr}
use Rattle.process_text.proofs.Turns.{at_new_step}
use Rattle.process_text.proofs.steps.read_step.Goals as goal

pub returns-in_err-name-clause-err : goal.returns-in_err-name-clause-err
returns-in_err-name-clause-err c =
    let failed : c.from_residual.result ≡ Err c.in_err-name.field-0.0 = search rules in
    rw failed (elim c.in_err-name.ensures.err [
      | inl memory ↦ inl memory
      | inr told ↦ inr (λ earlier choices. at_new_step c.args.names.now earlier choices c.args.kind c.args.words.now ∙ told _)
    ])
