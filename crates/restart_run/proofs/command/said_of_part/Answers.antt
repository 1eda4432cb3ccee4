use Rattle.std.proofs.Common.{◌∙◌, ℕ, List, ◌++◌, ap, refl}
use Rattle.process_text.specs.Canonical.{line_of}
use Rattle.schedule_model.specs.declared.history.History.{History}
use Rattle.session_text.specs.Answers.{exhausted_words}
use Rattle.scenario_run.specs.Reports.{report_in}
use Rattle.restart_run.proofs.command.said_of_part.Goals as goal

pub returns-clause-said : goal.returns-clause-said
returns-clause-said g c =
    let engine = c.args.engine.now in
    let process = c.args.process in
    let step = c.args.step in (
      refl,
      c.in_ok-put_exhausted.ensures
          ∙ (ap (λ (xs : List ℕ). xs ++ line_of (exhausted_words c.history.result.now.plans process step)) c.in_ok-text.ensures
          ∙ ap (λ (h : History). report_in engine.catalog engine.core ++ line_of (exhausted_words h.plans process step)) c.history.ensures),
    )
