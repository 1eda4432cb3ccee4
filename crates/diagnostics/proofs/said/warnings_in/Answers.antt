use Rattle.std.proofs.Common.{◌≡◌, ◌∙◌, ap, ap₂, inl, inr}
use Rattle.std.proofs.lemmas.Result.{IfOk-weaker}
use Rattle.scenario_warnings.specs.Warnings.{warnings}
use Rattle.scenario_warnings.specs.Lines.{shown}
use Rattle.refusal_hints.specs.Remedies.{ending_hint}
use Rattle.diagnostics.specs.Diagnostics.{AreWarningsIn}
use Rattle.diagnostics.proofs.said.warnings_in.Goals as goal

pub returns-in-Ok : goal.returns-in-Ok
returns-in-Ok c =
    let plans = c.deref-in-Ok.ensures.value in
    let found = c.deref-in-Ok-2.ensures.value ∙ c.in_ok-found-in-Ok.ensures ∙ ap (warnings c.in-Ok.field-0.catalog) c.deref.ensures.value in
    IfOk-weaker c.shown.result (λ text. text.items ≡ shown c.in-Ok.field-0.catalog.ops c.deref-in-Ok.result.now c.deref-in-Ok-2.result.now)
    (λ text. AreWarningsIn c.args.status c.args.input.now text.items)
    (λ text is. inl (c.in-Ok.field-0.catalog, c.in-Ok.field-0.plans.items, c.in-Ok.ensures.bound, is ∙ ap₂ (shown c.in-Ok.field-0.catalog.ops) plans found)) c.shown.ensures

pub returns : goal.returns
returns c =
    IfOk-weaker c.ending.result (λ text. text.items ≡ ending_hint c.args.status) (λ text. AreWarningsIn c.args.status c.args.input.now text.items)
    (λ text is. inr (c.in-Err.field-0, c.in-Err.ensures.refused, is)) c.ending.ensures
