use Rattle.std.proofs.Common.{◌≡◌, ◌∙◌, Some, ap, inr, refl, subst, sym}
use Rattle.process_tree.specs.Shape.{first_of}
use Rattle.schedule_model.specs.declared.history.History.{History}
use Rattle.schedule_model.specs.Histories.{active}
use Rattle.engine_steps.specs.Engines.{full_history}
use Rattle.command_refusals.specs.declared.refusal.Refusal.TheVariants.{Unfinished}
use Rattle.command_input.specs.FilesLeft.{files}
use Rattle.scenario_run.specs.Opening.{AreOpenedOn}
use Rattle.scenario_run.proofs.OpeningParts.{for_of_parts}
use Rattle.scenario_run.proofs.opening.opened.Goals as goal

pub returns-in-Some-clause-due : goal.returns-in-Some-clause-due
returns-in-Some-clause-due g c =
    let is = c.in_ok-engine.ensures in
    let engine = c.in_ok-engine.engine in
    let before = files g.R.Rack c.args.parts.rack in
    let first : first_of (active (full_history engine.core).events) ≡ Some c.in-Some.i
    = sym (ap (λ (k : History). first_of (active k.events)) c.history.ensures) ∙ sym c.first_active.ensures ∙ c.in-Some.is in
    for_of_parts c.args.catalog.now (Unfinished c.in-Some.i) before (files g.R.Rack c.into_parts.result.rack)
    (inr (
      engine.catalog,
      full_history engine.core,
      subst (λ rack. AreOpenedOn engine.catalog (full_history engine.core) before (files g.R.Rack rack)) (sym c.into_parts.ensures.rack) is.on,
      inr (is.catalog, (c.in-Some.i, refl, first)),
    ))
