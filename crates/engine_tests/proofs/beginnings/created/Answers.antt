use Rattle.std.proofs.Common.{◌≡◌, ◌∙◌, sym}
use Rattle.engine_steps.specs.declared.engines.Phase.TheVariants as phase
use Rattle.engine_tests.proofs.beginnings.created.Goals as goal

pub returns : goal.returns
returns g c = record {
  fits = c.in-Ok.ensures.fits;
  whole = λ under. absurd (let wrong : phase.Settled ≡ phase.UnderWay = sym c.in-Ok.ensures.new.phase ∙ under in cc);
}
