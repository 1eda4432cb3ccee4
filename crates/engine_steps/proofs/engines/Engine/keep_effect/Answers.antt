use Rattle.std.proofs.Common.{◌≡◌, ◌<◌, ◌^◌, sym, subst}
use Rattle.machine_model.specs.Pieces.{state_of}
use Rattle.machine_model.specs.declared.replies.PieceState.TheVariants.{Out}
use Rattle.process_core.specs.Cores.{IsHandedBy, moment_of}
use Rattle.engine_steps.specs.declared.engines.Phase.TheVariants as phase
use Rattle.engine_steps.proofs.KeptEffects.{core_under}
use Rattle.engine_steps.proofs.GroupSteps.{not_both}
use Rattle.engine_steps.proofs.engines.Engine.keep_effect.Goals as goal

pub invariant_of-self : goal.invariant_of-self
invariant_of-self g c =
    let p = c.args.piece.piece in
    let handed = subst (λ e. IsHandedBy e.core p) (sym c.self.view_is) c.requires.handed in
    let out = subst (λ e. state_of (moment_of e.core) p.number ≡ Out) (sym c.self.view_is) c.requires.out in
    let under_way = subst (λ e. e.phase ≡ phase.UnderWay) (sym c.self.view_is) c.requires.under_way in
    let fits : (p.process < 2 ^ 32) × (p.step < 2 ^ 16) = (subst (λ n. n < 2 ^ 32) c.process.ensures c.fits_its_bytes.ensures.0, subst (λ n. n < 2 ^ 16) c.step.ensures c.fits_its_bytes.ensures.1) in (
      core_under c.journals_keep_histories.ensures.made c.self.inside.catalog c.self.inside.core c.run_holds.ensures c.self.invariant.0 p handed out fits c.effected.new.self c.effected.ensures.core,
      λ settled. absurd (not_both c.self.inside.phase under_way settled),
    )
