use Rattle.std.proofs.Common.{subst, sym}
use Rattle.history_files.specs.Standing.{EachFits}
use Rattle.engine_steps.proofs.engines.Engine.into_parts.Goals as goal

pub into_parts-requires : goal.into_parts-requires
into_parts-requires g c = record { fits = subst (λ e. EachFits g.B.Resource e.files.stores) (sym c.self.view_is) c.requires.fits }
