use Rattle.std.proofs.Common.{subst, sym}
use Rattle.history_files.specs.Standing.{AreGoodBooks, EachFits}
use Rattle.engine_steps.proofs.group.write_group.Goals as goal

pub returns-then-not-has_effect-clause-fits : goal.returns-then-not-has_effect-clause-fits
returns-then-not-has_effect-clause-fits g c = subst (EachFits g.B.Resource) (sym c.write_staged.ensures.same.1) c.requires.fits

pub returns-then-not-has_effect-clause-good : goal.returns-then-not-has_effect-clause-good
returns-then-not-has_effect-clause-good g c good = subst AreGoodBooks (sym c.write_staged.ensures.same.1) good
