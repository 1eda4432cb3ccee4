use Rattle.std.proofs.Common.{subst, sym}
use Rattle.history_files.specs.Boxes.{AreBoxes}
use Rattle.history_files.specs.Standing.{EachFits}
use Rattle.history_files.proofs.BoxKinds.{are_boxes}
use Rattle.history_files.proofs.files.Files.into_parts.Goals as goal

pub returns-clause-kinds : goal.returns-clause-kinds
returns-clause-kinds g c =
    let fits = subst (λ f. EachFits g.B.Resource f.stores) (sym c.self.view_is) c.requires.fits in
    subst (AreBoxes g.B.Resource.sort) (sym c.take_out.ensures) (are_boxes g.B.Resource c.self.inside.stores.items c.self.invariant.0 fits)
