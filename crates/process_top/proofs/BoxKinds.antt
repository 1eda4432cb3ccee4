-- The kinds of boxes, as a world tells them.
use Rattle.std.proofs.Common.{◌≡◌, List, [], ◌∷◌, map, refl, ap, ◌∙◌}
use Rattle.resource_box.specs.declared.resource.Resource.{Ghosts as Resources}
use Rattle.history_files.specs.Boxes.{AreBoxes}
use Rattle.process_top.specs.Worlds.{boxes}

kinds_told : {B : Type 0} (b : Resources B) (resources : List B) → map (λ x. x.kind) (boxes b resources) ≡ map b.sort resources
kinds_told b [] = refl
kinds_told b (x ∷ xs) = ap (λ ks. b.sort x ∷ ks) (kinds_told b xs)

-- boxes of the eight subsystems are told as such
pub told_are_boxes : {B : Type 0} (b : Resources B) (resources : List B) → AreBoxes b.sort resources → AreBoxes (λ x. x.kind) (boxes b resources)
told_are_boxes b resources are = kinds_told b resources ∙ are
