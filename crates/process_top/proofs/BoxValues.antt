-- The values of boxes, as a world tells them.
use Rattle.std.proofs.Common.{◌≡◌, ◌∙◌, List, Option, Some, None, ap, refl, sym}
use Rattle.std.specs.List.{slice_get}
use Rattle.std.specs.Option.{option_map}
use Rattle.std.proofs.lemmas.Option.{same_Some, slice_get-map}
use Rattle.process_disk.specs.Disk.{FileSet}
use Rattle.resource_box.specs.Meaning.{value_at}
use Rattle.resource_box.specs.declared.resource.Resource.{Ghosts as Resources}
use Rattle.restart_run.specs.Boxes.{HaveValuesOf}
use Rattle.command_input.specs.FilesLeft.{Files}
use Rattle.replay_run.specs.Replay.{HaveValuesOfFile}
use Rattle.process_top.specs.Worlds.{BoxState, boxes}

module _ {B : Type 0} (b : Resources B) where
  -- a box, as it is told
  abbrev told : B → BoxState
  told x = record { kind = b.sort x; values = (b.meaning x).items }

  box_of : (x : BoxState) (o : Option B) → option_map told o ≡ Some x → (y : B) × (o ≡ Some y) × (told y ≡ x)
  box_of x None is = absurd cc
  box_of x (Some y) is = (y, refl, same_Some (told y) x is)

  -- boxes that have the values of their books are told as such
  pub told_have_values : (files : FileSet) (resources : List B) → HaveValuesOf (λ x. (b.meaning x).items) files resources → HaveValuesOf (λ (x : BoxState). x.values) files (boxes b resources)
  told_have_values files resources has books read q x at key =
      let box = box_of x (slice_get resources q) (sym (slice_get-map told resources q) ∙ at) in
      ap (λ (y : BoxState). value_at y.values key) (sym box.2) ∙ has books read q box.0 box.1 key

  -- so are boxes that have those of the history of file 0
  pub told_have_file_values : (before after : Files) (resources : List B) → HaveValuesOfFile (λ x. (b.meaning x).items) before after resources
      → HaveValuesOfFile (λ (x : BoxState). x.values) before after (boxes b resources)
  told_have_file_values before after resources (c, h, read, has) = (
    c,
    h,
    read,
    λ q x at key.
        let box = box_of x (slice_get resources q) (sym (slice_get-map told resources q) ∙ at) in
        ap (λ (y : BoxState). value_at y.values key) (sym box.2) ∙ has q box.0 box.1 key,
  )
