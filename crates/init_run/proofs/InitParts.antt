-- What `init` refuses, in two parts: of the input, and of the files.
use Rattle.std.proofs.Common.{◌⊎◌, inl, inr, Bool}
use Rattle.commute_table.specs.declared.catalog.Catalog.{Catalog}
use Rattle.command_refusals.specs.declared.refusal.Refusal.{Refusal}
use Rattle.command_input.specs.Inputs.{Input}
use Rattle.command_input.specs.FilesLeft.{Files, AreUntouched}
use Rattle.init_run.specs.Init.{AreNotMade, IsCatalogRead, IsCatalogRefused, IsNotCreated}

-- no catalog was read, and the files are as they were; or one was, and no files were made
abbrev pub IsRefusedInParts : Bool → Bool → Refusal → Input → Input → Files → Files → Type 0
IsRefusedInParts values strict r before after files files_after =
    (IsCatalogRefused values strict r before after × AreUntouched files files_after)
    ⊎ (((c : Catalog) × IsCatalogRead values strict before after c) × AreNotMade r files files_after)

module _ (values strict : Bool) (r : Refusal) (before after : Input) (files files_after : Files) where
  pub in_parts : IsNotCreated values strict r before after files files_after → IsRefusedInParts values strict r before after files files_after
  in_parts (inl (why, left)) = inl (inl why, left)
  in_parts (inr (bytes, whole, inl (why, left))) = inl (inr (bytes, whole, inl why), left)
  in_parts (inr (bytes, whole, inr (s, says, inl (why, left)))) = inl (inr (bytes, whole, inr (s, says, inl why)), left)
  in_parts (inr (bytes, whole, inr (s, says, inr (done, sound, inl (why, left))))) = inl (inr (bytes, whole, inr (s, says, inr (done, sound, why))), left)
  in_parts (inr (bytes, whole, inr (s, says, inr (done, sound, inr (also, quiet, why))))) =
      inr ((s.catalog, (bytes, whole, (s.processes, says, sound, quiet))), why)

  pub first_of_parts : IsRefusedInParts values strict r before after files files_after → IsNotCreated values strict r before after files files_after
  first_of_parts (inl (inl why, left)) = inl (why, left)
  first_of_parts (inl (inr (bytes, whole, inl why), left)) = inr (bytes, whole, inl (why, left))
  first_of_parts (inl (inr (bytes, whole, inr (s, says, inl why)), left)) = inr (bytes, whole, inr (s, says, inl (why, left)))
  first_of_parts (inl (inr (bytes, whole, inr (s, says, inr (done, sound, why))), left)) = inr (bytes, whole, inr (s, says, inr (done, sound, inl (why, left))))
  first_of_parts (inr ((c, (bytes, whole, (text, says, sound, quiet))), why)) =
      inr (bytes, whole, inr (record { catalog = c; processes = text }, says, inr (tt, sound, inr (tt, quiet, why))))
