-- The store that a step calls, of files as they are seen.
use Rattle.std.proofs.Common.{◌≡◌, ℕ, Some, sym, subst}
use Rattle.std.specs.List.{slice_get}
use Rattle.process_disk.specs.Disk.{Disk, Told}
use Rattle.resource_box.specs.declared.resource.Resource.{Ghosts as Resources}
use Rattle.schedule_model.specs.declared.history.History.{History}
use Rattle.commute_table.specs.declared.catalog.Catalog.{Catalog}
use Rattle.subsystem_store.specs.Opened.{Opened, Fits, Stands, account_of}
use Rattle.history_files.specs.Standing.{EachFits, FilesState, Stand}

module _ {R B : Type 0} (inside seen : FilesState R B) (is : inside ≡ seen) (q : ℕ) (s : Opened B) (at : slice_get inside.stores q ≡ Some s) where
  -- what is asked of the store at this place holds of it,
  pub asked_of_it : (P : Opened B → Type 0) → ((t : Opened B) → slice_get seen.stores q ≡ Some t → P t) → P s
  asked_of_it P asked = subst (λ f. (t : Opened B) → slice_get f.stores q ≡ Some t → P t) (sym is) asked s at

  -- its box fits its book,
  pub it_fits : (box : Resources B) → EachFits box seen.stores → Fits box (account_of s)
  it_fits box fits = subst (λ f. EachFits box f.stores) (sym is) fits q s at

  -- and it stands for what it holds
  pub it_stands : (disk : R → Disk) → (Told (disk seen.rack) → (c : Catalog) × (h : History) × Stand c h seen.journal seen.stores (disk seen.rack)) → Told (disk inside.rack) → Stands s (disk inside.rack)
  it_stands disk stand told =
      let stands = subst (λ f. Told (disk f.rack) → (c : Catalog) × (h : History) × Stand c h f.journal f.stores (disk f.rack)) (sym is) stand told in
      stands.2.stores q s at
