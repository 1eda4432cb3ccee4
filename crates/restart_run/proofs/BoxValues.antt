-- The boxes that an engine at rest hands back have the values of the books that its files are read as.
use Rattle.std.proofs.Common.{◌≡◌, ◌∙◌, ◌<◌, ◌+◌, ℕ, suc, zero, List, [], ◌∷◌, length, map, Option, Some, None, Result, Ok, Err, arith, refl, ap, subst, sym, append-nil}
use Rattle.std.specs.List.{slice_get}
use Rattle.std.specs.Option.{option_map}
use Rattle.std.proofs.lemmas.List.{length-map}
use Rattle.std.proofs.lemmas.Option.{same_Some, slice_get-map, slice_get_within}
use Rattle.process_disk.specs.Disk.{FileSet}
use Rattle.resource_box.specs.declared.resource.Resource.{Ghosts as Resources}
use Rattle.resource_box.specs.declared.call.Kind.{Kind}
use Rattle.resource_box.specs.Meaning.{value_at}
use Rattle.schedule_model.specs.declared.history.History.{History}
use Rattle.commute_table.specs.declared.catalog.Catalog.{Catalog}
use Rattle.subsystem_store.specs.declared.effect.Effect.{Effect}
use Rattle.subsystem_store.specs.declared.errors.StoreError.{StoreError}
use Rattle.subsystem_store.specs.Laws.{BooksAreReadBack, IsGoodBook, IsReadAs}
use Rattle.subsystem_store.specs.Opened.{Opened}
use Rattle.subsystem_store.specs.Order.{Book}
use Rattle.subsystem_store.specs.Values.{values}
use Rattle.history_files.specs.Boxes.{AreBoxes}
use Rattle.history_files.specs.Effects.{effects}
use Rattle.history_files.specs.Sound.{kind_of}
use Rattle.history_files.specs.Standing.{AtEach, EachFits}
use Rattle.history_files.proofs.Clearing.{kinds_in_place}
use Rattle.engine_steps.specs.Engines.{AreExactly}
use Rattle.restart_run.specs.Boxes.{HaveValuesOf}

-- the effects that were read
abbrev read_effects : Result Book StoreError → List Effect
read_effects (Ok b) = b.book
read_effects (Err e) = []

-- a file is read as one book
one_read : (kind : Kind) (q : ℕ) (one two : List Effect) (files : FileSet) → IsReadAs kind q one [] files → IsReadAs kind q two [] files → one ≡ two
one_read kind q one two files is other = ap read_effects (sym is ∙ other)

module _ {B : Type 0} (box : Resources B) (c : Catalog) (h : History) where
  kinds_same : (stores : List (Opened B)) → AtEach (λ q s. box.sort s.resource ≡ s.kind) stores → map (λ s. s.kind) stores ≡ map box.sort (map (λ s. s.resource) stores)
  kinds_same [] each = refl
  kinds_same (s ∷ stores) each =
      ap (λ k. k ∷ map (λ (x : Opened B). x.kind) stores) (sym (each zero s refl)) ∙ ap (λ ks. box.sort s.resource ∷ ks) (kinds_same stores (λ q x at. each (suc q) x at))

  module _ (law : BooksAreReadBack) (stores : List (Opened B)) (files : FileSet) (fits : EachFits box stores) (boxes : AreBoxes box.sort (map (λ s. s.resource) stores))
      (none : AtEach (λ q s. s.doubt ≡ []) stores) (books : AtEach (λ q s. s.book ≡ effects c.ops h q) stores)
      (good : AtEach (λ q s. IsGoodBook s.kind s.book s.doubt) stores) (exactly : AreExactly c h files) where
    eight : length stores ≡ 8
    eight = sym (length-map (map (λ (s : Opened B). s.resource) stores) box.sort ∙ length-map stores (λ (s : Opened B). s.resource)) ∙ ap length boxes

    kinds_are : AtEach (λ q s. s.kind ≡ kind_of q) stores
    kinds_are = kinds_in_place box.sort stores []
        (append-nil (map (λ (s : Opened B). s.kind) stores) ∙ (kinds_same stores (λ q s at. (fits q s at).kind) ∙ boxes))

    -- the file of a store is read as the effects of the history
    read_as : (q : ℕ) (s : Opened B) → slice_get stores q ≡ Some s → IsReadAs (kind_of q) (q + 1) (effects c.ops h q) [] files
    read_as q s at =
        let low : q < 8 = (let within = slice_get_within stores q s at in omega (arith, within, eight)) in
        law (kind_of q) (q + 1) (effects c.ops h q) [] files
        (subst (λ k. IsGoodBook k (effects c.ops h q) []) (kinds_are q s at)
        (subst (λ es. IsGoodBook s.kind es []) (books q s at) (subst (λ d. IsGoodBook s.kind s.book d) (none q s at) (good q s at))))
        (exactly.books q low)

    store_of : (q : ℕ) (b : B) (o : Option (Opened B)) → slice_get stores q ≡ o → option_map (λ (s : Opened B). s.resource) o ≡ Some b → (s : Opened B) × (slice_get stores q ≡ Some s) × (s.resource ≡ b)
    store_of q b None at is = absurd cc
    store_of q b (Some s) at is = (s, at, same_Some s.resource b is)

    -- Whatever books the files are read as, the boxes have their values.
    pub box_values : HaveValuesOf (λ b. (box.meaning b).items) files (map (λ s. s.resource) stores)
    box_values told read q b at key =
        let found = store_of q b (slice_get stores q) refl (sym (slice_get-map (λ (s : Opened B). s.resource) stores q) ∙ at) in
        let s = found.0 in
        let low : q < 8 = (let within = slice_get_within stores q s found.1 in omega (arith, within, eight)) in
        let same : effects c.ops h q ≡ told q = one_read (kind_of q) (q + 1) (effects c.ops h q) (told q) files (read_as q s found.1) (read q low) in
        ap (λ x. value_at (box.meaning x).items key) (sym found.2)
        ∙ ((fits q s found.1).values key
        ∙ (ap (λ k. value_at (values k s.book) key) (kinds_are q s found.1) ∙ ap (λ es. value_at (values (kind_of q) es) key) (books q s found.1 ∙ same)))
