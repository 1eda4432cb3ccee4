-- What boxes that are handed back have in them.
use Rattle.std.specs.Prelude.{◌≡◌, ◌<◌, ◌+◌, ℕ, ℤ, List, []}
use Rattle.process_disk.specs.Disk.{FileSet}
use Rattle.resource_box.specs.Meaning.{value_at}
use Rattle.subsystem_store.specs.declared.effect.Effect.{Effect}
use Rattle.subsystem_store.specs.Laws.{IsReadAs}
use Rattle.subsystem_store.specs.Values.{values}
use Rattle.history_files.specs.Sound.{kind_of}
use Rattle.history_files.specs.Standing.{AtEach}

-- each box has the values of the book of its subsystem
abbrev pub HaveValues : {B : Type 0} → (B → List (ℕ × ℤ)) → (ℕ → List Effect) → List B → Type 0
HaveValues values_of books boxes =
    AtEach (λ q b. (key : ℕ) → value_at (values_of b) key ≡ value_at (values (kind_of q) (books q)) key) boxes

-- where the files are read as books with nothing in doubt, each box has the values of its book
abbrev pub HaveValuesOf : {B : Type 0} → (B → List (ℕ × ℤ)) → FileSet → List B → Type 0
HaveValuesOf values_of files boxes = (books : ℕ → List Effect)
    → ((q : ℕ) → q < 8 → IsReadAs (kind_of q) (q + 1) (books q) [] files) → HaveValues values_of books boxes
