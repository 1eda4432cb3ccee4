-- The boxes of eight subsystems, while they are in stores, and not.
use Rattle.std.specs.Prelude.{◌≡◌, ◌≤◌, List, [], ◌++◌, map, reverse, Result, Vec, OnOk, OnErr, vec_capacity}
use Rattle.std.specs.declared.alloc.Global.{Global}
use Rattle.resource_box.specs.declared.resource.Resource.{Ghosts as Resources}
use Rattle.resource_box.specs.declared.call.Kind.{Kind}
use Rattle.resource_box.specs.Meaning.{Pairs}
use Rattle.subsystem_store.specs.Opened.{Opened}
use Rattle.history_files.specs.Sound.{kinds}
use Rattle.history_files.specs.Standing.{AtEach}

-- the boxes are those of the eight subsystems, in order
abbrev pub AreBoxes : {B : Type 0} → (B → Kind) → List B → Type 0
AreBoxes sort boxes = map sort boxes ≡ kinds

-- each box is empty
abbrev pub AreEmpty : {B : Type 0} → (B → Pairs) → List B → Type 0
AreEmpty meaning boxes = AtEach (λ q b. (meaning b).items ≡ []) boxes

-- the boxes are those of the eight subsystems, and empty
abbrev pub AreCleared : {B : Type 0} → Resources B → List B → Type 0
AreCleared box boxes = AreBoxes box.sort boxes × AreEmpty box.meaning boxes

-- the stores of the first subsystems, and the boxes of the others, the last one first
abbrev pub AreParted : {B : Type 0} → (B → Kind) → List (Opened B) → List B → Type 0
AreParted sort stores boxes = map (λ s. s.kind) stores ++ reverse (map sort boxes) ≡ kinds

-- The boxes behind a call that puts each into a store: none is left where it answers Ok, and else all eight are back, and empty.
-- There is room for eight either way.
pub record AreInStores {T E B : Type 0} (box : Resources B) (boxes : Vec B Global) (result : Result T E)
    : Type 0 where
  pub emptied : OnOk result (boxes.items ≡ [])
  pub back : OnErr result (AreCleared box boxes.items)
  pub room : 8 ≤ vec_capacity boxes
