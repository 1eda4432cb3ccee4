-- The boxes of the stores of eight subsystems are those of the eight.
use Rattle.std.proofs.Common.{◌≡◌, ℕ, zero, suc, ◌+◌, List, [], ◌∷◌, ◌++◌, ◌∙◌, append-nil, map, length, refl, sym, ap, arith, Some}
use Rattle.std.specs.Prelude.{reverse}
use Rattle.std.specs.List.{slice_get}
use Rattle.resource_box.specs.declared.resource.Resource.{Ghosts as Resources}
use Rattle.resource_box.specs.declared.call.Kind.{Kind}
use Rattle.subsystem_store.specs.Opened.{Opened}
use Rattle.history_files.specs.Boxes.{AreBoxes, AreParted}
use Rattle.history_files.specs.Sound.{kind_of}
use Rattle.history_files.specs.Standing.{AreStores, EachFits}

-- the kinds of n subsystems, from this one on
abbrev kinds_from : ℕ → ℕ → List Kind
kinds_from zero q = []
kinds_from (suc n) q = kind_of q ∷ kinds_from n (q + 1)

kinds_of : {A B : Type 0} (sort : B → Kind) (box : A → B) (xs : List A) (n q : ℕ) → length xs ≡ n
    → ((k : ℕ) (x : A) → slice_get xs k ≡ Some x → sort (box x) ≡ kind_of (q + k)) → map sort (map box xs) ≡ kinds_from n q
kinds_of sort box [] zero q many each = refl
kinds_of sort box [] (suc n) q many each = absurd (omega (arith, many))
kinds_of sort box (x ∷ xs) zero q many each = absurd (omega (arith, many))
kinds_of sort box (x ∷ xs) (suc n) q many each =
    let first : q + 0 ≡ q = omega arith in
    let next : (k : ℕ) → q + suc k ≡ q + 1 + k = λ k. omega arith in
    ap (λ k. k ∷ map sort (map box xs)) (each zero x refl ∙ ap kind_of first)
    ∙ ap (λ ks. kind_of q ∷ ks) (kinds_of sort box xs n (q + 1) (omega (arith, many)) (λ k y at. each (suc k) y at ∙ ap kind_of (next k)))

-- each box has the kind of its place
pub are_boxes : {B : Type 0} (box : Resources B) (stores : List (Opened B)) → AreStores stores → EachFits box stores → AreBoxes box.sort (map (λ s. s.resource) stores)
are_boxes {B} box stores are fits = kinds_of box.sort (λ (s : Opened B). s.resource) stores 8 0 are.eight (λ k s at. let here : k ≡ 0 + k = omega arith in (fits k s at).kind ∙ are.kind k s at ∙ ap kind_of here)

map_same : (ks : List Kind) → map (λ k. k) ks ≡ ks
map_same [] = refl
map_same (k ∷ ks) = ap (λ xs. k ∷ xs) (map_same ks)

-- and so has each store; with no box left they are all
pub all_parted : {B : Type 0} (sort : B → Kind) (stores : List (Opened B)) (boxes : List B) → AreStores stores → boxes ≡ [] → AreParted sort stores boxes
all_parted {B} sort stores boxes are none =
    ap (λ bs. map kind stores ++ reverse (map sort bs)) none ∙ append-nil (map kind stores) ∙ sym (map_same (map kind stores))
    ∙ kinds_of (λ k. k) kind stores 8 0 are.eight (λ k s at. let here : k ≡ 0 + k = omega arith in are.kind k s at ∙ ap kind_of here)
  where
    kind : Opened B → Kind
    kind s = s.kind
