-- Boxes that are emptied one after another, and that come back from stores.
use Rattle.std.proofs.Common.{◌≡◌, ◌≢◌, ◌⊎◌, inl, inr, ◌<◌, ◌+◌, ℕ, zero, suc, List, [], ◌∷◌, ◌++◌, map, length, refl, sym, ◌∙◌, ap, subst, arith, Some}
use Rattle.std.specs.Prelude.{slice_set, get_or, reverse, unwrap_or}
use Rattle.std.proofs.lemmas.Option.{none-some}
use Rattle.history_files.specs.Sound.{kinds, kind_of}
use Rattle.resource_box.specs.declared.call.Kind.TheVariants.{Counters, Cells, Seats}
use Rattle.std.specs.List.{slice_get}
use Rattle.std.proofs.lemmas.List.{map_push, reverse-append, length-append, length-map, length-reverse}
use Rattle.std.proofs.lemmas.Option.{slice_get_within}
use Rattle.process_tree.proofs.NthStep.{slice_get-left, slice_get-right}
use Rattle.resource_box.specs.declared.call.Kind.{Kind}
use Rattle.subsystem_store.specs.Opened.{Opened}
use Rattle.history_files.specs.Boxes.{AreParted}
use Rattle.history_files.specs.Standing.{AreStores, AtEach}
use Rattle.history_files.proofs.Places.{place_of_set}

-- with an element in one place of which f is the same, f of each is the same
pub map-set : {A B : Type 0} (f : A → B) (xs : List A) (q : ℕ) (y d : A) → q < length xs → f y ≡ f (get_or xs q d) → map f (slice_set xs q y) ≡ map f xs
map-set f [] q y d within same = absurd (omega (arith, within))
map-set f (x ∷ xs) zero y d within same = ap (λ b. b ∷ map f xs) same
map-set f (x ∷ xs) (suc q) y d within same = ap (λ bs. f x ∷ bs) (map-set f xs q y d (omega (arith, within)) same)

-- where each element below place n is so, and the one at place n is made so, each below the next place is
pub so_below : {A : Type 0} (P : A → Type 0) (xs : List A) (n : ℕ) (y : A) → ((q : ℕ) (x : A) → q < n → slice_get xs q ≡ Some x → P x) → P y
    → (q : ℕ) (x : A) → q < n + 1 → slice_get (slice_set xs n y) q ≡ Some x → P x
so_below P xs n y below own q x within at = by (place_of_set xs n y q x at)
  where
    by : ((q ≡ n) × (x ≡ y)) ⊎ ((q ≢ n) × (slice_get xs q ≡ Some x)) → P x
    by (inl here) = subst P (sym here.1) own
    by (inr there) = below q x (omega (arith, within, there.0)) there.1

-- of the last element, f comes first in the reverse
pub reverse_push : {A B : Type 0} (f : A → B) (xs : List A) (y : A) → reverse (map f (xs ++ y ∷ [])) ≡ f y ∷ reverse (map f xs)
reverse_push f xs y = ap reverse (map_push f xs y) ∙ reverse-append (map f xs) (f y ∷ [])

-- an element that goes over from the end of one list to the front of what follows
pub goes_over : {A : Type 0} (xs ys : List A) (x : A) → (xs ++ x ∷ []) ++ ys ≡ xs ++ x ∷ ys
goes_over [] ys x = refl
goes_over (a ∷ xs) ys x = ap (λ zs. a ∷ zs) (goes_over xs ys x)

-- f of a reversed list
pub map_reverse : {A B : Type 0} (f : A → B) (xs : List A) → map f (reverse xs) ≡ reverse (map f xs)
map_reverse f [] = refl
map_reverse f (x ∷ xs) = ap (map f) (reverse-append (x ∷ []) xs) ∙ map_push f (reverse xs) x ∙ ap (λ bs. bs ++ f x ∷ []) (map_reverse f xs) ∙ sym (reverse-append (f x ∷ []) (map f xs))

-- a store whose box goes back behind the others
pub comes_back : {B : Type 0} (sort : B → Kind) (stores : List (Opened B)) (s : Opened B) (boxes : List B) (b : B) → sort b ≡ s.kind → AreParted sort (stores ++ s ∷ []) boxes
    → AreParted sort stores (boxes ++ b ∷ [])
comes_back {B} sort stores s boxes b same parted =
    ap (λ ks. map kind stores ++ ks) (reverse_push sort boxes b ∙ ap (λ k. k ∷ reverse (map sort boxes)) same)
    ∙ sym (goes_over (map kind stores) (reverse (map sort boxes)) s.kind)
    ∙ ap (λ ks. ks ++ reverse (map sort boxes)) (sym (map_push kind stores s))
    ∙ parted
  where
    kind : Opened B → Kind
    kind s = s.kind

-- and one that is made of the last of them
pub goes_in : {B : Type 0} (sort : B → Kind) (stores : List (Opened B)) (s : Opened B) (boxes : List B) (b : B) → sort b ≡ s.kind → AreParted sort stores (boxes ++ b ∷ [])
    → AreParted sort (stores ++ s ∷ []) boxes
goes_in {B} sort stores s boxes b same parted =
    ap (λ ks. ks ++ reverse (map sort boxes)) (map_push kind stores s)
    ∙ goes_over (map kind stores) (reverse (map sort boxes)) s.kind
    ∙ ap (λ ks. map kind stores ++ ks) (sym (reverse_push sort boxes b ∙ ap (λ k. k ∷ reverse (map sort boxes)) same))
    ∙ parted
  where
    kind : Opened B → Kind
    kind s = s.kind

-- what holds of each of a list and one more, holds of each of the list
pub each_of_more : {A : Type 0} (P : ℕ → A → Type 0) (xs : List A) (y : A) → AtEach P (xs ++ y ∷ []) → AtEach P xs
each_of_more P xs y each q x at = each q x (slice_get-left xs (y ∷ []) q (slice_get_within xs q x at) ∙ at)

-- and of the one more
pub last_of_more : {A : Type 0} (P : ℕ → A → Type 0) (xs : List A) (y : A) → AtEach P (xs ++ y ∷ []) → P (length xs) y
last_of_more P xs y each = each (length xs) y (ap (slice_get (xs ++ y ∷ [])) (omega arith) ∙ slice_get-right xs (y ∷ []) 0)

-- without a store all boxes are there, the last one first
pub no_stores : {B : Type 0} (sort : B → Kind) (stores : List (Opened B)) (boxes : List B) → length stores ≡ 0 → AreParted sort stores boxes → reverse (map sort boxes) ≡ kinds
no_stores sort [] boxes none parted = parted
no_stores sort (s ∷ stores) boxes none parted = absurd (omega (arith, none))

-- what holds of each of a list, and of one more, holds of each with it
pub each_with : {A : Type 0} (P : ℕ → A → Type 0) (xs : List A) (y : A) → AtEach P xs → P (length xs) y → AtEach P (xs ++ y ∷ [])
each_with P [] y each own zero x at = subst (P 0) (ap (λ o. unwrap_or o y) at) own
each_with P [] y each own (suc q) x at = absurd (none-some x at)
each_with P (a ∷ xs) y each own zero x at = each 0 x at
each_with P (a ∷ xs) y each own (suc q) x at = each_with (λ k. P (suc k)) xs y (λ k z at. each (suc k) z at) own q x at

-- as in a list to which it was pushed
pub each_pushed : {A : Type 0} (P : ℕ → A → Type 0) (xs : List A) (y : A) (pushed : List A) → pushed ≡ xs ++ y ∷ [] → AtEach P xs → P (length xs) y → AtEach P pushed
each_pushed P xs y pushed is each own = subst (AtEach P) (sym is) (each_with P xs y each own)

-- the stores and the boxes are eight
pub parted_count : {B : Type 0} (sort : B → Kind) (stores : List (Opened B)) (boxes : List B) → AreParted sort stores boxes → length stores + length boxes ≡ 8
parted_count {B} sort stores boxes parted =
    sym (length-append (map kind stores) (reverse (map sort boxes)) ∙ ap (λ n. n + length (reverse (map sort boxes))) (length-map stores kind)
    ∙ ap (λ n. length stores + n) (length-reverse (map sort boxes) ∙ length-map boxes sort)) ∙ ap length parted
  where
    kind : Opened B → Kind
    kind s = s.kind

-- the kind at a place of the eight
kind_at : (n : ℕ) (k : Kind) → n < 8 → slice_get kinds n ≡ Some k → k ≡ kind_of n
kind_at zero k within at = ap (λ o. unwrap_or o Counters) (sym at)
kind_at (suc zero) k within at = ap (λ o. unwrap_or o Counters) (sym at)
kind_at (suc (suc zero)) k within at = ap (λ o. unwrap_or o Counters) (sym at)
kind_at (suc (suc (suc zero))) k within at = ap (λ o. unwrap_or o Counters) (sym at)
kind_at (suc (suc (suc (suc zero)))) k within at = ap (λ o. unwrap_or o Cells) (sym at)
kind_at (suc (suc (suc (suc (suc zero))))) k within at = ap (λ o. unwrap_or o Cells) (sym at)
kind_at (suc (suc (suc (suc (suc (suc zero)))))) k within at = ap (λ o. unwrap_or o Seats) (sym at)
kind_at (suc (suc (suc (suc (suc (suc (suc zero))))))) k within at = ap (λ o. unwrap_or o Seats) (sym at)
kind_at (suc (suc (suc (suc (suc (suc (suc (suc n)))))))) k within at = absurd (omega (arith, within))

-- f of the element at a place
at_map : {A B : Type 0} (f : A → B) (xs : List A) (q : ℕ) (x : A) → slice_get xs q ≡ Some x → slice_get (map f xs) q ≡ Some (f x)
at_map f [] q x at = absurd (none-some x at)
at_map f (a ∷ xs) zero x at = ap (λ o. Some (f (unwrap_or o x))) at
at_map f (a ∷ xs) (suc q) x at = at_map f xs q x at

-- each store has the kind of its place
pub kinds_in_place : {B : Type 0} (sort : B → Kind) (stores : List (Opened B)) (boxes : List B) → AreParted sort stores boxes → AtEach (λ q s. s.kind ≡ kind_of q) stores
kinds_in_place {B} sort stores boxes parted q s at =
    let here = at_map kind stores q s at in
    let within = slice_get_within stores q s at in
    kind_at q s.kind (omega (arith, within, parted_count sort stores boxes parted))
    (ap (λ ks. slice_get ks q) (sym parted) ∙ slice_get-left (map kind stores) (reverse (map sort boxes)) q (slice_get_within (map kind stores) q s.kind here) ∙ here)
  where
    kind : Opened B → Kind
    kind s = s.kind

-- and so has the box that comes next
pub next_kind : {B : Type 0} (sort : B → Kind) (stores : List (Opened B)) (boxes : List B) (b : B) → AreParted sort stores (boxes ++ b ∷ []) → sort b ≡ kind_of (length stores)
next_kind {B} sort stores boxes b parted =
    kind_at (length stores) (sort b) (omega (arith, parted_count sort stores (boxes ++ b ∷ []) parted, length-append boxes (b ∷ [])))
    (ap (λ ks. slice_get ks (length stores)) (sym (ap (λ ks. map kind stores ++ ks) (sym (reverse_push sort boxes b)) ∙ parted))
    ∙ ap (slice_get (map kind stores ++ sort b ∷ reverse (map sort boxes))) (count (length stores) (length (map kind stores)) (length-map stores kind))
    ∙ slice_get-right (map kind stores) (sort b ∷ reverse (map sort boxes)) 0)
  where
    kind : Opened B → Kind
    kind s = s.kind

    count : (n m : ℕ) → m ≡ n → n ≡ m + 0
    count n m same = omega (arith, same)

-- once no box is left, the stores on the files in order are the eight
pub are_filled : {B : Type 0} (sort : B → Kind) (stores : List (Opened B)) (boxes : List B) → AreParted sort stores boxes → AtEach (λ q s. s.log.file ≡ q + 1) stores → length boxes ≡ 0 → AreStores stores
are_filled sort stores boxes parted files none = record {
  eight = omega (arith, parted_count sort stores boxes parted, none);
  file = files;
  kind = kinds_in_place sort stores boxes parted;
}
