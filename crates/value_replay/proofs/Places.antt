-- The boxes of the subsystems by their places, and which operations are on them.
use Rattle.std.proofs.Common.{◌≡◌, ◌<◌, ◌+◌, ℕ, zero, suc, true, List, [], ◌∷◌, map, length, refl, sym, ap, ◌∙◌, arith, Some}
use Rattle.std.specs.Prelude.{nat_le, nat_lt, slice_index_or}
use Rattle.std.specs.List.{list_all, slice_get}
use Rattle.std.proofs.lemmas.Bool.{and_parts, ltb-true}
use Rattle.std.proofs.lemmas.List.{length-map}
use Rattle.process_tree.specs.Blocks.{numbers_from}
use Rattle.process_tree.specs.Name.{is_name}
use Rattle.commute_table.specs.declared.op.Op.{Op}
use Rattle.commute_table.specs.declared.op.Verb.{Verb}
use Rattle.commute_table.specs.declared.op.Verb.TheVariants.{Add, Take, Look, Put, Hold, Free}
use Rattle.commute_table.specs.Operations.{is_good_op, takes}
use Rattle.resource_box.specs.declared.call.Kind.{Kind}
use Rattle.resource_box.specs.Table.{kind_of}
use Rattle.history_files.specs.Boxes.{AreBoxes}
use Rattle.history_files.specs.Sound.{kinds}
use Rattle.value_replay.specs.Replays.{ArePlaces, subsystems}

low_by : (q : ℕ) (verb : Verb) → takes q verb ≡ true → q < subsystems
low_by q Add is = let low = ltb-true q _ is in omega (arith, low)
low_by q Take is = let low = ltb-true q _ is in omega (arith, low)
low_by q Put is = let low = ltb-true q _ (and_parts (nat_le _ q) (nat_lt q _) is).1 in omega (arith, low)
low_by q Hold is = ltb-true q _ (and_parts (nat_le _ q) (nat_lt q _) is).1
low_by q Free is = ltb-true q _ (and_parts (nat_le _ q) (nat_lt q _) is).1
low_by q Look is = ltb-true q _ is

-- each operation of a catalog is on a subsystem that there is
pub are-places : (ops : List Op) → list_all is_good_op ops ≡ true → ArePlaces ops
are-places [] good op = omega arith
are-places (o ∷ ops) good zero = low_by o.subsystem o.verb (and_parts (is_name o.name) (takes o.subsystem o.verb) (and_parts (is_good_op o) (list_all is_good_op ops) good).0).1
are-places (o ∷ ops) good (suc n) = are-places ops (and_parts (is_good_op o) (list_all is_good_op ops) good).1 n

-- there is a box for each subsystem
pub as-many : {B : Type 0} (sort : B → Kind) (boxes : List B) → AreBoxes sort boxes → length boxes ≡ subsystems
as-many sort boxes is = sym (length-map boxes sort) ∙ ap length is

-- the kinds of all are those of their numbers
kinds-are : kinds ≡ map kind_of (numbers_from 0 subsystems)
kinds-are = refl

kind-at : (m k q : ℕ) (d : Kind) → q < k → slice_index_or (map kind_of (numbers_from m k)) q d ≡ kind_of (m + q)
kind-at m zero q d low = absurd (omega arith)
kind-at m (suc k) zero d low = ap kind_of (let same : m ≡ m + 0 = omega arith in same)
kind-at m (suc k) (suc q) d low = kind-at (m + 1) k q d (omega arith) ∙ ap kind_of (let same : m + 1 + q ≡ m + suc q = omega arith in same)

sort-at : {B : Type 0} (sort : B → Kind) (boxes : List B) (q : ℕ) (b : B) (d : Kind) → slice_get boxes q ≡ Some b → slice_index_or (map sort boxes) q d ≡ sort b
sort-at sort [] q b d is = absurd (cc)
sort-at sort (x ∷ boxes) zero b d is = ap sort (let same : x ≡ b = cc in same)
sort-at sort (x ∷ boxes) (suc q) b d is = sort-at sort boxes q b d is

-- the box at a place has the kind of its subsystem
pub box-kind : {B : Type 0} (sort : B → Kind) (boxes : List B) (q : ℕ) (b : B) → AreBoxes sort boxes → slice_get boxes q ≡ Some b → q < subsystems → sort b ≡ kind_of q
box-kind sort boxes q b is at low =
    sym (sort-at sort boxes q b (kind_of q) at)
    ∙ (ap (λ ks. slice_index_or ks q (kind_of q)) (is ∙ kinds-are) ∙ (kind-at 0 subsystems q (kind_of q) low ∙ ap kind_of (let same : 0 + q ≡ q = omega arith in same)))
