-- What holds of the shape of a tree.
use Rattle.std.proofs.Common.{[], if◌then◌else◌, Option, ◌≡◌, ℕ, ◌≤◌, Bool, true, false, Some, None, length, refl, sym, ap, nat_lt}
use Rattle.std.proofs.lemmas.Bool.{ltb-false}
use Rattle.std.specs.List.{filter_map}
use Rattle.process_tree.specs.declared.block.Block.{Block}
use Rattle.process_tree.specs.declared.tree.TreeError.{TreeError}
use Rattle.process_tree.specs.declared.tree.TreeError.TheVariants.{Empty, Steps, Nesting, Alternatives, SameName, Number}
use Rattle.process_tree.specs.Blocks.{outline}
use Rattle.process_tree.specs.Making.{tree_fault, refused_at, first_same_name, first_bad_step}
use Rattle.process_tree.specs.Shape.{shape_of, least, greatest}
use Rattle.process_tree.specs.Paths.{step_behind}
use Rattle.process_tree.specs.Recovery.{place_of, place_after, last_place_after}
use Rattle.process_tree.specs.Order.{IsLaidOut}
use Rattle.process_tree.proofs.LaidOut.{laid_out}
use Rattle.process_tree.proofs.Onward.{next_behind}

-- no block of a tree is empty
pub not_empty : (root : Block) → tree_fault root ≡ None → (outline root).has_empty ≡ false
not_empty root good = by_test (outline root).has_empty refl
  where
    by_test : (b : Bool) → (outline root).has_empty ≡ b → (outline root).has_empty ≡ false
    by_test true is =
        let fault : tree_fault root ≡ Some Empty = rw is refl in
        absurd (cc)
    by_test false is = is

-- the whole paths of a tree lie in order
pub tree_laid_out : (root : Block) → tree_fault root ≡ None → IsLaidOut (length (outline root).steps) (outline root).paths
tree_laid_out root good = laid_out root (not_empty root good)

-- the places after a step
pub place_behind : (root : Block) (n : ℕ) → tree_fault root ≡ None → place_of (least (filter_map (step_behind (Some n)) (outline root).paths)) ≡ place_after (shape_of root) n
place_behind root n good =
    let laid = tree_laid_out root good in
    ap (λ xs. place_of (least xs)) (sym (next_behind (shape_of root) n laid.in_order laid.rising))

pub last_place_behind : (root : Block) (n : ℕ) → tree_fault root ≡ None → place_of (greatest (filter_map (step_behind (Some n)) (outline root).paths)) ≡ last_place_after (shape_of root) n
last_place_behind root n good =
    let laid = tree_laid_out root good in
    ap (λ xs. place_of (greatest xs)) (sym (next_behind (shape_of root) n laid.in_order laid.rising))

-- a tree has at most 256 steps
pub few_steps : (root : Block) → tree_fault root ≡ None → length (outline root).steps ≤ 256
few_steps root good = by_test (nat_lt 256 (length (outline root).steps)) refl
  where
    by_test : (b : Bool) → nat_lt 256 (length (outline root).steps) ≡ b → length (outline root).steps ≤ 256
    by_test true is =
        let fault : tree_fault root ≡ Some (Steps (length (outline root).steps)) = rw (not_empty root good, is) refl in
        absurd (cc)
    by_test false is = ltb-false 256 (length (outline root).steps) is

-- of four refusals, none came
last_refusal : (a b c : Bool) (x y z : TreeError) (rest : Option TreeError) →
    (if a then Some x else (if b then Some y else (if c then Some z else rest))) ≡ None → rest ≡ None
last_refusal true b c x y z rest e = absurd (cc)
last_refusal false true c x y z rest e = absurd (cc)
last_refusal false false true x y z rest e = absurd (cc)
last_refusal false false false x y z rest e = e

not_refused : (error : ℕ → TreeError) (o : Option ℕ) (rest : Option TreeError) → refused_at error o rest ≡ None → o ≡ None
not_refused error None rest e = refl
not_refused error (Some n) rest e = absurd (cc)

-- no choice of a tree has fewer than 2 or more than 8 alternatives
pub none_odd : (root : Block) → tree_fault root ≡ None → (outline root).odd_choice ≡ None
none_odd root good =
    let o = outline root in
    let names = refused_at SameName (first_same_name 0 [] o.steps) (refused_at Number (first_bad_step 0 o.steps) None) in
    not_refused Alternatives o.odd_choice names
    (last_refusal o.has_empty (nat_lt 256 (length o.steps)) (nat_lt 16 o.nesting) Empty (Steps (length o.steps)) (Nesting o.nesting) (refused_at Alternatives o.odd_choice names) good)
