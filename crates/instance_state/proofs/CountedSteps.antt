-- The steps that follow through last alternatives are counted one by one.
use Rattle.std.proofs.Common.{◌≡◌, ℕ, zero, suc, ◌+◌, ◌≤◌, ◌<◌, true, List, [], ◌∷◌, ◌++◌, length, Option, Some, None, refl, sym, ap, subst, ◌∙◌, append_assoc, length-append, arith}
use Rattle.process_tree.specs.declared.block.Block.{Block}
use Rattle.process_tree.specs.declared.play.Place.{Place}
use Rattle.process_tree.specs.declared.play.Place.TheVariants.{Step}
use Rattle.process_tree.specs.Blocks.{outline}
use Rattle.process_tree.specs.Making.{tree_fault}
use Rattle.process_tree.specs.Recovery.{last_place_after, place_of}
use Rattle.process_tree.specs.Shape.{Shape, goes_on_to, greatest, next_steps, shape_of, last_after, last_path, with_rest}
use Rattle.process_tree.specs.Stands.{IsNext, left_from}
use Rattle.process_tree.proofs.InTurn.{greatest_is, greatest_next, kinds_count, last_on, last_place_on, next_left, place_step, step_within}
use Rattle.process_tree.proofs.Trees.{few_steps}

-- so many steps follow v, and then comes this place
pub record CountsTo (t : Shape) (v : List ℕ) (count : ℕ) (place : Place) : Type 0 where
  pub passed : List ℕ
  pub counted : length passed ≡ count
  pub at : place ≡ place_of (greatest (next_steps t (v ++ passed)))
  pub rest : passed ++ last_after t (v ++ passed) ≡ last_after t v

-- they are no more than the process has
few_behind : (t : Shape) (n : ℕ) (v : List ℕ) → length (last_path n t v) ≤ n
few_behind t zero v = omega arith
few_behind t (suc n) v = by_next (greatest (next_steps t v)) (λ d. few_behind t n (v ++ d ∷ []))
  where
    by_next : (o : Option ℕ) → ((d : ℕ) → length (last_path n t (v ++ d ∷ [])) ≤ n) → length (with_rest (λ d. last_path n t (v ++ d ∷ [])) o) ≤ suc n
    by_next None rest = omega arith
    by_next (Some d) rest = let r = rest d in omega arith

module _ (root : Block) (good : tree_fault root ≡ None) (v : List ℕ) (count : ℕ) (place : Place) (counts : CountsTo (shape_of root) v count place) where
  -- so few were passed
  pub few_passed : count ≤ 256
  few_passed =
      let whole = ap length counts.rest in
      let parts = length-append counts.passed (last_after (shape_of root) (v ++ counts.passed)) in
      let most = few_behind (shape_of root) (length (shape_of root).kinds) v in
      let kinds = kinds_count root in
      let few = few_steps root good in
      let same = counts.counted in
      omega arith

  module _ (d : ℕ) (is : place ≡ Step d) where
    next_is : greatest (next_steps (shape_of root) (v ++ counts.passed)) ≡ Some d
    next_is = place_step (greatest (next_steps (shape_of root) (v ++ counts.passed))) d (sym counts.at ∙ is)

    goes : goes_on_to (shape_of root) (v ++ counts.passed) d ≡ true
    goes = greatest_is (next_steps (shape_of root) (v ++ counts.passed)) d next_is

    -- the step that comes is one of the process
    pub comes_within : d < length (outline root).steps
    comes_within = step_within root (v ++ counts.passed) d good goes

    module _ (later : Place) (behind : later ≡ last_place_after (shape_of root) d) where
      abbrev more : List ℕ
      more = (v ++ counts.passed) ++ d ∷ []

      place_is : later ≡ place_of (greatest (next_steps (shape_of root) more))
      place_is = behind ∙ last_place_on root (v ++ counts.passed) d good next_is

      -- fewer are left
      pub fewer_left : left_from (length (outline root).steps) later < left_from (length (outline root).steps) place
      fewer_left = next_left root (v ++ counts.passed) more d place later good is goes refl (subst (IsNext (shape_of root) more) (sym place_is) (greatest_next (shape_of root) more))

      joined : v ++ (counts.passed ++ d ∷ []) ≡ more
      joined = sym (append_assoc v counts.passed (d ∷ []))

      -- one more is counted
      pub counts_more : CountsTo (shape_of root) v (count + 1) later
      counts_more = record {
        passed = counts.passed ++ d ∷ [];
        counted = length-append counts.passed (d ∷ []) ∙ ap (λ n. n + 1) counts.counted;
        at = place_is ∙ ap (λ u. place_of (greatest (next_steps (shape_of root) u))) (sym joined);
        rest =
            ap (λ u. (counts.passed ++ d ∷ []) ++ last_after (shape_of root) u) joined
            ∙ (append_assoc counts.passed (d ∷ []) (last_after (shape_of root) more)
            ∙ (ap (λ xs. counts.passed ++ xs) (sym (last_on root (v ++ counts.passed) d good next_is)) ∙ counts.rest));
      }
