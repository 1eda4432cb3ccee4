-- Where a refused step of a tree falls back to.
use Rattle.std.proofs.lemmas.Bool.{eq-eqb, ne_eqb}
use Rattle.std.proofs.Common.{◌≡◌, ℕ, ◌≤◌, true, List, [], ◌∷◌, length, Option, Some, None, sym, ap, ◌∙◌, arith, if◌then◌else◌}
use Rattle.std.specs.Option.{IfSome}
use Rattle.std.specs.List.{filter_map}
use Rattle.process_tree.specs.declared.block.Block.{Block}
use Rattle.process_tree.specs.declared.play.Fallback.TheVariants as fallback
use Rattle.process_tree.specs.Blocks.{outline}
use Rattle.process_tree.specs.Making.{tree_fault}
use Rattle.process_tree.specs.Order.{Each, has}
use Rattle.process_tree.specs.Paths.{way_from, kept_len}
use Rattle.process_tree.specs.Shape.{shape_of, branch_to, path_through, steps_before, fixed_len, last_commit, least}
use Rattle.process_tree.specs.Play.{fallback_of, fallback_by, fallback_place, kept_for}
use Rattle.process_tree.proofs.Onward.{branch_from}
use Rattle.process_tree.proofs.Fixed.{fixed_le}
use Rattle.process_tree.proofs.Kept.{fallback_is, kept_is, last_commit_on, branch_below, branch_rises, branch_within, rising_short, kept_goes_on}
use Rattle.process_tree.proofs.Trees.{tree_laid_out, few_steps}

-- a commit point of the branch is on it
pub commit_on : (root : Block) (n : ℕ) (commit : Option ℕ) (branch : List ℕ) → commit ≡ last_commit (shape_of root) (branch_to (shape_of root) n) → branch ≡ branch_to (shape_of root) n → IfSome commit (λ step. has step branch ≡ true)
commit_on root n None branch is same = tt
commit_on root n (Some c) branch is same = ap (has c) same ∙ last_commit_on (shape_of root) (branch_to (shape_of root) n) c (sym is)

-- what was found for a step n of a tree
pub record Looked (root : Block) (n : ℕ) (commit : Option ℕ) (branch : List ℕ) (kept : ℕ) (way : Option ℕ) : Type 0 where
  pub good : tree_fault root ≡ None
  pub commit_is : commit ≡ last_commit (shape_of root) (branch_to (shape_of root) n)
  pub branch_is : branch ≡ branch_to (shape_of root) n
  pub kept_is : kept ≡ kept_len branch commit
  pub way_is : way ≡ least (filter_map (way_from kept branch n) (outline root).paths)

-- what the calls for it answered
pub look : (root self : Block) (n : ℕ) (commit : Option ℕ) (branch : List ℕ) (kept : ℕ) (way : Option ℕ) (paths here there : List (List ℕ)) → tree_fault root ≡ None → root ≡ self → paths ≡ (outline root).paths → here ≡ paths → there ≡ paths → commit ≡ last_commit (shape_of self) (branch_to (shape_of self) n) → branch ≡ steps_before n (path_through n here) → kept ≡ kept_len branch commit → way ≡ least (filter_map (way_from kept branch n) there) → Looked root n commit branch kept way
look root self n commit branch kept way paths here there good view is at too last before fixed least_of = record {
  good = good;
  commit_is = last ∙ ap (λ r. last_commit (shape_of r) (branch_to (shape_of r) n)) (sym view);
  branch_is = before ∙ ap (λ ps. steps_before n (path_through n ps)) (at ∙ is);
  kept_is = fixed;
  way_is = least_of ∙ ap (λ ps. least (filter_map (way_from kept branch n) ps)) (too ∙ is);
}

kept_fixed : (root : Block) (n : ℕ) (commit : Option ℕ) (branch : List ℕ) (kept : ℕ) (way : Option ℕ) → Looked root n commit branch kept way → kept ≡ fixed_len (shape_of root) (branch_to (shape_of root) n)
kept_fixed root n commit branch kept way l =
    let t = shape_of root in
    let w = branch_to t n in
    let laid = tree_laid_out root l.good in
    l.kept_is
    ∙ ap (λ v. kept_len v commit) l.branch_is
    ∙ ap (kept_len w) l.commit_is
    ∙ kept_is (fixed_len t w) w (fixed_le t w) (branch_rises t n laid.rising)

way_falls : (root : Block) (n : ℕ) (commit : Option ℕ) (branch : List ℕ) (kept : ℕ) (way : Option ℕ) → Looked root n commit branch kept way → way ≡ fallback_of (shape_of root) (branch_to (shape_of root) n) n
way_falls root n commit branch kept way l =
    let t = shape_of root in
    let w = branch_to t n in
    let laid = tree_laid_out root l.good in
    l.way_is
    ∙ ap (λ k. least (filter_map (way_from k branch n) (outline root).paths)) (kept_fixed root n commit branch kept way l)
    ∙ ap (λ v. least (filter_map (way_from (fixed_len t w) v n) (outline root).paths)) l.branch_is
    ∙ sym (fallback_is t w n (fixed_le t w) (branch_below t n laid.rising))

-- there is a way on
pub falls_to : (root : Block) (n d : ℕ) (commit : Option ℕ) (branch to_branch : List ℕ) (kept : ℕ) (way : Option ℕ) → Looked root n commit branch kept way → way ≡ Some d → to_branch ≡ branch_to (shape_of root) d → fallback.Alternative (length to_branch) d ≡ fallback_place (shape_of root) n
falls_to root n d commit branch to_branch kept way l some is =
    let t = shape_of root in
    let w = branch_to t n in
    let laid = tree_laid_out root l.good in
    let falls = sym (way_falls root n commit branch kept way l) ∙ some in
    let from = branch_from t (kept_for t w d) d laid.in_order laid.rising (kept_goes_on t w n d falls) in
    ap (λ v. fallback.Alternative (length v) d) (is ∙ from) ∙ sym (ap (fallback_by t w) falls)

-- there is none, and nothing is fixed
pub falls_to_nothing : (root : Block) (n : ℕ) (commit : Option ℕ) (branch : List ℕ) (kept : ℕ) (way : Option ℕ) → Looked root n commit branch kept way → way ≡ None → commit ≡ None → fallback.All ≡ fallback_place (shape_of root) n
falls_to_nothing root n commit branch kept way l none free =
    let t = shape_of root in
    let w = branch_to t n in
    let falls = sym (way_falls root n commit branch kept way l) ∙ none in
    let zero : fixed_len t w ≡ 0 = sym (kept_fixed root n commit branch kept way l) ∙ l.kept_is ∙ ap (kept_len branch) free in
    sym (ap (fallback_by t w) falls ∙ ap (λ b. if b then fallback.All else fallback.Stuck) (eq-eqb (fixed_len t w) 0 zero))

-- there is none, and a commit point stands
pub falls_nowhere : (root : Block) (n c : ℕ) (commit : Option ℕ) (branch : List ℕ) (kept : ℕ) (way : Option ℕ) → Looked root n commit branch kept way → way ≡ None → commit ≡ Some c → fallback.Stuck ≡ fallback_place (shape_of root) n
falls_nowhere root n c commit branch kept way l none fixed =
    let t = shape_of root in
    let w = branch_to t n in
    let falls = sym (way_falls root n commit branch kept way l) ∙ none in
    let some : fixed_len t w ≡ kept_len branch (Some c) = sym (kept_fixed root n commit branch kept way l) ∙ l.kept_is ∙ ap (kept_len branch) fixed in
    sym (ap (fallback_by t w) falls ∙ ap (λ b. if b then fallback.All else fallback.Stuck) (ne_eqb (fixed_len t w) 0 (λ e. omega arith)))

-- a branch is short
pub branch_short : (root : Block) (n : ℕ) → tree_fault root ≡ None → length (branch_to (shape_of root) n) ≤ 256
branch_short root n good =
    let t = shape_of root in
    let laid = tree_laid_out root good in
    let c = length (outline root).steps in
    omega (arith, few_steps root good, rising_short 0 c (branch_to t n) (omega arith) (each_from_zero (branch_to t n)) (branch_within t n c laid.within) (branch_rises t n laid.rising))
  where
    each_from_zero : (p : List ℕ) → Each (λ x. 0 ≤ x) p
    each_from_zero [] = tt
    each_from_zero (x ∷ p) = (omega arith, each_from_zero p)
