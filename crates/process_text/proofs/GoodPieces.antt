-- That the steps of a tree are within their limits, piece by piece.
use Rattle.std.proofs.Common.{◌≡◌, ℕ, ◌+◌, List, [], ◌∷◌, ◌++◌, Bool, true, false, Some, None, refl, sym, ap, ◌∙◌, if◌then◌else◌}
use Rattle.std.specs.Bool.{⊤}
use Rattle.std.specs.List.{list_all}
use Rattle.std.proofs.lemmas.Bool.{and_parts, and_from}
use Rattle.std.proofs.lemmas.List.Folds.{list_all-append}
use Rattle.process_tree.specs.declared.step.Step.{Step}
use Rattle.process_tree.specs.declared.block.Block.{Block}
use Rattle.process_tree.specs.declared.block.Tail.{Tail, End, Choice', Row_of-Block, end_of-Block, more_of-Block}
use Rattle.process_tree.specs.Blocks.{all_steps, outline, outline_of, outlines_of}
use Rattle.process_tree.specs.Making.{is_good_step, first_bad_step, tree_fault}
use Rattle.text_words.specs.declared.marks.Mark.TheVariants as marks
use Rattle.process_text.specs.Grammar.{Piece, process, step, mark, step_pieces, pieces_of, pieces_in, alternatives, block_pieces}
use Rattle.process_text.proofs.Within.{within_of_tree}

-- each step of these pieces is within its limits
abbrev pub AreGood : List Piece → Type 0
AreGood [] = ⊤
AreGood (process name ∷ ps) = AreGood ps
AreGood (step s ∷ ps) = (is_good_step s ≡ true) × AreGood ps
AreGood (mark m ∷ ps) = AreGood ps

pub good_both : (ps qs : List Piece) → AreGood ps → AreGood qs → AreGood (ps ++ qs)
good_both [] qs first later = later
good_both (process name ∷ ps) qs first later = good_both ps qs first later
good_both (step s ∷ ps) qs first later = (first.0, good_both ps qs first.1 later)
good_both (mark m ∷ ps) qs first later = good_both ps qs first later

-- where no step is bad, all are good
none_bad : (n : ℕ) (ss : List Step) → first_bad_step n ss ≡ None → list_all is_good_step ss ≡ true
none_bad n [] none = refl
none_bad n (s ∷ ss) none = by_test (is_good_step s) refl (λ e. none_bad (n + 1) ss (sym (ap (λ b. if b then first_bad_step (n + 1) ss else Some n) e) ∙ none))
  where
    by_test : (b : Bool) → is_good_step s ≡ b → (is_good_step s ≡ true → list_all is_good_step ss ≡ true) → list_all is_good_step (s ∷ ss) ≡ true
    by_test true e rest = and_from (is_good_step s) (list_all is_good_step ss) e (rest e)
    by_test false e rest = let told : Some n ≡ None = sym (ap (λ b. if b then first_bad_step (n + 1) ss else Some n) e) ∙ none in absurd (cc)

good_steps : (ss : List Step) → list_all is_good_step ss ≡ true → AreGood (step_pieces ss)
good_steps [] e = tt
good_steps (s ∷ ss) e = let parts = and_parts (is_good_step s) (list_all is_good_step ss) e in (parts.0, good_steps ss parts.1)

split : (ss ts : List Step) → list_all is_good_step (ss ++ ts) ≡ true → (list_all is_good_step ss ≡ true) × (list_all is_good_step ts ≡ true)
split ss ts e = and_parts (list_all is_good_step ss) (list_all is_good_step ts) (sym (list_all-append is_good_step ss ts) ∙ e)

mutual
  good_block : (steps : List Step) (tail : Tail) → list_all is_good_step (outline_of steps tail).steps ≡ true → AreGood (pieces_of steps tail)
  good_block steps End e = good_steps steps e
  good_block steps (Choice' shape row) e =
      let parts = split steps (all_steps (outlines_of row)) e in
      good_both (step_pieces steps) (mark marks.Choose ∷ alternatives (pieces_in row)) (good_steps steps parts.0) (good_row row parts.1)

  good_row : {m : _} (row : Row_of-Block m) → list_all is_good_step (all_steps (outlines_of row)) ≡ true → AreGood (alternatives (pieces_in row))
  good_row end_of-Block e = tt
  good_row (more_of-Block steps tail end_of-Block) e =
      let parts = split (outline_of steps tail).steps [] e in
      good_both (pieces_of steps tail) (mark marks.Done ∷ []) (good_block steps tail parts.0) tt
  good_row (more_of-Block steps tail (more_of-Block steps2 tail2 rest)) e =
      let parts = split (outline_of steps tail).steps (all_steps (outlines_of (more_of-Block steps2 tail2 rest))) e in
      good_both (pieces_of steps tail) (mark marks.Or ∷ alternatives (pieces_in (more_of-Block steps2 tail2 rest))) (good_block steps tail parts.0) (good_row (more_of-Block steps2 tail2 rest) parts.1)

-- a tree without fault has good steps
pub good_tree : (root : Block) → tree_fault root ≡ None → AreGood (block_pieces root)
good_tree root none = good_block root.steps root.tail (none_bad 0 (outline root).steps (within_of_tree root none).good)
