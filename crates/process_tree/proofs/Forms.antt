-- Forms of choices between blocks that stand in a vector, and what blocks of equal forms say.
use Rattle.process_tree.specs.Making.{tree_fault, outline_fault}
use Rattle.std.proofs.Common.{◌≡◌, ℕ, ◌+◌, ◌<◌, List, [], ◌∷◌, ◌++◌, length, get_or, take, map, refl, sym, ap, ◌∙◌, None}
use Rattle.std.proofs.lemmas.List.{take_more, map-append}
use Rattle.std.specs.declared.vec.Vec.{Vec}
use Rattle.std.specs.declared.alloc.Global.{Global}
use Rattle.process_tree.specs.declared.step.Step.{Step}
use Rattle.process_tree.specs.declared.block.Block.{Block}
use Rattle.process_tree.specs.declared.block.Tail.{Tail, End, Choice, Choice', Row_of-Block, end_of-Block, more_of-Block, items-the_row-Block, items_hidden-the_row-Block-0}
use Rattle.process_tree.specs.Blocks.{outline_at_choice, outline_of, outlines_of, outline}
use Rattle.process_tree.specs.Form.{choosing, more_forms, form_at, forms_at, form_of, forms_from, outline_by, outlines_by}
use mathlib.Core.Former.{Count}

-- a row's forms are those of its blocks
forms_of_row : (n : _) (row : Row_of-Block n) → forms_at row ≡ forms_from (map form_of (items-the_row-Block n row))
forms_of_row n end_of-Block = refl
forms_of_row n (more_of-Block steps tail rest) = ap (more_forms (form_at steps tail)) (forms_of_row _ rest)

-- the row of a tail
abbrev row_of : Tail → (n : Count) × Row_of-Block n
row_of (Choice' _ row) = (_, row)
row_of End = (_, end_of-Block)

-- the form of a choice is that of its blocks
pub form_at-Choice : (steps : List Step) (blocks : Vec Block Global) → form_at steps (Choice blocks) ≡ choosing steps (forms_from (map form_of blocks.items))
form_at-Choice steps blocks =
    let row = row_of (Choice blocks) in
    let same = items_hidden-the_row-Block-0 blocks in
    ap (choosing steps) (forms_of_row row.0 row.1 ∙ ap (λ bs. forms_from (map form_of bs)) same)

-- a copy of a choice has its form
pub choice_copied : (block : Block) (blocks copies : Vec Block Global) (items : List Block) (steps : List Step) → block.tail ≡ Choice blocks → items ≡ blocks.items → steps ≡ block.steps → map form_of copies.items ≡ map form_of items → form_at steps (Choice copies) ≡ form_of block
choice_copied block blocks copies items steps is same own forms =
    form_at-Choice steps copies ∙ ap (λ fs. choosing steps (forms_from fs)) (forms ∙ ap (map form_of) same) ∙ ap (λ xs. choosing xs (forms_from (map form_of blocks.items))) own ∙ sym (form_at-Choice block.steps blocks) ∙ ap (form_at block.steps) (sym is)

-- a copy of one block more
pub block_copied : (copies items : List Block) (i : ℕ) (copy block : Block) → i < length items → block ≡ get_or items i block → form_of copy ≡ form_of block → map form_of copies ≡ map form_of (take i items) → map form_of (copies ++ copy ∷ []) ≡ map form_of (take (i + 1) items)
block_copied copies items i copy block lt is same h =
    let more : take (i + 1) items ≡ take i items ++ block ∷ [] = rw (take_more items i block lt, ← is) refl in
    map-append form_of copies (copy ∷ []) ∙ rw (h, same) refl ∙ sym (map-append form_of (take i items) (block ∷ [])) ∙ ap (map form_of) (sym more)

mutual
  by_form : (steps : List Step) (tail : Tail) → outline_of steps tail ≡ outline_by (form_at steps tail)
  by_form steps End = refl
  by_form steps (Choice' shape row) = ap (outline_at_choice steps) (rows_by_form row)

  rows_by_form : {m : _} (row : Row_of-Block m) → outlines_of row ≡ outlines_by (forms_at row)
  rows_by_form end_of-Block = refl
  rows_by_form (more_of-Block steps tail rest) = rw (by_form steps tail, rows_by_form rest) refl

-- blocks of equal forms say the same
pub same_outline : (a b : Block) → form_of a ≡ form_of b → outline a ≡ outline b
same_outline a b e = by_form a.steps a.tail ∙ ap outline_by e ∙ sym (by_form b.steps b.tail)

-- and the same is refused of them
pub same_fault : (a b : Block) → form_of a ≡ form_of b → tree_fault b ≡ None → tree_fault a ≡ None
same_fault a b e none = ap outline_fault (same_outline a b e) ∙ none
