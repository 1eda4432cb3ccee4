-- A choice between blocks that stand in a vector.
use Rattle.std.proofs.Common.{◌≡◌, List, ◌∷◌, map, ap, ◌∙◌, refl, sym}
use Rattle.std.specs.declared.vec.Vec.{Vec}
use Rattle.std.specs.declared.alloc.Global.{Global}
use Rattle.process_tree.specs.declared.step.Step.{Step}
use Rattle.process_tree.specs.declared.block.Block.{Block}
use Rattle.process_tree.specs.declared.block.Tail.{Tail, End, Choice, Choice', Row_of-Block, end_of-Block, more_of-Block, items-the_row-Block, items_hidden-the_row-Block-0}
use Rattle.process_tree.specs.Blocks.{outline_at_choice, outline_of, outlines_of, outline}
use mathlib.Core.Former.{Count}

-- a row's outlines are those of its blocks
outlines_of_row : (n : _) (row : Row_of-Block n) → outlines_of row ≡ map outline (items-the_row-Block n row)
outlines_of_row n end_of-Block = refl
outlines_of_row n (more_of-Block steps tail rest) = ap (λ os. outline_of steps tail ∷ os) (outlines_of_row _ rest)

-- the row of a tail
abbrev row_of : Tail → (n : Count) × Row_of-Block n
row_of (Choice' _ row) = (_, row)
row_of End = (_, end_of-Block)

-- the outline of a choice is that of its blocks
pub outline_of-Choice : (steps : List Step) (blocks : Vec Block Global) → outline_of steps (Choice blocks) ≡ outline_at_choice steps (map outline blocks.items)
outline_of-Choice steps blocks =
    let row = row_of (Choice blocks) in
    let same = items_hidden-the_row-Block-0 blocks in
    ap (outline_at_choice steps) (outlines_of_row row.0 row.1 ∙ ap (map outline) same)

-- the same of a block whose tail is one
pub outline-choice : (block : Block) (blocks : Vec Block Global) (items : List Block) → block.tail ≡ Choice blocks → items ≡ blocks.items → outline block ≡ outline_at_choice block.steps (map outline items)
outline-choice block blocks items is same =
    ap (outline_of block.steps) is ∙ outline_of-Choice block.steps blocks ∙ ap (λ bs. outline_at_choice block.steps (map outline bs)) (sym same)
