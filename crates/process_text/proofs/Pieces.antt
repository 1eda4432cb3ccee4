-- Pieces that are written one after another.
use Rattle.std.proofs.Common.{◌≡◌, ℕ, List, [], ◌∷◌, ◌++◌, map, flat_map, ap, sym, refl, ◌∙◌, append_assoc, append-nil, subst}
use Rattle.std.proofs.lemmas.Grind.{flat_map-append}
use Rattle.std.proofs.lemmas.List.{map-append}
use Rattle.std.specs.declared.vec.Vec.{Vec}
use Rattle.std.specs.declared.alloc.Global.{Global}
use Rattle.process_tree.specs.declared.step.Step.{Step}
use Rattle.process_tree.specs.declared.block.Block.{Block}
use Rattle.process_tree.specs.declared.block.Tail.{Tail, End, Choice, Choice', Row_of-Block, end_of-Block, more_of-Block, items-the_row-Block, items_hidden-the_row-Block-0}
use Rattle.text_words.specs.declared.marks.Mark.TheVariants as marks
use Rattle.text_words.specs.Marks.{mark_word}
use Rattle.process_text.specs.Grammar.{Piece, step, mark, IsPiece, IsStep, Writes, step_pieces, block_pieces, pieces_of, pieces_in, alternatives}
use mathlib.Core.Former.{Count}

-- pieces, and then pieces
pub writes_both : (ps qs : List Piece) (a b c : List (List ℕ)) → Writes ps a b → Writes qs b c → Writes (ps ++ qs) a c
writes_both [] qs a b c first then = subst (λ (x : List (List ℕ)). Writes qs x c) (sym first) then
writes_both (p ∷ ps) qs a b c first then = (first.0, first.1, writes_both ps qs first.0 b c first.2 then)

-- one piece
pub writes_one : (p : Piece) (a b : List (List ℕ)) → IsPiece p a b → Writes (p ∷ []) a b
writes_one p a b is = (b, is, refl)

-- one step more
pub writes_step : (ss : List Step) (s : Step) (a b c : List (List ℕ)) → Writes (step_pieces ss) a b → IsStep s b c → Writes (step_pieces (ss ++ s ∷ [])) a c
writes_step ss s a b c first is =
    rw (map-append (λ (r : Step). step r) ss (s ∷ [])) (writes_both (step_pieces ss) (step s ∷ []) a b c first (writes_one (step s) b c is))

-- a row's pieces are those of its blocks
pieces_in_row : (n : _) (row : Row_of-Block n) → pieces_in row ≡ map block_pieces (items-the_row-Block n row)
pieces_in_row n end_of-Block = refl
pieces_in_row n (more_of-Block steps tail rest) = ap (λ os. pieces_of steps tail ∷ os) (pieces_in_row _ rest)

-- the row of a tail
abbrev row_of : Tail → (n : Count) × Row_of-Block n
row_of (Choice' _ row) = (_, row)
row_of End = (_, end_of-Block)

-- the pieces of a choice are those of its blocks
pub pieces_of-Choice : (steps : List Step) (blocks : Vec Block Global) → pieces_of steps (Choice blocks) ≡ step_pieces steps ++ mark marks.Choose ∷ alternatives (map block_pieces blocks.items)
pieces_of-Choice steps blocks =
    let row = row_of (Choice blocks) in
    let same = items_hidden-the_row-Block-0 blocks in
    ap (λ bs. step_pieces steps ++ mark marks.Choose ∷ alternatives bs) (pieces_in_row row.0 row.1 ∙ ap (map block_pieces) same)

-- alternatives with `or` behind each
abbrev pub with_or : List (List Piece) → List Piece
with_or bs = flat_map (λ b. b ++ mark marks.Or ∷ []) bs

-- the last alternative, with `done` behind it
pub alternatives_and_last : (bs : List (List Piece)) (b : List Piece) → alternatives (bs ++ b ∷ []) ≡ with_or bs ++ (b ++ mark marks.Done ∷ [])
alternatives_and_last [] b = refl
alternatives_and_last (c ∷ []) b =
    sym (append_assoc c (mark marks.Or ∷ []) (with_or [] ++ (b ++ mark marks.Done ∷ [])))
    ∙ sym (append_assoc (c ++ mark marks.Or ∷ []) (with_or []) (b ++ mark marks.Done ∷ []))
alternatives_and_last (c ∷ d ∷ bs) b =
    ap (λ x. c ++ mark marks.Or ∷ x) (alternatives_and_last (d ∷ bs) b)
    ∙ sym (append_assoc c (mark marks.Or ∷ []) (with_or (d ∷ bs) ++ (b ++ mark marks.Done ∷ [])))
    ∙ sym (append_assoc (c ++ mark marks.Or ∷ []) (with_or (d ∷ bs)) (b ++ mark marks.Done ∷ []))

-- a choice behind steps
pub writes_choice : (steps : List Step) (blocks : Vec Block Global) (a b c d : List (List ℕ)) → Writes (step_pieces steps) a b → b ≡ mark_word marks.Choose ∷ c
    → Writes (alternatives (map block_pieces blocks.items)) c d → Writes (pieces_of steps (Choice blocks)) a d
writes_choice steps blocks a b c d first is then =
    subst (λ (ps : List Piece). Writes ps a d) (sym (pieces_of-Choice steps blocks))
    (writes_both (step_pieces steps) (mark marks.Choose ∷ alternatives (map block_pieces blocks.items)) a b d first (c, is, then))

-- a block behind others with `or` behind each, and `or` behind it
pub writes_or : (bs : List Block) (b : Block) (w x y z : List (List ℕ)) → Writes (with_or (map block_pieces bs)) w x → Writes (block_pieces b) x y → y ≡ mark_word marks.Or ∷ z
    → Writes (with_or (map block_pieces (bs ++ b ∷ []))) w z
writes_or bs b w x y z first block is =
    let all : with_or (map block_pieces (bs ++ b ∷ [])) ≡ with_or (map block_pieces bs) ++ ((block_pieces b ++ mark marks.Or ∷ []) ++ []) =
    ap with_or (map-append block_pieces bs (b ∷ [])) ∙ flat_map-append (λ c. c ++ mark marks.Or ∷ []) (map block_pieces bs) (block_pieces b ∷ []) in
    subst (λ (ps : List Piece). Writes ps w z) (sym all)
    (writes_both (with_or (map block_pieces bs)) ((block_pieces b ++ mark marks.Or ∷ []) ++ []) w x z first
    (subst (λ (ps : List Piece). Writes ps x z) (sym (append-nil (block_pieces b ++ mark marks.Or ∷ [])))
    (writes_both (block_pieces b) (mark marks.Or ∷ []) x y z block (z, is, refl))))

-- the same, and `done` behind it
pub writes_done : (bs : List Block) (b : Block) (w x y z : List (List ℕ)) → Writes (with_or (map block_pieces bs)) w x → Writes (block_pieces b) x y → y ≡ mark_word marks.Done ∷ z
    → Writes (alternatives (map block_pieces (bs ++ b ∷ []))) w z
writes_done bs b w x y z first block is =
    let all : alternatives (map block_pieces (bs ++ b ∷ [])) ≡ with_or (map block_pieces bs) ++ (block_pieces b ++ mark marks.Done ∷ []) =
    ap alternatives (map-append block_pieces bs (b ∷ [])) ∙ alternatives_and_last (map block_pieces bs) (block_pieces b) in
    subst (λ (ps : List Piece). Writes ps w z) (sym all)
    (writes_both (with_or (map block_pieces bs)) (block_pieces b ++ mark marks.Done ∷ []) w x z first
    (writes_both (block_pieces b) (mark marks.Done ∷ []) x y z block (z, is, refl)))
