-- What is printed piece by piece.
use Rattle.std.proofs.Common.{◌≡◌, ℕ, ◌<◌, ◌≤◌, ◌≢◌, decimal, ◌+◌, List, [], ◌∷◌, ◌++◌, Bool, true, false, length, map, drop, take, get_or, refl, sym, ap, ◌∙◌, append_assoc, append-nil, subst, add-one, drop-cons}
use Rattle.std.proofs.lemmas.Grind.{flat_map-append}
use Rattle.std.proofs.lemmas.Bool.{ne_eqb}
use Rattle.std.proofs.lemmas.List.{map-append, take_more, drop_all}
use Rattle.std.specs.declared.vec.Vec.{Vec}
use Rattle.std.specs.declared.alloc.Global.{Global}
use Rattle.process_tree.specs.declared.step.Step.{Step}
use Rattle.process_tree.specs.declared.block.Block.{Block}
use Rattle.process_tree.specs.declared.block.Tail.{Choice}
use Rattle.text_words.specs.declared.marks.Setting.{Setting}
use Rattle.text_words.specs.declared.marks.Mark.TheVariants as marks
use Rattle.text_words.specs.Marks.{setting_word, mark_word, default_of}
use Rattle.process_text.specs.Grammar.{Piece, process, step, mark, step_pieces, block_pieces, pieces_of, alternatives, AreNamed}
use Rattle.process_text.specs.Canonical.{canonical_words, piece_words, setting_words, spaced, divider}
use Rattle.process_text.proofs.Pieces.{pieces_of-Choice}

-- alternatives behind others
abbrev pub others : List (List Piece) → List Piece
others [] = mark marks.Done ∷ []
others (b ∷ bs) = mark marks.Or ∷ b ++ others bs

-- alternatives that are to come, the first of all or others
abbrev pub to_come : Bool → List (List Piece) → List Piece
to_come true bs = alternatives bs
to_come false bs = others bs

-- an option that isn't at its default
pub setting_printed : (x : Setting) (n : ℕ) (a b c : List ℕ) → n ≢ default_of x → b ≡ a ++ 32 ∷ setting_word x → c ≡ b ++ 32 ∷ decimal n → c ≡ a ++ spaced (setting_words x n)
setting_printed x n a b c other first then =
    rw (then, first, ne_eqb n (default_of x) other, append-nil (decimal n)) (append_assoc a (32 ∷ setting_word x) (32 ∷ decimal n))

-- more words
pub words_more : (vs ws : List (List ℕ)) (a b c : List ℕ) → b ≡ a ++ spaced vs → c ≡ b ++ spaced ws → c ≡ a ++ spaced (vs ++ ws)
words_more vs ws a b c first then =
    then ∙ ap (λ x. x ++ spaced ws) first ∙ append_assoc a (spaced vs) (spaced ws) ∙ ap (λ x. a ++ x) (sym (flat_map-append (λ w. 32 ∷ w) vs ws))

-- words of more pieces
pub pieces_more : (ps qs : List Piece) (a b c : List ℕ) → b ≡ a ++ spaced (canonical_words ps) → c ≡ b ++ spaced (canonical_words qs) → c ≡ a ++ spaced (canonical_words (ps ++ qs))
pieces_more ps qs a b c first then =
    words_more (canonical_words ps) (canonical_words qs) a b c first then ∙ ap (λ ws. a ++ spaced ws) (sym (flat_map-append piece_words ps qs))

-- named pieces, and then named pieces
pub named_both : (ps qs : List Piece) → AreNamed ps → AreNamed qs → AreNamed (ps ++ qs)
named_both [] qs first then = then
named_both (process name ∷ ps) qs first then = (first.0, named_both ps qs first.1 then)
named_both (step s ∷ ps) qs first then = (first.0, named_both ps qs first.1 then)
named_both (mark m ∷ ps) qs first then = named_both ps qs first then

-- the first alternative, and others
alternatives-others : (b : List Piece) (bs : List (List Piece)) → alternatives (b ∷ bs) ≡ b ++ others bs
alternatives-others b [] = refl
alternatives-others b (c ∷ bs) = ap (λ x. b ++ mark marks.Or ∷ x) (alternatives-others c bs)

-- the next alternative, and those behind it
to_come_next : (first : Bool) (b : List Piece) (bs : List (List Piece)) → to_come first (b ∷ bs) ≡ divider first ++ (b ++ others bs)
to_come_next true b bs = alternatives-others b bs
to_come_next false b bs = refl

-- the divider is named
divider_named : (first : Bool) → AreNamed (divider first)
divider_named true = tt
divider_named false = tt

-- none are to come
to_come_none : (first : Bool) → to_come first [] ≡ mark marks.Done ∷ []
to_come_none true = refl
to_come_none false = refl

-- what is to come from a block on
to_come_from : (first : Bool) (items : List Block) (i : ℕ) (b : Block) → i < length items → b ≡ get_or items i b
    → to_come first (map block_pieces (drop i items)) ≡ divider first ++ (block_pieces b ++ others (map block_pieces (drop (i + 1) items)))
to_come_from first items i b lt is =
    let item : drop i items ≡ b ∷ drop (i + 1) items = rw (add-one, drop-cons items i b, ← is) refl in
    ap (λ bs. to_come first (map block_pieces bs)) item ∙ to_come_next first (block_pieces b) (map block_pieces (drop (i + 1) items))

-- a block is printed, of those that are to come: their names
pub inner_named : (first : Bool) (items : List Block) (i : ℕ) (b : Block) → i < length items → b ≡ get_or items i b → AreNamed (block_pieces b)
    → AreNamed (others (map block_pieces (drop (i + 1) items))) → AreNamed (to_come first (map block_pieces (drop i items)))
inner_named first items i b lt is here rest =
    subst AreNamed (sym (to_come_from first items i b lt is))
    (named_both (divider first) (block_pieces b ++ others (map block_pieces (drop (i + 1) items))) (divider_named first)
    (named_both (block_pieces b) (others (map block_pieces (drop (i + 1) items))) here rest))

-- the same of their words
pub inner_words : (first : Bool) (items : List Block) (i : ℕ) (b : Block) (x y z : List ℕ) → i < length items → b ≡ get_or items i b
    → y ≡ x ++ spaced (canonical_words (divider first)) → z ≡ y ++ spaced (canonical_words (block_pieces b))
    → z ++ spaced (canonical_words (others (map block_pieces (drop (i + 1) items)))) ≡ x ++ spaced (canonical_words (to_come first (map block_pieces (drop i items))))
inner_words first items i b x y z lt is one two =
    let rest = others (map block_pieces (drop (i + 1) items)) in
    let all = pieces_more (divider first) (block_pieces b ++ rest) x y (z ++ spaced (canonical_words rest)) one (pieces_more (block_pieces b) rest y z (z ++ spaced (canonical_words rest)) two refl) in
    all ∙ ap (λ ps. x ++ spaced (canonical_words ps)) (sym (to_come_from first items i b lt is))

-- the pieces of a block that ends with a choice
choice_pieces : (block : Block) (blocks : Vec Block Global) (items : List Block) → block.tail ≡ Choice blocks → items ≡ blocks.items
    → block_pieces block ≡ step_pieces block.steps ++ mark marks.Choose ∷ alternatives (map block_pieces items)
choice_pieces block blocks items is same =
    ap (pieces_of block.steps) is ∙ pieces_of-Choice block.steps blocks ∙ ap (λ bs. step_pieces block.steps ++ mark marks.Choose ∷ alternatives (map block_pieces bs)) (sym same)

-- all blocks of a choice are printed: their names
pub choice_named : (block : Block) (blocks : Vec Block Global) (items : List Block) (i : ℕ) (first : Bool) → block.tail ≡ Choice blocks → items ≡ blocks.items → length items ≤ i
    → AreNamed (step_pieces block.steps) → (AreNamed (to_come first (map block_pieces (drop i items))) → AreNamed (alternatives (map block_pieces items))) → AreNamed (block_pieces block)
choice_named block blocks items i first is same end own inner =
    let none : to_come first (map block_pieces (drop i items)) ≡ mark marks.Done ∷ [] = ap (λ bs. to_come first (map block_pieces bs)) (drop_all i items end) ∙ to_come_none first in
    subst AreNamed (sym (choice_pieces block blocks items is same))
    (named_both (step_pieces block.steps) (mark marks.Choose ∷ alternatives (map block_pieces items)) own (inner (subst AreNamed (sym none) tt)))

-- the same of their words
pub choice_words : (block : Block) (blocks : Vec Block Global) (items : List Block) (i : ℕ) (first : Bool) (a b c d e : List ℕ) → block.tail ≡ Choice blocks → items ≡ blocks.items → length items ≤ i
    → b ≡ a ++ spaced (canonical_words (step_pieces block.steps)) → c ≡ b ++ 32 ∷ mark_word marks.Choose
    → d ++ spaced (canonical_words (to_come first (map block_pieces (drop i items)))) ≡ c ++ spaced (canonical_words (alternatives (map block_pieces items)))
    → e ≡ d ++ 32 ∷ mark_word marks.Done → e ≡ a ++ spaced (canonical_words (block_pieces block))
choice_words block blocks items i first a b c d e is same end own choose inner done =
    let none : to_come first (map block_pieces (drop i items)) ≡ mark marks.Done ∷ [] = ap (λ bs. to_come first (map block_pieces bs)) (drop_all i items end) ∙ to_come_none first in
    let last : e ≡ c ++ spaced (canonical_words (alternatives (map block_pieces items))) = done ∙ sym (ap (λ ps. d ++ spaced (canonical_words ps)) none) ∙ inner in
    let all = pieces_more (step_pieces block.steps) (mark marks.Choose ∷ alternatives (map block_pieces items)) a b e own (pieces_more (mark marks.Choose ∷ []) (alternatives (map block_pieces items)) b c e choose last) in
    all ∙ ap (λ ps. a ++ spaced (canonical_words ps)) (sym (choice_pieces block blocks items is same))

-- one step more
pub steps_printed : (steps : List Step) (i : ℕ) (s : Step) → i < length steps → s ≡ get_or steps i s → step_pieces (take (i + 1) steps) ≡ step_pieces (take i steps) ++ step s ∷ []
steps_printed steps i s lt is =
    ap step_pieces (take_more steps i s lt ∙ ap (λ x. take i steps ++ x ∷ []) (sym is)) ∙ map-append (λ (r : Step). step r) (take i steps) (s ∷ [])
