-- Pieces tell the processes that they are of.
use Rattle.process_text.proofs.Within.{odd_parts}
use Rattle.process_tree.proofs.Trees.{none_odd}
use Rattle.std.proofs.Common.{◌≡◌, ◌<◌, ◌||◌, ℕ, List, [], ◌∷◌, ◌++◌, length, Bool, true, false, Option, Some, None, Result, Ok, Err, IfOk, if◌then◌else◌, nat_lt, refl, sym, ap, ◌∙◌, append_assoc, arith}
use Rattle.process_tree.specs.declared.step.Step.{Step}
use Rattle.process_tree.specs.declared.block.Block.{Block}
use Rattle.process_tree.specs.declared.block.Tail.{Tail, End, Choice', Row_of-Block, end_of-Block, more_of-Block}
use Rattle.process_tree.specs.declared.tree.Named.{Named}
use Rattle.process_tree.specs.Blocks.{Outline, outline_of, outlines_of, first_odd}
use Rattle.process_tree.specs.Making.{tree_fault}
use Rattle.process_tree.specs.Form.{ending, form_at, forms_at}
use Rattle.process_tree.proofs.Forms.{same_outline}
use Rattle.text_words.specs.declared.marks.Mark.{Mark}
use Rattle.text_words.specs.declared.marks.Mark.TheVariants as marks
use Rattle.process_text.specs.Grammar.{Piece, mark, step_pieces, alternatives, pieces_of, pieces_in, block_pieces, pieces_of_process, text_pieces, AreTrees, IsReading}
use Rattle.process_text.specs.declared.error.TextError.{TextError}
use Rattle.process_text.specs.Again.{IsAgain, AreAlike}

-- a mark that closes a block
abbrev Closing : Mark → Type 0
Closing m = m ≡ marks.Choose → ⊥

-- what begins with a mark after steps tells the steps
steps_alike : (ss ts : List Step) (m n : Mark) (xs ys : List Piece) → step_pieces ss ++ mark m ∷ xs ≡ step_pieces ts ++ mark n ∷ ys → (ss ≡ ts) × (mark m ∷ xs ≡ mark n ∷ ys)
steps_alike [] [] m n xs ys e = (refl, e)
steps_alike [] (t ∷ ts) m n xs ys e = absurd (cc)
steps_alike (s ∷ ss) [] m n xs ys e = absurd (cc)
steps_alike (s ∷ ss) (t ∷ ts) m n xs ys e =
    let more = steps_alike ss ts m n xs ys (cc) in
    let same : s ≡ t = cc in
    (rw (same, more.0) refl, more.1)

-- behind equal pieces
behind : (a b : Piece) (xs ys : List Piece) → a ∷ xs ≡ b ∷ ys → xs ≡ ys
behind a b xs ys e = cc

apart : (m n : Mark) (xs ys : List Piece) → (m ≡ n → ⊥) → mark m ∷ xs ≡ mark n ∷ ys → ⊥
apart m n xs ys differ e = differ (cc)

not_odd : (n : ℕ) (odd : Bool) (later : Option ℕ) → (if odd then Some n else later) ≡ None → later ≡ None
not_odd n true later none = absurd (cc)
not_odd n false later none = none

-- a choice that is not odd has alternatives that have no odd choice
choice_even : (os : List Outline) → (if nat_lt (length os) 2 || nat_lt 8 (length os) then Some (length os) else first_odd os) ≡ None → (0 < length os) × (first_odd os ≡ None)
choice_even [] none = absurd (cc)
choice_even (o ∷ os) none =
    let n = length (o ∷ os) in
    (omega arith, not_odd n (nat_lt n 2 || nat_lt 8 n) (first_odd (o ∷ os)) none)

mutual
  -- what closes after the pieces of a block tells its form
  block_alike : (ss : List Step) (t : Tail) (zs : List Step) (u : Tail) (m n : Mark) (xs ys : List Piece) → Closing m → Closing n
      → (outline_of ss t).odd_choice ≡ None → (outline_of zs u).odd_choice ≡ None → pieces_of ss t ++ mark m ∷ xs ≡ pieces_of zs u ++ mark n ∷ ys
      → (form_at ss t ≡ form_at zs u) × (mark m ∷ xs ≡ mark n ∷ ys)
  block_alike ss End zs End m n xs ys closing_m closing_n even1 even2 e =
      let alike = steps_alike ss zs m n xs ys e in
      (ap ending alike.0, alike.1)
  block_alike ss End zs (Choice' shape row) m n xs ys closing_m closing_n even1 even2 e =
      let alike = steps_alike ss zs m marks.Choose xs (alternatives (pieces_in row) ++ mark n ∷ ys) (e ∙ append_assoc (step_pieces zs) (mark marks.Choose ∷ alternatives (pieces_in row)) (mark n ∷ ys)) in
      let same : mark m ∷ xs ≡ mark marks.Choose ∷ (alternatives (pieces_in row) ++ mark n ∷ ys) = alike.1 in
      absurd (closing_m (cc))
  block_alike ss (Choice' shape row) zs End m n xs ys closing_m closing_n even1 even2 e =
      let alike = steps_alike ss zs marks.Choose n (alternatives (pieces_in row) ++ mark m ∷ xs) ys (sym (append_assoc (step_pieces ss) (mark marks.Choose ∷ alternatives (pieces_in row)) (mark m ∷ xs)) ∙ e) in
      let same : mark marks.Choose ∷ (alternatives (pieces_in row) ++ mark m ∷ xs) ≡ mark n ∷ ys = alike.1 in
      absurd (closing_n (cc))
  block_alike ss (Choice' shape row) zs (Choice' form block) m n xs ys closing_m closing_n even1 even2 e =
      let alike = steps_alike ss zs marks.Choose marks.Choose (alternatives (pieces_in row) ++ mark m ∷ xs) (alternatives (pieces_in block) ++ mark n ∷ ys)
      (sym (append_assoc (step_pieces ss) (mark marks.Choose ∷ alternatives (pieces_in row)) (mark m ∷ xs)) ∙ e ∙ append_assoc (step_pieces zs) (mark marks.Choose ∷ alternatives (pieces_in block)) (mark n ∷ ys)) in
      let one = choice_even (outlines_of row) even1 in
      let two = choice_even (outlines_of block) even2 in
      let inner : alternatives (pieces_in row) ++ mark m ∷ xs ≡ alternatives (pieces_in block) ++ mark n ∷ ys = behind _ _ _ _ alike.1 in
      let rows = rows_alike row block m n xs ys one.0 two.0 one.1 two.1 inner in
      (rw (alike.0, rows.0) refl, rows.1)

  -- and so of alternatives
  rows_alike : {i j : _} (row : Row_of-Block i) (block : Row_of-Block j) (m n : Mark) (xs ys : List Piece) → 0 < length (outlines_of row) → 0 < length (outlines_of block)
      → first_odd (outlines_of row) ≡ None → first_odd (outlines_of block) ≡ None → alternatives (pieces_in row) ++ mark m ∷ xs ≡ alternatives (pieces_in block) ++ mark n ∷ ys
      → (forms_at row ≡ forms_at block) × (mark m ∷ xs ≡ mark n ∷ ys)
  rows_alike end_of-Block block m n xs ys some1 some2 even1 even2 e = absurd (omega arith)
  rows_alike (more_of-Block s t end_of-Block) end_of-Block m n xs ys some1 some2 even1 even2 e = absurd (omega arith)
  rows_alike (more_of-Block s t (more_of-Block s' t' rest)) end_of-Block m n xs ys some1 some2 even1 even2 e = absurd (omega arith)
  rows_alike (more_of-Block s t end_of-Block) (more_of-Block z u end_of-Block) m n xs ys some1 some2 even1 even2 e =
      let alike = block_alike s t z u marks.Done marks.Done (mark m ∷ xs) (mark n ∷ ys) (λ is. absurd (cc)) (λ is. absurd (cc)) (odd_parts (outline_of s t) [] even1).0 (odd_parts (outline_of z u) [] even2).0
      (sym (append_assoc (pieces_of s t) (mark marks.Done ∷ []) (mark m ∷ xs)) ∙ e ∙ append_assoc (pieces_of z u) (mark marks.Done ∷ []) (mark n ∷ ys)) in
      (rw alike.0 refl, behind _ _ _ _ alike.1)
  rows_alike (more_of-Block s t end_of-Block) (more_of-Block z u (more_of-Block z' u' rest)) m n xs ys some1 some2 even1 even2 e =
      let others = pieces_in (more_of-Block z' u' rest) in
      let alike = block_alike s t z u marks.Done marks.Or (mark m ∷ xs) (alternatives others ++ mark n ∷ ys) (λ is. absurd (cc)) (λ is. absurd (cc))
      (odd_parts (outline_of s t) [] even1).0 (odd_parts (outline_of z u) (outlines_of (more_of-Block z' u' rest)) even2).0
      (sym (append_assoc (pieces_of s t) (mark marks.Done ∷ []) (mark m ∷ xs)) ∙ e ∙ append_assoc (pieces_of z u) (mark marks.Or ∷ alternatives others) (mark n ∷ ys)) in
      absurd (apart marks.Done marks.Or _ _ (λ is. absurd (cc)) alike.1)
  rows_alike (more_of-Block s t (more_of-Block s' t' rest)) (more_of-Block z u end_of-Block) m n xs ys some1 some2 even1 even2 e =
      let others = pieces_in (more_of-Block s' t' rest) in
      let alike = block_alike s t z u marks.Or marks.Done (alternatives others ++ mark m ∷ xs) (mark n ∷ ys) (λ is. absurd (cc)) (λ is. absurd (cc))
      (odd_parts (outline_of s t) (outlines_of (more_of-Block s' t' rest)) even1).0 (odd_parts (outline_of z u) [] even2).0
      (sym (append_assoc (pieces_of s t) (mark marks.Or ∷ alternatives others) (mark m ∷ xs)) ∙ e ∙ append_assoc (pieces_of z u) (mark marks.Done ∷ []) (mark n ∷ ys)) in
      absurd (apart marks.Or marks.Done _ _ (λ is. absurd (cc)) alike.1)
  rows_alike (more_of-Block s t (more_of-Block s' t' rest)) (more_of-Block z u (more_of-Block z' u' left)) m n xs ys some1 some2 even1 even2 e =
      let others = pieces_in (more_of-Block s' t' rest) in
      let more = pieces_in (more_of-Block z' u' left) in
      let first = odd_parts (outline_of s t) (outlines_of (more_of-Block s' t' rest)) even1 in
      let second = odd_parts (outline_of z u) (outlines_of (more_of-Block z' u' left)) even2 in
      let alike = block_alike s t z u marks.Or marks.Or (alternatives others ++ mark m ∷ xs) (alternatives more ++ mark n ∷ ys) (λ is. absurd (cc)) (λ is. absurd (cc)) first.0 second.0
      (sym (append_assoc (pieces_of s t) (mark marks.Or ∷ alternatives others) (mark m ∷ xs)) ∙ e ∙ append_assoc (pieces_of z u) (mark marks.Or ∷ alternatives more) (mark n ∷ ys)) in
      let rows = rows_alike (more_of-Block s' t' rest) (more_of-Block z' u' left) m n xs ys (omega arith) (omega arith) first.1 second.1 (behind _ _ _ _ alike.1) in
      (rw (alike.0, rows.0) refl, rows.1)

no_more : (ps : List Named) → text_pieces ps ≡ [] → ps ≡ []
no_more [] none = refl
no_more (p ∷ ps) none = absurd (cc)

-- what has the pieces of a process is that process
pub read_as_one : (ps : List Named) (name : List ℕ) (root : Block) → AreTrees ps → tree_fault root ≡ None → text_pieces ps ≡ pieces_of_process name root → IsAgain name root ps
read_as_one [] name root trees good e = absurd (cc)
read_as_one (p ∷ ps) name root trees good e =
    let named : p.name ≡ name = cc in
    let rest : block_pieces p.tree ++ mark marks.End ∷ [] ++ text_pieces ps ≡ block_pieces root ++ mark marks.End ∷ [] = cc in
    let alike = block_alike p.tree.steps p.tree.tail root.steps root.tail marks.End marks.End (text_pieces ps) [] (λ is. absurd (cc)) (λ is. absurd (cc)) (none_odd p.tree trees.0) (none_odd root good)
    (sym (append_assoc (block_pieces p.tree) (mark marks.End ∷ []) (text_pieces ps)) ∙ rest) in
    let none : text_pieces ps ≡ [] = behind _ _ _ _ alike.1 in
    (p, ap (λ qs. p ∷ qs) (no_more ps none), named, alike.0, same_outline p.tree root alike.0)

-- and so where it was read
pub again_if : {T : Type 0} (items : T → List Named) (r : Result T TextError) (words : List (List ℕ)) (name : List ℕ) (root : Block) → tree_fault root ≡ None → IfOk r (λ t. IsReading words (items t))
    → IfOk r (λ t. text_pieces (items t) ≡ pieces_of_process name root) → IfOk r (λ t. IsAgain name root (items t))
again_if items (Ok t) words name root good reading same = read_as_one (items t) name root reading.trees good same
again_if items (Err e) words name root good reading same = tt

-- equal pieces are those of equal processes
pub all_alike : (ps qs : List Named) → AreTrees ps → AreTrees qs → text_pieces ps ≡ text_pieces qs → AreAlike ps qs
all_alike [] [] trees good e = tt
all_alike [] (q ∷ qs) trees good e = absurd (cc)
all_alike (p ∷ ps) [] trees good e = absurd (cc)
all_alike (p ∷ ps) (q ∷ qs) trees good e =
    let named : p.name ≡ q.name = cc in
    let rest : (block_pieces p.tree ++ mark marks.End ∷ []) ++ text_pieces ps ≡ (block_pieces q.tree ++ mark marks.End ∷ []) ++ text_pieces qs = cc in
    let alike = block_alike p.tree.steps p.tree.tail q.tree.steps q.tree.tail marks.End marks.End (text_pieces ps) (text_pieces qs) (λ is. absurd (cc)) (λ is. absurd (cc)) (none_odd p.tree trees.0) (none_odd q.tree good.0)
    (sym (append_assoc (block_pieces p.tree) (mark marks.End ∷ []) (text_pieces ps)) ∙ rest ∙ append_assoc (block_pieces q.tree) (mark marks.End ∷ []) (text_pieces qs)) in
    (named, alike.0, all_alike ps qs trees.1 good.1 (behind _ _ _ _ alike.1))
