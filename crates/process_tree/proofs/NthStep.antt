-- The n-th of lists that stand one after another.
use Rattle.std.proofs.Common.{◌≡◌, ℕ, ◌+◌, ◌<◌, ◌≤◌, zero, suc, List, [], ◌∷◌, ◌++◌, length, map, get_or, drop, drop-cons, add-one, Option, Some, ap, ◌∙◌, sym, refl, arith, length-append}
use Rattle.std.proofs.lemmas.List.{drop_all}
use Rattle.std.proofs.lemmas.Option.{slice_get_within, slice_get-get_or}
use Rattle.std.specs.List.{slice_get}
use Rattle.process_tree.specs.declared.step.Step.{Step}
use Rattle.process_tree.specs.declared.block.Block.{Block}
use Rattle.process_tree.specs.declared.block.Tail.{Tail, End, Choice'}
use Rattle.process_tree.specs.Blocks.{all_steps, outline, outline_of, outlines_of}

-- one of the first list
pub slice_get-left : {X : Type 0} (xs ys : List X) (n : ℕ) → n < length xs → slice_get (xs ++ ys) n ≡ slice_get xs n
slice_get-left [] ys n lt = absurd (omega arith)
slice_get-left (x ∷ xs) ys zero lt = refl
slice_get-left (x ∷ xs) ys (suc n) lt = slice_get-left xs ys n (omega arith)

-- one of the second
pub slice_get-right : {X : Type 0} (xs ys : List X) (m : ℕ) → slice_get (xs ++ ys) (length xs + m) ≡ slice_get ys m
slice_get-right [] ys m = ap (slice_get ys) (omega arith)
slice_get-right (x ∷ xs) ys m =
    let e : length (x ∷ xs) + m ≡ suc (length xs + m) = omega arith in
    rw e (slice_get-right xs ys m)

-- a step of a block's own
pub own_step : (block : Block) (n : ℕ) (s : Step) → n < length block.steps → s ≡ get_or block.steps n s → slice_get (outline block).steps n ≡ Some s
own_step block n s lt is = by_tail block.steps block.tail lt is
  where
    by_tail : (steps : List Step) (tail : Tail) → n < length steps → s ≡ get_or steps n s → slice_get (outline_of steps tail).steps n ≡ Some s
    by_tail steps End lt is = slice_get-get_or steps n s lt ∙ ap Some (sym is)
    by_tail steps (Choice' shape row) lt is = slice_get-left steps (all_steps (outlines_of row)) n lt ∙ slice_get-get_or steps n s lt ∙ ap Some (sym is)

-- the steps of these blocks
abbrev pub steps_in : List Block → List Step
steps_in bs = all_steps (map outline bs)

-- the steps behind i blocks are those of the next and the rest
steps_in-drop : (bs : List Block) (i : ℕ) (b : Block) → i < length bs → b ≡ get_or bs i b → steps_in (drop i bs) ≡ (outline b).steps ++ steps_in (drop (i + 1) bs)
steps_in-drop bs i b lt is =
    let item : drop i bs ≡ b ∷ drop (i + 1) bs = rw (add-one, drop-cons bs i b, ← is) refl in
    ap steps_in item

-- the step that is looked for is in this block
pub found_in : (bs : List Block) (i : ℕ) (b : Block) (left : ℕ) (s : Step) (total : Option Step) → i < length bs → b ≡ get_or bs i b → slice_get (outline b).steps left ≡ Some s → slice_get (steps_in (drop i bs)) left ≡ total → total ≡ Some s
found_in bs i b left s total lt is here whole =
    let within = slice_get_within (outline b).steps left s here in
    sym whole ∙ ap (λ xs. slice_get xs left) (steps_in-drop bs i b lt is) ∙ slice_get-left (outline b).steps (steps_in (drop (i + 1) bs)) left within ∙ here

-- it is behind this block
pub behind : (bs : List Block) (i : ℕ) (b : Block) (left more : ℕ) (total : Option Step) → i < length bs → b ≡ get_or bs i b → length (outline b).steps + more ≡ left → slice_get (steps_in (drop i bs)) left ≡ total → slice_get (steps_in (drop (i + 1) bs)) more ≡ total
behind bs i b left more total lt is past whole =
    sym (slice_get-right (outline b).steps (steps_in (drop (i + 1) bs)) more) ∙ ap (slice_get ((outline b).steps ++ steps_in (drop (i + 1) bs))) past ∙ sym (ap (λ xs. slice_get xs left) (steps_in-drop bs i b lt is)) ∙ whole

-- as many are left as the block has fewer
pub fewer : (bs : List Block) (i : ℕ) (b : Block) → i < length bs → b ≡ get_or bs i b → length (steps_in (drop i bs)) ≡ length (outline b).steps + length (steps_in (drop (i + 1) bs))
fewer bs i b lt is = ap length (steps_in-drop bs i b lt is) ∙ length-append (outline b).steps (steps_in (drop (i + 1) bs))

-- behind all blocks there is none
pub none_left : (bs : List Block) (i : ℕ) → length bs ≤ i → length (steps_in (drop i bs)) ≡ 0
none_left bs i le = ap (λ xs. length (steps_in xs)) (drop_all i bs le)

-- a block has at least its own steps
pub own_le : (block : Block) → length block.steps ≤ length (outline block).steps
own_le block = by_tail block.steps block.tail
  where
    by_tail : (steps : List Step) (tail : Tail) → length steps ≤ length (outline_of steps tail).steps
    by_tail steps End = omega arith
    by_tail steps (Choice' shape row) = omega (arith, length-append steps (all_steps (outlines_of row)))
