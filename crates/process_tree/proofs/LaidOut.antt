-- The whole paths of a block without an empty block in it: each goes upward, and two of them part at a choice.
use Rattle.std.proofs.Common.{◌≡◌, inl, inr, ⊎_elim, subst, ℕ, ◌+◌, ◌<◌, ◌≤◌, zero, suc, Bool, true, false, ◌||◌, List, [], ◌∷◌, ◌++◌, length, map, refl, sym, ap, arith, length-append}
use Rattle.std.proofs.lemmas.Bool.{ltb-false}
use Rattle.std.specs.List.{list_any}
use Rattle.process_tree.specs.declared.step.Step.{Step}
use Rattle.process_tree.specs.declared.block.Block.{Block}
use Rattle.process_tree.specs.declared.block.Tail.{Tail, End, Choice', Row_of-Block, end_of-Block, more_of-Block}
use Rattle.process_tree.specs.Blocks.{Outline, numbers_from, all_paths, all_steps, outline, outline_of, outlines_of, outline_at_choice, outline_at_end}
use Rattle.process_tree.specs.Order.{Each, IsRising, PartsBelow, AreInOrder, IsLaidOut}
use Rattle.process_tree.proofs.Every.{Each-weaker, Each-append, Each-map}

abbrev pub LaidOutline : Outline → Type 0
LaidOutline o = IsLaidOut (length o.steps) o.paths

-- numbers in a row
numbers_above : (m n k : ℕ) → m < n → Each (λ y. m < y) (numbers_from n k)
numbers_above m n zero lt = tt
numbers_above m n (suc k) lt = (lt, numbers_above m (n + 1) k (omega arith))

numbers_below : (n k c : ℕ) → n + k ≤ c → Each (λ y. y < c) (numbers_from n k)
numbers_below n zero c le = tt
numbers_below n (suc k) c le = (omega arith, numbers_below (n + 1) k c (omega arith))

numbers_rise : (n k : ℕ) → IsRising (numbers_from n k)
numbers_rise n zero = tt
numbers_rise n (suc k) = (numbers_above n (n + 1) k (omega arith), numbers_rise (n + 1) k)

-- moved up, they rise as before
moved_rise : (m : ℕ) (p : List ℕ) → IsRising p → IsRising (map (λ k. m + k) p)
moved_rise m [] h = tt
moved_rise m (x ∷ p) h =
    (Each-map (λ y. m + x < y) (λ k. m + k) p (Each-weaker (λ y. x < y) (λ y. m + x < m + y) (λ y lt. omega arith) p h.0), moved_rise m p h.1)

moved_from : (m : ℕ) (p : List ℕ) → Each (λ y. m ≤ y) (map (λ k. m + k) p)
moved_from m [] = tt
moved_from m (x ∷ p) = (omega arith, moved_from m p)

moved_below : (m n : ℕ) (p : List ℕ) → Each (λ b. b < n) p → Each (λ b. b < m + n) (map (λ k. m + k) p)
moved_below m n p h = Each-map (λ b. b < m + n) (λ k. m + k) p (Each-weaker (λ b. b < n) (λ b. m + b < m + n) (λ b lt. omega arith) p h)

-- what lies above what rises
append_rise : (m : ℕ) (own p : List ℕ) → IsRising own → Each (λ b. b < m) own → IsRising p → Each (λ y. m ≤ y) p → IsRising (own ++ p)
append_rise m [] p r b s f = s
append_rise m (x ∷ own) p r b s f =
    (Each-append (λ y. x < y) own p r.0 (Each-weaker (λ y. m ≤ y) (λ y. x < y) (λ y le. let lt : x < m = b.0 in omega arith) p f), append_rise m own p r.1 b.1 s f)

-- moved up, they part as before
moved_part : (m : ℕ) (p q : List ℕ) → PartsBelow p q → PartsBelow (map (λ k. m + k) p) (map (λ k. m + k) q)
moved_part m [] q h = h
moved_part m (x ∷ p) [] h = h
moved_part m (x ∷ p) (y ∷ q) h =
    ⊎_elim
    (λ same. inl (ap (λ k. m + k) same.0, moved_part m p q same.1))
    (λ below. inr (Each-map (λ z. z < m + y) (λ k. m + k) (x ∷ p) (Each-weaker (λ z. z < y) (λ z. m + z < m + y) (λ z lt. omega arith) (x ∷ p) below)))
    h

-- behind the same steps, they part as before
append_part : (own p q : List ℕ) → PartsBelow p q → PartsBelow (own ++ p) (own ++ q)
append_part [] p q h = h
append_part (x ∷ own) p q h = inl (refl, append_part own p q h)

-- q goes on from own with a step from k on
abbrev GoesOn : List ℕ → ℕ → List ℕ → Type 0
GoesOn [] k [] = ⊥
GoesOn [] k (y ∷ q) = k ≤ y
GoesOn (x ∷ own) k [] = ⊥
GoesOn (x ∷ own) k (y ∷ q) = (x ≡ y) × GoesOn own k q

-- what goes on from the same steps further up
part_behind : (own p q : List ℕ) (k : ℕ) → 0 < length p → Each (λ b. b < k) p → GoesOn own k q → PartsBelow (own ++ p) q
part_behind [] [] q k some below on = absurd (omega arith)
part_behind [] (x ∷ p) [] k some below on = on
part_behind [] (x ∷ p) (y ∷ q) k some below on = inr (Each-weaker (λ b. b < k) (λ b. b < y) (λ b lt. let le : k ≤ y = on in omega arith) (x ∷ p) below)
part_behind (z ∷ own) p [] k some below on = on
part_behind (z ∷ own) p (y ∷ q) k some below on = inl (on.0, part_behind own p q k some below on.1)

goes_on : (own p : List ℕ) (k : ℕ) → 0 < length p → Each (λ y. k ≤ y) p → GoesOn own k (own ++ p)
goes_on [] [] k some from = absurd (omega arith)
goes_on [] (x ∷ p) k some from = from.0
goes_on (z ∷ own) p k some from = (refl, goes_on own p k some from)

GoesOn-lower : (own q : List ℕ) (j k : ℕ) → j ≤ k → GoesOn own k q → GoesOn own j q
GoesOn-lower [] [] j k le on = on
GoesOn-lower [] (y ∷ q) j k le on = let high : k ≤ y = on in omega arith
GoesOn-lower (z ∷ own) [] j k le on = on
GoesOn-lower (z ∷ own) (y ∷ q) j k le on = (on.0, GoesOn-lower own q j k le on.1)

-- one path of an alternative, moved behind the choice's own steps
abbrev placed : List ℕ → ℕ → List ℕ → List ℕ
placed own m p = own ++ map (λ k. m + k) p

length-moved : (m : ℕ) (p : List ℕ) → length (map (λ k. m + k) p) ≡ length p
length-moved m [] = refl
length-moved m (x ∷ p) = ap suc (length-moved m p)

placed_goes_on : (own p : List ℕ) (m : ℕ) → 0 < length p → GoesOn own m (placed own m p)
placed_goes_on own p m some = goes_on own (map (λ k. m + k) p) m (let e = length-moved m p in omega arith) (moved_from m p)

-- the paths of one alternative lie in order, and below those of later ones
placed_in_order : (own : List ℕ) (m n : ℕ) (ps later : List (List ℕ)) → Each (λ p. 0 < length p) ps → Each (Each (λ b. b < n)) ps → AreInOrder ps → Each (GoesOn own (m + n)) later → AreInOrder later → AreInOrder (map (placed own m) ps ++ later)
placed_in_order own m n [] later some below order on rest = rest
placed_in_order own m n (p ∷ ps) later some below order on rest = (
  Each-append (PartsBelow (placed own m p)) (map (placed own m) ps) later
      (Each-map (PartsBelow (placed own m p)) (placed own m) ps (Each-weaker (PartsBelow p) (λ q. PartsBelow (placed own m p) (placed own m q)) (λ q h. append_part own (map (λ k. m + k) p) (map (λ k. m + k) q) (moved_part m p q h)) ps order.0))
      (Each-weaker (GoesOn own (m + n)) (PartsBelow (placed own m p)) (λ q h. part_behind own (map (λ k. m + k) p) q (m + n) (let e = length-moved m p in let lt : 0 < length p = some.0 in omega arith) (moved_below m n p below.0) h) later on),
  placed_in_order own m n ps later some.1 below.1 order.1 on rest,
)

-- each path of later alternatives goes on further up
all_go_on : (own : List ℕ) (m : ℕ) (os : List Outline) → Each LaidOutline os → Each (GoesOn own m) (all_paths own m os)
all_go_on own m [] h = tt
all_go_on own m (o ∷ os) h =
    Each-append (GoesOn own m) (map (placed own m) o.paths) (all_paths own (m + length o.steps) os)
    (Each-map (GoesOn own m) (placed own m) o.paths (Each-weaker (λ p. 0 < length p) (λ p. GoesOn own m (placed own m p)) (λ p some. placed_goes_on own p m some) o.paths h.0.some))
    (Each-weaker (GoesOn own (m + length o.steps)) (GoesOn own m) (λ q on. GoesOn-lower own q m (m + length o.steps) (omega arith) on) (all_paths own (m + length o.steps) os) (all_go_on own (m + length o.steps) os h.1))

-- the paths of alternatives of which the first has number m, behind own steps below m
all_laid_out : (own : List ℕ) (m : ℕ) (os : List Outline) → IsRising own → Each (λ b. b < m) own → Each LaidOutline os → IsLaidOut (m + length (all_steps os)) (all_paths own m os)
all_laid_out own m [] rise below h = record { some = tt; within = tt; rising = tt; in_order = tt }
all_laid_out own m (o ∷ os) rise below h =
    let n = length o.steps in
    let total = length (all_steps (o ∷ os)) in
    let sum : n + length (all_steps os) ≡ total = sym (length-append o.steps (all_steps os)) in
    let rest = all_laid_out own (m + n) os rise (Each-weaker (λ b. b < m) (λ b. b < m + n) (λ b lt. omega arith) own below) h.1 in
    let later = all_paths own (m + n) os in
    record {
      some = Each-append (λ p. 0 < length p) (map (placed own m) o.paths) later
          (Each-map (λ p. 0 < length p) (placed own m) o.paths (Each-weaker (λ p. 0 < length p) (λ p. 0 < length (placed own m p)) (λ p some. let e = length-moved m p in let f = length-append own (map (λ k. m + k) p) in omega arith) o.paths h.0.some))
          rest.some;
      within = Each-append (Each (λ b. b < m + total)) (map (placed own m) o.paths) later
          (Each-map (Each (λ b. b < m + total)) (placed own m) o.paths (Each-weaker (Each (λ b. b < n)) (λ p. Each (λ b. b < m + total) (placed own m p))
          (λ p lt. Each-append (λ b. b < m + total) own (map (λ k. m + k) p) (Each-weaker (λ b. b < m) (λ b. b < m + total) (λ b lt. omega arith) own below)
          (Each-weaker (λ b. b < m + n) (λ b. b < m + total) (λ b lt. omega arith) (map (λ k. m + k) p) (moved_below m n p lt))) o.paths h.0.within))
          (Each-weaker (Each (λ b. b < m + n + length (all_steps os))) (Each (λ b. b < m + total)) (λ p. Each-weaker (λ b. b < m + n + length (all_steps os)) (λ b. b < m + total) (λ b lt. omega arith) p) later rest.within);
      rising = Each-append IsRising (map (placed own m) o.paths) later
          (Each-map IsRising (placed own m) o.paths (Each-weaker IsRising (λ p. IsRising (placed own m p)) (λ p r. append_rise m own (map (λ k. m + k) p) rise below (moved_rise m p r) (moved_from m p)) o.paths h.0.rising))
          rest.rising;
      in_order = placed_in_order own m n o.paths later h.0.some h.0.within h.0.in_order (all_go_on own (m + n) os h.1) rest.in_order;
    }

-- steps and then a choice
choice_laid_out : (steps : List Step) (os : List Outline) → Each LaidOutline os → LaidOutline (outline_at_choice steps os)
choice_laid_out steps os h =
    let n = length steps in
    let sum : n + length (all_steps os) ≡ length (steps ++ all_steps os) = sym (length-append steps (all_steps os)) in
    let P : ℕ → Type 0 = λ c. IsLaidOut c (all_paths (numbers_from 0 n) n os) in
    subst P sum (all_laid_out (numbers_from 0 n) n os (numbers_rise 0 n) (numbers_below 0 n n (omega arith)) h)

-- steps and then nothing
end_laid_out : (steps : List Step) → (outline_at_end steps).has_empty ≡ false → LaidOutline (outline_at_end steps)
end_laid_out steps e =
    let n = length steps in
    let some : 1 ≤ n = ltb-false n 1 e in
    record {
      some = (let f = length-numbers 0 n in omega arith, tt);
      within = (numbers_below 0 n n (omega arith), tt);
      rising = (numbers_rise 0 n, tt);
      in_order = (tt, tt);
    }
  where
    length-numbers : (n k : ℕ) → length (numbers_from n k) ≡ k
    length-numbers n zero = refl
    length-numbers n (suc k) = ap suc (length-numbers (n + 1) k)

pub or_first : (a b : Bool) → (a || b) ≡ false → a ≡ false
or_first true b e = e
or_first false b e = refl

pub or_second : (a b : Bool) → (a || b) ≡ false → b ≡ false
or_second true b e = absurd (cc)
or_second false b e = e

mutual
  tail_laid_out : (steps : List Step) (tail : Tail) → (outline_of steps tail).has_empty ≡ false → LaidOutline (outline_of steps tail)
  tail_laid_out steps End e = end_laid_out steps e
  tail_laid_out steps (Choice' shape row) e = choice_laid_out steps (outlines_of row) (row_laid_out row e)

  pub row_laid_out : {m : _} (row : Row_of-Block m) → list_any (λ o. o.has_empty) (outlines_of row) ≡ false → Each LaidOutline (outlines_of row)
  row_laid_out end_of-Block e = tt
  row_laid_out (more_of-Block steps tail rest) e =
      (tail_laid_out steps tail (or_first (outline_of steps tail).has_empty (list_any (λ o. o.has_empty) (outlines_of rest)) e), row_laid_out rest (or_second (outline_of steps tail).has_empty (list_any (λ o. o.has_empty) (outlines_of rest)) e))

-- the whole paths of a block without an empty one in it
pub laid_out : (block : Block) → (outline block).has_empty ≡ false → IsLaidOut (length (outline block).steps) (outline block).paths
laid_out block e = tail_laid_out block.steps block.tail e
