-- What is kept of a step, from what is kept of the step before it on its branch.
use Rattle.std.proofs.Common.{◌≡◌, ⊎_elim, ℕ, ◌+◌, ◌<◌, zero, suc, Bool, true, false, List, [], ◌∷◌, ◌++◌, length, map, take, Option, Some, None, refl, sym, ap, ◌∙◌, arith, slice_index_or, nat_eq, if◌then◌else◌}
use Rattle.std.specs.List.{slice_get}
use Rattle.std.specs.Option.{IfSome}
use Rattle.process_tree.specs.declared.block.Block.{Block}
use Rattle.process_tree.specs.declared.step.StepKind.{StepKind}
use Rattle.process_tree.specs.declared.play.Fallback.TheVariants as fallback
use Rattle.process_tree.specs.Blocks.{outline, numbers_from}
use Rattle.process_tree.specs.Making.{tree_fault}
use Rattle.process_tree.specs.Order.{Each, has}
use Rattle.process_tree.specs.Laws.{IsTreeShape}
use Rattle.process_tree.specs.Shape.{commits, commits_after, Shape, shape_of, next_steps, goes_on_to, branch_to, fixed_len, last_commit, last_of}
use Rattle.process_tree.specs.Play.{fallback_by}
use Rattle.process_tree.proofs.Branches.{Each-has, has_here, has_there}
use Rattle.process_tree.proofs.Fixed.{fixed_more, fixed_le}
use Rattle.process_tree.proofs.Kept.{branch_below}
use Rattle.process_tree.proofs.Onward.{branch_from}
use Rattle.process_tree.proofs.Reached.{goes_before}
use Rattle.plain_list.proofs.Lasts.{last_cases}
use Rattle.process_tree.proofs.TreeLaws.{paths_lie_in_order, each_step_has_a_path}
use Rattle.process_tree.proofs.InTurn.{kinds_count}
use Rattle.instance_state.specs.declared.rows.Row.{Row}
use Rattle.instance_state.specs.Rows.{done_to, no_row, row_of, rows_to, way_from, way_of}
use Rattle.instance_state.proofs.Lists.{last_push, length_push, none_least, take_all, take_push}
use Rattle.instance_state.proofs.NextWays.{fallback_is_way, no_way_behind, way_behind, way_past}

pub shape_is : (root : Block) → tree_fault root ≡ None → IsTreeShape (shape_of root)
shape_is root good = record { root = root; good = good; is = refl }

-- the branch to a step goes on to it
pub branch_goes : (root : Block) → tree_fault root ≡ None → (b : ℕ) → b < length (outline root).steps → goes_on_to (shape_of root) (branch_to (shape_of root) b) b ≡ true
branch_goes root good b lt = each_step_has_a_path (shape_of root) (shape_is root good) b (let e = kinds_count root in omega arith)

-- the branch to a step is what is done with the one before it
pub branch_behind : (t : Shape) → IsTreeShape t → (b : ℕ) → b < length t.kinds → branch_to t b ≡ done_to t (last_of (branch_to t b))
branch_behind t tree b lt =
    ⊎_elim
    (λ none. none ∙ sym (ap (λ w. done_to t (last_of w)) none))
    (λ more.
    let laid = paths_lie_in_order t tree in
    let goes = goes_before t more.0 more.1 b (sym (ap (λ w. goes_on_to t w b) more.2) ∙ each_step_has_a_path t tree b lt) in
    let here = branch_from t more.0 more.1 laid.in_order laid.rising goes in
    let last : last_of (branch_to t b) ≡ Some more.1 = ap last_of more.2 ∙ last_push more.0 more.1 in
    more.2 ∙ sym (ap (λ w. w ++ more.1 ∷ []) here) ∙ sym (ap (done_to t) last))
    (last_cases (branch_to t b))

branch_before : (root : Block) → tree_fault root ≡ None → (b : ℕ) → b < length (outline root).steps → branch_to (shape_of root) b ≡ done_to (shape_of root) (last_of (branch_to (shape_of root) b))
branch_before root good b lt = branch_behind (shape_of root) (shape_is root good) b (let e = kinds_count root in omega arith)

last_has : (x : ℕ) (xs : List ℕ) (c : ℕ) → last_of (x ∷ xs) ≡ Some c → has c (x ∷ xs) ≡ true
last_has x [] c e = has_here c x [] (cc)
last_has x (y ∷ xs) c e = has_there c x (y ∷ xs) (last_has y xs c e)

-- the step before is less
pub less_behind : (t : Shape) → IsTreeShape t → (b a : ℕ) → last_of (branch_to t b) ≡ Some a → a < b
less_behind t tree b a is =
    on (branch_to t b) (branch_below t b (paths_lie_in_order t tree).rising) is
  where
    on : (w : List ℕ) → Each (λ x. x < b) w → last_of w ≡ Some a → a < b
    on [] low e = absurd (cc)
    on (x ∷ w) low e = Each-has (λ y. y < b) (x ∷ w) a low (last_has x w a e)

-- and is one of the process
pub behind_within : (t : Shape) → IsTreeShape t → (b : ℕ) → b < length t.kinds → IfSome (last_of (branch_to t b)) (λ a. a < length t.kinds)
behind_within t tree b lt = by_last (last_of (branch_to t b)) refl
  where
    by_last : (o : Option ℕ) → last_of (branch_to t b) ≡ o → IfSome o (λ a. a < length t.kinds)
    by_last None is = tt
    by_last (Some a) is = let less = less_behind t tree b a is in omega arith

before_less : (root : Block) → tree_fault root ≡ None → (b a : ℕ) → last_of (branch_to (shape_of root) b) ≡ Some a → a < b
before_less root good b a is = less_behind (shape_of root) (shape_is root good) b a is

-- Rows by their number.

get_numbers : (root : Block) (k n m : ℕ) (r : Row) → k < m → slice_index_or (map (row_of root) (numbers_from n m)) k r ≡ row_of root (n + k)
get_numbers root k n zero r lt = absurd (omega arith)
get_numbers root zero n (suc m) r lt = ap (row_of root) (omega arith)
get_numbers root (suc k) n (suc m) r lt = get_numbers root k (n + 1) m r (omega arith) ∙ ap (row_of root) (omega arith)

pub row_at : (root : Block) (n b : ℕ) (r : Row) → b < n → slice_index_or (rows_to root n) b r ≡ row_of root b
row_at root n b r lt = get_numbers root b 0 n r lt ∙ ap (row_of root) (omega arith)

count_numbers : (root : Block) (n m : ℕ) → length (map (row_of root) (numbers_from n m)) ≡ m
count_numbers root n zero = refl
count_numbers root n (suc m) = ap suc (count_numbers root (n + 1) m)

pub rows_count : (root : Block) (n : ℕ) → length (rows_to root n) ≡ n
rows_count root n = count_numbers root 0 n

more_numbers : (root : Block) (n m : ℕ) → map (row_of root) (numbers_from n (m + 1)) ≡ map (row_of root) (numbers_from n m) ++ row_of root (n + m) ∷ []
more_numbers root n zero = ap (λ k. row_of root k ∷ []) (omega arith)
more_numbers root n (suc m) =
    let one : suc m + 1 ≡ suc (m + 1) = omega arith in
    ap (λ k. map (row_of root) (numbers_from n k)) one
    ∙ ap (λ l. row_of root n ∷ l) (more_numbers root (n + 1) m ∙ ap (λ k. map (row_of root) (numbers_from (n + 1) m) ++ row_of root k ∷ []) (omega arith))

pub rows_more : (root : Block) (n : ℕ) → rows_to root (n + 1) ≡ rows_to root n ++ row_of root n ∷ []
rows_more root n = more_numbers root 0 n ∙ ap (λ k. rows_to root n ++ row_of root k ∷ []) (omega arith)

-- Commit points.

pub commit_more : (t : Shape) (w : List ℕ) (b : ℕ) → last_commit t (w ++ b ∷ []) ≡ (if commits_after t w b then Some b else last_commit t w)
commit_more t w b = by_kind (commits_after t w b) refl
  where
    by_kind : (c : Bool) → commits_after t w b ≡ c → last_commit t (w ++ b ∷ []) ≡ (if c then Some b else last_commit t w)
    by_kind true is =
        let all : fixed_len t (w ++ b ∷ []) ≡ length w + 1 = fixed_more t w b ∙ ap (λ c. if c then length w + 1 else fixed_len t w) is in
        ap last_of (take_all (w ++ b ∷ []) (fixed_len t (w ++ b ∷ [])) (let e = length_push w b in omega arith)) ∙ last_push w b
    by_kind false is =
        let same : fixed_len t (w ++ b ∷ []) ≡ fixed_len t w = fixed_more t w b ∙ ap (λ c. if c then length w + 1 else fixed_len t w) is in
        ap (λ k. last_of (take k (w ++ b ∷ []))) same ∙ ap last_of (take_push w b (fixed_len t w) (fixed_le t w))

-- what is found of the commit points before step b, by the row of the step before it
pub record CommitsBefore (root : Block) (b : ℕ) (commit : Option ℕ) (fixed : ℕ) : Type 0 where
  pub commit_is : commit ≡ last_commit (shape_of root) (branch_to (shape_of root) b)
  pub fixed_is : fixed ≡ fixed_len (shape_of root) (branch_to (shape_of root) b)

pub commits_before : (root : Block) → tree_fault root ≡ None → (b : ℕ) → b < length (outline root).steps → (rows : List Row) → rows ≡ rows_to root b
    → (before : Option ℕ) → before ≡ last_of (branch_to (shape_of root) b) → (commit : Option ℕ) (fixed : ℕ)
    → IfSome before (λ a. commit ≡ (slice_index_or rows a no_row).commit) → IfSome before (λ a. fixed ≡ (slice_index_or rows a no_row).fixed)
    → (before ≡ None → (commit ≡ None) × (fixed ≡ 0)) → CommitsBefore root b commit fixed
commits_before root good b lt rows are None is commit fixed c f none =
    let t = shape_of root in
    let empty : branch_to t b ≡ [] = branch_before root good b lt ∙ sym (ap (done_to t) is) in
    record { commit_is = (none refl).0 ∙ sym (ap (last_commit t) empty); fixed_is = (none refl).1 ∙ sym (ap (fixed_len t) empty) }
commits_before root good b lt rows are (Some a) is commit fixed c f none =
    let t = shape_of root in
    let here : branch_to t b ≡ done_to t (Some a) = branch_before root good b lt ∙ sym (ap (done_to t) is) in
    let row : slice_index_or rows a no_row ≡ row_of root a = ap (λ l. slice_index_or l a no_row) are ∙ row_at root b a no_row (before_less root good b a (sym is)) in
    record {
      commit_is = c ∙ ap (λ (r : Row). r.commit) row ∙ sym (ap (last_commit t) here);
      fixed_is = f ∙ ap (λ (r : Row). r.fixed) row ∙ sym (ap (fixed_len t) here);
    }

-- Fallbacks and places.

pub way_of-fallback : (t : Shape) (w : List ℕ) (o : Option ℕ) → way_of (fallback_by t w o) ≡ o
way_of-fallback t w (Some d) = refl
way_of-fallback t w None = by_fixed (nat_eq (fixed_len t w) 0)
  where
    by_fixed : (c : Bool) → way_of (if c then fallback.All else fallback.Stuck) ≡ None
    by_fixed true = refl
    by_fixed false = refl

-- What a step says.

pub mapped : {X Y : Type 0} (f : X → Y) (xs : List X) (n : ℕ) (x : X) (d : Y) → slice_get xs n ≡ Some x → slice_index_or (map f xs) n d ≡ f x
mapped f [] n x d is = absurd (cc)
mapped f (y ∷ xs) zero x d is = let same : y ≡ x = cc in ap f same
mapped f (y ∷ xs) (suc n) x d is = mapped f xs n x d is

-- The row.

pub fixed_here : (root : Block) (b fixed len : ℕ) → fixed ≡ fixed_len (shape_of root) (branch_to (shape_of root) b) → len ≡ length (branch_to (shape_of root) b) + 1
    → (fixes : Bool) → fixes ≡ commits (shape_of root) b → (if fixes then len else fixed) ≡ (row_of root b).fixed
fixed_here root b fixed len is long fixes committed =
    let t = shape_of root in
    ap (λ c. if c then len else fixed) committed ∙ ap (λ l. if commits t b then l else fixed) long
    ∙ ap (λ f. if commits t b then length (branch_to t b) + 1 else f) is ∙ sym (fixed_more t (branch_to t b) b)

pub way_here : (root : Block) → tree_fault root ≡ None → (b : ℕ) → b < length (outline root).steps
    → (after other : Option ℕ) → after ≡ (row_of root b).after → other ≡ (row_of root b).other → (fixes : Bool) → fixes ≡ commits (shape_of root) b → (way : Option ℕ)
    → IfSome after (λ d. way ≡ Some d) → (after ≡ None → way ≡ (if fixes then None else other)) → way ≡ (row_of root b).way
way_here root good b lt (Some d) other is fall fixes committed way some none =
    let t = shape_of root in
    some ∙ sym (way_behind t (shape_is root good) (branch_to t b) b d (branch_goes root good b lt) (sym is))
way_here root good b lt None other is fall fixes committed way some none = by_kind (commits (shape_of root) b) refl
  where
    t : Shape
    t = shape_of root

    nothing : next_steps t (branch_to t b ++ b ∷ []) ≡ []
    nothing = none_least (next_steps t (branch_to t b ++ b ∷ [])) (sym is)

    by_kind : (c : Bool) → commits t b ≡ c → way ≡ way_from t (branch_to t b ++ b ∷ []) (b + 1)
    by_kind true yes' = none refl ∙ ap (λ c. if c then None else other) (committed ∙ yes') ∙ sym (no_way_behind t (branch_to t b) b nothing yes')
    by_kind false no' =
        none refl ∙ ap (λ c. if c then None else other) (committed ∙ no') ∙ fall
        ∙ sym (way_past t (branch_to t b) b nothing no' ∙ fallback_is_way t (branch_to t b) b)

-- a row by its parts
pub same_row : (kind : StepKind) (tries undo_tries len fixed : ℕ) (commit before after last_after other way : Option ℕ) (s : Row)
    → kind ≡ s.kind → tries ≡ s.tries → undo_tries ≡ s.undo_tries → len ≡ s.len → fixed ≡ s.fixed → commit ≡ s.commit
    → before ≡ s.before → after ≡ s.after → last_after ≡ s.last_after → other ≡ s.other → way ≡ s.way
    → record { kind = kind; tries = tries; undo_tries = undo_tries; len = len; fixed = fixed; commit = commit; before = before; after = after; last_after = last_after; other = other; way = way } ≡ s
same_row kind tries undo_tries len fixed commit before after last_after other way s a b c d e f g h i j k =
    rw a (rw b (rw c (rw d (rw e (rw f (rw g (rw h (rw i (rw j (rw k refl))))))))))

-- the step before has a row
pub before_has_row : (root : Block) → tree_fault root ≡ None → (b : ℕ) (rows : List Row) → rows ≡ rows_to root b → (before : Option ℕ)
    → before ≡ last_of (branch_to (shape_of root) b) → IfSome before (λ a. a < length rows)
before_has_row root good b rows are None is = tt
before_has_row root good b rows are (Some a) is = let lt = before_less root good b a (sym is) in let n = ap length are ∙ rows_count root b in omega arith

pub commit_here : (root : Block) (b : ℕ) (commit : Option ℕ) → commit ≡ last_commit (shape_of root) (branch_to (shape_of root) b)
    → (fixes : Bool) → fixes ≡ commits (shape_of root) b → (if fixes then Some b else commit) ≡ (row_of root b).commit
commit_here root b commit is fixes committed =
    let t = shape_of root in
    ap (λ c. if c then Some b else commit) committed ∙ ap (λ c. if commits t b then Some b else c) is ∙ sym (commit_more t (branch_to t b) b)
