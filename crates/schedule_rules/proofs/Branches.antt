-- The branch that what stands of a process goes along.
use Rattle.std.proofs.Common.{◌≡◌, inl, inr, ℕ, zero, suc, ◌-◌, ◌<◌, ◌≤◌, true, if◌then◌else◌, List, [], ◌∷◌, ◌++◌, length, take, drop, get_or, None, sym, refl, ap, ◌∙◌, subst, arith, append_assoc, length-take}
use Rattle.std.proofs.Math.Seq.{split_at}
use Rattle.std.proofs.lemmas.Bool.{eq-eqb, ne_eqb}
use Rattle.process_tree.specs.declared.block.Block.{Block}
use Rattle.process_tree.specs.declared.plan.Plan.{Plan}
use Rattle.process_tree.specs.Blocks.{outline}
use Rattle.process_tree.specs.Making.{tree_fault}
use Rattle.process_tree.specs.Order.{Each}
use Rattle.process_tree.specs.Recovery.{forward}
use Rattle.process_tree.specs.Shape.{shape_of, fixed_len, goes_on_to, branch_to, last_after, IsBranch}
use Rattle.process_tree.proofs.InTurn.{step_within}
use Rattle.process_tree.proofs.GoesBack.{done_is, done_within}
use Rattle.process_tree.proofs.Along.{goes_there}
use Rattle.process_tree.proofs.Fixed.{fixed_le}
use Rattle.schedule_model.specs.Course.{course_of, courses_of, no_course}

each_and : (P : ℕ → Type 0) (v : List ℕ) (a : ℕ) → Each P v → P a → Each P (v ++ a ∷ [])
each_and P [] a each is = (is, tt)
each_and P (x ∷ v) a each is = (each.0, each_and P v a each.1 is)

module _ (root : Block) (good : tree_fault root ≡ None) where
  -- what stands has steps of the tree alone
  pub steps_within : (w : List ℕ) → IsBranch (shape_of root) w → Each (λ b. b < length (outline root).steps) w
  steps_within w (inl none) = subst (Each (λ b. b < length (outline root).steps)) (sym none) tt
  steps_within w (inr some) =
      subst (Each (λ b. b < length (outline root).steps)) (sym some.2)
      (each_and (λ b. b < length (outline root).steps) some.0 some.1 (done_within root some.0 some.1 good some.3) (step_within root some.0 some.1 good some.3))

  drop_none : (n : ℕ) (xs : List ℕ) → length xs ≤ n → drop n xs ≡ []
  drop_none zero [] le = refl
  drop_none zero (x ∷ xs) le = absurd (omega arith)
  drop_none (suc n) [] le = refl
  drop_none (suc n) (x ∷ xs) le = drop_none n xs (omega arith)

  -- what is done up to the last commit point is the branch to it and itself
  module _ (w : List ℕ) (branch : IsBranch (shape_of root) w) (n : ℕ) (is : n ≡ fixed_len (shape_of root) w) where
    abbrev done : List ℕ
    done = take n w

    many : length done ≡ n
    many = let le = fixed_le (shape_of root) w in omega (arith, length-take n w, is)

    together : (k : ℕ) (xs : List ℕ) → take k xs ++ drop k xs ≡ xs
    together zero [] = refl
    together zero (y ∷ ys) = refl
    together (suc k) [] = refl
    together (suc k) (y ∷ ys) = ap (λ zs. y ∷ zs) (together k ys)

    split : (d : ℕ) → 1 ≤ length done → done ≡ take (length done - 1) done ++ get_or done (length done - 1) d ∷ []
    split d some =
        split_at done (length done - 1) d (omega arith)
        ∙ ap (λ es. take (length done - 1) done ++ get_or done (length done - 1) d ∷ es) (drop_none (suc (length done - 1)) done (omega arith))

    goes : (d : ℕ) → 1 ≤ length done → goes_on_to (shape_of root) (take (length done - 1) done) (get_or done (length done - 1) d) ≡ true
    goes d some =
        goes_there (shape_of root) (take (length done - 1) done) (get_or done (length done - 1) d) (drop n w)
        (subst (IsBranch (shape_of root))
        (sym (together n w) ∙ (ap (λ es. es ++ drop n w) (split d some) ∙ append_assoc (take (length done - 1) done) (get_or done (length done - 1) d ∷ []) (drop n w)))
        branch)

    pub last_within : (d : ℕ) → 1 ≤ length done → get_or done (length done - 1) d < length (outline root).steps
    last_within d some = step_within root (take (length done - 1) done) (get_or done (length done - 1) d) good (goes d some)

    -- what is owed follows the last commit point
    pub owed_behind : (d : ℕ) → 1 ≤ length done
        → last_after (shape_of root) (branch_to (shape_of root) (get_or done (length done - 1) d) ++ get_or done (length done - 1) d ∷ []) ≡ forward (shape_of root) w
    owed_behind d some =
        ap (λ v. last_after (shape_of root) (v ++ get_or done (length done - 1) d ∷ [])) (done_is root (take (length done - 1) done) (get_or done (length done - 1) d) good (goes d some))
        ∙ (ap (last_after (shape_of root)) (sym (split d some))
        ∙ (ap (λ k. last_after (shape_of root) (take k w)) is
        ∙ sym (ap (λ t. if t then [] else last_after (shape_of root) (take (fixed_len (shape_of root) w) w)) (ne_eqb (fixed_len (shape_of root) w) 0 (λ none. omega (arith, many, is, none, some))))))

    -- nothing is owed before the first
    pub nothing_owed : length done ≡ 0 → forward (shape_of root) w ≡ []
    nothing_owed none =
        ap (λ t. if t then [] else last_after (shape_of root) (take (fixed_len (shape_of root) w) w)) (eq-eqb (fixed_len (shape_of root) w) 0 (omega (arith, many, is, none)))

  -- the same of a list that is that part
  module _ (w : List ℕ) (branch : IsBranch (shape_of root) w) (n : ℕ) (is : n ≡ fixed_len (shape_of root) w) (part : List ℕ) (front : part ≡ take n w) (d : ℕ) (some : 1 ≤ length part) where
    pub last_within_of : get_or part (length part - 1) d < length (outline root).steps
    last_within_of = subst (λ p. get_or p (length p - 1) d < length (outline root).steps) (sym front) (last_within w branch n is d (subst (λ p. 1 ≤ length p) front some))

    pub owed_behind_of : last_after (shape_of root) (branch_to (shape_of root) (get_or part (length part - 1) d) ++ get_or part (length part - 1) d ∷ []) ≡ forward (shape_of root) w
    owed_behind_of =
        subst (λ p. last_after (shape_of root) (branch_to (shape_of root) (get_or p (length p - 1) d) ++ get_or p (length p - 1) d ∷ []) ≡ forward (shape_of root) w) (sym front)
        (owed_behind w branch n is d (subst (λ p. 1 ≤ length p) front some))

-- the course of a process that has a plan
pub course_there : (plans : List Plan) (k : ℕ) (p : Plan) → k < length plans → p ≡ get_or plans k p → get_or (courses_of plans) k no_course ≡ course_of p
course_there [] k p less is = absurd (omega arith)
course_there (q ∷ plans) zero p less is = ap course_of (sym is)
course_there (q ∷ plans) (suc k) p less is = course_there plans k p (omega arith) is
