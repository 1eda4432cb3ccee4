-- Play goes back from a refused step.
use Rattle.std.proofs.lemmas.Bool.{cases_Bool}
use Rattle.std.proofs.Common.{◌≡◌, ⊎_elim, subst, ℕ, ◌+◌, ◌-◌, ◌<◌, zero, suc, Bool, true, List, [], ◌∷◌, length, map, take, find, cond, unwrap_or, Option, Some, None, Result, Ok, Err, refl, sym, ap, ◌∙◌, nat_eq, if◌then◌else◌}
use Rattle.std.specs.Result.{IfOk}
use Rattle.std.specs.declared.alloc.AllocError.{AllocError}
use Rattle.process_tree.specs.declared.turns.Standing.{Standing}
use Rattle.process_tree.specs.Stands.{stand_of}
use Rattle.process_tree.specs.declared.block.Block.{Block}
use Rattle.process_tree.specs.declared.play.Fallback.{Fallback}
use Rattle.process_tree.specs.declared.play.Fallback.TheVariants as fallback
use Rattle.process_tree.specs.declared.play.Played.TheVariants as played
use Rattle.process_tree.specs.Blocks.{outline, numbers_from}
use Rattle.process_tree.specs.Making.{tree_fault}
use Rattle.process_tree.specs.Order.{Each}
use Rattle.process_tree.specs.Shape.{Shape, shape_of, goes_on_to, branch_to, fixed_len, last_commit, last_of}
use Rattle.process_tree.specs.Play.{Stand, ended, arrive, go_back, fallback_of, fallback_by, fallback_place, kept_for}
use Rattle.process_tree.proofs.Onward.{branch_from}
use Rattle.process_tree.proofs.Kept.{branch_within, kept_goes_on}
use Rattle.process_tree.proofs.Trees.{tree_laid_out}

-- the branch to a step that goes on is what is done
pub done_is : (root : Block) (w : List ℕ) (b : ℕ) → tree_fault root ≡ None → goes_on_to (shape_of root) w b ≡ true → branch_to (shape_of root) b ≡ w
done_is root w b good on =
    let laid = tree_laid_out root good in
    branch_from (shape_of root) w b laid.in_order laid.rising on

pub done_within : (root : Block) (w : List ℕ) (b : ℕ) → tree_fault root ≡ None → goes_on_to (shape_of root) w b ≡ true → Each (λ x. x < length (outline root).steps) w
done_within root w b good on =
    let laid = tree_laid_out root good in
    let c = length (outline root).steps in
    subst (Each (λ x. x < c)) (done_is root w b good on) (branch_within (shape_of root) b c laid.within)

-- the last commit point of what is done is that of the branch
pub commit_is : (root : Block) (w : List ℕ) (b fixed : ℕ) (commit : Option ℕ) → tree_fault root ≡ None → goes_on_to (shape_of root) w b ≡ true → fixed ≡ fixed_len (shape_of root) w → commit ≡ last_of (take fixed w) → commit ≡ last_commit (shape_of root) (branch_to (shape_of root) b)
commit_is root w b fixed commit good on len is =
    is ∙ ap (λ k. last_of (take k w)) len ∙ sym (ap (last_commit (shape_of root)) (done_is root w b good on))

take_take : (k : ℕ) (w : List ℕ) → take (length (take k w)) w ≡ take k w
take_take zero w = refl
take_take (suc k) [] = refl
take_take (suc k) (x ∷ w) = ap (λ xs. x ∷ xs) (take_take k w)

-- what is kept is a beginning of what is done
kept_take : (test : List ℕ → Bool) (w : List ℕ) (ks : List ℕ) → take (length (unwrap_or (find test (map (λ k. take k w) ks)) [])) w ≡ unwrap_or (find test (map (λ k. take k w) ks)) []
kept_take test w [] = refl
kept_take test w (k ∷ ks) =
    ⊎_elim
    (λ yes'. let e = ap (λ t. unwrap_or (cond t (Some (take k w)) (find test (map (λ k. take k w) ks))) []) yes' in ap (λ v. take (length v) w) e ∙ take_take k w ∙ sym e)
    (λ no'. let e = ap (λ t. unwrap_or (cond t (Some (take k w)) (find test (map (λ k. take k w) ks))) []) no' in ap (λ v. take (length v) w) e ∙ kept_take test w ks ∙ sym e)
    (cases_Bool (test (take k w)))

-- what the answer of a fallback says
pub record FallsTo (t : Shape) (w : List ℕ) (b keep d : ℕ) : Type 0 where
  pub way : fallback_of t w b ≡ Some d
  pub kept : take keep w ≡ kept_for t w d

-- an alternative is the way on
pub falls_alternative : (root : Block) (w : List ℕ) (b keep d : ℕ) (answer : Fallback) → tree_fault root ≡ None → goes_on_to (shape_of root) w b ≡ true → answer ≡ fallback_place (shape_of root) b → answer ≡ fallback.Alternative keep d → FallsTo (shape_of root) w b keep d
falls_alternative root w b keep d answer good on is alternative =
    by_way (fallback_of t w b) refl
  where
    t : Shape
    t = shape_of root

    place : fallback_place t b ≡ fallback_by t w (fallback_of t w b)
    place = ap (λ v. fallback_by t v (fallback_of t v b)) (done_is root w b good on)

    by_way : (o : Option ℕ) → fallback_of t w b ≡ o → FallsTo t w b keep d
    by_way None f =
        let e : fallback.Alternative keep d ≡ (if nat_eq (fixed_len t w) 0 then fallback.All else fallback.Stuck) = sym alternative ∙ is ∙ place ∙ ap (fallback_by t w) f in
        ⊎_elim
        (λ t'. let g : fallback.Alternative keep d ≡ fallback.All = e ∙ ap (λ b. if b then fallback.All else fallback.Stuck) t' in absurd (cc))
        (λ f'. let g : fallback.Alternative keep d ≡ fallback.Stuck = e ∙ ap (λ b. if b then fallback.All else fallback.Stuck) f' in absurd (cc))
        (cases_Bool (nat_eq (fixed_len t w) 0))
    by_way (Some x) f =
        let e : fallback.Alternative keep d ≡ fallback.Alternative (length (kept_for t w x)) x = sym alternative ∙ is ∙ place ∙ ap (fallback_by t w) f in
        let same : d ≡ x = cc in
        let count : keep ≡ length (kept_for t w x) = cc in
        record {
          way = f ∙ ap Some (sym same);
          kept =
              ap (λ k. take k w) count
              ∙ kept_take (λ v. goes_on_to t v x) w (numbers_from (fixed_len t w) (length w - fixed_len t w + 1))
              ∙ ap (kept_for t w) (sym same);
        }

-- the way on goes on from what is kept
pub alternative_goes_on : (t : Shape) (w v : List ℕ) (b keep d : ℕ) → FallsTo t w b keep d → v ≡ take keep w → goes_on_to t v d ≡ true
alternative_goes_on t w v b keep d falls is = ap (λ u. goes_on_to t u d) (is ∙ falls.kept) ∙ kept_goes_on t w b d falls.way

-- play goes on there
pub alternative_stands : (t : Shape) (w v : List ℕ) (b keep d : ℕ) → FallsTo t w b keep d → v ≡ take keep w → arrive t v d ≡ go_back t w b (fallback_of t w b)
alternative_stands t w v b keep d falls is = ap (λ u. arrive t u d) (is ∙ falls.kept) ∙ sym (ap (go_back t w b) falls.way)

-- without a way on all is undone where nothing is fixed
pub all_undone : (root : Block) (w : List ℕ) (b : ℕ) (answer : Fallback) → tree_fault root ≡ None → goes_on_to (shape_of root) w b ≡ true → answer ≡ fallback_place (shape_of root) b → answer ≡ fallback.All → ended played.Nothing ≡ go_back (shape_of root) w b (fallback_of (shape_of root) w b)
all_undone root w b answer good on is all = by_way (fallback_of t w b) refl
  where
    t : Shape
    t = shape_of root

    place : fallback_place t b ≡ fallback_by t w (fallback_of t w b)
    place = ap (λ v. fallback_by t v (fallback_of t v b)) (done_is root w b good on)

    by_way : (o : Option ℕ) → fallback_of t w b ≡ o → ended played.Nothing ≡ go_back t w b (fallback_of t w b)
    by_way None f =
        let e : fallback.All ≡ (if nat_eq (fixed_len t w) 0 then fallback.All else fallback.Stuck) = sym all ∙ is ∙ place ∙ ap (fallback_by t w) f in
        ⊎_elim
        (λ t'. sym (ap (go_back t w b) f ∙ ap (λ c. ended (if c then played.Nothing else played.Stuck b)) t'))
        (λ f'. let g : fallback.All ≡ fallback.Stuck = e ∙ ap (λ b. if b then fallback.All else fallback.Stuck) f' in absurd (cc))
        (cases_Bool (nat_eq (fixed_len t w) 0))
    by_way (Some x) f =
        let e : fallback.All ≡ fallback.Alternative (length (kept_for t w x)) x = sym all ∙ is ∙ place ∙ ap (fallback_by t w) f in
        absurd (cc)

-- and the process is stuck where a commit point stands
pub stuck_there : (root : Block) (w : List ℕ) (b : ℕ) (answer : Fallback) → tree_fault root ≡ None → goes_on_to (shape_of root) w b ≡ true → answer ≡ fallback_place (shape_of root) b → answer ≡ fallback.Stuck → ended (played.Stuck b) ≡ go_back (shape_of root) w b (fallback_of (shape_of root) w b)
stuck_there root w b answer good on is stuck = by_way (fallback_of t w b) refl
  where
    t : Shape
    t = shape_of root

    place : fallback_place t b ≡ fallback_by t w (fallback_of t w b)
    place = ap (λ v. fallback_by t v (fallback_of t v b)) (done_is root w b good on)

    by_way : (o : Option ℕ) → fallback_of t w b ≡ o → ended (played.Stuck b) ≡ go_back t w b (fallback_of t w b)
    by_way None f =
        let e : fallback.Stuck ≡ (if nat_eq (fixed_len t w) 0 then fallback.All else fallback.Stuck) = sym stuck ∙ is ∙ place ∙ ap (fallback_by t w) f in
        ⊎_elim
        (λ t'. let g : fallback.Stuck ≡ fallback.All = e ∙ ap (λ b. if b then fallback.All else fallback.Stuck) t' in absurd (cc))
        (λ f'. sym (ap (go_back t w b) f ∙ ap (λ c. ended (if c then played.Nothing else played.Stuck b)) f'))
        (cases_Bool (nat_eq (fixed_len t w) 0))
    by_way (Some x) f =
        let e : fallback.Stuck ≡ fallback.Alternative (length (kept_for t w x)) x = sym stuck ∙ is ∙ place ∙ ap (fallback_by t w) f in
        absurd (cc)

-- what a call answered stands where that one stands
pub stands_there : (w : List ℕ) (answer : Result Standing AllocError) (here there : Stand) → IfOk answer (λ s. stand_of w s ≡ here) → here ≡ there → IfOk answer (λ s. stand_of w s ≡ there)
stands_there w (Ok s) here there is same = is ∙ same
stands_there w (Err e) here there is same = tt
