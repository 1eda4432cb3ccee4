-- What was found of a process tells its verdict.
use Rattle.std.proofs.Common.{◌≡◌, ◌⊎◌, inl, inr, subst, ℕ, ◌+◌, ◌<◌, zero, suc, true, List, [], ◌∷◌, ◌++◌, length, map, take, drop, Some, None, refl, sym, ap, ◌∙◌, append_assoc, replicate, if◌then◌else◌, add-one, arith, drop-cons, slice_index}
use Rattle.std.proofs.lemmas.List.{length-map}
use Rattle.std.specs.List.{slice_get}
use Rattle.process_tree.specs.declared.step.Step.{Step}
use Rattle.process_tree.specs.declared.block.Block.{Block}
use Rattle.process_tree.specs.declared.play.Outcome.{Outcome}
use Rattle.process_tree.specs.declared.play.Outcome.TheVariants.{Done, Refused}
use Rattle.process_tree.specs.Blocks.{outline}
use Rattle.process_tree.specs.Making.{tree_fault}
use Rattle.process_tree.specs.Order.{Each, IsRising}
use Rattle.process_tree.specs.Shape.{Shape, shape_of, goes_on_to, branch_to, can_be_refused, kind_of}
use Rattle.process_tree.specs.Termination.{tried_before, IsWellFormed, outcomes_along, outcomes_to, Fault, stuck_at, unreachable_at, IsFault, IsFirstFault}
use Rattle.process_tree.proofs.Branches.{Each-has, Each-among}
use Rattle.process_tree.proofs.Onward.{onward_has, goes_along, goes_on}
use Rattle.process_tree.proofs.TreeLaws.{each_step_has_a_path}
use Rattle.process_tree.proofs.Trees.{tree_laid_out}
use Rattle.well_formed.specs.declared.flaw.Flaw.TheVariants.{CutOff, DeadEnd}
use Rattle.well_formed.specs.declared.judge.Flawed.{Flawed}
use Rattle.well_formed.specs.declared.verdict.Verdict.{Verdict}
use Rattle.well_formed.specs.declared.verdict.Verdict.TheVariants.{Good, Stuck, Unreachable, NoMemory}
use Rattle.well_formed.specs.Flaws.{IsOrderly, IsSound, IsFirstFlaw, IsJudged}
use Rattle.well_formed.specs.Verdicts.{Tells}
use Rattle.well_formed.proofs.Apart.{onward_at}
use Rattle.well_formed.proofs.Reach.{Each-at}
use Rattle.well_formed.proofs.Firsts.{all_sound, first_cut_off, first_dead_end}

-- the whole paths of a tree lie in order
pub orderly : (root : Block) → tree_fault root ≡ None → IsOrderly (shape_of root)
orderly root good =
    let laid = tree_laid_out root good in
    let count : length (outline root).steps ≡ length (shape_of root).kinds = sym (length-map (outline root).steps (λ s. s.kind)) in
    record {
      some = laid.some;
      within = subst (λ n. Each (Each (λ b. b < n)) (outline root).paths) count laid.within;
      rising = laid.rising;
      in_order = laid.in_order;
      covered = each_step_has_a_path (shape_of root) (record { root = root; good = good; is = refl });
    }

-- nothing was found
pub told_good : (t : Shape) → IsOrderly t → IsJudged t None → IsWellFormed t
told_good t o sound =
    all_sound t o (λ b on. let along = goes_along t (branch_to t b) b on in Each-has (IsSound t) along.0 b (Each-among (Each (IsSound t)) t.paths along.0 sound along.1) (onward_has (branch_to t b) along.0 b along.2))

-- a way was found that is cut off
pub told_unreachable : (t : Shape) (f : Flawed) → IsOrderly t → IsFirstFlaw t f → f.flaw ≡ CutOff → IsFirstFault t (unreachable_at f.step)
told_unreachable t f o is cut = first_cut_off t f.step o is.0 (is.1 ∙ ap Some cut) is.2

-- a dead end was found
pub told_stuck : (t : Shape) (f : Flawed) (outcomes : List Outcome) → IsOrderly t → IsFirstFlaw t f → f.flaw ≡ DeadEnd → outcomes ≡ outcomes_to t f.step → IsFirstFault t (stuck_at f.step outcomes)
told_stuck t f outcomes o is dead to =
    subst (λ os. IsFirstFault t (stuck_at f.step os)) (sym to) (first_dead_end t f.step o is.0 (is.1 ∙ ap Some dead) is.2)

-- a well-formed process has no fault
no_fault : (t : Shape) (f : Fault) → IsWellFormed t → IsFault t f → ⊥
no_fault t (stuck_at b os) good is = good.never_stuck os b is.1
no_fault t (unreachable_at d) good is = is.1 (good.reached d is.0)

pub good_is_told : (t : Shape) (v : Verdict) → Tells t v → IsWellFormed t → (v ≡ Good) ⊎ (v ≡ NoMemory)
good_is_told t Good tells good = inl refl
good_is_told t (Stuck step outcomes) tells good = absurd (no_fault t (stuck_at step outcomes) good tells.is)
good_is_told t (Unreachable step) tells good = absurd (no_fault t (unreachable_at step) good tells.is)
good_is_told t NoMemory tells good = inr refl

-- one kind more
kinds_from : (steps : List Step) (k : ℕ) (s : Step) → slice_get steps k ≡ Some s → take (suc k) (map (λ s. s.kind) steps) ≡ take k (map (λ s. s.kind) steps) ++ s.kind ∷ []
kinds_from [] k s is = absurd (cc)
kinds_from (x ∷ steps) zero s is = let same : x ≡ s = (let e : Some x ≡ Some s = is in cc) in ap (λ y. y.kind ∷ []) same
kinds_from (x ∷ steps) (suc k) s is = ap (λ ks. x.kind ∷ ks) (kinds_from steps k s is)

pub kinds_next : (steps : List Step) (k : ℕ) (s : Step) → slice_get steps k ≡ Some s → take (k + 1) (map (λ s. s.kind) steps) ≡ take k (map (λ s. s.kind) steps) ++ s.kind ∷ []
kinds_next steps k s is = ap (λ n. take n (map (λ s. s.kind) steps)) (add-one k) ∙ kinds_from steps k s is

-- each step of a branch goes on from those before it
pub on_branch_at : (t : Shape) (w : List ℕ) (b k : ℕ) → goes_on_to t w b ≡ true → k < length w → goes_on_to t (take k w) (slice_index w k) ≡ true
on_branch_at t w b k on lt =
    let along = goes_along t w b on in
    goes_on t (take k w) (slice_index w k) along.0 along.1 (onward_at w along.0 b k along.2 lt)

-- a step of a rising list is below the later ones
pub rising_at : (w : List ℕ) (i k : ℕ) → IsRising w → i < k → k < length w → slice_index w i < slice_index w k
rising_at [] i k rise lt inside = absurd (omega arith)
rising_at (x ∷ w) i zero rise lt inside = absurd (omega arith)
rising_at (x ∷ w) zero (suc k) rise lt inside = Each-at (λ y. x < y) w k rise.0 (omega arith)
rising_at (x ∷ w) (suc i) (suc k) rise lt inside = rising_at w i k rise.1 (omega arith) (omega arith)

-- the outcomes along one step more
pub along_next : (t : Shape) (w : List ℕ) (b k n : ℕ) (old mid new all : List Outcome) → k < length w → n ≡ slice_index w k → mid ≡ old ++ replicate (length (tried_before t (slice_index w k))) Refused → new ≡ mid ++ (if can_be_refused (kind_of t n) then Done ∷ [] else []) → old ++ outcomes_along t (drop k w) b ≡ all → new ++ outcomes_along t (drop (k + 1) w) b ≡ all
along_next t w b k n old mid new all lt at passed done is =
    let x = slice_index w k in
    let refused = replicate (length (tried_before t x)) Refused in
    let first = if can_be_refused (kind_of t x) then Done ∷ [] else [] in
    let rest = outcomes_along t (drop (k + 1) w) b in
    let item : drop k w ≡ x ∷ drop (k + 1) w = drop-cons w k 0 lt ∙ sym (ap (λ m. x ∷ drop m w) (add-one k)) in
    ap (λ xs. xs ++ rest) (done ∙ ap (λ m. mid ++ (if can_be_refused (kind_of t m) then Done ∷ [] else [])) at ∙ ap (λ xs. xs ++ first) passed ∙ append_assoc old refused first)
    ∙ append_assoc old (refused ++ first) rest
    ∙ sym (ap (λ v. old ++ outcomes_along t v b) item)
    ∙ is
