-- Two compensatable and retriable steps around a pivot can't get stuck.
use Rattle.std.proofs.Common.{◌≡◌, ◌⊎◌, inl, inr, ⊎_elim, ℕ, zero, suc, false, ltb, ◌||◌, List, [], ◌∷◌, length, map, sym, refl, ap, ◌∙◌, subst, arith}
use Rattle.std.proofs.lemmas.Bool.{and_left, false≢true, ne_eqb}
use Rattle.process_tree.specs.declared.block.Tail.{End}
use Rattle.process_tree.specs.declared.step.Step.{Step}
use Rattle.process_tree.specs.declared.step.StepKind.{StepKind}
use Rattle.process_tree.specs.declared.step.StepKind.TheVariants.{P, Cr}
use Rattle.process_tree.specs.declared.play.Outcome.{Outcome}
use Rattle.process_tree.specs.declared.play.Outcome.TheVariants.{Done, Refused}
use Rattle.process_tree.specs.declared.play.Played.{Played}
use Rattle.process_tree.specs.declared.play.Played.TheVariants.{Path, Nothing, Stuck, Unfinished}
use Rattle.process_tree.specs.Blocks.{outline}
use Rattle.process_tree.specs.Examples.{around_a_pivot}
use Rattle.process_tree.specs.Shape.{shape_of, branch_to, goes_on_to}
use Rattle.process_tree.specs.Play.{ended, end_of, stand_from, play}
use Rattle.process_tree.specs.Termination.{NeverStuck, is_later_way, ways_before, IsWellFormed}

-- a play that has ended stays so
stays_ended : (end : Played) (os : List Outcome) → stand_from around_a_pivot (ended end) os ≡ ended end
stays_ended end [] = refl
stays_ended end (o ∷ os) = stays_ended end os

plays : (os : List Outcome) → (play around_a_pivot os ≡ Unfinished) ⊎ ((play around_a_pivot os ≡ Path (0 ∷ 1 ∷ 2 ∷ [])) ⊎ (play around_a_pivot os ≡ Nothing))
plays [] = inl refl
plays (Refused ∷ os) = inr (inr (ap end_of (stays_ended Nothing os)))
plays (Done ∷ os) = inr (inl (ap end_of (stays_ended (Path (0 ∷ 1 ∷ 2 ∷ [])) os)))

never_stuck : NeverStuck around_a_pivot
never_stuck os b stuck =
    ⊎_elim (λ is. let e : Unfinished ≡ Stuck b = sym is ∙ stuck in absurd (cc))
    (⊎_elim (λ is. let e : Path (0 ∷ 1 ∷ 2 ∷ []) ≡ Stuck b = sym is ∙ stuck in absurd (cc)) (λ is. let e : Nothing ≡ Stuck b = sym is ∙ stuck in absurd (cc)))
    (plays os)

no_later_way : (d : ℕ) → is_later_way around_a_pivot d ≡ false
no_later_way zero = refl
no_later_way (suc zero) = refl
no_later_way (suc (suc zero)) = refl
no_later_way (suc (suc (suc d))) =
    let n = suc (suc (suc d)) in
    let away : branch_to around_a_pivot n ≡ [] = rw (ne_eqb n 0 (λ e. omega arith), ne_eqb n 1 (λ e. omega arith), ne_eqb n 2 (λ e. omega arith)) refl in
    and_left (goes_on_to around_a_pivot (branch_to around_a_pivot n) n) (ltb 0 (length (ways_before around_a_pivot n)))
    (ap (λ w. goes_on_to around_a_pivot w n) away ∙ ap (λ t. t || false) (ne_eqb n 0 (λ e. omega arith)))

well_formed : IsWellFormed around_a_pivot
well_formed = record { never_stuck = never_stuck; reached = λ d later. absurd (false≢true (sym (no_later_way d) ∙ later)) }

-- steps of these kinds make that shape
pub steps_around : (steps : List Step) → map (λ (s : Step). s.kind) steps ≡ Cr ∷ P ∷ Cr ∷ [] → IsWellFormed (shape_of (record { steps = steps; tail = End }))
steps_around [] is = let l = ap length is in absurd (omega arith)
steps_around (a ∷ []) is = let l = ap length is in absurd (omega arith)
steps_around (a ∷ b ∷ []) is = let l = ap length is in absurd (omega arith)
steps_around (a ∷ b ∷ c ∷ []) is = subst (λ (ks : List StepKind). IsWellFormed (record { kinds = ks; paths = (0 ∷ 1 ∷ 2 ∷ []) ∷ [] })) (sym is) well_formed
steps_around (a ∷ b ∷ c ∷ d ∷ steps) is = let l = ap length is in absurd (omega arith)

-- and there are three
pub three : (steps : List Step) → map (λ (s : Step). s.kind) steps ≡ Cr ∷ P ∷ Cr ∷ [] → length (outline (record { steps = steps; tail = End })).steps ≡ 3
three [] is = let l = ap length is in absurd (omega arith)
three (a ∷ []) is = let l = ap length is in absurd (omega arith)
three (a ∷ b ∷ []) is = let l = ap length is in absurd (omega arith)
three (a ∷ b ∷ c ∷ []) is = refl
three (a ∷ b ∷ c ∷ d ∷ steps) is = let l = ap length is in absurd (omega arith)
