-- The steps that follow through last alternatives are steps of the process, and no more than it has.
use Rattle.std.proofs.Common.{◌≡◌, ℕ, zero, suc, ◌≤◌, ◌<◌, List, [], ◌∷◌, ◌++◌, length, map, slice_index_or, Option, Some, None, refl, arith}
use Rattle.std.proofs.lemmas.List.{length-map}
use Rattle.process_tree.specs.declared.plan.Plan.{Plan}
use Rattle.process_tree.specs.declared.step.Step.{Step}
use Rattle.process_tree.specs.Blocks.{outline}
use Rattle.process_tree.specs.Order.{Each}
use Rattle.process_tree.specs.Shape.{Shape, branch_to, greatest, next_steps, shape_of, last_after, last_path, with_rest}
use Rattle.process_tree.proofs.InTurn.{goes_within, greatest_is}
use Rattle.core_state.specs.OpenTables.{planned_behind, planned_step}

pub last_within : (t : Shape) (c n : ℕ) (v : List ℕ) → Each (Each (λ b. b < c)) t.paths → Each (λ b. b < c) (last_path n t v)
last_within t c zero v within = tt
last_within t c (suc n) v within = by_next (greatest (next_steps t v)) refl (λ d. last_within t c n (v ++ d ∷ []) within)
  where
    by_next : (o : Option ℕ) → greatest (next_steps t v) ≡ o → ((d : ℕ) → Each (λ b. b < c) (last_path n t (v ++ d ∷ []))) → Each (λ b. b < c) (with_rest (λ d. last_path n t (v ++ d ∷ [])) o)
    by_next None is rest = tt
    by_next (Some d) is rest = (goes_within t c v d within (greatest_is (next_steps t v) d is), rest d)

pub last_few : (t : Shape) (n : ℕ) (v : List ℕ) → length (last_path n t v) ≤ n
last_few t zero v = omega arith
last_few t (suc n) v = by_next (greatest (next_steps t v)) (λ d. last_few t n (v ++ d ∷ []))
  where
    by_next : (o : Option ℕ) → ((d : ℕ) → length (last_path n t (v ++ d ∷ [])) ≤ n) → length (with_rest (λ d. last_path n t (v ++ d ∷ [])) o) ≤ suc n
    by_next None rest = omega arith
    by_next (Some d) rest = let r = rest d in omega arith

pub known_op : (ops : List ℕ) (most b : ℕ) → Each (λ op. op < most) ops → b < length ops → slice_index_or ops b 0 < most
known_op [] most b each within = absurd (omega arith)
known_op (op ∷ ops) most zero each within = each.0
known_op (op ∷ ops) most (suc b) each within = known_op ops most b each.1 (omega arith)

pub steps_known : (p : Plan) (most : ℕ) (bs : List ℕ) → Each (λ op. op < most) p.ops → Each (λ b. b < length p.ops) bs → Each (λ (step : ℕ × ℕ × ℕ). step.1 < most) (map (planned_step p) bs)
steps_known p most [] known within = tt
steps_known p most (b ∷ bs) known within = (known_op p.ops most b known within.0, steps_known p most bs known within.1)

-- of a plan whose steps have operations that a table has, those that follow a step have
pub planned_known : (p : Plan) (most b : ℕ) → Each (Each (λ b. b < length p.ops)) (shape_of p.tree).paths → Each (λ op. op < most) p.ops → Each (λ (step : ℕ × ℕ × ℕ). step.1 < most) (planned_behind p b)
planned_known p most b within known =
    let t = shape_of p.tree in steps_known p most (last_after t (branch_to t b ++ b ∷ [])) known (last_within t (length p.ops) (length t.kinds) (branch_to t b ++ b ∷ []) within)

pub planned_few : (p : Plan) (b : ℕ) → length (planned_behind p b) ≤ length (outline p.tree).steps
planned_few p b =
    let t = shape_of p.tree in
    let few = last_few t (length t.kinds) (branch_to t b ++ b ∷ []) in
    let one = length-map (last_after t (branch_to t b ++ b ∷ [])) (planned_step p) in
    let two = length-map (outline p.tree).steps (λ (s : Step). s.kind) in
    omega arith
