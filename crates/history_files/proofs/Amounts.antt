-- The amounts of effects are within their limit, as those of the steps are.
use Rattle.std.proofs.Common.{◌≡◌, inl, inr, ◌+◌, ◌-◌, ltb, zero, suc, ℤ, pos, negsuc, ℕ, Bool, true, false, List, [], ◌∷◌, length, not, map, refl, sym, ◌∙◌, ap, arith, Option, Some, None, if◌then◌else◌}
use Rattle.std.specs.Prelude.{slice_index_or, int_lt}
use Rattle.std.proofs.lemmas.Bool.{and_parts, and_from, leb-true, ltb-true, le-ltb}
use Rattle.std.proofs.lemmas.Option.{none-some}
use Rattle.process_tree.specs.Blocks.{outline}
use Rattle.process_tree.specs.declared.block.Block.{Block}
use Rattle.process_tree.specs.declared.plan.Plan.{Plan}
use Rattle.process_tree.specs.declared.step.Step.{Step}
use Rattle.process_tree.specs.Making.{first_bad_step, first_same_name, has_good_options, is_good_step, tree_fault}
use Rattle.process_tree.specs.Making.{is_amount as is_step_amount}
use Rattle.schedule_model.proofs.Members.{Among}
use Rattle.subsystem_store.specs.Bodies.{is_amount}
use Rattle.history_files.specs.Effects.{amount_of}

-- the limit of a step's amount is that of an effect's
step_amount : (a : ℤ) → is_step_amount a ≡ true → is_amount a ≡ true
step_amount (pos n) is = and_from (not (int_lt (pos n) (negsuc 999999999))) (not (int_lt (pos 1000000000) (pos n))) refl (ap not (le-ltb 1000000000 n (leb-true n 1000000000 is)))
step_amount (negsuc n) is = and_from (not (int_lt (negsuc n) (negsuc 999999999))) (not (int_lt (pos 1000000000) (negsuc n))) (ap not (le-ltb 999999999 n (let below = ltb-true n 1000000000 is in omega (arith, below)))) refl

-- where no step is bad, the first is good, and none of the others is bad
good_head : (n : ℕ) (s : Step) (ss : List Step) → first_bad_step n (s ∷ ss) ≡ None → (is_good_step s ≡ true) × (first_bad_step (n + 1) ss ≡ None)
good_head n s ss none = by (is_good_step s) refl
  where
    by : (t : Bool) → is_good_step s ≡ t → (is_good_step s ≡ true) × (first_bad_step (n + 1) ss ≡ None)
    by true is = (is, sym (ap (λ t. if t then first_bad_step (n + 1) ss else Some n) is) ∙ none)
    by false is = absurd (none-some n (sym none ∙ ap (λ t. if t then first_bad_step (n + 1) ss else Some n) is))

good_amount : (n : ℕ) (ss : List Step) (b : ℕ) → first_bad_step n ss ≡ None → is_amount (slice_index_or (map (λ (s : Step). s.amount) ss) b (pos 0)) ≡ true
good_amount n [] b none = refl
good_amount n (s ∷ ss) zero none = step_amount s.amount (and_parts (is_step_amount s.amount) (has_good_options s.kind s) (good_head n s ss none).0).0
good_amount n (s ∷ ss) (suc b) none = good_amount (n + 1) ss b (good_head n s ss none).1

-- a tree without fault has no bad step
no_bad_step : (root : Block) → tree_fault root ≡ None → first_bad_step 0 (outline root).steps ≡ None
no_bad_step root none = by (outline root).has_empty (ltb 256 (length (outline root).steps)) (ltb 16 (outline root).nesting) (outline root).odd_choice (first_same_name 0 [] (outline root).steps) (first_bad_step 0 (outline root).steps) refl refl refl refl refl refl
  where
    by : (e s n : Bool) (odd same bad : Option ℕ) → (outline root).has_empty ≡ e → ltb 256 (length (outline root).steps) ≡ s → ltb 16 (outline root).nesting ≡ n
        → (outline root).odd_choice ≡ odd → first_same_name 0 [] (outline root).steps ≡ same → first_bad_step 0 (outline root).steps ≡ bad → first_bad_step 0 (outline root).steps ≡ None
    by true s n odd same bad ee es en eo ed eb = let told = rw ee at none in absurd (cc)
    by false true n odd same bad ee es en eo ed eb = let told = rw (ee, es) at none in absurd (cc)
    by false false true odd same bad ee es en eo ed eb = let told = rw (ee, es, en) at none in absurd (cc)
    by false false false (Some k) same bad ee es en eo ed eb = let told = rw (ee, es, en, eo) at none in absurd (cc)
    by false false false None (Some k) bad ee es en eo ed eb = let told = rw (ee, es, en, eo, ed) at none in absurd (cc)
    by false false false None None (Some k) ee es en eo ed eb = let told = rw (ee, es, en, eo, ed, eb) at none in absurd (cc)
    by false false false None None None ee es en eo ed eb = eb

-- the amount at the n-th of these plans
nth_amount : (plans : List Plan) (n b : ℕ) → ((p : Plan) → Among p plans → tree_fault p.tree ≡ None)
    → is_amount (slice_index_or (map (λ (s : Step). s.amount) (slice_index_or (map (λ (p : Plan). (outline p.tree).steps) plans) n [])) b (pos 0)) ≡ true
nth_amount [] n b good = refl
nth_amount (p ∷ plans) zero b good = good_amount 0 (outline p.tree).steps b (no_bad_step p.tree (good p (inl refl)))
nth_amount (p ∷ plans) (suc n) b good = nth_amount plans n b (λ x is. good x (inr is))

pub amount_within : (plans : List Plan) (i b : ℕ) → ((p : Plan) → Among p plans → tree_fault p.tree ≡ None) → is_amount (amount_of plans i b) ≡ true
amount_within plans i b good = nth_amount plans (i - 1) b good
