-- What the limits of a tree say of its parts.
use Rattle.std.proofs.Common.{◌≡◌, ◌≤◌, ◌+◌, ℕ, List, [], ◌∷◌, ◌++◌, length, Bool, true, false, not, ◌||◌, nat_lt, Option, Some, None, refl, sym, ap, ◌∙◌, append_assoc, append-nil, subst, if◌then◌else◌}
use Rattle.std.specs.List.{list_any}
use Rattle.std.proofs.lemmas.Bool.{and_parts, and_from, ltb-false}
use Rattle.std.proofs.lemmas.List.Folds.{list_any-append}
use Rattle.process_tree.specs.declared.step.Step.{Step}
use Rattle.process_tree.specs.declared.block.Block.{Block}
use Rattle.process_tree.specs.Blocks.{Outline, outline, outline_at_choice, first_odd}
use Rattle.process_tree.specs.Making.{same_text, first_same_name, first_bad_step, tree_fault}
use Rattle.process_text.specs.Grammar.{step_names, are_new}

-- the limits of a tree, one by one
pub record IsWithin (o : Outline) : Type 0 where
  pub full : o.has_empty ≡ false
  pub few : length o.steps ≤ 256
  pub flat : o.nesting ≤ 16
  pub even : o.odd_choice ≡ None
  pub different : first_same_name 0 [] o.steps ≡ None
  pub good : first_bad_step 0 o.steps ≡ None

or_comm : (a b : Bool) → (a || (b || false)) ≡ (b || a)
or_comm true true = refl
or_comm true false = refl
or_comm false true = refl
or_comm false false = refl

-- a name in front is as good as one behind
pub also_behind : (n : List ℕ) (back earlier : List (List ℕ)) → ((w : List ℕ) → list_any (same_text w) back ≡ list_any (same_text w) earlier)
    → (w : List ℕ) → list_any (same_text w) (n ∷ back) ≡ list_any (same_text w) (earlier ++ n ∷ [])
also_behind n back earlier same w =
    ap (λ b. same_text w n || b) (same w)
    ∙ sym (or_comm (list_any (same_text w) earlier) (same_text w n))
    ∙ sym (list_any-append (same_text w) earlier (n ∷ []))

-- names of which none is an earlier one's are new
pub new_names : (n : ℕ) (back earlier : List (List ℕ)) (ss : List Step) → ((w : List ℕ) → list_any (same_text w) back ≡ list_any (same_text w) earlier)
    → first_same_name n back ss ≡ None → are_new earlier (step_names ss) ≡ true
new_names n back earlier [] same none = refl
new_names n back earlier (s ∷ ss) same none = by_test (list_any (same_text s.name) back) refl (λ e. new_names (n + 1) (s.name ∷ back) (earlier ++ s.name ∷ []) ss (also_behind s.name back earlier same) (rest e))
  where
    rest : list_any (same_text s.name) back ≡ false → first_same_name (n + 1) (s.name ∷ back) ss ≡ None
    rest e = sym (ap (λ b. if b then Some n else first_same_name (n + 1) (s.name ∷ back) ss) e) ∙ none

    by_test : (b : Bool) → list_any (same_text s.name) back ≡ b → (list_any (same_text s.name) back ≡ false → are_new (earlier ++ s.name ∷ []) (step_names ss) ≡ true)
        → are_new earlier (step_names (s ∷ ss)) ≡ true
    by_test true e others =
        let told : Some n ≡ None = sym (ap (λ b. if b then Some n else first_same_name (n + 1) (s.name ∷ back) ss) e) ∙ none in absurd (cc)
    by_test false e others =
        and_from (not (list_any (same_text s.name) earlier)) (are_new (earlier ++ s.name ∷ []) (step_names ss)) (ap not (sym (same s.name) ∙ e)) (others e)

-- names that are new come apart
pub new_split : (earlier ns ms : List (List ℕ)) → are_new earlier (ns ++ ms) ≡ true → (are_new earlier ns ≡ true) × (are_new (earlier ++ ns) ms ≡ true)
new_split earlier [] ms new = (refl, subst (λ (all : List (List ℕ)). are_new all ms ≡ true) (sym (append-nil earlier)) new)
new_split earlier (n ∷ ns) ms new =
    let parts = and_parts (not (list_any (same_text n) earlier)) (are_new (earlier ++ n ∷ []) (ns ++ ms)) new in
    let rest = new_split (earlier ++ n ∷ []) ns ms parts.1 in (
      and_from (not (list_any (same_text n) earlier)) (are_new (earlier ++ n ∷ []) ns) parts.0 rest.0,
      subst (λ (all : List (List ℕ)). are_new all ms ≡ true) (append_assoc earlier (n ∷ []) ns) rest.1,
    )

-- of outlines of which none is odd, neither the first nor another is
pub odd_parts : (o : Outline) (os : List Outline) → first_odd (o ∷ os) ≡ None → (o.odd_choice ≡ None) × (first_odd os ≡ None)
odd_parts o os none = by_first o.odd_choice refl
  where
    by_first : (x : Option ℕ) → o.odd_choice ≡ x → (o.odd_choice ≡ None) × (first_odd os ≡ None)
    by_first None e = (e, rw e at none)
    by_first (Some n) e = let told : Some n ≡ None = rw e at none in absurd (cc)

-- a choice that isn't odd has 2 to 8 alternatives, and no odd one within
pub choice_parts : (own : List Step) (os : List Outline) → (outline_at_choice own os).odd_choice ≡ None → (2 ≤ length os) × (length os ≤ 8) × (first_odd os ≡ None)
choice_parts own os none = by_tests (nat_lt (length os) 2) (nat_lt 8 (length os)) refl refl
  where
    by_tests : (a b : Bool) → nat_lt (length os) 2 ≡ a → nat_lt 8 (length os) ≡ b → (2 ≤ length os) × (length os ≤ 8) × (first_odd os ≡ None)
    by_tests true b ea eb = let told : Some (length os) ≡ None = rw ea at none in absurd (cc)
    by_tests false true ea eb = let told : Some (length os) ≡ None = rw (ea, eb) at none in absurd (cc)
    by_tests false false ea eb = (ltb-false (length os) 2 ea, ltb-false 8 (length os) eb, rw (ea, eb) at none)

-- a tree without fault is within the limits
pub within_of_tree : (root : Block) → tree_fault root ≡ None → IsWithin (outline root)
within_of_tree root none = by_tests (outline root).has_empty (nat_lt 256 (length (outline root).steps)) (nat_lt 16 (outline root).nesting) (outline root).odd_choice (first_same_name 0 [] (outline root).steps) (first_bad_step 0 (outline root).steps) refl refl refl refl refl refl
  where
    by_tests : (e s n : Bool) (odd same bad : Option ℕ) → (outline root).has_empty ≡ e → nat_lt 256 (length (outline root).steps) ≡ s → nat_lt 16 (outline root).nesting ≡ n
        → (outline root).odd_choice ≡ odd → first_same_name 0 [] (outline root).steps ≡ same → first_bad_step 0 (outline root).steps ≡ bad → IsWithin (outline root)
    by_tests true s n odd same bad ee es en eo ed eb = let told = rw ee at none in absurd (cc)
    by_tests false true n odd same bad ee es en eo ed eb = let told = rw (ee, es) at none in absurd (cc)
    by_tests false false true odd same bad ee es en eo ed eb = let told = rw (ee, es, en) at none in absurd (cc)
    by_tests false false false (Some k) same bad ee es en eo ed eb = let told = rw (ee, es, en, eo) at none in absurd (cc)
    by_tests false false false None (Some k) bad ee es en eo ed eb = let told = rw (ee, es, en, eo, ed) at none in absurd (cc)
    by_tests false false false None None (Some k) ee es en eo ed eb = let told = rw (ee, es, en, eo, ed, eb) at none in absurd (cc)
    by_tests false false false None None None ee es en eo ed eb = record {
      full = ee;
      few = ltb-false 256 (length (outline root).steps) es;
      flat = ltb-false 16 (outline root).nesting en;
      even = eo;
      different = ed;
      good = eb;
    }
