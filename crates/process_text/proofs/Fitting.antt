-- What was read keeps the limits.
use Rattle.std.proofs.Common.{◌≡◌, ◌≤◌, ◌<◌, ◌+◌, ℕ, List, [], ◌∷◌, ◌++◌, length, map, Bool, true, false, not, nat_lt, max, Option, Some, None, refl, sym, ap, arith, ◌∙◌, append_assoc, append-nil, length-append, subst, ◌⊎◌, inl, inr, ◌≢◌, ◌-◌, codes}
use Rattle.std.specs.List.{list_any, list_all}
use Rattle.std.specs.declared.vec.Vec.{Vec}
use Rattle.std.specs.declared.alloc.Global.{Global}
use Rattle.std.proofs.lemmas.Bool.{and_parts, and_from, le-ltb, not-true}
use Rattle.std.proofs.lemmas.Grind.{flat_map-append}
use Rattle.std.proofs.lemmas.List.{map-append, length-map}
use Rattle.std.proofs.lemmas.List.Folds.{list_any-append, list_all-append}
use Rattle.process_tree.specs.declared.step.Step.{Step}
use Rattle.process_tree.specs.declared.block.Block.{Block}
use Rattle.process_tree.specs.declared.block.Tail.{Choice}
use Rattle.process_tree.specs.Blocks.{Outline, all_steps, deepest, first_odd, outline, outline_at_end, outline_of}
use Rattle.process_tree.specs.Making.{same_text, is_good_step, first_same_name, first_bad_step, tree_fault}
use Rattle.process_tree.proofs.Choices.{outline_of-Choice}
use Rattle.process_text.specs.Grammar.{IsStep, step_names, are_new}
use Rattle.process_tree.specs.declared.step.StepKind.{StepKind}
use Rattle.text_words.specs.declared.marks.At.{At}
use Rattle.text_words.specs.declared.marks.At.TheVariants.{Begin, BehindStep, BehindChoice}
use Rattle.text_words.specs.declared.marks.Mark.{Mark}
use Rattle.text_words.specs.declared.marks.Mark.TheVariants.{Choose}
use Rattle.text_words.specs.declared.marks.Next.{Next}
use Rattle.text_words.specs.declared.marks.Next.TheVariants as next
use Rattle.text_words.specs.declared.expected.Expected.TheVariants as expects
use Rattle.text_words.specs.Marks.{kind_of_word, opening, or_else, meaning}
use Rattle.process_text.specs.Limits.{StepsFit, BlockFits, AlternativesFit}
use Rattle.process_text.proofs.Within.{odd_parts, also_behind}
use Rattle.process_text.proofs.BlocksPassing.{names_of_both}

-- names that are new behind names that are new
pub new_both : (earlier ns ms : List (List ℕ)) → are_new earlier ns ≡ true → are_new (earlier ++ ns) ms ≡ true → are_new earlier (ns ++ ms) ≡ true
new_both earlier [] ms first later = subst (λ (all : List (List ℕ)). are_new all ms ≡ true) (append-nil earlier) later
new_both earlier (n ∷ ns) ms first later =
    let parts = and_parts (not (list_any (same_text n) earlier)) (are_new (earlier ++ n ∷ []) ns) first in
    and_from (not (list_any (same_text n) earlier)) (are_new (earlier ++ n ∷ []) (ns ++ ms)) parts.0
    (new_both (earlier ++ n ∷ []) ns ms parts.1 (subst (λ (all : List (List ℕ)). are_new all ms ≡ true) (sym (append_assoc earlier (n ∷ []) ns)) later))

-- no steps
pub none_fit : (names : List (List ℕ)) → StepsFit names [] names
none_fit names = record { taken = sym (append-nil names); new = refl; few = λ few. few; good = refl }

-- steps, and then steps
pub steps_both : (a b c : List (List ℕ)) (ss ts : List Step) → StepsFit a ss b → StepsFit b ts c → StepsFit a (ss ++ ts) c
steps_both a b c ss ts first later = record {
  taken = later.taken ∙ ap (λ ns. ns ++ step_names ts) first.taken ∙ append_assoc a (step_names ss) (step_names ts) ∙ ap (λ ns. a ++ ns) (sym (names_of_both ss ts));
  new = subst (λ (ns : List (List ℕ)). are_new a ns ≡ true) (sym (names_of_both ss ts))
      (new_both a (step_names ss) (step_names ts) first.new (subst (λ (ns : List (List ℕ)). are_new ns (step_names ts) ≡ true) first.taken later.new));
  few = λ few. later.few (first.few few);
  good = list_all-append is_good_step ss ts ∙ and_from (list_all is_good_step ss) (list_all is_good_step ts) first.good later.good;
}

-- one step
pub step_fits : (a b : List (List ℕ)) (s : Step) (before after : List (List ℕ)) → length a < 256 → b ≡ a ++ s.name ∷ [] → list_any (same_text s.name) a ≡ false
    → IsStep s before after → StepsFit a (s ∷ []) b
step_fits a b s before after room taken new is = record {
  taken = taken;
  new = and_from (not (list_any (same_text s.name) a)) true (ap not new) refl;
  few = λ few. omega (arith, ap length taken, length-append a (s.name ∷ []));
  good = and_from (is_good_step s) true is.good refl;
}

-- a block of some steps and no choice
pub end_fits : (left : ℕ) (a b : List (List ℕ)) (ss : List Step) → StepsFit a ss b → 0 < length ss → BlockFits left a (outline_at_end ss) b
end_fits left a b ss steps some = record {
  steps = steps;
  full = le-ltb (length ss) 1 some;
  flat = omega arith;
  even = refl;
}

-- a choice behind steps
pub choice_fits : (left : ℕ) (a b c : List (List ℕ)) (ss : List Step) (blocks : Vec Block Global) → StepsFit a ss b → AlternativesFit left b (map outline blocks.items) c
    → 2 ≤ length blocks.items → length blocks.items ≤ 8 → BlockFits left a (outline_of ss (Choice blocks)) c
choice_fits left a b c ss blocks steps others least most =
    let os = map outline blocks.items in
    let few : nat_lt (length os) 2 ≡ false = le-ltb (length os) 2 (omega (arith, length-map blocks.items outline)) in
    let many : nat_lt 8 (length os) ≡ false = le-ltb 8 (length os) (omega (arith, length-map blocks.items outline)) in
    subst (λ (o : Outline). BlockFits left a o c) (sym (outline_of-Choice ss blocks)) (record {
      steps = steps_both a b c ss (all_steps os) steps others.steps;
      full = others.full;
      flat = others.flat;
      even = rw (few, many) others.even;
    })

deepest-append : (os : List Outline) (o : Outline) → deepest (os ++ o ∷ []) ≡ max (deepest os) o.nesting
deepest-append [] o = omega arith
deepest-append (p ∷ os) o = omega (arith, deepest-append os o)

odd-append : (os : List Outline) (o : Outline) → first_odd os ≡ None → o.odd_choice ≡ None → first_odd (os ++ o ∷ []) ≡ None
odd-append [] o none one = rw one refl
odd-append (p ∷ os) o none one =
    let parts = odd_parts p os none in
    rw parts.0 (odd-append os o parts.1 one)

-- one alternative more
pub alternative_fits : (left : ℕ) (a b c : List (List ℕ)) (bs : List Block) (block : Block) → AlternativesFit left a (map outline bs) b → BlockFits (left - 1) b (outline block) c
    → 0 < left → AlternativesFit left a (map outline (bs ++ block ∷ [])) c
alternative_fits left a b c bs block others one some =
    let os = map outline bs in
    let o = outline block in
    let flat = others.flat in
    let flat2 = one.flat in
    subst (λ (all : List Outline). AlternativesFit left a all c) (sym (map-append outline bs (block ∷ []))) (record {
      steps = subst (λ (ss : List Step). StepsFit a ss c) (sym (flat_map-append (λ (p : Outline). p.steps) os (o ∷ []) ∙ ap (λ ss. all_steps os ++ ss) (append-nil o.steps)))
          (steps_both a b c (all_steps os) o.steps others.steps one.steps);
      full = list_any-append (λ (p : Outline). p.has_empty) os (o ∷ []) ∙ rw (others.full, one.full) refl;
      flat = omega (arith, deepest-append os o);
      even = odd-append os o others.even one.even;
    })

-- names that are new are no earlier one's
none_same : (n : ℕ) (back earlier : List (List ℕ)) (ss : List Step) → ((w : List ℕ) → list_any (same_text w) back ≡ list_any (same_text w) earlier)
    → are_new earlier (step_names ss) ≡ true → first_same_name n back ss ≡ None
none_same n back earlier [] same new = refl
none_same n back earlier (s ∷ ss) same new =
    let parts = and_parts (not (list_any (same_text s.name) earlier)) (are_new (earlier ++ s.name ∷ []) (step_names ss)) new in
    let here : list_any (same_text s.name) back ≡ false = same s.name ∙ not-true (list_any (same_text s.name) earlier) parts.0 in
    rw here (none_same (n + 1) (s.name ∷ back) (earlier ++ s.name ∷ []) ss (also_behind s.name back earlier same) parts.1)

none_bad : (n : ℕ) (ss : List Step) → list_all is_good_step ss ≡ true → first_bad_step n ss ≡ None
none_bad n [] good = refl
none_bad n (s ∷ ss) good =
    let parts = and_parts (is_good_step s) (list_all is_good_step ss) good in
    rw parts.0 (none_bad (n + 1) ss parts.1)

-- a block that keeps the limits makes a tree
pub makes_tree : (root : Block) (names : List (List ℕ)) → BlockFits 16 [] (outline root) names → tree_fault root ≡ None
makes_tree root names fits =
    let o = outline root in
    let few : length names ≤ 256 = fits.steps.few (omega arith) in
    let all : length names ≡ length o.steps = ap length fits.steps.taken ∙ length-map o.steps (λ (s : Step). s.name) in
    let a : nat_lt 256 (length o.steps) ≡ false = le-ltb 256 (length o.steps) (omega arith) in
    let b : nat_lt 16 o.nesting ≡ false = le-ltb 16 o.nesting fits.flat in
    let c : first_same_name 0 [] o.steps ≡ None = none_same 0 [] [] o.steps (λ w. refl) fits.steps.new in
    let d : first_bad_step 0 o.steps ≡ None = none_bad 0 o.steps fits.steps.good in
    rw (fits.full, a, b, fits.even, c, d) refl

-- steps stand behind a place: none at the beginning of a block, and some behind a step
abbrev pub MaySay : At → List Step → Type 0
MaySay Begin ss = ss ≡ []
MaySay BehindStep ss = 0 < length ss
MaySay BehindChoice ss = ⊥

pub behind_step : (ss : List Step) (s : Step) → 0 < length (ss ++ s ∷ [])
behind_step ss s = omega (arith, length-append ss (s ∷ []))

pub begins_with_choice : (o : Option Next) (w : List ℕ) (m : Mark) → o ≡ opening w → or_else o (next.Misfit expects.Step) ≡ next.Mark m → m ≡ Choose
begins_with_choice None w m e is = absurd (cc)
begins_with_choice (Some n) w m e is = by_test (same_text w (codes "choose")) (kind_of_word w) refl refl
  where
    by_test : (b : Bool) (k : Option StepKind) → same_text w (codes "choose") ≡ b → kind_of_word w ≡ k → m ≡ Choose
    by_test true k eb ek = let o : Some n ≡ Some (next.Mark Choose) = e ∙ rw eb refl in cc
    by_test false None eb ek = let o : Some n ≡ None = e ∙ rw (eb, ek) refl in absurd (cc)
    by_test false (Some k) eb ek = let o : Some n ≡ Some (next.Step k) = e ∙ rw (eb, ek) refl in absurd (cc)

-- a word that ends the steps of a block is `choose`, or some stand before it
pub ended_at : (at : At) (begun : ℕ) (w : List ℕ) (m : Mark) (ss : List Step) → meaning at begun w ≡ next.Mark m → MaySay at ss → (m ≡ Choose) ⊎ (0 < length ss)
ended_at Begin begun w m ss is said = inl (begins_with_choice (opening w) w m refl is)
ended_at BehindStep begun w m ss is said = inr said
ended_at BehindChoice begun w m ss is said = absurd said

pub some_if : (m : Mark) (ss : List Step) → (m ≡ Choose) ⊎ (0 < length ss) → m ≢ Choose → 0 < length ss
some_if m ss (inl is) other = absurd (other is)
some_if m ss (inr some) other = some
