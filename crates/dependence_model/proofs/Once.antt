-- Lists in which each step comes at most once, and is undone at most once behind it.
use Rattle.std.proofs.Common.{◌≡◌, inl, inr, Bool, true, false, not, eqb, ◌||◌, List, [], ◌∷◌, sym, refl, ap, ◌∙◌}
use Rattle.std.specs.List.{list_any}
use Rattle.std.proofs.lemmas.Bool.{and_from, and_parts, eqb-true, false≢true}
use Rattle.process_tree.specs.declared.entry.Entry.{Entry}
use Rattle.schedule_model.specs.Histories.{same_step, takes_back}
use Rattle.schedule_model.specs.Reduction.{is_pair}
use Rattle.schedule_model.proofs.Members.{Among, any-among, not_any}
use Rattle.schedule_model.proofs.Behind.{same_step-itself, same_step-symmetric}
use Rattle.schedule_model.proofs.Orders.{same_step-through}
use Rattle.dependence_model.specs.Laws.{comes_again, AreOnce}
use Rattle.dependence_model.proofs.Sublists.{Sub, among-sub}

-- what nothing passes none of them passes
pub none-among : {X : Type 0} (p : X → Bool) (x : X) (xs : List X) → list_any p xs ≡ false → Among x xs → p x ≡ false
none-among p x xs none is = by_test (p x) refl
  where
    by_test : (t : Bool) → p x ≡ t → p x ≡ false
    by_test true passes = absurd (false≢true (sym none ∙ any-among p x xs is passes))
    by_test false fails = fails

-- both take effect, or both are undos, of one step
abbrev pub AreTwins : Entry → Entry → Type 0
AreTwins a b = (same_step a b ≡ true) × (a.undo ≡ b.undo)

pub twin-itself : (e : Entry) → AreTwins e e
twin-itself e = (same_step-itself e, refl)

pub twins-turned : (a b : Entry) → AreTwins a b → AreTwins b a
twins-turned a b twins = (same_step-symmetric b a ∙ twins.0, sym twins.1)

-- such a one comes again
twin_again : (a b : Entry) → AreTwins a b → comes_again a b ≡ true
twin_again a b twins = and_from (same_step a b) (a.undo || not b.undo) twins.0 (ap (λ u. u || not b.undo) twins.1 ∙ either b.undo)
  where
    either : (u : Bool) → (u || not u) ≡ true
    either true = refl
    either false = refl

-- an entry of such a list has no twin behind it
pub no-twin : (e f : Entry) (es : List Entry) → AreOnce (e ∷ es) → Among f es → AreTwins e f → ⊥
no-twin e f es once is twins = false≢true (sym (none-among (comes_again e) f es once.0 is) ∙ twin_again e f twins)

-- so it stands there once
pub not-behind : (e : Entry) (es : List Entry) → AreOnce (e ∷ es) → Among e es → ⊥
not-behind e es once is = no-twin e e es once is (twin-itself e)

-- a part of such a list is one
pub once-sub : (xs ys : List Entry) → Sub xs ys → AreOnce ys → AreOnce xs
once-sub [] ys sub once = tt
once-sub (x ∷ xs) [] sub once = absurd sub
once-sub (x ∷ xs) (y ∷ ys) (inl here) once = (
  not_any (comes_again x) xs (λ e is. ap (λ z. comes_again z e) here.0 ∙ none-among (comes_again y) e ys once.0 (among-sub e xs ys here.1 is)),
  once-sub xs ys here.1 once.1,
)
once-sub (x ∷ xs) (y ∷ ys) (inr sub) once = once-sub (x ∷ xs) ys sub once.1

-- A step and its undo.

pub pair-step : (f u : Entry) → is_pair f u ≡ true → f.undo ≡ false
pair-step f u pair = by_undo f.undo (and_parts (not f.undo) (takes_back u f) pair).0
  where
    by_undo : (t : Bool) → not t ≡ true → t ≡ false
    by_undo true is = absurd (false≢true is)
    by_undo false is = refl

pub pair-undo : (f u : Entry) → is_pair f u ≡ true → u.undo ≡ true
pair-undo f u pair = (and_parts u.undo (same_step f u) (and_parts (not f.undo) (takes_back u f) pair).1).0

pub pair-same : (f u : Entry) → is_pair f u ≡ true → same_step f u ≡ true
pair-same f u pair = (and_parts u.undo (same_step f u) (and_parts (not f.undo) (takes_back u f) pair).1).1

-- they are of one process
pub pair-process : (f u : Entry) → is_pair f u ≡ true → f.process ≡ u.process
pair-process f u pair = eqb-true f.process u.process (and_parts (eqb f.process u.process) (eqb f.step u.step) (pair-same f u pair)).0

-- a step isn't its undo
pub pair-apart : (f u : Entry) → is_pair f u ≡ true → u ≡ f → ⊥
pair-apart f u pair same = false≢true (sym (pair-step f u pair) ∙ (sym (ap (λ (e : Entry). e.undo) same) ∙ pair-undo f u pair))

-- undos of one step are twins, and so are steps of one undo
pub undos-twins : (f u v : Entry) → is_pair f u ≡ true → is_pair f v ≡ true → AreTwins u v
undos-twins f u v one two = (
  same_step-symmetric u v ∙ (same_step-through v f u (same_step-symmetric v f ∙ pair-same f v two) ∙ pair-same f u one),
  pair-undo f u one ∙ sym (pair-undo f v two),
)

pub steps-twins : (f g u : Entry) → is_pair f u ≡ true → is_pair g u ≡ true → AreTwins f g
steps-twins f g u one two = (
  same_step-through f u g (pair-same f u one) ∙ (same_step-symmetric u g ∙ pair-same g u two),
  pair-step f u one ∙ sym (pair-step g u two),
)
