-- What stands behind an entry: in two lists one after another, in a part of a list, and where the list is split at it.
use Rattle.std.proofs.Common.{◌≡◌, inl, inr, Bool, true, false, not, cond, eqb, ◌&&◌, ◌||◌, List, [], ◌∷◌, ◌++◌, filter, sym, refl, ap, ◌∙◌, subst}
use Rattle.std.specs.List.{list_any, list_all}
use Rattle.std.proofs.lemmas.Bool.{and_parts, and_from, eq-eqb, eqb-true, not-true}
use Rattle.process_tree.specs.declared.entry.Entry.{Entry}
use Rattle.schedule_model.specs.Histories.{same_step}
use Rattle.schedule_model.specs.Holdings.{behind}
use Rattle.schedule_model.proofs.Members.{Among, not_any, all-among}
use Rattle.schedule_model.proofs.Apart.{Apart}
use Rattle.schedule_model.proofs.Conflicts.{same_either_way}

-- an entry of the same step as itself
pub same_step-itself : (e : Entry) → same_step e e ≡ true
same_step-itself e = and_from (eqb e.process e.process) (eqb e.step e.step) (eq-eqb e.process e.process refl) (eq-eqb e.step e.step refl)

-- one of these is of the step of x
abbrev pub has_step : Entry → List Entry → Bool
has_step x es = list_any (same_step x) es

in_step : (x e : Entry) (es ys : List Entry) (t : Bool) → behind x (es ++ ys) ≡ cond (has_step x es) (behind x es ++ ys) (behind x ys)
    → cond t (es ++ ys) (behind x (es ++ ys)) ≡ cond (t || has_step x es) (cond t es (behind x es) ++ ys) (behind x ys)
in_step x e es ys true rest = refl
in_step x e es ys false rest = rest

-- behind an entry of the first list, or else of the second
pub behind-append : (x : Entry) (xs ys : List Entry) → behind x (xs ++ ys) ≡ cond (has_step x xs) (behind x xs ++ ys) (behind x ys)
behind-append x [] ys = refl
behind-append x (e ∷ es) ys = in_step x e es ys (same_step x e) (behind-append x es ys)

pub behind-first : (x : Entry) (xs ys : List Entry) → has_step x xs ≡ true → behind x (xs ++ ys) ≡ behind x xs ++ ys
behind-first x xs ys is = behind-append x xs ys ∙ ap (λ t. cond t (behind x xs ++ ys) (behind x ys)) is

pub behind-second : (x : Entry) (xs ys : List Entry) → has_step x xs ≡ false → behind x (xs ++ ys) ≡ behind x ys
behind-second x xs ys is = behind-append x xs ys ∙ ap (λ t. cond t (behind x xs ++ ys) (behind x ys)) is

-- where no earlier entry is of its step, what stands behind an entry is the rest
pub behind-split : (front : List Entry) (x : Entry) (rest : List Entry) → has_step x front ≡ false → behind x (front ++ x ∷ rest) ≡ rest
behind-split front x rest out = behind-second x front (x ∷ rest) out ∙ ap (λ t. cond t rest (behind x rest)) (same_step-itself x)

-- nothing stands behind an entry that isn't there
none_step : (x e : Entry) (es : List Entry) (t : Bool) → (has_step x es ≡ false → behind x es ≡ []) → (t || has_step x es) ≡ false → cond t es (behind x es) ≡ []
none_step x e es true rest out = absurd (cc)
none_step x e es false rest out = rest out

pub behind-none : (x : Entry) (es : List Entry) → has_step x es ≡ false → behind x es ≡ []
behind-none x [] out = refl
behind-none x (e ∷ es) out = none_step x e es (same_step x e) (behind-none x es) out

kept_step : (p : Entry → Bool) (x e : Entry) (es : List Entry) (k t : Bool) → same_step x e ≡ t → (t ≡ true → k ≡ true) → behind x (filter p es) ≡ filter p (behind x es)
    → behind x (cond k (e ∷ filter p es) (filter p es)) ≡ filter p (cond t es (behind x es))
kept_step p x e es true true is keeps rest = ap (λ t. cond t (filter p es) (behind x (filter p es))) is
kept_step p x e es true false is keeps rest = ap (λ t. cond t (filter p es) (behind x (filter p es))) is ∙ rest
kept_step p x e es false true is keeps rest = let no' : false ≡ true = keeps refl in absurd (cc)
kept_step p x e es false false is keeps rest = rest

-- a filter that keeps the entries of its step
pub behind-filter : (p : Entry → Bool) (x : Entry) (es : List Entry) → ((e : Entry) → same_step x e ≡ true → p e ≡ true) → behind x (filter p es) ≡ filter p (behind x es)
behind-filter p x [] keeps = refl
behind-filter p x (e ∷ es) keeps = kept_step p x e es (p e) (same_step x e) refl (keeps e) (behind-filter p x es keeps)

among_step : (x y e : Entry) (es : List Entry) (t : Bool) → (Among y (behind x es) → Among y es) → Among y (cond t es (behind x es)) → Among y (e ∷ es)
among_step x y e es true rest is = inr is
among_step x y e es false rest is = inr (rest is)

-- what stands behind is there
pub among_behind : (x y : Entry) (es : List Entry) → Among y (behind x es) → Among y es
among_behind x y [] is = absurd is
among_behind x y (e ∷ es) is = among_step x y e es (same_step x e) (among_behind x y es) is

pub same_step-symmetric : (x y : Entry) → same_step x y ≡ same_step y x
same_step-symmetric x y =
    ap (λ t. t && eqb x.step y.step) (sym (same_either_way x.process y.process (eqb x.process y.process) refl))
    ∙ ap (λ t. eqb y.process x.process && t) (sym (same_either_way x.step y.step (eqb x.step y.step) refl))

-- entries of one step are entries of one process
pub same_step-process : (x y : Entry) → same_step x y ≡ true → x.process ≡ y.process
same_step-process x y is = eqb-true x.process y.process (and_parts (eqb x.process y.process) (eqb x.step y.step) is).0

-- a list of different steps, split at one of them
pub record SplitAt (x : Entry) (xs : List Entry) : Type 0 where
  pub before : List Entry
  pub after : List Entry
  pub is : xs ≡ before ++ x ∷ after
  pub none_before : has_step x before ≡ false
  pub none_after : has_step x after ≡ false

none_of : (x : Entry) (ys : List Entry) → list_all (λ f. not (same_step x f)) ys ≡ true → has_step x ys ≡ false
none_of x ys all = not_any (same_step x) ys (λ y is. not-true (same_step x y) (all-among (λ f. not (same_step x f)) ys all y is))

pub split_at : (x : Entry) (xs : List Entry) → Apart xs → Among x xs → SplitAt x xs
split_at x [] apart is = absurd is
split_at x (y ∷ ys) apart (inl here) = record {
  before = [];
  after = ys;
  is = ap (λ z. z ∷ ys) here;
  none_before = refl;
  none_after = none_of x ys (subst (λ z. list_all (λ f. not (same_step z f)) ys ≡ true) here apart.0);
}
split_at x (y ∷ ys) apart (inr later) =
    let rest = split_at x ys apart.1 later in
    let other = not-true (same_step y x) (all-among (λ f. not (same_step y f)) ys apart.0 x later) in
    record {
      before = y ∷ rest.before;
      after = rest.after;
      is = ap (λ es. y ∷ es) rest.is;
      none_before = ap (λ t. t || has_step x rest.before) (same_step-symmetric x y ∙ other) ∙ rest.none_before;
      none_after = rest.none_after;
    }

-- what stands behind an entry there is what comes after it
pub behind-at : (x : Entry) (xs : List Entry) (s : SplitAt x xs) → behind x xs ≡ s.after
behind-at x xs s = ap (behind x) s.is ∙ behind-split s.before x s.after s.none_before
