-- Lists of jobs, of places and of entries.
use Rattle.std.proofs.Common.{◌≡◌, ◌∙◌, ◌<◌, ℕ, zero, suc, ◌+◌, Bool, true, false, cond, ltb, List, [], ◌∷◌, ◌++◌, length, take, get_or, sym, refl, ap, subst, arith, append_assoc, append-nil}
use mathlib.Core.Option.{some, some-injective, some-ne-none}
use lib.ListN.{get_elem?}
use Rattle.process_tree.specs.Order.{Each}
use Rattle.process_tree.proofs.Every.{Each-weaker}
use Rattle.history_lock.specs.Weights.{total, AllStand, StandsAt}
use Rattle.history_lock.specs.Rule.{longer, shorter}
use Rattle.thread_workers.specs.Workers.{Has, IsBeginning}

pub has_before : {X : Type 0} (x : X) (xs ys : List X) → Has x ys → Has x (xs ++ ys)
has_before x xs ys has = (xs ++ has.0, has.1, ap (λ l. xs ++ l) has.2 ∙ sym (append_assoc xs has.0 (x ∷ has.1)))

module _ {A : Type 0} (P : A → Type 0) where
  pub each_at : (xs : List A) (i : ℕ) (d : A) → i < length xs → Each P xs → P (get_or xs i d)
  each_at [] i d h all = absurd (omega (arith, h))
  each_at (x ∷ xs) zero d h all = all.0
  each_at (x ∷ xs) (suc i) d h all = each_at xs i d (omega (arith, h)) all.1

  pub each_from : (xs : List A) → ((i : ℕ) (d : A) → i < length xs → P (get_or xs i d)) → Each P xs
  each_from [] all = tt
  each_from (x ∷ xs) all = (all 0 x (omega arith), each_from xs (λ i d h. all (suc i) d (omega (arith, h))))

  pub each-snoc : (xs : List A) (x : A) → Each P xs → P x → Each P (xs ++ x ∷ [])
  each-snoc [] x all p = (p, tt)
  each-snoc (y ∷ ys) x all p = (all.0, each-snoc ys x all.1 p)

  pub each_but_last : (xs : List A) (x : A) → Each P (xs ++ x ∷ []) → Each P xs × P x
  each_but_last [] x all = (tt, all.0)
  each_but_last (y ∷ ys) x all = let rest = each_but_last ys x all.1 in ((all.0, rest.0), rest.1)

-- two lists of one length whose elements weigh the same
pub totals_same : {A : Type 0} (f : A → ℕ) (xs ys : List A) → length xs ≡ length ys → ((i : ℕ) (d : A) → i < length xs → f (get_or ys i d) ≡ f (get_or xs i d)) → total f ys ≡ total f xs
totals_same f [] [] e all = refl
totals_same f [] (y ∷ ys) e all = absurd (omega (arith, e))
totals_same f (x ∷ xs) [] e all = absurd (omega (arith, e))
totals_same f (x ∷ xs) (y ∷ ys) e all = omega (arith, all 0 x (omega arith), totals_same f xs ys (omega (arith, e)) (λ i d h. all (suc i) d (omega (arith, h))))

pub total-snoc : {A : Type 0} (f : A → ℕ) (xs : List A) (x : A) → total f (xs ++ x ∷ []) ≡ total f xs + f x
total-snoc f [] x = omega arith
total-snoc f (y ∷ ys) x = omega (arith, total-snoc f ys x)

take_all : {A : Type 0} (xs ys : List A) → take (length xs) (xs ++ ys) ≡ xs
take_all [] ys = refl
take_all (x ∷ xs) ys = ap (λ l. x ∷ l) (take_all xs ys)

-- as many as a list has are all of it
pub take_whole : {A : Type 0} (n : ℕ) (xs ys : List A) → length xs ≡ n → take n (xs ++ ys) ≡ xs
take_whole n xs ys e = ap (λ k. take k (xs ++ ys)) (sym e) ∙ take_all xs ys

-- where entries stand in a history, each part of them does
pub stand_both : {X : Type 0} (history : List X) (l m : List (ℕ × X)) → AllStand history (l ++ m) → AllStand history l × AllStand history m
stand_both history [] m all = (tt, all)
stand_both history (p ∷ ps) m all = let rest = stand_both history ps m all.1 in ((all.0, rest.0), rest.1)

has_at : {X : Type 0} (xs : List X) (n : ℕ) (x : X) → get_elem? xs n ≡ some x → Has x xs
has_at [] n x at = absurd (some-ne-none x (sym at))
has_at (y ∷ ys) zero x at = ([], ys, ap (λ z. z ∷ ys) (some-injective y x at))
has_at (y ∷ ys) (suc n) x at = let rest = has_at ys n x at in (y ∷ rest.0, rest.1, ap (λ l. y ∷ l) rest.2)

stands_in : {X : Type 0} (history : List X) (before rest : List (ℕ × X)) (p : ℕ × X) → AllStand history (before ++ p ∷ rest) → StandsAt history p
stands_in history [] rest p all = all.0
stands_in history (q ∷ qs) rest p all = stands_in history qs rest p all.1

-- the history has each of them
pub has_entry : {X : Type 0} (history : List X) (places : List (ℕ × X)) (p : ℕ × X) → AllStand history places → Has p places → Has p.1 history
has_entry history places p all has = let at = stands_in history has.0 has.1 p (subst (AllStand history) has.2 all) in has_at history at.0 p.1 at.2

longer_begins : {X : Type 0} (a b : List X) (t : Bool) → IsBeginning (cond t a b) (cond t b a) → IsBeginning a (cond t b a) × IsBeginning b (cond t b a)
longer_begins a b true begins = (begins, ([], append-nil b))
longer_begins a b false begins = (([], append-nil a), begins)

-- where the shorter of two lists begins the longer, both do
pub both_begin : {X : Type 0} (a b : List X) → IsBeginning (shorter a b) (longer a b) → IsBeginning a (longer a b) × IsBeginning b (longer a b)
both_begin a b begins = longer_begins a b (ltb (length a) (length b)) begins

pub begins_then : {X : Type 0} (xs ys zs : List X) → IsBeginning xs ys → IsBeginning ys zs → IsBeginning xs zs
begins_then xs ys zs first second = (first.0 ++ second.0, sym (append_assoc xs first.0 second.0) ∙ (ap (λ l. l ++ second.0) first.1 ∙ second.1))

-- a list is what is left of another with more behind it, and each of those has the property
abbrev pub EachBehind : {A : Type 0} → (A → Type 0) → List A → List A → Type 0
EachBehind {A} P left all = (taken : List A) × (all ≡ left ++ taken) × Each P taken

-- nothing is behind the whole
pub behind_none : {A : Type 0} (P : A → Type 0) (xs : List A) → EachBehind P xs xs
behind_none P xs = ([], sym (append-nil xs), tt)

-- one more is behind, and each has a property that follows
pub behind_one : {A : Type 0} (P Q : A → Type 0) (left : List A) (x : A) (before all : List A) → before ≡ left ++ x ∷ [] → ((y : A) → P y → Q y) → Q x → EachBehind P before all → EachBehind Q left all
behind_one P Q left x before all is weaker here behind = (
  x ∷ behind.0,
  behind.1 ∙ (ap (λ l. l ++ behind.0) is ∙ append_assoc left (x ∷ []) behind.0),
  (here, Each-weaker P Q weaker behind.0 behind.2),
)

-- at last all are
pub behind_all : {A : Type 0} (P : A → Type 0) (left all : List A) → left ≡ [] → EachBehind P left all → Each P all
behind_all P left all none behind = subst (Each P) (sym (behind.1 ∙ ap (λ l. l ++ behind.0) none)) behind.2

pub none_left : {A : Type 0} (xs : List A) → length xs ≡ 0 → xs ≡ []
none_left [] none = refl
none_left (x ∷ xs) none = absurd (omega (arith, none))
