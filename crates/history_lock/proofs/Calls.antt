-- What each call of the table asks, for a seat as its clauses have it.
use Rattle.std.proofs.Common.{◌≡◌, ℕ, ◌+◌, ◌%◌, ◌^◌, ◌≤◌, List, [], ◌∷◌, ◌++◌, sym, ap, arith, subst, subst₂, zero, suc, ◌∙◌, Option as Maybe, Some, None, IfSome, unwrap_or}
use mathlib.Core.Option.{Option as Opt, some, some-injective}
use lib.ListN.{get_elem?}
use Rattle.atomic_table.specs.Table.{Me, Allows, Splits, Joins, Final, Seen}
use Rattle.history_lock.specs.declared.view.View.{View}
use Rattle.history_lock.specs.Rule.{DeskInvariant, resting, clear, waiting, both, left, right, spent, Took, IsWhole}
use Rattle.history_lock.specs.Weights.{AllStand}
use Rattle.history_lock.specs.Plays.{IsResting, IsClear, IsWaiting, IsTurning, HasCounted, Cleared, Drew, Looked, Counted, Passed, Announced, Learned}
use Rattle.history_lock.proofs.Keeps.{draws, clears, looks, counts, passes, announces}
use Rattle.history_lock.proofs.Shares.{splits, joins, learns, ends}

module _ {S X : Type 0} (stands_for : S → List X → S → Type 0) (o : S) (slots id : ℕ) (m : Me (Maybe S) (View S X)) where
  abbrev M : Type 0
  M = Me (Maybe S) (View S X)

  pub may_clear : IsResting m → Allows (DeskInvariant stands_for o) slots id m 0 (λ n. n) (Cleared m)
  may_clear is = subst (λ (x : M). Allows (DeskInvariant stands_for o) slots id x 0 (λ n. n) (Cleared x)) (sym is.0) (clears stands_for o slots id _ _ _ _ [] is.1)

  pub may_draw : IsClear m → Allows (DeskInvariant stands_for o) slots id m 1 (λ n. (n + 1) % 2 ^ 64) (Drew m)
  may_draw is = subst (λ (x : M). Allows (DeskInvariant stands_for o) slots id x 1 (λ n. (n + 1) % 2 ^ 64) (Drew x)) (sym is.0) (draws stands_for o slots id _ _ _ _ [])

  pub may_look : IsWaiting m → Allows (DeskInvariant stands_for o) slots id m 0 (λ n. n) (Looked stands_for m)
  may_look is = subst (λ (x : M). Allows (DeskInvariant stands_for o) slots id x 0 (λ n. n) (Looked stands_for x)) (sym is.0) (looks stands_for o slots id _ _ _ _ _)

  pub may_count : (held : Maybe S) (entries : List X) (e : X) → entries ≡ e ∷ [] → IsTurning held m → Allows (DeskInvariant stands_for o) slots id m 2 (λ n. (n + 1) % 2 ^ 64) (Counted entries m)
  may_count held entries e one is = subst₂ (λ (l : List X) (x : M). Allows (DeskInvariant stands_for o) slots id x 2 (λ n. (n + 1) % 2 ^ 64) (Counted l x)) (sym one) (sym is.0) (counts stands_for o slots id _ _ _ _ _ ((0, held) ∷ []) e)

  pub may_pass : (x : S) → HasCounted (Some x) m → IfSome m.0.opening (λ z. stands_for z m.0.seen x) → Allows (DeskInvariant stands_for o) slots id m 0 (λ n. (n + 1) % 2 ^ 64) (Passed m)
  may_pass x is stands = subst (λ (y : M). Allows (DeskInvariant stands_for o) slots id y 0 (λ n. (n + 1) % 2 ^ 64) (Passed y)) (sym is.0) (passes stands_for o slots id _ _ _ _ _ x stands)

  pub may_announce : (word : ℕ) → 3 ≤ word → Allows (DeskInvariant stands_for o) slots id m word (λ n. (n + 1) % 2 ^ 64) (λ _ after. Announced m after)
  may_announce zero behind = absurd (omega (arith, behind))
  may_announce (suc zero) behind = absurd (omega (arith, behind))
  may_announce (suc (suc zero)) behind = absurd (omega (arith, behind))
  may_announce (suc (suc (suc word))) behind = announces stands_for o slots id m word

  pub may_learn : m ≡ (record (resting m.0.opening m.0.seen m.0.places m.0.share) { heard = m.0.heard }, []) → 1 ≤ m.0.share → Allows (DeskInvariant stands_for o) slots id m 0 (λ n. n) (Learned m)
  may_learn is some_share = subst (λ (x : M). Allows (DeskInvariant stands_for o) slots id x 0 (λ n. n) (Learned x)) (sym is) (learns stands_for o slots id _ _ _ _ _ some_share)

module _ {S X : Type 0} (stands_for : S → List X → S → Type 0) (o : S) (id : ℕ) (m : Me (Maybe S) (View S X)) where
  pub may_split : IsResting m → 2 ≤ m.0.share → Splits (DeskInvariant stands_for o) id m.0 (left m.0) (right m.0)
  may_split is two = subst (λ (v : View S X). Splits (DeskInvariant stands_for o) id v (left v) (right v)) (sym (ap (λ (x : Me (Maybe S) (View S X)). x.0) is.0)) (splits stands_for o id _ _ _ _ two)

  pub may_join : (other : ℕ) (b : Me (Maybe S) (View S X)) → IsResting m → IsResting b → Joins (DeskInvariant stands_for o) id m.0 other b.0 (both m.0 b.0) spent
  may_join other b is its = subst₂ (λ (v w : View S X). Joins (DeskInvariant stands_for o) id v other w (both v w) spent) (sym (ap (λ (x : Me (Maybe S) (View S X)). x.0) is.0)) (sym (ap (λ (x : Me (Maybe S) (View S X)). x.0) its.0))
      (joins stands_for o id other _ _ _ _ _ _ _ _ is.1 its.1)

module _ {S X : Type 0} (stands_for : S → List X → S → Type 0) where
  abbrev Mi : Type 0
  Mi = Me (Maybe S) (View S X)

  abbrev held_or : S → List (ℕ × Maybe S) → S
  held_or d [] = d
  held_or d (p ∷ ps) = unwrap_or p.1 d

  -- what a seat is at the end of the four steps that begin a turn
  pub record Turned (m0 m4 : Me (Maybe S) (View S X)) (x : S) : Type 0 where
    pub opening : m4.0.opening ≡ m0.0.opening
    pub places : m4.0.places ≡ m0.0.places
    pub share : m4.0.share ≡ m0.0.share
    pub more : List X
    pub seen : m4.0.seen ≡ m0.0.seen ++ more
    pub stand : AllStand m4.0.seen m4.0.places
    pub stands : IfSome m4.0.opening (λ o. stands_for o m4.0.seen x)

  pub turned : (m0 m1 m2 m3 m4 : Me (Maybe S) (View S X)) (found : ℕ) (x : S)
      → m1 ≡ (clear m0.0.opening m0.0.seen m0.0.places m0.0.share, [])
      → m2 ≡ (waiting m1.0.opening m1.0.seen m1.0.places m1.0.share found, [])
      → Took stands_for m2.0.opening m2.0.seen m2.0.places m2.0.share found m3
      → m3.1 ≡ (0, Some x) ∷ []
      → m4 ≡ (m3.0, (0, None) ∷ [])
      → Turned m0 m4 x
  turned m0 m1 m2 m3 m4 found x e1 e2 t e3 e4 =
      let opening : m4.0.opening ≡ m2.0.opening = ap (λ (m : Mi). m.0.opening) e4 ∙ ap (λ (m : Mi). m.0.opening) t.2 in
      let places : m4.0.places ≡ m2.0.places = ap (λ (m : Mi). m.0.places) e4 ∙ ap (λ (m : Mi). m.0.places) t.2 in
      let share : m4.0.share ≡ m2.0.share = ap (λ (m : Mi). m.0.share) e4 ∙ ap (λ (m : Mi). m.0.share) t.2 in
      let seen : m4.0.seen ≡ m2.0.seen ++ t.1 = ap (λ (m : Mi). m.0.seen) e4 ∙ ap (λ (m : Mi). m.0.seen) t.2 in
      let begun : m2.0.seen ≡ m0.0.seen = ap (λ (m : Mi). m.0.seen) e2 ∙ ap (λ (m : Mi). m.0.seen) e1 in
      let same : t.0 ≡ x = ap (held_or x) (sym (ap (λ (m : Mi). m.1) t.2) ∙ e3) in
      record {
        opening = opening ∙ ap (λ (m : Mi). m.0.opening) e2 ∙ ap (λ (m : Mi). m.0.opening) e1;
        places = places ∙ ap (λ (m : Mi). m.0.places) e2 ∙ ap (λ (m : Mi). m.0.places) e1;
        share = share ∙ ap (λ (m : Mi). m.0.share) e2 ∙ ap (λ (m : Mi). m.0.share) e1;
        more = t.1;
        seen = seen ∙ ap (λ (l : List X). l ++ t.1) begun;
        stand = subst₂ (λ (l : List X) (ps : List (ℕ × X)). AllStand l ps) (sym seen) (sym places) t.5;
        stands = subst (λ (y : S). IfSome m4.0.opening (λ o. stands_for o m4.0.seen y)) same (subst₂ (λ (q : Maybe S) (l : List X). IfSome q (λ o. stands_for o l t.0)) (sym opening) (sym seen) t.3);
      }

  -- what the only seat left gets
  pub closes : (o : S) (words : List ℕ) (xs : List (Maybe S)) (id : ℕ) (m : Me (Maybe S) (View S X)) (taken : Maybe S) → Final (Seen (DeskInvariant stands_for o) id m.0) words xs → IsResting m → m.0.share ≡ 2 ^ 62
      → get_elem? xs 0 ≡ some taken → (x : S) × (taken ≡ Some x) × IsWhole stands_for m.0.opening m.0.seen m.0.places x
  closes o words xs id m taken final is share got =
      let s = final.0 in
      let at = final.1.1 ∙ ap some (ap (λ (y : Mi). y.0) is.0 ∙ ap (λ (n : ℕ). resting m.0.opening m.0.seen m.0.places n) share) in
      let e = ends stands_for o s id m.0.opening m.0.seen m.0.places final.1.0 at in
      let home = final.4 0 (Some e.0) (ap (λ (l : List (Opt (Maybe S))). get_elem? l 0) e.1) in
      (e.0, some-injective taken (Some e.0) (sym got ∙ home), e.2)
