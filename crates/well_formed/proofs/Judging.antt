-- What the tests of a step answer, in terms of the shape.
use Rattle.std.proofs.Common.{◌≡◌, ◌⊎◌, inl, inr, ⊎_elim, subst, ℕ, ◌-◌, ◌<◌, ◌≤◌, ◌&&◌, zero, suc, Bool, true, false, List, [], ◌∷◌, ◌++◌, length, drop, Option, Some, None, refl, sym, ap, ◌∙◌, arith, nat_lt, not}
use Rattle.std.proofs.Math.Seq.{drop-append_seam}
use Rattle.std.proofs.lemmas.Bool.{lt-ltb}
use Rattle.std.specs.List.{list_any, filter_map, slice_get}
use Rattle.process_tree.specs.Shape.{Shape, kind_of, can_be_refused, next_steps, goes_on_to, greatest, fixed_len, branch_to, last_after, last_of}
use Rattle.process_tree.specs.Play.{fallback_of}
use Rattle.process_tree.proofs.Onward.{branch_from}
use Rattle.process_tree.proofs.Fixed.{fixed_le}
use Rattle.well_formed.specs.Flaws.{IsOrderly, way_before, is_sure, is_way_sure, is_cut_off, is_dead_end, is_nowhere}
use Rattle.well_formed.specs.Spots.{earlier_way, leaves_later, last_through}
use Rattle.well_formed.proofs.Below.{below, has_below, greatest_is}
use Rattle.well_formed.proofs.LastThrough.{IsThrough, through_is}
use Rattle.well_formed.proofs.Reach.{before_is}
use Rattle.well_formed.proofs.Spots.{earlier_ways}
use Rattle.well_formed.proofs.WaysOn.{way_on}

-- the last of a list is at its last place
pub last_at : (p : List ℕ) → last_of p ≡ slice_get p (length p - 1)
last_at [] = refl
last_at (x ∷ []) = refl
last_at (x ∷ y ∷ p) =
    let n : length (x ∷ y ∷ p) - 1 ≡ suc (length (y ∷ p) - 1) = omega arith in
    last_at (y ∷ p) ∙ sym (ap (slice_get (x ∷ y ∷ p)) n)

-- the way that was looked up
pub way_is : (t : Shape) (w : List ℕ) (d : ℕ) (way : Option ℕ) → IsOrderly t → goes_on_to t w d ≡ true → way ≡ greatest (filter_map (earlier_way w d) t.paths) → way_before t d ≡ way
way_is t w d way o on is =
    before_is t w d o.in_order o.rising on ∙ sym (ap greatest (earlier_ways t w d d o.in_order o.rising on)) ∙ sym is

-- goes on from the same steps
pub way_on_from : (t : Shape) (w : List ℕ) (d e : ℕ) → IsOrderly t → goes_on_to t w d ≡ true → Some e ≡ greatest (filter_map (earlier_way w d) t.paths) → goes_on_to t w e ≡ true
way_on_from t w d e o on is =
    let found = greatest_is (below d (next_steps t w)) e (sym (ap greatest (earlier_ways t w d d o.in_order o.rising on)) ∙ sym is) in
    (has_below d e (next_steps t w) found.0).0

-- none was found: the step isn't cut off
pub cut_by_none : (t : Shape) (w : List ℕ) (d : ℕ) → IsOrderly t → goes_on_to t w d ≡ true → None ≡ greatest (filter_map (earlier_way w d) t.paths) → false ≡ is_cut_off t d
cut_by_none t w d o on is = sym (ap (is_way_sure t (branch_to t d)) (way_is t w d None o on is))

-- the last path through it
pub way_through : (t : Shape) (w : List ℕ) (d e : ℕ) (q : List ℕ) → IsOrderly t → goes_on_to t w d ≡ true → Some e ≡ greatest (filter_map (earlier_way w d) t.paths) → q ≡ last_through e (length w) t.paths [] → IsThrough t w e q
way_through t w d e q o on is found = subst (IsThrough t w e) (sym found) (through_is t w e o (way_on_from t w d e o on is))

-- it is cut off where the way that was found is sure, as the last path through that has it
pub cut_by_way : (t : Shape) (w : List ℕ) (d e : ℕ) (steps : List ℕ) → IsOrderly t → goes_on_to t w d ≡ true → Some e ≡ greatest (filter_map (earlier_way w d) t.paths) → steps ≡ drop (length w) (last_through e (length w) t.paths []) → is_sure t.kinds steps ≡ is_cut_off t d
cut_by_way t w d e steps o on is found =
    ap (is_sure t.kinds) (found ∙ ap (drop (length w)) (through_is t w e o (way_on_from t w d e o on is)).is ∙ drop-append_seam w (e ∷ last_after t (w ++ e ∷ [])))
    ∙ sym (ap (λ v. is_way_sure t v (Some e)) (branch_from t w d o.in_order o.rising on))
    ∙ sym (ap (is_way_sure t (branch_to t d)) (way_is t w d (Some e) o on is))

-- a step is a dead end where it may be refused behind a commit point, and no path leaves its branch for later steps
pub dead_is : (t : Shape) (w : List ℕ) (b fixed : ℕ) → IsOrderly t → goes_on_to t w b ≡ true → fixed ≡ fixed_len t w → is_dead_end t b ≡ (can_be_refused (kind_of t b) && nat_lt 0 fixed && not (list_any (leaves_later (fixed - 1) w b) t.paths))
dead_is t w b fixed o on is =
    ap (λ v. can_be_refused (kind_of t b) && nat_lt 0 (fixed_len t v) && is_nowhere (fallback_of t v b)) (branch_from t w b o.in_order o.rising on)
    ∙ sym (ap (λ f. can_be_refused (kind_of t b) && nat_lt 0 f && is_nowhere (fallback_of t w b)) is)
    ∙ by_fixed fixed is
  where
    none : (x y z : Bool) → (x && false && y) ≡ (x && false && z)
    none true y z = refl
    none false y z = refl

    by_fixed : (f : ℕ) → f ≡ fixed_len t w → (can_be_refused (kind_of t b) && nat_lt 0 f && is_nowhere (fallback_of t w b)) ≡ (can_be_refused (kind_of t b) && nat_lt 0 f && not (list_any (leaves_later (f - 1) w b) t.paths))
    by_fixed zero e = none (can_be_refused (kind_of t b)) (is_nowhere (fallback_of t w b)) (not (list_any (leaves_later (zero - 1) w b) t.paths))
    by_fixed (suc k) e =
        let minus : suc k - 1 ≡ k = omega arith in
        ap (λ x. can_be_refused (kind_of t b) && nat_lt 0 (suc k) && x) (way_on t w b k o on (sym e))
        ∙ sym (ap (λ j. can_be_refused (kind_of t b) && nat_lt 0 (suc k) && not (list_any (leaves_later j w b) t.paths)) minus)

-- nothing is fixed, or the step can't be refused
pub not_dead : (may some on : Bool) → (may ≡ false) ⊎ (some ≡ false) → (may && some && on) ≡ false
not_dead true true on is = ⊎_elim (λ e. absurd (cc)) (λ e. absurd (cc)) is
not_dead true false on is = refl
not_dead false some on is = refl

-- no more is fixed than there is
pub fixed_inside : (t : Shape) (w : List ℕ) (fixed : ℕ) → fixed ≡ fixed_len t w → fixed ≤ length w
fixed_inside t w fixed is = omega (arith, is, fixed_le t w)

-- nothing is fixed: no dead end
pub dead_free : (t : Shape) (w : List ℕ) (b fixed : ℕ) → IsOrderly t → goes_on_to t w b ≡ true → fixed ≡ fixed_len t w → fixed ≡ 0 → false ≡ is_dead_end t b
dead_free t w b fixed o on is none =
    let rest = not (list_any (leaves_later (fixed - 1) w b) t.paths) in
    sym (dead_is t w b fixed o on is ∙ not_dead (can_be_refused (kind_of t b)) (nat_lt 0 fixed) rest (inr (ap (nat_lt 0) none)))

-- a step that can't be refused: no dead end
pub dead_sure : (t : Shape) (w : List ℕ) (b fixed : ℕ) → IsOrderly t → goes_on_to t w b ≡ true → fixed ≡ fixed_len t w → can_be_refused (kind_of t b) ≡ false → false ≡ is_dead_end t b
dead_sure t w b fixed o on is sure =
    let rest = not (list_any (leaves_later (fixed - 1) w b) t.paths) in
    sym (dead_is t w b fixed o on is ∙ not_dead (can_be_refused (kind_of t b)) (nat_lt 0 fixed) rest (inl sure))

-- else it was looked for a way on
pub dead_looked : (t : Shape) (w : List ℕ) (b fixed : ℕ) (has_way : Bool) → IsOrderly t → goes_on_to t w b ≡ true → fixed ≡ fixed_len t w → 0 < fixed → can_be_refused (kind_of t b) ≡ true → has_way ≡ list_any (leaves_later (fixed - 1) w b) t.paths → not has_way ≡ is_dead_end t b
dead_looked t w b fixed has_way o on is some may way =
    let rest = not (list_any (leaves_later (fixed - 1) w b) t.paths) in
    ap not way
    ∙ sym (ap (λ x. x && rest) (lt-ltb 0 fixed some))
    ∙ sym (ap (λ x. x && nat_lt 0 fixed && rest) may)
    ∙ sym (dead_is t w b fixed o on is)
