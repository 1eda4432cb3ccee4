-- Where play stands: at a step that may be refused, on the branch to it; and it gets stuck at dead ends only.
use Rattle.std.proofs.Common.{◌≡◌, subst, ℕ, ◌+◌, ◌<◌, ◌≤◌, ◌&&◌, zero, suc, Bool, true, false, List, [], ◌∷◌, ◌++◌, length, Option, Some, None, refl, ap, ◌∙◌, arith, nat_eq, nat_lt, if◌then◌else◌}
use Rattle.std.proofs.lemmas.Bool.{lt-ltb, eq-eqb}
use Rattle.process_tree.specs.declared.play.Outcome.{Outcome}
use Rattle.process_tree.specs.declared.play.Outcome.TheVariants.{Done, Refused}
use Rattle.process_tree.specs.declared.play.Played.TheVariants.{Path, Nothing, Stuck, Unfinished}
use Rattle.process_tree.specs.Order.{Each}
use Rattle.process_tree.specs.Shape.{Shape, kind_of, can_be_refused, next_steps, goes_on_to, least, fixed_len, branch_to}
use Rattle.process_tree.specs.Play.{Stand, asks, ended, follow, come_to, arrive, go_on, go_back, answered, stand_from, stand, fallback_of, kept_for, end_of, play}
use Rattle.process_tree.proofs.Branches.{Each-has, Each-among}
use Rattle.process_tree.proofs.Numbers.{least_is}
use Rattle.process_tree.proofs.Onward.{onward_has, onward_above, goes_along, branch_from}
use Rattle.process_tree.proofs.Kept.{kept_goes_on}
use Rattle.well_formed.specs.Flaws.{IsOrderly, IsOn, is_dead_end, is_nowhere}

-- a step that goes on from w is a step of the process
pub on_within : (t : Shape) (w : List ℕ) (d : ℕ) → IsOrderly t → goes_on_to t w d ≡ true → d < length t.kinds
on_within t w d o on =
    let along = goes_along t w d on in
    Each-has (λ b. b < length t.kinds) along.0 d (Each-among (Each (λ b. b < length t.kinds)) t.paths along.0 o.within along.1) (onward_has w along.0 d along.2)

-- and above each step of w
pub on_above : (t : Shape) (w : List ℕ) (d : ℕ) → IsOrderly t → goes_on_to t w d ≡ true → Each (λ b. b < d) w
on_above t w d o on =
    let along = goes_along t w d on in
    onward_above w along.0 d (Each-among _ t.paths along.0 o.rising along.1) along.2

-- w is the branch to it
pub on_branch : (t : Shape) (w : List ℕ) (d : ℕ) → IsOrderly t → goes_on_to t w d ≡ true → IsOn t d
on_branch t w d o on = ap (λ v. goes_on_to t v d) (branch_from t w d o.in_order o.rising on) ∙ on

-- the last step of a list is below what all of it is below
pub last_below : (w : List ℕ) (b d : ℕ) → Each (λ x. x < d) (w ++ b ∷ []) → b < d
last_below [] b d h = h.0
last_below (x ∷ w) b d h = last_below w b d h.1

-- so is each step of it
pub mid_below : (v : List ℕ) (x : ℕ) (xs : List ℕ) (d : ℕ) → Each (λ y. y < d) (v ++ x ∷ xs) → x < d
mid_below [] x xs d h = h.0
mid_below (y ∷ v) x xs d h = mid_below v x xs d h.1

-- where play can stand
abbrev pub IsStand : Shape → Stand → Type 0
IsStand t (asks w b) = (goes_on_to t w b ≡ true) × (can_be_refused (kind_of t b) ≡ true)
IsStand t (ended (Path w)) = Unit
IsStand t (ended Nothing) = Unit
IsStand t (ended (Stuck b)) = IsOn t b × (is_dead_end t b ≡ true)
IsStand t (ended Unfinished) = Unit

-- play comes to a step
come_stands : (n : ℕ) (t : Shape) (w : List ℕ) (d : ℕ) → IsOrderly t → goes_on_to t w d ≡ true → length t.kinds ≤ d + n → IsStand t (come_to n t w d)
come_stands zero t w d o on le = let lt = on_within t w d o on in absurd (omega arith)
come_stands (suc n) t w d o on le = by_kind (can_be_refused (kind_of t d)) refl (λ e one. come_stands n t (w ++ d ∷ []) e o one (let up = last_below w d e (on_above t (w ++ d ∷ []) e o one) in omega arith))
  where
    by_kind : (b : Bool) → can_be_refused (kind_of t d) ≡ b → ((e : ℕ) → goes_on_to t (w ++ d ∷ []) e ≡ true → IsStand t (come_to n t (w ++ d ∷ []) e)) → IsStand t (if b then asks w d else follow (come_to n t) (w ++ d ∷ []) (least (next_steps t (w ++ d ∷ []))))
    by_kind true is rest = (on, is)
    by_kind false is rest = by_next (least (next_steps t (w ++ d ∷ []))) refl
      where
        by_next : (o : Option ℕ) → least (next_steps t (w ++ d ∷ [])) ≡ o → IsStand t (follow (come_to n t) (w ++ d ∷ []) o)
        by_next None e = tt
        by_next (Some e) is = rest e (least_is (next_steps t (w ++ d ∷ [])) e is).0

pub arrive_stands : (t : Shape) (w : List ℕ) (d : ℕ) → IsOrderly t → goes_on_to t w d ≡ true → IsStand t (arrive t w d)
arrive_stands t w d o on = come_stands (length t.kinds) t w d o on (omega arith)

pub go_on_stands : (t : Shape) (w : List ℕ) → IsOrderly t → IsStand t (go_on t w)
go_on_stands t w o = by_next (least (next_steps t w)) refl
  where
    by_next : (n : Option ℕ) → least (next_steps t w) ≡ n → IsStand t (follow (arrive t) w n)
    by_next None e = tt
    by_next (Some d) e = arrive_stands t w d o (least_is (next_steps t w) d e).0

-- a refused step without a way on behind a commit point is a dead end
pub stuck_there : (t : Shape) (w : List ℕ) (b : ℕ) → IsOrderly t → goes_on_to t w b ≡ true → can_be_refused (kind_of t b) ≡ true → fallback_of t w b ≡ None → (fixed_len t w ≡ 0 → ⊥) → is_dead_end t b ≡ true
stuck_there t w b o on may none fixed =
    let from = branch_from t w b o.in_order o.rising on in
    ap (λ x. x && nat_lt 0 (fixed_len t (branch_to t b)) && is_nowhere (fallback_of t (branch_to t b) b)) may
    ∙ ap (λ v. nat_lt 0 (fixed_len t v) && is_nowhere (fallback_of t v b)) from
    ∙ ap (λ x. x && is_nowhere (fallback_of t w b)) (lt-ltb 0 (fixed_len t w) (omega arith))
    ∙ ap is_nowhere none

pub back_stands : (t : Shape) (w : List ℕ) (b : ℕ) → IsOrderly t → goes_on_to t w b ≡ true → can_be_refused (kind_of t b) ≡ true → IsStand t (go_back t w b (fallback_of t w b))
back_stands t w b o on may = by_way (fallback_of t w b) refl
  where
    by_way : (n : Option ℕ) → fallback_of t w b ≡ n → IsStand t (go_back t w b n)
    by_way (Some d) e = arrive_stands t (kept_for t w d) d o (kept_goes_on t w b d e)
    by_way None e = by_fixed (nat_eq (fixed_len t w) 0) refl
      where
        by_fixed : (f : Bool) → nat_eq (fixed_len t w) 0 ≡ f → IsStand t (ended (if f then Nothing else Stuck b))
        by_fixed true is = tt
        by_fixed false is = (on_branch t w b o on, stuck_there t w b o on may e (λ z. let f = eq-eqb (fixed_len t w) 0 z in cc))

-- one outcome
pub answer_stands : (t : Shape) (s : Stand) (o : Outcome) → IsOrderly t → IsStand t s → IsStand t (answered t s o)
answer_stands t (asks w b) Done o is = go_on_stands t (w ++ b ∷ []) o
answer_stands t (asks w b) Refused o is = back_stands t w b o is.0 is.1
answer_stands t (ended end) x o is = is

pub play_stands : (t : Shape) (s : Stand) (os : List Outcome) → IsOrderly t → IsStand t s → IsStand t (stand_from t s os)
play_stands t s [] o is = is
play_stands t s (x ∷ os) o is = play_stands t (answered t s x) os o (answer_stands t s x o is)

pub stands : (t : Shape) (os : List Outcome) → IsOrderly t → IsStand t (stand t os)
stands t os o = play_stands t (go_on t []) os o (go_on_stands t [] o)

-- play gets stuck at dead ends only
pub stuck_is_dead_end : (t : Shape) (os : List Outcome) (b : ℕ) → IsOrderly t → play t os ≡ Stuck b → IsOn t b × (is_dead_end t b ≡ true)
stuck_is_dead_end t os b o is = by_stand (stand t os) (stands t os o) is
  where
    by_stand : (s : Stand) → IsStand t s → end_of s ≡ Stuck b → IsOn t b × (is_dead_end t b ≡ true)
    by_stand (asks w c) h e = absurd (cc)
    by_stand (ended (Path w)) h e = absurd (cc)
    by_stand (ended Nothing) h e = absurd (cc)
    by_stand (ended (Stuck c)) h e = let same : c ≡ b = cc in subst (λ c. IsOn t c × (is_dead_end t c ≡ true)) same h
    by_stand (ended Unfinished) h e = absurd (cc)
