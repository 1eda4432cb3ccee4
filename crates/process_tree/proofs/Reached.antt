-- In a process whose later alternatives can all be fallen to, play can come to each step.
use Rattle.plain_list.proofs.Lasts.{last_cases}
use Rattle.std.proofs.Common.{◌≡◌, ⊎_elim, subst, ℕ, ◌<◌, ◌≤◌, zero, suc, Bool, true, false, ◌&&◌, List, [], ◌∷◌, ◌++◌, length, filter, cond, Some, None, refl, sym, ap, ◌∙◌, arith, nat_lt, nat_eq, if◌then◌else◌}
use Rattle.std.proofs.lemmas.Bool.{ltb-false, cases_lt, eq-eqb, cases_Bool}
use Rattle.std.specs.Bool.{IsTrue}
use Rattle.std.specs.List.{list_any}
use Rattle.process_tree.specs.declared.play.Outcome.{Outcome}
use Rattle.process_tree.specs.declared.play.Outcome.TheVariants.{Done, Refused}
use Rattle.process_tree.specs.Order.{has, IsLaidOut}
use Rattle.process_tree.specs.Shape.{Shape, next_steps, goes_on_to, branch_to, least, kind_of, can_be_refused}
use Rattle.process_tree.specs.Play.{Stand, asks, follow, come_to, arrive, go_on, go_back, answered, stand, stand_from, kept_for}
use Rattle.process_tree.specs.Termination.{once, ways_before, is_later_way, IsFallenTo}
use Rattle.process_tree.proofs.Branches.{has_cases, has_here, has_there}
use Rattle.process_tree.proofs.Numbers.{least_is, least_some}
use Rattle.process_tree.proofs.Kept.{kept_goes_on}
use Rattle.process_tree.proofs.Onward.{onward, onward_both, goes_along, goes_on, branch_from}
use Rattle.process_tree.proofs.InTurn.{goes_up, arrive_on}

-- one outcome more
pub stand_more : (t : Shape) (s : Stand) (os : List Outcome) (o : Outcome) → stand_from t s (os ++ o ∷ []) ≡ answered t (stand_from t s os) o
stand_more t s [] o = refl
stand_more t s (x ∷ os) o = stand_more t (answered t s x) os o

-- what goes on from a list with a last goes through that last
onward_front : (w p : List ℕ) (a d : ℕ) → onward (w ++ a ∷ []) p ≡ Some d → onward w p ≡ Some a
onward_front [] [] a d e = absurd (cc)
onward_front [] (y ∷ p) a d e = ap Some (sym (onward_both a y d [] p e).0)
onward_front (x ∷ w) [] a d e = absurd (cc)
onward_front (x ∷ w) (y ∷ p) a d e =
    let both = onward_both x y d (w ++ a ∷ []) p e in
    ap (λ b. if b then onward w p else None) (eq-eqb x y both.0) ∙ onward_front w p a d both.1

pub goes_before : (t : Shape) (w : List ℕ) (a d : ℕ) → goes_on_to t (w ++ a ∷ []) d ≡ true → goes_on_to t w a ≡ true
goes_before t w a d on =
    let along = goes_along t (w ++ a ∷ []) d on in
    goes_on t w a along.0 along.1 (onward_front w along.0 a d along.2)

-- each number once, none lost
pub has_once : (e : ℕ) (xs : List ℕ) → has e xs ≡ true → has e (once xs) ≡ true
has_once e [] on = on
has_once e (x ∷ xs) on = by_test (list_any (nat_eq x) xs) refl (λ h. has_once e xs h)
  where
    by_test : (b : Bool) → list_any (nat_eq x) xs ≡ b → (has e xs ≡ true → has e (once xs) ≡ true) → has e (once (x ∷ xs)) ≡ true
    by_test true is below =
        ap (λ b. has e (if b then once xs else x ∷ once xs)) is
        ∙ ⊎_elim (λ same. below (subst (λ z. has z xs ≡ true) (sym same) is)) (λ rest. below rest.1) (has_cases e x xs on)
    by_test false is below =
        ap (λ b. has e (if b then once xs else x ∷ once xs)) is
        ∙ ⊎_elim (λ same. has_here e x (once xs) same) (λ rest. has_there e x (once xs) (below rest.1)) (has_cases e x xs on)

pub nonempty : (e : ℕ) (xs : List ℕ) → has e xs ≡ true → 0 < length xs
nonempty e [] on = absurd (cc)
nonempty e (x ∷ xs) on = omega arith

-- the least of a list
pub least_of : (xs : List ℕ) (d : ℕ) → has d xs ≡ true → ((e : ℕ) → has e xs ≡ true → d ≤ e) → least xs ≡ Some d
least_of [] d on low = absurd (cc)
least_of (x ∷ xs) d on low =
    let some = least_some x xs in
    let is = least_is (x ∷ xs) some.0 some.1 in
    let le = is.1 d on in
    let ge = low some.0 is.0 in
    let same : some.0 ≡ d = omega arith in
    some.1 ∙ ap Some same

-- where b begins no later alternative, it is the least next step
first_way : (t : Shape) (v : List ℕ) (b : ℕ) → branch_to t b ≡ v → goes_on_to t v b ≡ true → is_later_way t b ≡ false → least (next_steps t v) ≡ Some b
first_way t v b is on first =
    least_of (next_steps t v) b on (λ e one. low e one)
  where
    none_before : nat_lt 0 (length (ways_before t b)) ≡ false
    none_before = sym (ap (λ c. c && nat_lt 0 (length (ways_before t b))) (ap (λ w. goes_on_to t w b) is ∙ on)) ∙ first

    low : (e : ℕ) → has e (next_steps t v) ≡ true → b ≤ e
    low e one =
        ⊎_elim
        (λ lt.
        let before : has e (ways_before t b) ≡ true =
        has_once e (filter (λ x. nat_lt x b) (next_steps t (branch_to t b))) (kept e lt (next_steps t (branch_to t b)) (ap (λ w. has e (next_steps t w)) is ∙ one)) in
        let some = nonempty e (ways_before t b) before in
        let few = ltb-false 0 (length (ways_before t b)) none_before in
        absurd (omega arith))
        (λ le. le)
        (cases_lt e b)
      where
        kept : (e : ℕ) → e < b → (xs : List ℕ) → has e xs ≡ true → has e (filter (λ x. nat_lt x b) xs) ≡ true
        kept e lt [] on = absurd (cc)
        kept e lt (x ∷ xs) on = by_test (nat_lt x b) refl (λ h. kept e lt xs h)
          where
            by_test : (c : Bool) → nat_lt x b ≡ c → (has e xs ≡ true → has e (filter (λ x. nat_lt x b) xs) ≡ true) → has e (filter (λ x. nat_lt x b) (x ∷ xs)) ≡ true
            by_test true u below =
                ap (λ c. has e (cond c (x ∷ filter (λ x. nat_lt x b) xs) (filter (λ x. nat_lt x b) xs))) u
                ∙ ⊎_elim (λ same. has_here e x (filter (λ x. nat_lt x b) xs) same) (λ rest. has_there e x (filter (λ x. nat_lt x b) xs) (below rest.1)) (has_cases e x xs on)
            by_test false u below =
                ap (λ c. has e (cond c (x ∷ filter (λ x. nat_lt x b) xs) (filter (λ x. nat_lt x b) xs))) u
                ∙ ⊎_elim (λ same. let le = ltb-false x b u in absurd (omega arith)) (λ rest. below rest.1) (has_cases e x xs on)

-- a step that can be refused is where play stops
pub asks_there : (t : Shape) (v : List ℕ) (b : ℕ) → can_be_refused (kind_of t b) ≡ true → arrive t v b ≡ asks v b
asks_there t v b kind = by_count (length t.kinds)
  where
    by_count : (k : ℕ) → come_to k t v b ≡ asks v b
    by_count zero = refl
    by_count (suc k) = ap (λ c. if c then asks v b else follow (come_to k t) (v ++ b ∷ []) (least (next_steps t (v ++ b ∷ [])))) kind

-- after some outcomes play comes to b, v being done
abbrev pub ComesTo : Shape → List ℕ → ℕ → Type 0
ComesTo t v b = (os : List Outcome) × (stand t os ≡ arrive t v b)

-- play goes on to the least next step
comes_after : (t : Shape) (w : List ℕ) (a b : ℕ) → IsLaidOut (length t.kinds) t.paths → goes_on_to t w a ≡ true → least (next_steps t (w ++ a ∷ [])) ≡ Some b → ComesTo t w a → ComesTo t (w ++ a ∷ []) b
comes_after t w a b laid on next come =
    ⊎_elim
    (λ tried. (
      come.0 ++ Done ∷ [],
      stand_more t (go_on t []) come.0 Done
          ∙ ap (λ s. answered t s Done) (come.1 ∙ asks_there t w a tried)
          ∙ ap (follow (arrive t) (w ++ a ∷ [])) next,
    ))
    (λ done. (come.0, come.1 ∙ arrive_on t (length t.kinds) w a refl laid.rising laid.within on done ∙ ap (follow (arrive t) (w ++ a ∷ [])) next))
    (cases_Bool (can_be_refused (kind_of t a)))

-- play falls back to a later alternative
comes_back : (t : Shape) (v : List ℕ) (b : ℕ) → IsLaidOut (length t.kinds) t.paths → branch_to t b ≡ v → IsFallenTo t b → ComesTo t v b
comes_back t v b laid is fallen =
    let os = fallen.0 in
    let w = fallen.1 in
    let refused = fallen.2 in
    let kept : kept_for t w b ≡ v = sym (branch_from t (kept_for t w b) b laid.in_order laid.rising (kept_goes_on t w refused b fallen.4)) ∙ is in (
      os ++ Refused ∷ [],
      stand_more t (go_on t []) os Refused
          ∙ ap (λ s. answered t s Refused) fallen.3
          ∙ ap (go_back t w refused) fallen.4
          ∙ ap (λ u. arrive t u b) kept,
    )

-- play can come to each step
pub comes_to : (n : ℕ) (t : Shape) → IsLaidOut (length t.kinds) t.paths → ((d : ℕ) → IsTrue (is_later_way t d) → IsFallenTo t d) → (v : List ℕ) (b : ℕ) → b < n → goes_on_to t v b ≡ true → ComesTo t v b
comes_to zero t laid reached v b lt on = absurd (omega arith)
comes_to (suc n) t laid reached v b lt on =
    let is = branch_from t v b laid.in_order laid.rising on in
    ⊎_elim
    (λ later. comes_back t v b laid is (reached b later))
    (λ first.
    let next = first_way t v b is on first in
    ⊎_elim
    (λ none. ([], ap (λ w. follow (arrive t) w (least (next_steps t w))) (sym none) ∙ ap (follow (arrive t) v) next))
    (λ some.
    let w = some.0 in
    let a = some.1 in
    let on' : goes_on_to t (w ++ a ∷ []) b ≡ true = ap (λ u. goes_on_to t u b) (sym some.2) ∙ on in
    let up = goes_up t w a b laid.rising on' in
    let before = goes_before t w a b on' in
    let come = comes_to n t laid reached w a (omega arith) before in
    subst (λ u. ComesTo t u b) (sym some.2) (comes_after t w a b laid before (ap (λ u. least (next_steps t u)) (sym some.2) ∙ next) come))
    (last_cases v))
    (cases_Bool (is_later_way t b))
