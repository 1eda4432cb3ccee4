-- The steps by whose refusals play passes over the ways before one, counted.
use Rattle.std.proofs.Common.{◌≡◌, ⊎_elim, subst, ℕ, ◌+◌, ◌<◌, ◌≤◌, ◌&&◌, ◌||◌, zero, suc, Bool, true, false, List, [], ◌∷◌, ◌++◌, length, take, drop, filter, Some, refl, sym, ap, ◌∙◌, arith, append_assoc, append-nil, length-append, not, if◌then◌else◌, cond, nat_eq, add-one, replicate}
use Rattle.std.proofs.Math.Seq.{drop-append_seam}
use Rattle.std.proofs.lemmas.Bool.{cases_lt, cases_Bool}
use Rattle.std.proofs.lemmas.List.Elements.{filter-append}
use Rattle.std.proofs.lemmas.List.{replicate-append-replicate}
use Rattle.std.specs.List.{list_any, starts_with}
use Rattle.process_tree.specs.declared.play.Outcome.{Outcome}
use Rattle.process_tree.specs.declared.play.Outcome.TheVariants.{Refused}
use Rattle.process_tree.specs.Blocks.{numbers_from}
use Rattle.process_tree.specs.Order.{Each, IsRising}
use Rattle.process_tree.specs.Shape.{Shape, kind_of, can_be_refused, goes_on_to, branch_to}
use Rattle.process_tree.specs.Play.{fallback_of}
use Rattle.process_tree.specs.Termination.{is_first_tried}
use Rattle.process_tree.proofs.Intervals.{Begins, begins_from, begins_to}
use Rattle.process_tree.proofs.Fixed.{take_whole, fixed_le}
use Rattle.process_tree.proofs.Kept.{branch_below}
use Rattle.process_tree.proofs.Onward.{goes_along, goes_on, onward_first, branch_from}
use Rattle.process_tree.proofs.PathsOf.{numbers_from-next}
use Rattle.well_formed.specs.Flaws.{IsOrderly}
use Rattle.well_formed.proofs.Falls.{FallsTo, falls_to, below_later}
use Rattle.well_formed.proofs.Standing.{on_within, on_above, mid_below}

-- whether one of these steps can be refused
abbrev pub any_tried : Shape → List ℕ → Bool
any_tried t xs = list_any (λ x. can_be_refused (kind_of t x)) xs

-- what is said of a step that is tried behind v
pub record IsTried (t : Shape) (v : List ℕ) (b : ℕ) : Type 0 where
  pub may : can_be_refused (kind_of t b) ≡ true
  pub rest : List ℕ
  pub is : branch_to t b ≡ v ++ rest
  pub none : any_tried t rest ≡ false

begins_rest : (v p : List ℕ) → Begins v p → p ≡ v ++ drop (length v) p
begins_rest [] p b = refl
begins_rest (x ∷ v) [] b = absurd b
begins_rest (x ∷ v) (y ∷ p) b = ap (λ z. z ∷ p) (sym b.0) ∙ ap (λ zs. x ∷ zs) (begins_rest v p b.1)

begins_append : (v r : List ℕ) → Begins v (v ++ r)
begins_append [] r = tt
begins_append (x ∷ v) r = (refl, begins_append v r)

three_true : (a b c : Bool) → (a && b && not c) ≡ true → (a ≡ true) × (b ≡ true) × (c ≡ false)
three_true true true true is = absurd (cc)
three_true true true false is = (refl, refl, refl)
three_true true false c is = absurd (cc)
three_true false b c is = absurd (cc)

pub tried_to : (t : Shape) (v : List ℕ) (b : ℕ) → is_first_tried t v b ≡ true → IsTried t v b
tried_to t v b is =
    let parts = three_true (can_be_refused (kind_of t b)) (starts_with nat_eq (branch_to t b) v) (any_tried t (drop (length v) (branch_to t b))) is in
    record {
      may = parts.0;
      rest = drop (length v) (branch_to t b);
      is = begins_rest v (branch_to t b) (begins_from v (branch_to t b) parts.1);
      none = parts.2;
    }

pub tried_from : (t : Shape) (v : List ℕ) (b : ℕ) → IsTried t v b → is_first_tried t v b ≡ true
tried_from t v b is =
    ap (λ c. c && starts_with nat_eq (branch_to t b) v && not (any_tried t (drop (length v) (branch_to t b)))) is.may
    ∙ ap (λ p. starts_with nat_eq p v && not (any_tried t (drop (length v) p))) is.is
    ∙ ap (λ c. c && not (any_tried t (drop (length v) (v ++ is.rest)))) (begins_to v (v ++ is.rest) (begins_append v is.rest))
    ∙ ap (λ xs. not (any_tried t xs)) (drop-append_seam v is.rest)
    ∙ ap not is.none

-- a step is tried or not
pub not_tried : (t : Shape) (v : List ℕ) (b : ℕ) → (IsTried t v b → ⊥) → is_first_tried t v b ≡ false
not_tried t v b never = ⊎_elim (λ is. absurd (never (tried_to t v b is))) (λ no. no) (cases_Bool (is_first_tried t v b))

pub same_tried : (t : Shape) (v u : List ℕ) (b : ℕ) → (IsTried t v b → IsTried t u b) → (IsTried t u b → IsTried t v b) → is_first_tried t v b ≡ is_first_tried t u b
same_tried t v u b to back =
    ⊎_elim
    (λ is. is ∙ sym (tried_from t u b (to (tried_to t v b is))))
    (λ no. no ∙ sym (not_tried t u b (λ is. let f : true ≡ false = sym (tried_from t v b (back is)) ∙ no in cc)))
    (cases_Bool (is_first_tried t v b))

-- how many of the steps below n are tried behind v
abbrev pub tried_below : Shape → List ℕ → ℕ → ℕ
tried_below t v zero = 0
tried_below t v (suc n) = tried_below t v n + (if is_first_tried t v n then 1 else 0)

-- they are as many as stand in the list of them
pub tried_is : (t : Shape) (v : List ℕ) (n : ℕ) → length (filter (is_first_tried t v) (numbers_from 0 n)) ≡ tried_below t v n
tried_is t v zero = refl
tried_is t v (suc n) =
    let next : numbers_from 0 (suc n) ≡ numbers_from 0 n ++ n ∷ [] = ap (numbers_from 0) (sym (add-one n)) ∙ numbers_from-next 0 n ∙ ap (λ k. numbers_from 0 n ++ k ∷ []) (omega arith) in
    ap (λ ns. length (filter (is_first_tried t v) ns)) next
    ∙ ap length (filter-append (is_first_tried t v) (numbers_from 0 n) (n ∷ []))
    ∙ length-append (filter (is_first_tried t v) (numbers_from 0 n)) (filter (is_first_tried t v) (n ∷ []))
    ∙ ap (λ k. k + length (filter (is_first_tried t v) (n ∷ []))) (tried_is t v n)
    ∙ ap (λ k. tried_below t v n + k) (one (is_first_tried t v n))
  where
    one : (b : Bool) → length (cond b (n ∷ []) []) ≡ (if b then 1 else 0)
    one true = refl
    one false = refl

-- no more where none is tried
pub tried_flat : (t : Shape) (v : List ℕ) (a n : ℕ) → a ≤ n → ((y : ℕ) → a ≤ y → y < n → is_first_tried t v y ≡ false) → tried_below t v n ≡ tried_below t v a
tried_flat t v a zero le none = let e : 0 ≡ a = omega arith in ap (tried_below t v) e
tried_flat t v a (suc n) le none =
    ⊎_elim
    (λ lt.
    ap (λ b. tried_below t v n + (if b then 1 else 0)) (none n (omega arith) (omega arith))
    ∙ (omega arith)
    ∙ tried_flat t v a n (omega arith) (λ y from to. none y from (omega arith)))
    (λ ge. let e : suc n ≡ a = omega arith in ap (tried_below t v) e)
    (cases_lt a (suc n))

-- equally many where the same are tried
pub tried_alike : (t : Shape) (v u : List ℕ) (a n : ℕ) → a ≤ n → ((y : ℕ) → a ≤ y → y < n → is_first_tried t v y ≡ is_first_tried t u y) → tried_below t v n + tried_below t u a ≡ tried_below t u n + tried_below t v a
tried_alike t v u a zero le same = let e : a ≡ 0 = omega arith in omega (arith, ap (tried_below t u) e, ap (tried_below t v) e)
tried_alike t v u a (suc n) le same =
    ⊎_elim
    (λ lt.
    let rest = tried_alike t v u a n (omega arith) (λ y from to. same y from (omega arith)) in
    let one = ap {B = ℕ} (λ b. if b then 1 else 0) (same n (omega arith) (omega arith)) in
    omega (arith, rest, one))
    (λ ge. let e : a ≡ suc n = omega arith in omega (arith, ap (tried_below t u) e, ap (tried_below t v) e))
    (cases_lt a (suc n))

-- more of the steps below a greater number
pub tried_more : (t : Shape) (v : List ℕ) (a n : ℕ) → a ≤ n → tried_below t v a ≤ tried_below t v n
tried_more t v a zero le = let e = ap (tried_below t v) (let z : a ≡ 0 = omega arith in z) in omega (arith, e)
tried_more t v a (suc n) le =
    ⊎_elim
    (λ lt. let rest = tried_more t v a n (omega arith) in omega (arith, rest))
    (λ ge. let e = ap (tried_below t v) (let z : a ≡ suc n = omega arith in z) in omega (arith, e))
    (cases_lt a (suc n))

-- none is tried up to the last step of a branch
pub none_early : (t : Shape) (w : List ℕ) (e y : ℕ) → Each IsRising t.paths → y ≤ e → is_first_tried t (w ++ e ∷ []) y ≡ false
none_early t w e y rise le =
    not_tried t (w ++ e ∷ []) y (λ is.
    let lt = mid w is.rest (subst (Each (λ x. x < y)) (is.is ∙ append_assoc w (e ∷ []) is.rest) (branch_below t y rise)) in
    omega arith)
  where
    mid : (v xs : List ℕ) → Each (λ x. x < y) (v ++ e ∷ xs) → e < y
    mid [] xs h = h.0
    mid (z ∷ v) xs h = mid v xs h.1

-- a step between e and where it falls back to stands behind e, if it stands behind the same steps
in_way : (t : Shape) (w : List ℕ) (e x y : ℕ) (rest : List ℕ) → IsOrderly t → goes_on_to t w e ≡ true → fallback_of t w e ≡ Some x → e < y → y < x → branch_to t y ≡ w ++ rest → (more : List ℕ) × (rest ≡ e ∷ more)
in_way t w e x y rest o on falls low high is = by_rest rest (ap (λ v. goes_on_to t v y) (sym is) ∙ o.covered y (let lt = on_within t (take far.keep w) x o far.way in omega arith))
  where
    far : FallsTo t w e x
    far = falls_to t w e x falls

    -- no step between them goes on from w
    none_between : (z : ℕ) → goes_on_to t w z ≡ true → e < z → z < x → ⊥
    none_between z on_z up lt =
        let le = far.nearest (length w) z (fixed_le t w) (omega arith) (ap (λ v. goes_on_to t v z) (take_whole w (length w) (omega arith)) ∙ on_z) up in
        omega arith

    by_rest : (rest : List ℕ) → goes_on_to t (w ++ rest) y ≡ true → (more : List ℕ) × (rest ≡ e ∷ more)
    by_rest [] on_y = absurd (none_between y (sym (ap (λ v. goes_on_to t v y) (append-nil w)) ∙ on_y) low high)
    by_rest (z ∷ more) on_y =
        let p = goes_along t (w ++ z ∷ more) y on_y in
        let on_z = goes_on t w z p.0 p.1 (onward_first w more p.0 z y p.2) in
        let up : z < y = mid_below w z more y (on_above t (w ++ z ∷ more) y o on_y) in
        ⊎_elim
        (λ lt. absurd (let under = below_later t w z (length w) e more y o on_z (omega arith) (ap (λ v. goes_on_to t v e) (take_whole w (length w) (omega arith)) ∙ on) lt on_y in omega arith))
        (λ ge. ⊎_elim (λ gt. absurd (none_between z on_z gt (omega arith))) (λ le. let same : z ≡ e = omega arith in (more, ap (λ n. n ∷ more) same)) (cases_lt e z))
        (cases_lt z e)

-- where e can be refused, it alone is tried before where it falls back to
pub tried_one : (t : Shape) (w : List ℕ) (e x : ℕ) → IsOrderly t → goes_on_to t w e ≡ true → fallback_of t w e ≡ Some x → can_be_refused (kind_of t e) ≡ true → tried_below t w x ≡ tried_below t w e + 1
tried_one t w e x o on falls may =
    tried_flat t w (suc e) x (let up = (falls_to t w e x falls).up in omega arith) none
    ∙ ap (λ b. tried_below t w e + (if b then 1 else 0)) (tried_from t w e (record { may = may; rest = []; is = branch_from t w e o.in_order o.rising on ∙ sym (append-nil w); none = refl }))
  where
    none : (y : ℕ) → suc e ≤ y → y < x → is_first_tried t w y ≡ false
    none y from to =
        not_tried t w y (λ is.
        let way = in_way t w e x y is.rest o on falls (omega arith) to is.is in
        let f : true ≡ false = sym (ap (λ b. b || any_tried t way.0) may) ∙ sym (ap (any_tried t) way.1) ∙ is.none in
        cc)

-- where e can't be refused, those behind it are tried
pub tried_through : (t : Shape) (w : List ℕ) (e x : ℕ) → IsOrderly t → goes_on_to t w e ≡ true → fallback_of t w e ≡ Some x → can_be_refused (kind_of t e) ≡ false → tried_below t w x ≡ tried_below t w e + tried_below t (w ++ e ∷ []) x
tried_through t w e x o on falls never =
    let u = w ++ e ∷ [] in
    let up = (falls_to t w e x falls).up in
    let alike = tried_alike t w u (suc e) x (omega arith) (λ y from to. same_tried t w u y (to_u y from to) (to_w y)) in
    let not_e = ap (λ b. tried_below t w e + (if b then 1 else 0)) (not_tried t w e (λ is. let may = is.may in let f : true ≡ false = sym may ∙ never in cc)) in
    let none = tried_flat t u 0 (suc e) (omega arith) (λ y from to. none_early t w e y o.rising (omega arith)) in
    omega (arith, alike, not_e, none)
  where
    to_u : (y : ℕ) → suc e ≤ y → y < x → IsTried t w y → IsTried t (w ++ e ∷ []) y
    to_u y from to is =
        let way = in_way t w e x y is.rest o on falls (omega arith) to is.is in
        record {
          may = is.may;
          rest = way.0;
          is = is.is ∙ ap (λ r. w ++ r) way.1 ∙ sym (append_assoc w (e ∷ []) way.0);
          none = sym (ap (λ b. b || any_tried t way.0) never) ∙ sym (ap (any_tried t) way.1) ∙ is.none;
        }

    to_w : (y : ℕ) → IsTried t (w ++ e ∷ []) y → IsTried t w y
    to_w y is = record {
      may = is.may;
      rest = e ∷ is.rest;
      is = is.is ∙ append_assoc w (e ∷ []) is.rest;
      none = ap (λ b. b || any_tried t is.rest) never ∙ is.none;
    }

-- one step further, which is tried or not
pub tried_yes : (t : Shape) (v : List ℕ) (n : ℕ) → is_first_tried t v n ≡ true → tried_below t v (n + 1) ≡ tried_below t v n + 1
tried_yes t v n is = ap (tried_below t v) (add-one n) ∙ ap (λ b. tried_below t v n + (if b then 1 else 0)) is

pub tried_no : (t : Shape) (v : List ℕ) (n : ℕ) → is_first_tried t v n ≡ false → tried_below t v (n + 1) ≡ tried_below t v n
tried_no t v n is = ap (tried_below t v) (add-one n) ∙ ap (λ b. tried_below t v n + (if b then 1 else 0)) is ∙ (omega arith)

-- one refusal more
pub one_refusal : (os : List Outcome) (n m : ℕ) → m ≡ n + 1 → (os ++ replicate n Refused) ++ Refused ∷ [] ≡ os ++ replicate m Refused
one_refusal os n m is =
    append_assoc os (replicate n Refused) (Refused ∷ [])
    ∙ ap (λ xs. os ++ xs) (replicate-append-replicate n 1 Refused ∙ ap (λ k. replicate k Refused) (sym is))

-- what each of a list has, each of the rest of it has
pub Each-drop : (H : ℕ → Type 0) (n : ℕ) (xs : List ℕ) → Each H xs → Each H (drop n xs)
Each-drop H zero xs h = h
Each-drop H (suc n) [] h = tt
Each-drop H (suc n) (x ∷ xs) h = Each-drop H n xs h.1
