-- The steps of an alternative are an interval.
use Rattle.std.proofs.Common.{◌≡◌, ⊎_elim, subst, ℕ, ◌<◌, ◌≤◌, true, List, [], ◌∷◌, ◌++◌, length, take, refl, sym, ap, ◌∙◌, arith, nat_eq}
use Rattle.std.proofs.lemmas.Slice.Eq.{bytes_eq-Decides}
use Rattle.std.specs.List.{starts_with}
use Rattle.process_tree.specs.Order.{IsRising, PartsBelow, has, IsLaidOut}
use Rattle.process_tree.specs.Shape.{Shape, branch_to, steps_before}
use Rattle.process_tree.specs.Laws.{IsInWay}
use Rattle.process_tree.proofs.Branches.{has_cases, has_here, has_there, Each-has, Among, Each-among, before_here, before_there, branch_is}
use Rattle.process_tree.proofs.Covered.{OnSomePath}
use Rattle.process_tree.proofs.Wholes.{paths_part}

-- u is the beginning of p
abbrev pub Begins : List ℕ → List ℕ → Type 0
Begins [] p = Unit
Begins (x ∷ u) [] = ⊥
Begins (x ∷ u) (y ∷ p) = (x ≡ y) × Begins u p

begins_take : (u p : List ℕ) → u ≡ take (length u) p → Begins u p
begins_take [] p e = tt
begins_take (x ∷ u) [] e = cc
begins_take (x ∷ u) (y ∷ p) e =
    let first : x ≡ y = cc in
    let rest : u ≡ take (length u) p = cc in
    (first, begins_take u p rest)

take_begins : (u p : List ℕ) → Begins u p → u ≡ take (length u) p
take_begins [] p b = refl
take_begins (x ∷ u) [] b = absurd b
take_begins (x ∷ u) (y ∷ p) b = ap (λ z. z ∷ u) b.0 ∙ ap (λ zs. y ∷ zs) (take_begins u p b.1)

-- the same as a test
pub begins_from : (u p : List ℕ) → starts_with nat_eq p u ≡ true → Begins u p
begins_from u p e = begins_take u p ((bytes_eq-Decides u (take (length u) p)).0 e)

pub begins_to : (u p : List ℕ) → Begins u p → starts_with nat_eq p u ≡ true
begins_to u p b = (bytes_eq-Decides u (take (length u) p)).1 (take_begins u p b)

pub begins_trans : (u v p : List ℕ) → Begins u v → Begins v p → Begins u p
begins_trans [] v p b c = tt
begins_trans (x ∷ u) [] p b c = absurd b
begins_trans (x ∷ u) (y ∷ v) [] b c = absurd c
begins_trans (x ∷ u) (y ∷ v) (z ∷ p) b c = (b.0 ∙ c.0, begins_trans u v p b.1 c.1)

-- a step of a path, with those before it, begins the path
pub before_begins : (b : ℕ) (p : List ℕ) → has b p ≡ true → Begins (steps_before b p ++ b ∷ []) p
before_begins b [] on = absurd (cc)
before_begins b (x ∷ p) on =
    ⊎_elim
    (λ e. subst (λ w. Begins (w ++ b ∷ []) (x ∷ p)) (sym (before_here b x p e)) (e, tt))
    (λ rest. subst (λ w. Begins (w ++ b ∷ []) (x ∷ p)) (sym (before_there b x p rest.0)) (refl, before_begins b p rest.1))
    (has_cases b x p on)

-- the last of a beginning is on the path
pub begins_has : (v p : List ℕ) (d : ℕ) → Begins (v ++ d ∷ []) p → has d p ≡ true
begins_has [] [] d b = absurd b
begins_has [] (y ∷ p) d b = has_here d y p b.0
begins_has (x ∷ v) [] d b = absurd b
begins_has (x ∷ v) (y ∷ p) d b = has_there d y p (begins_has v p d b.1)

-- and below what stands behind it
pub begins_low : (v w p : List ℕ) (d b : ℕ) → IsRising p → Begins (w ++ b ∷ []) p → Begins (v ++ d ∷ []) (w ++ b ∷ []) → d ≤ b
begins_low [] [] p d b rise on in_way = let e : d ≡ b = in_way.0 in omega arith
begins_low [] (y ∷ w) [] d b rise on in_way = absurd on
begins_low [] (y ∷ w) (z ∷ p) d b rise on in_way =
    let up : z < b = Each-has (λ x. z < x) p b rise.0 (begins_has w p b on.1) in
    let e : d ≡ y = in_way.0 in
    let f : y ≡ z = on.0 in
    omega arith
begins_low (x ∷ []) [] p d b rise on in_way = absurd in_way.1
begins_low (x ∷ x' ∷ v) [] p d b rise on in_way = absurd in_way.1
begins_low (x ∷ v) (y ∷ w) [] d b rise on in_way = absurd on
begins_low (x ∷ v) (y ∷ w) (z ∷ p) d b rise on in_way = begins_low v w p d b rise.1 on.1 in_way.1

-- a later step of the path is in the way
pub later_in_way : (v p : List ℕ) (d c : ℕ) → IsRising p → Begins (v ++ d ∷ []) p → has c p ≡ true → d ≤ c → Begins (v ++ d ∷ []) (steps_before c p ++ c ∷ [])
later_in_way [] [] d c rise b on le = absurd b
later_in_way [] (y ∷ p) d c rise b on le =
    ⊎_elim
    (λ e. subst (λ w. Begins (d ∷ []) (w ++ c ∷ [])) (sym (before_here c y p e)) (b.0 ∙ sym e, tt))
    (λ rest. subst (λ w. Begins (d ∷ []) (w ++ c ∷ [])) (sym (before_there c y p rest.0)) (b.0, tt))
    (has_cases c y p on)
later_in_way (x ∷ v) [] d c rise b on le = absurd b
later_in_way (x ∷ v) (y ∷ p) d c rise b on le =
    let up : y < d = Each-has (λ z. y < z) p d rise.0 (begins_has v p d b.1) in
    ⊎_elim
    (λ e. absurd (omega arith))
    (λ rest. subst (λ w. Begins (x ∷ v ++ d ∷ []) (w ++ c ∷ [])) (sym (before_there c y p rest.0)) (b.0, later_in_way v p d c rise.1 b.1 rest.1 le))
    (has_cases c y p on)

-- a path between two that begin alike begins so too
between : (u p q r : List ℕ) → PartsBelow p q → PartsBelow q r → Begins u p → Begins u r → Begins u q
between [] p q r pq qr bp br = tt
between (x ∷ u) [] q r pq qr bp br = absurd bp
between (x ∷ u) (y ∷ p) [] r pq qr bp br = absurd pq
between (x ∷ u) (y ∷ p) (z ∷ q) [] pq qr bp br = absurd qr
between (x ∷ u) (y ∷ p) (z ∷ q) (w ∷ r) pq qr bp br =
    ⊎_elim
    (λ same. ⊎_elim
    (λ also. (bp.0 ∙ same.0, between u p q r same.1 also.1 bp.1 br.1))
    (λ below. let lt : z < w = below.0 in let a : x ≡ y = bp.0 in let b : x ≡ w = br.0 in let e : y ≡ z = same.0 in absurd (omega arith))
    qr)
    (λ below. ⊎_elim
    (λ also. let lt : y < z = below.0 in let a : x ≡ y = bp.0 in let b : x ≡ w = br.0 in let e : z ≡ w = also.0 in absurd (omega arith))
    (λ too. let lt : y < z = below.0 in let gt : z < w = too.0 in let a : x ≡ y = bp.0 in let b : x ≡ w = br.0 in absurd (omega arith))
    qr)
    pq

-- so does a path below one of them with a step that isn't below d
begins_below : (v p q : List ℕ) (d c : ℕ) → IsRising p → PartsBelow q p → Begins (v ++ d ∷ []) p → has c q ≡ true → d ≤ c → Begins (v ++ d ∷ []) q
begins_below v [] [] d c rise qp b on le = absurd qp
begins_below v (y ∷ p) [] d c rise qp b on le = absurd qp
begins_below v [] (z ∷ q) d c rise qp b on le = absurd qp
begins_below [] (y ∷ p) (z ∷ q) d c rise qp b on le =
    ⊎_elim
    (λ same. (b.0 ∙ sym same.0, tt))
    (λ below. let lt : c < y = Each-has (λ w. w < y) (z ∷ q) c below on in let e : d ≡ y = b.0 in absurd (omega arith))
    qp
begins_below (x ∷ v) (y ∷ p) (z ∷ q) d c rise qp b on le =
    let up : y < d = Each-has (λ w. y < w) p d rise.0 (begins_has v p d b.1) in
    ⊎_elim
    (λ same. ⊎_elim
    (λ e. let f : z ≡ y = same.0 in absurd (omega arith))
    (λ rest. (b.0 ∙ sym same.0, begins_below v p q d c rise.1 same.1 b.1 rest.1 le))
    (has_cases c z q on))
    (λ below. let lt : c < y = Each-has (λ w. w < y) (z ∷ q) c below on in absurd (omega arith))
    qp

-- and one above the other with a step that isn't above the last
begins_above : (v r q : List ℕ) (d c e : ℕ) → IsRising r → IsRising q → PartsBelow r q → Begins (v ++ d ∷ []) r → has e r ≡ true → has c q ≡ true → d ≤ c → c ≤ e → Begins (v ++ d ∷ []) q
begins_above v [] q d c e rise rise' rq b one on le ge = absurd rq
begins_above v (y ∷ r) [] d c e rise rise' rq b one on le ge = absurd rq
begins_above [] (y ∷ r) (z ∷ q) d c e rise rise' rq b one on le ge =
    ⊎_elim
    (λ same. (b.0 ∙ same.0, tt))
    (λ below.
    let lt : e < z = Each-has (λ w. w < z) (y ∷ r) e below one in
    absurd (⊎_elim (λ f. omega arith) (λ rest. let up : z < c = Each-has (λ w. z < w) q c rise'.0 rest.1 in omega arith) (has_cases c z q on)))
    rq
begins_above (x ∷ v) (y ∷ r) (z ∷ q) d c e rise rise' rq b one on le ge =
    let up : y < d = Each-has (λ w. y < w) r d rise.0 (begins_has v r d b.1) in
    ⊎_elim
    (λ same.
    let there : has e r ≡ true = ⊎_elim (λ f. absurd (omega arith)) (λ rest. rest.1) (has_cases e y r one) in
    ⊎_elim
    (λ f. let g : y ≡ z = same.0 in absurd (omega arith))
    (λ rest. (b.0 ∙ same.0, begins_above v r q d c e rise.1 rise'.1 same.1 b.1 there rest.1 le ge))
    (has_cases c z q on))
    (λ below.
    let lt : e < z = Each-has (λ w. w < z) (y ∷ r) e below one in
    absurd (⊎_elim (λ f. omega arith) (λ rest. let high : z < c = Each-has (λ w. z < w) q c rise'.0 rest.1 in omega arith) (has_cases c z q on)))
    rq

-- a step between two of an alternative is one of it
pub in_between : (t : Shape) (v : List ℕ) (d first b last : ℕ) → IsLaidOut (length t.kinds) t.paths → OnSomePath first t.paths → OnSomePath b t.paths → OnSomePath last t.paths → IsInWay t v d first → IsInWay t v d last → first ≤ b → b ≤ last → IsInWay t v d b
in_between t v d first b last laid on_p on_q on_r way_p way_r le ge =
    let p = on_p.0 in
    let q = on_q.0 in
    let r = on_r.0 in
    let rise_p = Each-among IsRising t.paths p laid.rising on_p.1 in
    let rise_q = Each-among IsRising t.paths q laid.rising on_q.1 in
    let rise_r = Each-among IsRising t.paths r laid.rising on_r.1 in
    let begins_p = begins_along p first on_p.1 on_p.2 way_p in
    let begins_r = begins_along r last on_r.1 on_r.2 way_r in
    let low = begins_low v (steps_before first p) p d first rise_p (before_begins first p on_p.2) (in_way p first on_p.1 on_p.2 way_p) in
    let begins_q : Begins (v ++ d ∷ []) q =
    ⊎_elim
    (λ same. subst (Begins (v ++ d ∷ [])) same begins_p)
    (λ part. ⊎_elim
    (λ below. ⊎_elim
    (λ same. subst (Begins (v ++ d ∷ [])) (sym same) begins_r)
    (λ part'. ⊎_elim
    (λ below'. between (v ++ d ∷ []) p q r below below' begins_p begins_r)
    (λ above. begins_above v r q d b last rise_r rise_q above begins_r on_r.2 on_q.2 (omega arith) ge)
    part')
    (paths_part t.paths q r laid.in_order on_q.1 on_r.1))
    (λ above. begins_below v p q d b rise_p above begins_p on_q.2 (omega arith))
    part)
    (paths_part t.paths p q laid.in_order on_p.1 on_q.1) in
    let way = later_in_way v q d b rise_q begins_q on_q.2 (omega arith) in
    begins_to (v ++ d ∷ []) (branch_to t b ++ b ∷ []) (subst (λ w. Begins (v ++ d ∷ []) (w ++ b ∷ [])) (sym (branch_is t b q laid.in_order laid.rising on_q.1 on_q.2)) way)
  where
    in_way : (p : List ℕ) (x : ℕ) → Among p t.paths → has x p ≡ true → IsInWay t v d x → Begins (v ++ d ∷ []) (steps_before x p ++ x ∷ [])
    in_way p x inp on way =
        subst (λ w. Begins (v ++ d ∷ []) (w ++ x ∷ [])) (branch_is t x p laid.in_order laid.rising inp on) (begins_from (v ++ d ∷ []) (branch_to t x ++ x ∷ []) way)

    begins_along : (p : List ℕ) (x : ℕ) → Among p t.paths → has x p ≡ true → IsInWay t v d x → Begins (v ++ d ∷ []) p
    begins_along p x inp on way =
        begins_trans (v ++ d ∷ []) (steps_before x p ++ x ∷ []) p
        (subst (λ w. Begins (v ++ d ∷ []) (w ++ x ∷ [])) (branch_is t x p laid.in_order laid.rising inp on) (begins_from (v ++ d ∷ []) (branch_to t x ++ x ∷ []) way))
        (before_begins x p on)
