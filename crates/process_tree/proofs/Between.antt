-- The steps of ways next to each other are an interval.
use Rattle.plain_list.proofs.Lasts.{last_cases}
use Rattle.std.proofs.Common.{◌≡◌, ◌⊎◌, inl, inr, ⊎_elim, subst, ℕ, ◌<◌, ◌≤◌, true, List, [], ◌∷◌, ◌++◌, length, refl, sym, ap, ◌∙◌, arith}
use Rattle.process_tree.specs.Order.{IsRising, PartsBelow, has, IsLaidOut}
use Rattle.process_tree.specs.Shape.{Shape, branch_to}
use Rattle.process_tree.specs.Laws.{IsInWay}
use Rattle.process_tree.proofs.Branches.{has_cases, Each-has, Among, Each-among, branch_is}
use Rattle.process_tree.proofs.Covered.{OnSomePath}
use Rattle.process_tree.proofs.Wholes.{paths_part}
use Rattle.process_tree.proofs.Intervals.{Begins, begins_from, begins_to, begins_trans, before_begins, begins_has, begins_low, in_between}

-- a beginning of the beginning
shorter : (v : List ℕ) (d : ℕ) (u : List ℕ) → Begins (v ++ d ∷ []) u → Begins v u
shorter [] d u b = tt
shorter (x ∷ v) d [] b = absurd b
shorter (x ∷ v) d (y ∷ u) b = (b.0, shorter v d u b.1)

-- one step more, where the list is longer
longer : (v u : List ℕ) → Begins v u → (u ≡ v → ⊥) → (f : ℕ) × Begins (v ++ f ∷ []) u
longer [] [] b more = absurd (more refl)
longer [] (y ∷ u) b more = (y, (refl, tt))
longer (x ∷ v) [] b more = absurd b
longer (x ∷ v) (y ∷ u) b more =
    let rest = longer v u b.1 (λ e. more (ap (λ w. y ∷ w) e ∙ ap (λ z. z ∷ v) (sym b.0))) in
    (rest.0, (b.0, rest.1))

-- the step behind is one
one_step : (v u : List ℕ) (d f : ℕ) → Begins (v ++ d ∷ []) u → Begins (v ++ f ∷ []) u → d ≡ f
one_step [] [] d f b c = absurd b
one_step [] (y ∷ u) d f b c = b.0 ∙ sym c.0
one_step (x ∷ v) [] d f b c = absurd b
one_step (x ∷ v) (y ∷ u) d f b c = one_step v u d f b.1 c.1

-- what stands before is less
last_low : (w p : List ℕ) (b d : ℕ) → IsRising p → Begins ((w ++ b ∷ []) ++ d ∷ []) p → b < d
last_low [] [] b d rise on = absurd on
last_low [] (y ∷ []) b d rise on = absurd on.1
last_low [] (y ∷ z ∷ p) b d rise on = let up : y < z = rise.0.0 in let e : b ≡ y = on.0 in let f : d ≡ z = on.1.0 in omega arith
last_low (x ∷ w) [] b d rise on = absurd on
last_low (x ∷ w) (y ∷ p) b d rise on = last_low w p b d rise.1 on.1

-- where a path parts below another behind v, its steps from there on are below the other's next
part_low : (v p q : List ℕ) (d f x : ℕ) → IsRising p → PartsBelow p q → Begins (v ++ d ∷ []) p → Begins (v ++ f ∷ []) q → has x p ≡ true → d ≤ x → (d ≡ f) ⊎ (x < f)
part_low v [] q d f x rise pq bp bq on le = absurd pq
part_low v (y ∷ p) [] d f x rise pq bp bq on le = absurd pq
part_low [] (y ∷ p) (z ∷ q) d f x rise pq bp bq on le =
    ⊎_elim
    (λ same. inl (bp.0 ∙ same.0 ∙ sym bq.0))
    (λ below. let lt : x < z = Each-has (λ w. w < z) (y ∷ p) x below on in let e : f ≡ z = bq.0 in inr (omega arith))
    pq
part_low (u ∷ v) (y ∷ p) (z ∷ q) d f x rise pq bp bq on le =
    let up : y < d = Each-has (λ w. y < w) p d rise.0 (begins_has v p d bp.1) in
    ⊎_elim
    (λ same. ⊎_elim
    (λ e. absurd (omega arith))
    (λ rest. part_low v p q d f x rise.1 same.1 bp.1 bq.1 rest.1 le)
    (has_cases x y p on))
    (λ below. let lt : y < z = below.0 in let a : u ≡ y = bp.0 in let b : u ≡ z = bq.0 in absurd (omega arith))
    pq

-- the steps of the ways from d to e behind v
pub between_ways : (t : Shape) (v : List ℕ) (d e first b last : ℕ) → IsLaidOut (length t.kinds) t.paths → OnSomePath first t.paths → OnSomePath b t.paths → OnSomePath last t.paths
    → IsInWay t v d first → IsInWay t v e last → first ≤ b → b ≤ last → (f : ℕ) × (d ≤ f) × (f ≤ e) × IsInWay t v f b
between_ways t v d e first b last laid on_p on_q on_r way_p way_r le ge =
    let next = longer v here behind_v not_v in
    let f = next.0 in
    let along = begins_trans (v ++ f ∷ []) here q next.1 (subst (λ w. Begins (w ++ b ∷ []) q) (sym (branch_is t b q laid.in_order laid.rising on_q.1 on_q.2)) (before_begins b q on_q.2)) in
    let f_low = begins_low v (branch_to t b) q f b rise_q (subst (λ w. Begins (w ++ b ∷ []) q) (sym (branch_is t b q laid.in_order laid.rising on_q.1 on_q.2)) (before_begins b q on_q.2)) next.1 in (
      f,
      ⊎_elim
          (λ same. let one : d ≡ f = one_step v q d f (subst (Begins (v ++ d ∷ [])) same begins_p) along in omega arith)
          (λ part. ⊎_elim
          (λ below. ⊎_elim (λ one. omega arith) (λ lt. omega (arith, lt, d_low)) (part_low v p q d f first rise_p below begins_p along on_p.2 d_low))
          (λ above. ⊎_elim (λ one. omega arith) (λ lt. absurd (omega (arith, lt, d_low, le))) (part_low v q p f d b rise_q above along begins_p on_q.2 f_low))
          part)
          (paths_part t.paths p q laid.in_order on_p.1 on_q.1),
      ⊎_elim
          (λ same. let one : e ≡ f = one_step v q e f (subst (Begins (v ++ e ∷ [])) (sym same) begins_r) along in omega arith)
          (λ part. ⊎_elim
          (λ below. ⊎_elim (λ one. omega arith) (λ lt. omega (arith, lt, f_low)) (part_low v q r f e b rise_q below along begins_r on_q.2 f_low))
          (λ above. ⊎_elim (λ one. omega arith) (λ lt. absurd (omega (arith, lt, f_low, ge))) (part_low v r q e f last rise_r above begins_r along on_r.2 e_low))
          part)
          (paths_part t.paths q r laid.in_order on_q.1 on_r.1),
      begins_to (v ++ f ∷ []) here next.1,
    )
  where
    p : List ℕ
    p = on_p.0

    q : List ℕ
    q = on_q.0

    r : List ℕ
    r = on_r.0

    rise_p : IsRising p
    rise_p = Each-among IsRising t.paths p laid.rising on_p.1

    rise_q : IsRising q
    rise_q = Each-among IsRising t.paths q laid.rising on_q.1

    rise_r : IsRising r
    rise_r = Each-among IsRising t.paths r laid.rising on_r.1

    here : List ℕ
    here = branch_to t b ++ b ∷ []

    along_branch : (s : List ℕ) (x : ℕ) → Among s t.paths → has x s ≡ true → Begins (branch_to t x ++ x ∷ []) s
    along_branch s x among on = subst (λ w. Begins (w ++ x ∷ []) s) (sym (branch_is t x s laid.in_order laid.rising among on)) (before_begins x s on)

    begins_p : Begins (v ++ d ∷ []) p
    begins_p = begins_trans (v ++ d ∷ []) (branch_to t first ++ first ∷ []) p (begins_from (v ++ d ∷ []) (branch_to t first ++ first ∷ []) way_p) (along_branch p first on_p.1 on_p.2)

    begins_r : Begins (v ++ e ∷ []) r
    begins_r = begins_trans (v ++ e ∷ []) (branch_to t last ++ last ∷ []) r (begins_from (v ++ e ∷ []) (branch_to t last ++ last ∷ []) way_r) (along_branch r last on_r.1 on_r.2)

    d_low : d ≤ first
    d_low = begins_low v (branch_to t first) p d first rise_p (along_branch p first on_p.1 on_p.2) (begins_from (v ++ d ∷ []) (branch_to t first ++ first ∷ []) way_p)

    e_low : e ≤ last
    e_low = begins_low v (branch_to t last) r e last rise_r (along_branch r last on_r.1 on_r.2) (begins_from (v ++ e ∷ []) (branch_to t last ++ last ∷ []) way_r)

    -- b is behind v
    behind_v : Begins v here
    behind_v =
        ⊎_elim
        (λ none. subst (λ w. Begins w here) (sym none) tt)
        (λ more.
        let in_first : IsInWay t more.0 more.1 first = begins_to (more.0 ++ more.1 ∷ []) (branch_to t first ++ first ∷ [])
        (subst (λ w. Begins w (branch_to t first ++ first ∷ [])) more.2 (shorter v d (branch_to t first ++ first ∷ []) (begins_from (v ++ d ∷ []) (branch_to t first ++ first ∷ []) way_p))) in
        let in_last : IsInWay t more.0 more.1 last = begins_to (more.0 ++ more.1 ∷ []) (branch_to t last ++ last ∷ [])
        (subst (λ w. Begins w (branch_to t last ++ last ∷ [])) more.2 (shorter v e (branch_to t last ++ last ∷ []) (begins_from (v ++ e ∷ []) (branch_to t last ++ last ∷ []) way_r))) in
        let way = in_between t more.0 more.1 first b last laid on_p on_q on_r in_first in_last le ge in
        subst (λ w. Begins w here) (sym more.2) (begins_from (more.0 ++ more.1 ∷ []) here way))
        (last_cases v)

    -- and not its last
    not_v : here ≡ v → ⊥
    not_v e =
        let low : b < d = last_low (branch_to t b) p b d rise_p (subst (λ w. Begins (w ++ d ∷ []) p) (sym e) begins_p) in
        absurd (omega (arith, low, d_low, le))
