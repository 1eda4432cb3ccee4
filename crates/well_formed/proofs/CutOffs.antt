-- Nothing falls back to a step that is cut off.
use Rattle.std.proofs.Common.{◌≡◌, ⊎_elim, subst, ℕ, ◌+◌, ◌<◌, ◌≤◌, true, false, List, [], ◌∷◌, ◌++◌, length, take, Option, Some, None, refl, sym, ap, ◌∙◌, arith, append_assoc, append-nil, length-append, if◌then◌else◌, drop}
use Rattle.std.proofs.lemmas.Bool.{cases_lt}
use Rattle.std.proofs.lemmas.List.{length-take-le, take-append-drop}
use Rattle.process_tree.specs.declared.step.StepKind.{StepKind}
use Rattle.process_tree.specs.declared.step.StepKind.TheVariants.{C, P, R, Cr}
use Rattle.process_tree.specs.Order.{has}
use Rattle.process_tree.specs.Shape.{Shape, kind_of, can_be_refused, commits_by_kind, commits_after, next_steps, goes_on_to, greatest, fixed_len, last_after}
use Rattle.process_tree.specs.Play.{asks}
use Rattle.process_tree.specs.Recovery.{forward}
use Rattle.process_tree.specs.Termination.{IsFallenTo}
use Rattle.process_tree.proofs.Fixed.{fixed_more, fixed_stays, take_whole, take_front}
use Rattle.process_tree.proofs.InTurn.{last_step}
use Rattle.process_tree.proofs.Onward.{onward_first, goes_along, goes_on, branch_from}
use Rattle.well_formed.specs.Flaws.{IsOrderly, way_before, is_sure_by, is_sure, is_way_sure, is_cut_off}
use Rattle.well_formed.proofs.Below.{below, has_below, below_has, greatest_is, greatest_none}
use Rattle.well_formed.proofs.Falls.{FallsTo, falls_to, below_later}
use Rattle.well_formed.proofs.Reach.{before_is}
use Rattle.well_formed.proofs.Standing.{IsStand, stands, on_above, mid_below}

-- what stands up to a commit point is fixed
commit_fixed : (t : Shape) (v : List ℕ) (s : ℕ) (more : List ℕ) → commits_after t v s ≡ true → length v + 1 ≤ fixed_len t (v ++ s ∷ more)
commit_fixed t v s more is =
    let here = fixed_more t v s ∙ ap (λ c. if c then length v + 1 else fixed_len t v) is in
    let stays = fixed_stays t (v ++ s ∷ []) more in
    let whole = ap (fixed_len t) (append_assoc v (s ∷ []) more) in
    omega (arith, here, stays, whole)

-- play falls back from b to d, which goes on from a beginning of v
pub record FallsPast (t : Shape) (v : List ℕ) (b d : ℕ) : Type 0 where
  pub up : b < d
  pub keep : ℕ
  pub within : keep ≤ length v
  pub way : goes_on_to t (take keep v) d ≡ true

-- the greatest step below d that goes on from v
pub record IsMost (t : Shape) (v : List ℕ) (d g : ℕ) : Type 0 where
  pub on : goes_on_to t v g ≡ true
  pub under : g < d
  pub most : (n : ℕ) → goes_on_to t v n ≡ true → n < d → n ≤ g

-- the first of these steps, or b behind them
abbrev OnFirst : Shape → List ℕ → List ℕ → ℕ → Type 0
OnFirst t v [] b = goes_on_to t v b ≡ true
OnFirst t v (s ∷ u) b = goes_on_to t v s ≡ true

-- it goes on from v
first_on : (t : Shape) (v u : List ℕ) (b : ℕ) → goes_on_to t (v ++ u) b ≡ true → OnFirst t v u b
first_on t v [] b on = ap (λ w. goes_on_to t w b) (sym (append-nil v)) ∙ on
first_on t v (s ∷ u) b on = let p = goes_along t (v ++ s ∷ u) b on in goes_on t v s p.0 p.1 (onward_first v u p.0 s b p.2)

-- so something goes on from v
some_on : (t : Shape) (v u : List ℕ) (b : ℕ) → goes_on_to t (v ++ u) b ≡ true → next_steps t v ≡ [] → ⊥
some_on t v [] b on none = let h : has b [] ≡ true = sym (ap (has b) none) ∙ first_on t v [] b on in cc
some_on t v (s ∷ u) b on none = let h : has s [] ≡ true = sym (ap (has s) none) ∙ first_on t v (s ∷ u) b on in cc

-- along last alternatives from v to b, no way is sure that falls back to d
no_sure : (u : List ℕ) (t : Shape) (v : List ℕ) (b d g : ℕ) → IsOrderly t → goes_on_to t (v ++ u) b ≡ true → can_be_refused (kind_of t b) ≡ true → fixed_len t (v ++ u) ≤ length v
    → ((j e : ℕ) → length v ≤ j → j ≤ length (v ++ u) → goes_on_to t (take j (v ++ u)) e ≡ true → b < e → d ≤ e)
    → FallsPast t v b d → IsMost t v d g → is_sure t.kinds (g ∷ last_after t (v ++ g ∷ [])) ≡ true → ⊥
no_sure [] t v b d g o on may fixed nearest past most sure =
    let whole = append-nil v in
    let on_b : goes_on_to t v b ≡ true = ap (λ w. goes_on_to t w b) (sym whole) ∙ on in
    let le = most.most b on_b past.up in
    ⊎_elim
    (λ lt. let far = nearest (length v) g (omega arith) (omega (arith, ap length whole)) (ap (λ w. goes_on_to t w g) (ap (take (length v)) whole ∙ take_whole v (length v) (omega arith)) ∙ most.on) lt in let under = most.under in omega arith)
    (λ ge.
    let same : b ≡ g = omega arith in
    not_sure (kind_of t g) (is_sure t.kinds (last_after t (v ++ g ∷ []))) (ap (λ s. can_be_refused (kind_of t s)) (sym same) ∙ may) sure)
    (cases_lt b g)
  where
    not_sure : (k : StepKind) (rest : _) → can_be_refused k ≡ true → is_sure_by k rest ≡ true → ⊥
    not_sure C rest may is = cc
    not_sure P rest may is = cc
    not_sure R rest may is = cc
    not_sure Cr rest may is = cc
no_sure (s ∷ u) t v b d g o on may fixed nearest past most sure =
    ⊎_elim
    (λ lt.
    let high = below_later t v s (length v) g u b o on_s (omega arith) (ap (λ w. goes_on_to t w g) (take_whole v (length v) (omega arith)) ∙ most.on) lt on in
    let far = nearest (length v) g (omega arith) (omega (arith, long)) (ap (λ w. goes_on_to t w g) (take_front (length v) v (s ∷ u) (omega arith) ∙ take_whole v (length v) (omega arith)) ∙ most.on) high in
    let under = most.under in
    omega arith)
    (λ ge. let same : g ≡ s = omega (arith, le) in by_kind (kind_of t s) refl (ap (λ x. is_sure t.kinds (x ∷ last_after t (v ++ x ∷ []))) (sym same) ∙ sure) (λ f on_f most_f sure_f. no_sure u t (v ++ s ∷ []) b d f o on' may fixed' nearest' past' (record { on = on_f; under = below_d f on_f; most = λ n on_n lt. most_f n on_n }) sure_f))
    (cases_lt s g)
  where
    long : length (v ++ s ∷ u) ≡ length v + length (s ∷ u)
    long = length-append v (s ∷ u)

    more : length (v ++ s ∷ []) ≡ length v + 1
    more = length-append v (s ∷ [])

    assoc : (v ++ s ∷ []) ++ u ≡ v ++ s ∷ u
    assoc = append_assoc v (s ∷ []) u

    on_s : goes_on_to t v s ≡ true
    on_s = (first_on t v (s ∷ u) b on)

    up : s < b
    up = mid_below v s u b (on_above t (v ++ s ∷ u) b o on)

    le : s ≤ g
    le = most.most s on_s (let lt = past.up in omega (arith, up))

    on' : goes_on_to t ((v ++ s ∷ []) ++ u) b ≡ true
    on' = ap (λ w. goes_on_to t w b) assoc ∙ on

    fixed' : fixed_len t ((v ++ s ∷ []) ++ u) ≤ length (v ++ s ∷ [])
    fixed' = omega (arith, fixed, more, ap (fixed_len t) assoc)

    nearest' : (j e : ℕ) → length (v ++ s ∷ []) ≤ j → j ≤ length ((v ++ s ∷ []) ++ u) → goes_on_to t (take j ((v ++ s ∷ []) ++ u)) e ≡ true → b < e → d ≤ e
    nearest' j e from to goes lt = nearest j e (omega (arith, more)) (omega (arith, ap length assoc)) (sym (ap (λ w. goes_on_to t (take j w) e) assoc) ∙ goes) lt

    past' : FallsPast t (v ++ s ∷ []) b d
    past' = record {
      up = past.up;
      keep = past.keep;
      within = omega (arith, more, past.within);
      way = ap (λ w. goes_on_to t w d) (take_front past.keep v (s ∷ []) past.within) ∙ past.way;
    }

    below_d : (f : ℕ) → goes_on_to t (v ++ s ∷ []) f ≡ true → f < d
    below_d f on_f = below_later t v s past.keep d [] f o on_s past.within past.way (omega (arith, up, past.up)) on_f

    commits : commits_by_kind (kind_of t s) (has s (forward t v)) ≡ true → ⊥
    commits is = omega (arith, commit_fixed t v s u is, fixed)

    by_kind : (k : StepKind) → kind_of t s ≡ k → is_sure t.kinds (s ∷ last_after t (v ++ s ∷ [])) ≡ true
        → ((f : ℕ) → goes_on_to t (v ++ s ∷ []) f ≡ true → ((n : ℕ) → goes_on_to t (v ++ s ∷ []) n ≡ true → n ≤ f) → is_sure t.kinds (f ∷ last_after t ((v ++ s ∷ []) ++ f ∷ [])) ≡ true → ⊥) → ⊥
    by_kind C is sure_s rest = let f : false ≡ true = sym (ap (λ k. is_sure_by k (is_sure t.kinds (last_after t (v ++ s ∷ [])))) is) ∙ sure_s in cc
    by_kind P is sure_s rest = commits (ap (λ k. commits_by_kind k (has s (forward t v))) is)
    by_kind R is sure_s rest = commits (ap (λ k. commits_by_kind k (has s (forward t v))) is)
    by_kind Cr is sure_s rest = by_next (greatest (next_steps t (v ++ s ∷ []))) refl
      where
        behind : is_sure t.kinds (last_after t (v ++ s ∷ [])) ≡ true
        behind = sym (ap (λ k. is_sure_by k (is_sure t.kinds (last_after t (v ++ s ∷ [])))) is) ∙ sure_s

        by_next : (o : Option ℕ) → greatest (next_steps t (v ++ s ∷ [])) ≡ o → ⊥
        by_next None none = some_on t (v ++ s ∷ []) u b on' (greatest_none (next_steps t (v ++ s ∷ [])) none)
        by_next (Some f) some =
            let found = greatest_is (next_steps t (v ++ s ∷ [])) f some in
            rest f found.0 found.1 (sym (ap (is_sure t.kinds) (last_step t (length t.kinds) (v ++ s ∷ []) f o.rising o.within some)) ∙ behind)

-- nothing falls back to what is cut off
pub never_fallen_to : (t : Shape) (d : ℕ) → IsOrderly t → is_cut_off t d ≡ true → IsFallenTo t d → ⊥
never_fallen_to t d o cut h = by_before (greatest (below d (next_steps t v))) refl
  where
    w : List ℕ
    w = h.1

    b : ℕ
    b = h.2

    at : IsStand t (asks w b)
    at = subst (IsStand t) h.3 (stands t h.0 o)

    far : FallsTo t w b d
    far = falls_to t w b d h.4

    v : List ℕ
    v = take far.keep w

    count : length v ≡ far.keep
    count = length-take-le far.keep w far.within

    whole : v ++ drop far.keep w ≡ w
    whole = take-append-drop far.keep w

    by_before : (g : Option ℕ) → greatest (below d (next_steps t v)) ≡ g → ⊥
    by_before g is = by_way g is sure
      where
        sure : is_way_sure t v g ≡ true
        sure =
            sym (ap (is_way_sure t v) (before_is t v d o.in_order o.rising far.way ∙ is))
            ∙ sym (ap (λ u. is_way_sure t u (way_before t d)) (branch_from t v d o.in_order o.rising far.way))
            ∙ cut

        by_way : (g : Option ℕ) → greatest (below d (next_steps t v)) ≡ g → is_way_sure t v g ≡ true → ⊥
        by_way None is sure = cc
        by_way (Some e) is sure =
            let found = greatest_is (below d (next_steps t v)) e is in
            let under = has_below d e (next_steps t v) found.0 in
            no_sure (drop far.keep w) t v b d e o (ap (λ u. goes_on_to t u b) whole ∙ at.0) at.1 (omega (arith, count, far.fixed, ap (fixed_len t) whole))
            (λ j x from to goes lt. far.nearest j x (omega (arith, count, far.fixed)) (omega (arith, ap length whole)) (sym (ap (λ u. goes_on_to t (take j u) x) whole) ∙ goes) lt)
            (record { up = far.up; keep = far.keep; within = omega (arith, count); way = ap (λ u. goes_on_to t u d) (take_whole v far.keep (omega (arith, count))) ∙ far.way })
            (record { on = under.0; under = under.1; most = λ n on lt. found.1 n (below_has d n (next_steps t v) on lt) })
            sure
