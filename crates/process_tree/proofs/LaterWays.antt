-- That later ways are the first steps of alternatives other than the first.
use Rattle.std.proofs.Common.{◌≡◌, ◌⊎◌, ⊎_elim, inl, inr, subst, ℕ, zero, suc, ◌+◌, ◌-◌, ◌<◌, ◌≤◌, Bool, true, false, List, [], ◌∷◌, ◌++◌, length, map, None, refl, sym, ap, ◌∙◌, arith, length-append, append_assoc, append-nil, nat_lt, filter, cond, ◌||◌}
use Rattle.std.specs.List.{list_any}
use Rattle.std.proofs.lemmas.Bool.{cases_lt, cases_eq, or_left, or_right, lt-ltb, ltb-true, ltb-false, and_parts, and_from}
use Rattle.std.proofs.lemmas.List.Folds.{list_any-append}
use Rattle.process_tree.specs.declared.step.Step.{Step}
use Rattle.process_tree.specs.declared.block.Block.{Block}
use Rattle.process_tree.specs.declared.block.Tail.{Tail, End, Choice', Row_of-Block, end_of-Block, more_of-Block}
use Rattle.process_tree.specs.Blocks.{Outline, numbers_from, all_steps, first_odd, outline, outline_of, outlines_of}
use Rattle.process_tree.specs.Making.{tree_fault}
use Rattle.process_tree.specs.Order.{Each, IsRising, has, IsLaidOut}
use Rattle.process_tree.specs.Shape.{Shape, shape_of, goes_on_to, branch_to, next_steps, steps_before}
use Rattle.process_tree.specs.Termination.{is_later_way, ways_before, once}
use Rattle.process_tree.specs.Paths.{paths_from}
use Rattle.process_tree.specs.Alternatives.{Alternative, alternatives_from, choices_of, choices_in, choices, IsOf, later_firsts, begins_later, LaterWaysAreLaterAlternatives}
use Rattle.process_tree.proofs.Branches.{Among, Each-among, Each-has, has_here, has_there, has_cases, before_here, before_there, branch_is}
use Rattle.process_tree.proofs.Covered.{among_left, among_right, row_covered, not_odd, none_first}
use Rattle.process_tree.proofs.LaidOut.{row_laid_out, or_first, or_second}
use Rattle.process_tree.proofs.PathsOf.{paths_from_all, paths_from-at_choice, paths_from-end, paths_from-none}
use Rattle.process_tree.proofs.Numbers.{has_right, has_left, numbers_has}
use Rattle.process_tree.proofs.Onward.{onward_above, onward_has, goes_along, branch_from}
use Rattle.process_tree.proofs.InTurn.{kinds_count}
use Rattle.process_tree.proofs.Trees.{none_odd, not_empty}
use Rattle.process_tree.proofs.Reached.{has_once, nonempty}
use Rattle.process_tree.proofs.Alternatives.{Stands, alternatives_stand, Neighbours, ChoiceStands, of_ways, laid_shape, tree_stands}

-- the steps before one of the second part of a rising list
before_append : (b : ℕ) (v p : List ℕ) → IsRising (v ++ p) → has b p ≡ true → steps_before b (v ++ p) ≡ v ++ steps_before b p
before_append b [] p rise on = refl
before_append b (x ∷ v) p rise on =
    let up : x < b = Each-has (λ y. x < y) (v ++ p) b rise.0 (has_right b v p on) in
    before_there b x (v ++ p) (λ e. omega arith) ∙ ap (λ xs. x ∷ xs) (before_append b v p rise.1 on)

Each-before : (P : ℕ → Type 0) (b : ℕ) (p : List ℕ) → Each P p → Each P (steps_before b p)
Each-before P b [] each = tt
Each-before P b (x ∷ p) each =
    ⊎_elim
    (λ e. subst (λ w. Each P w) (sym (before_here b x p e)) tt)
    (λ n. subst (λ w. Each P w) (sym (before_there b x p n)) (each.0, Each-before P b p each.1))
    (cases_eq b x)

-- among numbers in a row, as many stand before one as its distance from the first
before_numbers : (b n k : ℕ) (r : List ℕ) → n ≤ b → b < n + k → length (steps_before b (numbers_from n k ++ r)) ≡ b - n
before_numbers b n zero r low high = absurd (omega arith)
before_numbers b n (suc k) r low high =
    ⊎_elim
    (λ e. ap length (before_here b n (numbers_from (n + 1) k ++ r) e) ∙ (let same : b ≡ n = e in omega arith))
    (λ other.
    let le : n + 1 ≤ b = ⊎_elim (λ lt. omega arith) (λ ge. let same : b ≡ n = omega arith in absurd (other same)) (cases_lt n b) in
    let rest = before_numbers b (n + 1) k r le (omega arith) in
    ap length (before_there b n (numbers_from (n + 1) k ++ r) other) ∙ (omega (arith, rest)))
    (cases_eq b n)

length-numbers : (n k : ℕ) → length (numbers_from n k) ≡ k
length-numbers n zero = refl
length-numbers n (suc k) = ap suc (length-numbers (n + 1) k)

-- what goes on from v has no step of v from itself on
no_later : (t : Shape) (laid : IsLaidOut (length t.kinds) t.paths) (v : List ℕ) (e : ℕ) → goes_on_to t v e ≡ true → Each (λ x. x < e) v
no_later t laid v e on =
    let along = goes_along t v e on in
    onward_above v along.0 e (Each-among IsRising t.paths along.0 laid.rising along.1) along.2

module _ (t : Shape) (laid : IsLaidOut (length t.kinds) t.paths) where
  -- the branch to a step of an alternative goes through the steps before its choice, and on within it
  alternative_branch : (a : Alternative) → Stands t.paths a → (b : ℕ) → IsOf a b → (r : List ℕ) × (branch_to t b ≡ a.before ++ r) × Each (IsOf a) r
  alternative_branch a stands b is =
      let at = stands.each b is in
      let p = a.before ++ at.0 in (
        steps_before b at.0,
        branch_is t b p laid.in_order laid.rising at.1 (has_right b a.before at.0 at.2) ∙ before_append b a.before at.0 (Each-among IsRising t.paths p laid.rising at.1) at.2,
        Each-before (IsOf a) b at.0 at.3,
      )

  -- how long the branch to an own step of a block is
  own_branch : (v r : List ℕ) (n k b : ℕ) → Among ((v ++ numbers_from n k) ++ r) t.paths → n ≤ b → b < n + k → length (branch_to t b) ≡ length v + (b - n)
  own_branch v r n k b among low high =
      let p = v ++ (numbers_from n k ++ r) in
      let inp : Among p t.paths = subst (λ q. Among q t.paths) (append_assoc v (numbers_from n k) r) among in
      let rise = Each-among IsRising t.paths p laid.rising inp in
      let on = has_left b (numbers_from n k) r (numbers_has b n k low high) in
      ap length (branch_is t b p laid.in_order laid.rising inp (has_right b v (numbers_from n k ++ r) on) ∙ before_append b v (numbers_from n k ++ r) rise on)
      ∙ length-append v (steps_before b (numbers_from n k ++ r)) ∙ ap (λ m. length v + m) (before_numbers b n k r low high)

  -- in a block without a choice no step is later than another
  end_later : (v : List ℕ) (n : ℕ) (steps : List Step) → ((p : List ℕ) → Among p (paths_from v n (outline_of steps End)) → Among p t.paths)
      → (u : List ℕ) (e d : ℕ) → goes_on_to t u e ≡ true → goes_on_to t u d ≡ true → e < d → n ≤ e → d < n + length steps → ⊥
  end_later v n steps among u e d on_e on_d lt low high =
      let k = length steps in
      let path : Among ((v ++ numbers_from n k) ++ []) t.paths = subst (λ q. Among q t.paths) (sym (append-nil (v ++ numbers_from n k)))
      (among (v ++ numbers_from n k) (subst (λ qs. Among (v ++ numbers_from n k) qs) (sym (paths_from-end v n steps)) (inl refl))) in
      let one = own_branch v [] n k e path low (omega arith) in
      let two = own_branch v [] n k d path (omega arith) high in
      let same = ap length (branch_from t u e laid.in_order laid.rising on_e ∙ sym (branch_from t u d laid.in_order laid.rising on_d)) in
      omega arith

  -- behind own steps, the least of two such steps is none of them
  not_own : (v : List ℕ) (n : ℕ) (k : ℕ) (a : Alternative) → a.before ≡ v ++ numbers_from n k → a.first ≡ n + k → Stands t.paths a
      → (u : List ℕ) (e d : ℕ) → goes_on_to t u e ≡ true → goes_on_to t u d ≡ true → e < d → n ≤ e → e < n + k → (d < n + k) ⊎ ((c : Alternative) × (c.before ≡ a.before) × Stands t.paths c × IsOf c d) → ⊥
  not_own v n k a before first stands u e d on_e on_d lt low high place =
      let at = stands.each a.first (omega arith, stands.some) in
      let path : Among ((v ++ numbers_from n k) ++ at.0) t.paths = subst (λ w. Among (w ++ at.0) t.paths) before at.1 in
      let one = own_branch v at.0 n k e path low high in
      let same = ap length (branch_from t u e laid.in_order laid.rising on_e ∙ sym (branch_from t u d laid.in_order laid.rising on_d)) in
      ⊎_elim
      (λ own. let two = own_branch v at.0 n k d path (omega arith) own in omega arith)
      (λ other.
      let r = alternative_branch other.0 other.2 d other.3 in
      let two = ap length (r.1 ∙ ap (λ w. w ++ r.0) (other.1 ∙ before)) in
      let wide = length-append (v ++ numbers_from n k) r.0 in
      let wide2 = length-append v (numbers_from n k) in
      let wide3 = length-numbers n k in
      omega arith)
      place

  -- d is the first step of one of these alternatives, or it begins a later one within
  abbrev Begins : ℕ → List Alternative → List (List Alternative) → Type 0
  Begins d alts cs = (has d (map (λ c. c.first) alts) ≡ true) ⊎ (begins_later d cs ≡ true)

  -- in an alternative, where a lesser step goes on from the same steps
  in_alternative : (a : Alternative) → Stands t.paths a → (u : List ℕ) (e d : ℕ) → goes_on_to t u e ≡ true → goes_on_to t u d ≡ true → e < a.first → IsOf a d → u ≡ a.before
  in_alternative a stands u e d on_e on_d lt is =
      let r = alternative_branch a stands d is in
      let through : u ≡ a.before ++ r.0 = sym (branch_from t u d laid.in_order laid.rising on_d) ∙ r.1 in
      by_rest r.0 through r.2
    where
      by_rest : (r : List ℕ) → u ≡ a.before ++ r → Each (IsOf a) r → u ≡ a.before
      by_rest [] same each = same ∙ append-nil a.before
      by_rest (x ∷ r) same each =
          let low : x < e = Each-has (λ y. y < e) u x (no_later t laid u e on_e) (ap (has x) same ∙ has_right x a.before (x ∷ r) (has_here x x r refl)) in
          absurd (omega (arith, each.0.0))

  -- a choice behind own steps
  choice_later : (v : List ℕ) (n : ℕ) (steps : List Step) (os : List Outline) (cs : List (List Alternative)) (u : List ℕ) (e d : ℕ) → goes_on_to t u e ≡ true → goes_on_to t u d ≡ true → e < d → n ≤ e
      → Each (Stands t.paths) (alternatives_from (v ++ numbers_from n (length steps)) (n + length steps) os) → 0 < length os
      → (n + length steps ≤ d → Begins d (alternatives_from (v ++ numbers_from n (length steps)) (n + length steps) os) cs)
      → begins_later d (alternatives_from (v ++ numbers_from n (length steps)) (n + length steps) os ∷ cs) ≡ true
  choice_later v n steps [] cs u e d on_e on_d lt low stand some rest = absurd (omega arith)
  choice_later v n steps (o ∷ os) cs u e d on_e on_d lt low stand some rest =
      ⊎_elim
      (λ own. absurd (not_own v n k a refl refl stand.0 u e d on_e on_d lt low (omega arith) (inl own)))
      (λ from. ⊎_elim
      (λ firsts. ⊎_elim
      (λ same. let is : d ≡ n + k = same in absurd (not_own v n k a refl refl stand.0 u e d on_e on_d lt low (omega arith) (inr (a, refl, stand.0, (omega arith, let more = stand.0.some in omega arith)))))
      (λ later. or_left (has d (map (λ c. c.first) others)) (begins_later d cs) later.1)
      (has_cases d (n + k) (map (λ c. c.first) others) firsts))
      (λ later. or_right (has d (map (λ c. c.first) others)) (begins_later d cs) later)
      (rest from))
      (cases_lt d (n + k))
    where
      k : ℕ
      k = length steps

      a : Alternative
      a = record { before = v ++ numbers_from n (length steps); first = n + length steps; behind = n + length steps + length o.steps }

      others : List Alternative
      others = alternatives_from (v ++ numbers_from n (length steps)) (n + length steps + length o.steps) os

  some_outlines : (os : List Outline) → nat_lt (length os) 2 ≡ false → 0 < length os
  some_outlines os e = let le = ltb-false (length os) 2 e in omega arith

  in_front : (d : ℕ) (cs ds : List (List Alternative)) → begins_later d cs ≡ true → begins_later d (cs ++ ds) ≡ true
  in_front d cs ds h = list_any-append (λ alts. has d (later_firsts alts)) cs ds ∙ or_left (begins_later d cs) (begins_later d ds) h

  in_back : (d : ℕ) (cs ds : List (List Alternative)) → begins_later d ds ≡ true → begins_later d (cs ++ ds) ≡ true
  in_back d cs ds h = list_any-append (λ alts. has d (later_firsts alts)) cs ds ∙ or_right (begins_later d cs) (begins_later d ds) h

  mutual
    -- in a block, a step with a lesser one that goes on from the same steps begins a later alternative
    block_later : (v : List ℕ) (n : ℕ) (steps : List Step) (tail : Tail) → (outline_of steps tail).has_empty ≡ false → (outline_of steps tail).odd_choice ≡ None
        → ((p : List ℕ) → Among p (paths_from v n (outline_of steps tail)) → Among p t.paths)
        → (u : List ℕ) (e d : ℕ) → goes_on_to t u e ≡ true → goes_on_to t u d ≡ true → e < d → n ≤ e → d < n + length (outline_of steps tail).steps → begins_later d (choices_of v n steps tail) ≡ true
    block_later v n steps End full even among u e d on_e on_d lt low high = absurd (end_later v n steps among u e d on_e on_d lt low high)
    block_later v n steps (Choice' shape row) full even among u e d on_e on_d lt low high =
        choice_later v n steps (outlines_of row) (choices_in (v ++ numbers_from n (length steps)) (n + length steps) row) u e d on_e on_d lt low
        (alternatives_stand (v ++ numbers_from n (length steps)) (n + length steps) (outlines_of row) t.paths (row_covered row (not_odd (outlines_of row) even).1) (row_laid_out row full) (λ p inp. among p (subst (λ qs. Among p qs) (sym (paths_from-at_choice v n steps (outlines_of row))) inp)))
        (some_outlines (outlines_of row) (not_odd (outlines_of row) even).0)
        (λ from. row_later (v ++ numbers_from n (length steps)) (n + length steps) row full (not_odd (outlines_of row) even).1 (λ p inp. among p (subst (λ qs. Among p qs) (sym (paths_from-at_choice v n steps (outlines_of row))) inp)) u e d on_e on_d lt from
        (omega (arith, length-append steps (all_steps (outlines_of row)))))

    row_later : (w : List ℕ) (m : ℕ) {c : _} (row : Row_of-Block c) → list_any (λ o. o.has_empty) (outlines_of row) ≡ false → first_odd (outlines_of row) ≡ None
        → ((p : List ℕ) → Among p (paths_from_all w m (outlines_of row)) → Among p t.paths)
        → (u : List ℕ) (e d : ℕ) → goes_on_to t u e ≡ true → goes_on_to t u d ≡ true → e < d → m ≤ d → d < m + length (all_steps (outlines_of row)) → Begins d (alternatives_from w m (outlines_of row)) (choices_in w m row)
    row_later w m end_of-Block full even among u e d on_e on_d lt low high = absurd (omega arith)
    row_later w m (more_of-Block steps tail rest) full even among u e d on_e on_d lt low high =
        let o = outline_of steps tail in
        let os = outlines_of rest in
        let both = none_first o.odd_choice (first_odd os) even in
        let empty = list_any (λ o. o.has_empty) os in
        let here = choices_of w m steps tail in
        let there = choices_in w (m + length o.steps) rest in
        let firsts = map (λ c. c.first) (alternatives_from w (m + length o.steps) os) in
        let size = length-append o.steps (all_steps os) in
        let a : Alternative = record { before = w; first = m; behind = m + length o.steps } in
        let stand : Stands t.paths a = (alternatives_stand w m (o ∷ os) t.paths (row_covered (more_of-Block steps tail rest) even) (row_laid_out (more_of-Block steps tail rest) full) among).0 in
        let inner : (p : List ℕ) → Among p (paths_from w m o) → Among p t.paths = λ p inp. among p (among_left p (paths_from w m o) (paths_from_all w (m + length o.steps) os) inp) in
        ⊎_elim
        (λ within. ⊎_elim
        (λ same. inl (has_here d m firsts same))
        (λ other. ⊎_elim
        (λ less.
        let is = in_alternative a stand u e d on_e on_d less (low, within) in
        let on_m : goes_on_to t u m ≡ true = ap (λ w. goes_on_to t w m) is ∙ (of_ways t laid a stand).begins in
        let up : m < d = ⊎_elim (λ x. x) (λ ge. let same : d ≡ m = omega arith in absurd (other same)) (cases_lt m d) in
        inr (in_front d here there (block_later w m steps tail (or_first o.has_empty empty full) both.0 inner u m d on_m on_d up (omega arith) within)))
        (λ from. inr (in_front d here there (block_later w m steps tail (or_first o.has_empty empty full) both.0 inner u e d on_e on_d lt from within)))
        (cases_lt e m))
        (cases_eq d m))
        (λ behind. ⊎_elim
        (λ first. inl (has_there d m firsts first))
        (λ later. inr (in_back d here there later))
        (row_later w (m + length o.steps) rest (or_second o.has_empty empty full) both.1 (λ p inp. among p (among_right p (paths_from w m o) (paths_from_all w (m + length o.steps) os) inp)) u e d on_e on_d lt behind (omega arith)))
        (cases_lt d (m + length o.steps))

-- a list with a number below d
first_below : (d : ℕ) (xs : List ℕ) → 0 < length (once (filter (λ e. nat_lt e d) xs)) → (e : ℕ) × (has e xs ≡ true) × (e < d)
first_below d [] some = absurd (omega arith)
first_below d (x ∷ xs) some = by_test (nat_lt x d) refl (λ h. first_below d xs h)
  where
    by_test : (c : Bool) → nat_lt x d ≡ c → (0 < length (once (filter (λ e. nat_lt e d) xs)) → (e : ℕ) × (has e xs ≡ true) × (e < d)) → (e : ℕ) × (has e (x ∷ xs) ≡ true) × (e < d)
    by_test true is rest = (x, has_here x x xs refl, ltb-true x d is)
    by_test false is rest =
        let r = rest (subst (λ c. 0 < length (once (cond c (x ∷ filter (λ e. nat_lt e d) xs) (filter (λ e. nat_lt e d) xs)))) is some) in
        (r.0, has_there r.0 x xs r.1, r.2)

to_below : (d e : ℕ) (xs : List ℕ) → has e xs ≡ true → e < d → has e (filter (λ x. nat_lt x d) xs) ≡ true
to_below d e [] on lt = absurd (cc)
to_below d e (x ∷ xs) on lt = by_test (nat_lt x d) refl (λ h. to_below d e xs h lt)
  where
    by_test : (c : Bool) → nat_lt x d ≡ c → (has e xs ≡ true → has e (filter (λ x. nat_lt x d) xs) ≡ true) → has e (filter (λ x. nat_lt x d) (x ∷ xs)) ≡ true
    by_test true is rest =
        ap (λ c. has e (cond c (x ∷ filter (λ x. nat_lt x d) xs) (filter (λ x. nat_lt x d) xs))) is
        ∙ ⊎_elim (λ same. has_here e x (filter (λ x. nat_lt x d) xs) same) (λ later. has_there e x (filter (λ x. nat_lt x d) xs) (rest later.1)) (has_cases e x xs on)
    by_test false is rest =
        ap (λ c. has e (cond c (x ∷ filter (λ x. nat_lt x d) xs) (filter (λ x. nat_lt x d) xs))) is
        ∙ ⊎_elim (λ same. let high = ltb-false x d is in let is_x : e ≡ x = same in absurd (omega arith)) (λ later. rest later.1) (has_cases e x xs on)

-- one of these that passes a test
any_each : (P : List Alternative → Type 0) (f : List Alternative → Bool) (xs : List (List Alternative)) → Each P xs → list_any f xs ≡ true → (x : List Alternative) × P x × (f x ≡ true)
any_each P f [] each any = absurd (cc)
any_each P f (x ∷ xs) each any = by_test (f x) refl (λ h. any_each P f xs each.1 h)
  where
    by_test : (c : Bool) → f x ≡ c → (list_any f xs ≡ true → (y : List Alternative) × P y × (f y ≡ true)) → (y : List Alternative) × P y × (f y ≡ true)
    by_test true is rest = (x, each.0, is)
    by_test false is rest = rest (sym (ap (λ c. c || list_any f xs) is) ∙ any)

-- a later alternative begins further up, behind the same steps
further : (ps : List (List ℕ)) (d : ℕ) (a : Alternative) (alts : List Alternative) → Each (Stands ps) (a ∷ alts) → Neighbours (a ∷ alts) → has d (map (λ c. c.first) alts) ≡ true
    → (c : Alternative) × (c.first ≡ d) × (c.before ≡ a.before) × Stands ps c × (a.first < d)
further ps d a [] stands next on = absurd (cc)
further ps d a (c ∷ alts) stands next on =
    let some = stands.0.some in
    ⊎_elim
    (λ same. (c, sym same, next.1, stands.1.0, let is : d ≡ c.first = same in omega (arith, next.0)))
    (λ later.
    let r = further ps d c alts stands.1 next.2 later.1 in
    (r.0, r.1, r.2 ∙ next.1, r.3, omega (arith, next.0, r.4)))
    (has_cases d c.first (map (λ x. x.first) alts) on)

-- a later way begins a later alternative
later_alternative : (root : Block) → tree_fault root ≡ None → (d : ℕ) → is_later_way (shape_of root) d ≡ true → begins_later d (choices root) ≡ true
later_alternative root good d later =
    let t = shape_of root in
    let laid = laid_shape root good in
    let parts = and_parts (goes_on_to t (branch_to t d) d) (nat_lt 0 (length (ways_before t d))) later in
    let below = first_below d (next_steps t (branch_to t d)) (ltb-true 0 (length (ways_before t d)) parts.1) in
    let along = goes_along t (branch_to t d) d parts.0 in
    let within = Each-has (λ b. b < length t.kinds) along.0 d (Each-among (Each (λ b. b < length t.kinds)) t.paths along.0 laid.within along.1) (onward_has (branch_to t d) along.0 d along.2) in
    block_later t laid [] 0 root.steps root.tail (not_empty root good) (none_odd root good) (λ p inp. subst (λ qs. Among p qs) (paths_from-none (outline root)) inp)
    (branch_to t d) below.0 d below.1 parts.0 below.2 (omega arith) (let e = kinds_count root in omega arith)

-- and a later alternative begins a later way
later_way : (root : Block) → tree_fault root ≡ None → (d : ℕ) → begins_later d (choices root) ≡ true → is_later_way (shape_of root) d ≡ true
later_way root good d later = by_choice found.0 found.1 found.2
  where
    t : Shape
    t = shape_of root

    laid : IsLaidOut (length t.kinds) t.paths
    laid = laid_shape root good

    found : (alts : List Alternative) × ChoiceStands t.paths alts × (has d (later_firsts alts) ≡ true)
    found = any_each (ChoiceStands t.paths) (λ alts. has d (later_firsts alts)) (choices root) (tree_stands root good) later

    by_choice : (alts : List Alternative) → ChoiceStands t.paths alts → has d (later_firsts alts) ≡ true → is_later_way t d ≡ true
    by_choice [] stands on = absurd (cc)
    by_choice (a ∷ alts) stands on =
        let c = further t.paths d a alts stands.0 stands.1 on in
        let on_d : goes_on_to t a.before d ≡ true = ap (goes_on_to t a.before) (sym c.1) ∙ ap (λ w. goes_on_to t w c.0.first) (sym c.2) ∙ (of_ways t laid c.0 c.3).begins in
        let on_a : goes_on_to t a.before a.first ≡ true = (of_ways t laid a stands.0.0).begins in
        let branch : branch_to t d ≡ a.before = branch_from t a.before d laid.in_order laid.rising on_d in
        let one : has a.first (filter (λ e. nat_lt e d) (next_steps t (branch_to t d))) ≡ true = to_below d a.first (next_steps t (branch_to t d)) (ap (λ w. has a.first (next_steps t w)) branch ∙ on_a) c.4 in
        and_from (goes_on_to t (branch_to t d) d) (nat_lt 0 (length (ways_before t d))) (ap (λ w. goes_on_to t w d) branch ∙ on_d)
        (lt-ltb 0 (length (ways_before t d)) (nonempty a.first (ways_before t d) (has_once a.first (filter (λ e. nat_lt e d) (next_steps t (branch_to t d))) one)))

pub later_ways_are_later_alternatives : LaterWaysAreLaterAlternatives
later_ways_are_later_alternatives root good d = (later_alternative root good d, later_way root good d)
