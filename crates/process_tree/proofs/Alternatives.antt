-- That ways and alternatives say the same.
use Rattle.std.proofs.Common.{◌≡◌, ⊎_elim, subst, ℕ, ◌+◌, ◌-◌, ◌<◌, ◌≤◌, true, false, List, [], ◌∷◌, ◌++◌, length, map, take, Some, None, refl, sym, ap, ◌∙◌, arith, nat_lt, filter, flat_map, if◌then◌else◌}
use Rattle.std.specs.List.{list_any}
use Rattle.std.proofs.lemmas.Bool.{cases_lt, eq-eqb}
use Rattle.process_tree.specs.declared.step.Step.{Step}
use Rattle.process_tree.specs.declared.block.Block.{Block}
use Rattle.process_tree.specs.declared.block.Tail.{Tail, End, Choice', Row_of-Block, end_of-Block, more_of-Block}
use Rattle.process_tree.specs.Blocks.{Outline, numbers_from, first_odd, outline, outline_of, outlines_of}
use Rattle.process_tree.specs.Making.{tree_fault}
use Rattle.process_tree.specs.Order.{Each, IsRising, has, IsLaidOut}
use Rattle.process_tree.specs.Shape.{Shape, shape_of, goes_on_to, branch_to, next_steps, fixed_len}
use Rattle.process_tree.specs.Play.{kept_prefixes}
use Rattle.process_tree.specs.Paths.{paths_from}
use Rattle.process_tree.specs.Laws.{IsInWay}
use Rattle.process_tree.specs.Alternatives.{Alternative, alternatives_from, choices_of, choices_in, choices, IsOf, IsOfWays, AlternativesAreWays, FallsFrom, FallInTurn, AlternativesFallInTurn}
use Rattle.process_tree.proofs.Every.{Each-append, Each-weaker}
use Rattle.process_tree.proofs.Branches.{Among, Each-among, Each-has, has_cases, branch_is}
use Rattle.process_tree.proofs.Covered.{IsCovered, among_map, among_left, among_right, has_moved, row_covered, not_odd, none_first}
use Rattle.process_tree.proofs.LaidOut.{LaidOutline, row_laid_out, or_first, or_second}
use Rattle.process_tree.proofs.PathsOf.{paths_from_all, paths_from-at_choice, paths_from-none}
use Rattle.process_tree.proofs.Numbers.{has_right, in_flat, to_flat, to_filter, in_filter, least_is}
use Rattle.process_tree.proofs.Onward.{onward, goes_on, branch_from}
use Rattle.process_tree.proofs.Kept.{way_is_later}
use Rattle.process_tree.proofs.InTurn.{kinds_count}
use Rattle.process_tree.proofs.Trees.{none_odd, not_empty, tree_laid_out}
use Rattle.process_tree.proofs.Intervals.{Begins, begins_to, later_in_way}

-- what the paths say of an alternative: it has a step, and each of its steps is on a path with the steps before its choice, which
-- goes on within the alternative
pub record Stands (ps : List (List ℕ)) (a : Alternative) : Type 0 where
  pub some : a.first < a.behind
  pub each : (b : ℕ) → IsOf a b → (rest : List ℕ) × Among (a.before ++ rest) ps × (has b rest ≡ true) × Each (IsOf a) rest

moved_within : (n m : ℕ) (v p : List ℕ) → Each (λ b. b < m) p → Each (IsOf (record { before = v; first = n; behind = n + m })) (map (λ k. n + k) p)
moved_within n m v [] below = tt
moved_within n m v (x ∷ p) below = (let lt : x < m = below.0 in (omega arith, omega arith), moved_within n m v p below.1)

-- a path with a step needs a step
some_steps : (o : Outline) → IsCovered o → LaidOutline o → 0 < length o.steps
some_steps o covered laid = by_path covered.path (Each-among (λ p. 0 < length p) o.paths covered.path laid.some covered.one) (Each-among (Each (λ b. b < length o.steps)) o.paths covered.path laid.within covered.one)
  where
    by_path : (p : List ℕ) → 0 < length p → Each (λ b. b < length o.steps) p → 0 < length o.steps
    by_path [] some within = absurd (omega arith)
    by_path (x ∷ p) some within = let lt : x < length o.steps = within.0 in omega arith

-- the alternatives of one choice
pub alternatives_stand : (v : List ℕ) (n : ℕ) (os : List Outline) (ps : List (List ℕ)) → Each IsCovered os → Each LaidOutline os
    → ((p : List ℕ) → Among p (paths_from_all v n os) → Among p ps) → Each (Stands ps) (alternatives_from v n os)
alternatives_stand v n [] ps covered laid among = tt
alternatives_stand v n (o ∷ os) ps covered laid among = (
  record {
    some = let some = some_steps o covered.0 laid.0 in omega arith;
    each = λ b is.
        let low : n ≤ b = is.0 in
        let high : b < n + length o.steps = is.1 in
        let on = covered.0.each (b - n) (omega arith) in
        let same : n + (b - n) ≡ b = omega arith in
        let rest = map (λ k. n + k) on.0 in (
          rest,
          among (v ++ rest) (among_left (v ++ rest) (paths_from v n o) (paths_from_all v (n + length o.steps) os) (among_map (λ p. v ++ map (λ k. n + k) p) on.0 o.paths on.1)),
          subst (λ k. has k rest ≡ true) same (has_moved n (b - n) on.0 on.2),
          moved_within n (length o.steps) v on.0 (Each-among (Each (λ b. b < length o.steps)) o.paths on.0 laid.0.within on.1),
        );
  },
  alternatives_stand v (n + length o.steps) os ps covered.1 laid.1 (λ p inp. among p (among_right p (paths_from v n o) (paths_from_all v (n + length o.steps) os) inp)),
)

-- each begins where the one before it ends, behind the same steps
abbrev pub Neighbours : List Alternative → Type 0
Neighbours [] = Unit
Neighbours (a ∷ []) = Unit
Neighbours (a ∷ c ∷ alts) = (c.first ≡ a.behind) × (c.before ≡ a.before) × Neighbours (c ∷ alts)

pub neighbours : (v : List ℕ) (n : ℕ) (os : List Outline) → Neighbours (alternatives_from v n os)
neighbours v n [] = tt
neighbours v n (o ∷ []) = tt
neighbours v n (o ∷ o' ∷ os) = (refl, refl, neighbours v (n + length o.steps) (o' ∷ os))

-- so a choice stands
abbrev pub ChoiceStands : List (List ℕ) → List Alternative → Type 0
ChoiceStands ps alts = Each (Stands ps) alts × Neighbours alts

mutual
  block_stands : (v : List ℕ) (n : ℕ) (steps : List Step) (tail : Tail) (ps : List (List ℕ)) → (outline_of steps tail).has_empty ≡ false → (outline_of steps tail).odd_choice ≡ None
      → ((p : List ℕ) → Among p (paths_from v n (outline_of steps tail)) → Among p ps) → Each (ChoiceStands ps) (choices_of v n steps tail)
  block_stands v n steps End ps full even among = tt
  block_stands v n steps (Choice' shape row) ps full even among =
      let os = outlines_of row in
      let w = v ++ numbers_from n (length steps) in
      let more = (not_odd os even).1 in (
        (alternatives_stand w (n + length steps) os ps (row_covered row more) (row_laid_out row full) inner, neighbours w (n + length steps) os),
        row_stands w (n + length steps) row ps full more inner,
      )
    where
      inner : (p : List ℕ) → Among p (paths_from_all (v ++ numbers_from n (length steps)) (n + length steps) (outlines_of row)) → Among p ps
      inner p inp = among p (subst (λ qs. Among p qs) (sym (paths_from-at_choice v n steps (outlines_of row))) inp)

  row_stands : (v : List ℕ) (n : ℕ) {m : _} (row : Row_of-Block m) (ps : List (List ℕ)) → list_any (λ o. o.has_empty) (outlines_of row) ≡ false → first_odd (outlines_of row) ≡ None
      → ((p : List ℕ) → Among p (paths_from_all v n (outlines_of row)) → Among p ps) → Each (ChoiceStands ps) (choices_in v n row)
  row_stands v n end_of-Block ps full even among = tt
  row_stands v n (more_of-Block steps tail rest) ps full even among =
      let o = outline_of steps tail in
      let os = outlines_of rest in
      let both = none_first o.odd_choice (first_odd os) even in
      let empty = list_any (λ o. o.has_empty) os in
      Each-append (ChoiceStands ps) (choices_of v n steps tail) (choices_in v (n + length o.steps) rest)
      (block_stands v n steps tail ps (or_first o.has_empty empty full) both.0 (λ p inp. among p (among_left p (paths_from v n o) (paths_from_all v (n + length o.steps) os) inp)))
      (row_stands v (n + length o.steps) rest ps (or_second o.has_empty empty full) both.1 (λ p inp. among p (among_right p (paths_from v n o) (paths_from_all v (n + length o.steps) os) inp)))

pub tree_stands : (root : Block) → tree_fault root ≡ None → Each (ChoiceStands (outline root).paths) (choices root)
tree_stands root good =
    block_stands [] 0 root.steps root.tail (outline root).paths (not_empty root good) (none_odd root good) (λ p inp. subst (λ qs. Among p qs) (paths_from-none (outline root)) inp)

pub onward_after : (v : List ℕ) (x : ℕ) (r : List ℕ) → onward v (v ++ x ∷ r) ≡ Some x
onward_after [] x r = refl
onward_after (y ∷ v) x r = ap (λ c. if c then onward v (v ++ x ∷ r) else None) (eq-eqb y y refl) ∙ onward_after v x r

begins_after : (v : List ℕ) (x : ℕ) (r : List ℕ) → Begins (v ++ x ∷ []) (v ++ x ∷ r)
begins_after [] x r = (refl, tt)
begins_after (y ∷ v) x r = (refl, begins_after v x r)

pub rises_behind : (v r : List ℕ) → IsRising (v ++ r) → IsRising r
rises_behind [] r rise = rise
rises_behind (y ∷ v) r rise = rises_behind v r rise.1

module _ (t : Shape) (laid : IsLaidOut (length t.kinds) t.paths) (a : Alternative) where
  -- a step behind the choice is in a way that begins in the alternative
  in_way : (b : ℕ) (rest : List ℕ) → Among (a.before ++ rest) t.paths → has b rest ≡ true → Each (IsOf a) rest
      → (f : ℕ) × IsOf a f × (goes_on_to t a.before f ≡ true) × IsInWay t a.before f b
  in_way b [] among on is = absurd (cc)
  in_way b (x ∷ rest) among on is =
      let p = a.before ++ x ∷ rest in
      let rise = Each-among IsRising t.paths p laid.rising among in
      let here = has_right b a.before (x ∷ rest) on in
      let up = rises_behind a.before (x ∷ rest) rise in
      let low : x ≤ b = ⊎_elim (λ e. omega (arith, e)) (λ later. let lt : x < b = Each-has (λ y. x < y) rest b up.0 later.1 in omega arith) (has_cases b x rest on) in
      let way = later_in_way a.before p x b rise (begins_after a.before x rest) here low in (
        x,
        is.0,
        goes_on t a.before x p among (onward_after a.before x rest),
        begins_to (a.before ++ x ∷ []) (branch_to t b ++ b ∷ []) (subst (λ w. Begins (a.before ++ x ∷ []) (w ++ b ∷ [])) (sym (branch_is t b p laid.in_order laid.rising among here)) way),
      )

  -- its first step begins a way
  begins_first : (rest : List ℕ) → Among (a.before ++ rest) t.paths → has a.first rest ≡ true → Each (IsOf a) rest → goes_on_to t a.before a.first ≡ true
  begins_first [] among on is = absurd (cc)
  begins_first (x ∷ rest) among on is =
      let p = a.before ++ x ∷ rest in
      let rise = rises_behind a.before (x ∷ rest) (Each-among IsRising t.paths p laid.rising among) in
      let low : a.first ≤ x = is.0.0 in
      let same : a.first ≡ x = ⊎_elim (λ e. e) (λ later. let up : x < a.first = Each-has (λ y. x < y) rest a.first rise.0 later.1 in absurd (omega arith)) (has_cases a.first x rest on) in
      ap (goes_on_to t a.before) same ∙ goes_on t a.before x p among (onward_after a.before x rest)

  pub of_ways : Stands t.paths a → IsOfWays t a
  of_ways stands =
      let first = stands.each a.first (omega arith, stands.some) in
      record {
        some = stands.some;
        begins = begins_first first.0 first.1 first.2 first.3;
        in_ways = λ b is. let at = stands.each b is in in_way b at.0 at.1 at.2 at.3;
      }

-- a refusal that falls to the next alternative is of a step of this one
falls_from : (t : Shape) (laid : IsLaidOut (length t.kinds) t.paths) (a c : Alternative) → IsOfWays t a → IsOfWays t c → c.first ≡ a.behind → c.before ≡ a.before → FallsFrom t a c
falls_from t laid a c here there next same w b on falls = (low, high)
  where
    all : List ℕ
    all = flat_map (next_steps t) (kept_prefixes t w)

    is : (has c.first (filter (λ d. nat_lt b d) all) ≡ true) × ((e : ℕ) → has e (filter (λ d. nat_lt b d) all) ≡ true → c.first ≤ e)
    is = least_is (filter (λ d. nat_lt b d) all) c.first falls

    high : b < a.behind
    high = let lt : b < c.first = way_is_later t w b c.first falls in omega arith

    low : a.first ≤ b
    low = ⊎_elim
        (λ less.
        let f = fixed_len t w in
        let ks = numbers_from f (length w - f + 1) in
        let prefix = in_flat (next_steps t) (λ k. take k w) c.first ks (in_filter b c.first all is.0).0 in
        let from : take prefix.0 w ≡ a.before = sym (branch_from t (take prefix.0 w) c.first laid.in_order laid.rising prefix.2) ∙ branch_from t c.before c.first laid.in_order laid.rising there.begins ∙ same in
        let at : has a.first (next_steps t (take prefix.0 w)) ≡ true = ap (λ v. has a.first (next_steps t v)) from ∙ here.begins in
        let le = is.1 a.first (to_filter b a.first all (to_flat (next_steps t) (λ k. take k w) a.first prefix.0 ks prefix.1 at) less) in
        absurd (omega (arith, le, here.some, next)))
        (λ le. le)
        (cases_lt b a.first)

fall_in_turn : (t : Shape) (laid : IsLaidOut (length t.kinds) t.paths) (alts : List Alternative) → Each (IsOfWays t) alts → Neighbours alts → FallInTurn t alts
fall_in_turn t laid [] ways next = tt
fall_in_turn t laid (a ∷ []) ways next = tt
fall_in_turn t laid (a ∷ c ∷ alts) ways next = (falls_from t laid a c ways.0 ways.1.0 next.0 next.1, fall_in_turn t laid (c ∷ alts) ways.1 next.2)

pub laid_shape : (root : Block) → tree_fault root ≡ None → IsLaidOut (length (shape_of root).kinds) (shape_of root).paths
laid_shape root good = subst (λ c. IsLaidOut c (outline root).paths) (sym (kinds_count root)) (tree_laid_out root good)

choice_ways : (root : Block) → tree_fault root ≡ None → (alts : List Alternative) → ChoiceStands (outline root).paths alts → Each (IsOfWays (shape_of root)) alts
choice_ways root good alts stands = Each-weaker (Stands (outline root).paths) (IsOfWays (shape_of root)) (λ a one. of_ways (shape_of root) (laid_shape root good) a one) alts stands.0

pub alternatives_are_ways : AlternativesAreWays
alternatives_are_ways root good = Each-weaker (ChoiceStands (outline root).paths) (Each (IsOfWays (shape_of root))) (choice_ways root good) (choices root) (tree_stands root good)

pub alternatives_fall_in_turn : AlternativesFallInTurn
alternatives_fall_in_turn root good =
    Each-weaker (ChoiceStands (outline root).paths) (FallInTurn (shape_of root))
    (λ alts stands. fall_in_turn (shape_of root) (laid_shape root good) alts (choice_ways root good alts stands) stands.1) (choices root) (tree_stands root good)
