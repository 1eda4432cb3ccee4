-- Steps in turn: each goes on from those before it, and play and completion come to an end.
use Rattle.std.proofs.Common.{◌≡◌, subst, ℕ, ◌+◌, ◌<◌, ◌≤◌, zero, suc, Bool, true, false, List, [], ◌∷◌, ◌++◌, length, Option, Some, None, refl, sym, ap, ◌∙◌, arith, nat_lt, if◌then◌else◌}
use Rattle.std.proofs.lemmas.List.{length-map}
use Rattle.process_tree.specs.declared.block.Block.{Block}
use Rattle.process_tree.specs.declared.play.Place.{Place}
use Rattle.process_tree.specs.declared.play.Place.TheVariants.{Step, End}
use Rattle.process_tree.specs.Blocks.{outline}
use Rattle.process_tree.specs.Making.{tree_fault}
use Rattle.process_tree.specs.Order.{Each, IsRising, has}
use Rattle.process_tree.specs.Shape.{Shape, shape_of, next_steps, goes_on_to, least, greatest, greater, kind_of, can_be_refused, last_of, last_path, last_after, with_rest}
use Rattle.process_tree.specs.Play.{asks, follow, come_to, arrive, go_on}
use Rattle.process_tree.specs.Recovery.{place_of, place_after, last_place_after}
use Rattle.process_tree.specs.Paths.{last_or}
use Rattle.process_tree.specs.Stands.{arrive_at, IsNext, left_from}
use Rattle.process_tree.proofs.Branches.{has_here, has_there, Each-has, Each-among}
use Rattle.process_tree.proofs.Numbers.{least_is}
use Rattle.process_tree.proofs.Onward.{onward_has, onward_above, goes_along, branch_from}
use Rattle.process_tree.proofs.Trees.{tree_laid_out}

-- a step that goes on is one of the tree's
pub goes_within : (t : Shape) (c : ℕ) (v : List ℕ) (d : ℕ) → Each (Each (λ b. b < c)) t.paths → goes_on_to t v d ≡ true → d < c
goes_within t c v d within on =
    let along = goes_along t v d on in
    Each-has (λ b. b < c) along.0 d (Each-among (Each (λ b. b < c)) t.paths along.0 within along.1) (onward_has v along.0 d along.2)

-- what holds of each holds of the last
pub Each-last : (P : ℕ → Type 0) (w : List ℕ) (d : ℕ) → Each P (w ++ d ∷ []) → P d
Each-last P [] d h = h.0
Each-last P (x ∷ w) d h = Each-last P w d h.1

-- a step that goes on is greater than the one before it
pub goes_up : (t : Shape) (w : List ℕ) (d e : ℕ) → Each IsRising t.paths → goes_on_to t (w ++ d ∷ []) e ≡ true → d < e
goes_up t w d e rise on =
    let along = goes_along t (w ++ d ∷ []) e on in
    Each-last (λ b. b < e) w d (onward_above (w ++ d ∷ []) along.0 e (Each-among IsRising t.paths along.0 rise along.1) along.2)

-- as many further steps as the process has are enough to come to d
come_enough : (t : Shape) (c k m : ℕ) (w : List ℕ) (d : ℕ) → Each IsRising t.paths → Each (Each (λ b. b < c)) t.paths → goes_on_to t w d ≡ true → c ≤ k + d → c ≤ m + d → come_to k t w d ≡ come_to m t w d
come_enough t c zero m w d rise within on few many = let lt = goes_within t c w d within on in absurd (omega arith)
come_enough t c (suc k) zero w d rise within on few many = let lt = goes_within t c w d within on in absurd (omega arith)
come_enough t c (suc k) (suc m) w d rise within on few many =
    ap (λ s. if can_be_refused (kind_of t d) then asks w d else s)
    (by_next (least (next_steps t (w ++ d ∷ []))) refl (λ e on. let up = goes_up t w d e rise on in come_enough t c k m (w ++ d ∷ []) e rise within on (omega arith) (omega arith)))
  where
    by_next : (o : Option ℕ) → least (next_steps t (w ++ d ∷ [])) ≡ o →
        ((e : ℕ) → goes_on_to t (w ++ d ∷ []) e ≡ true → come_to k t (w ++ d ∷ []) e ≡ come_to m t (w ++ d ∷ []) e) →
        follow (come_to k t) (w ++ d ∷ []) (least (next_steps t (w ++ d ∷ []))) ≡ follow (come_to m t) (w ++ d ∷ []) (least (next_steps t (w ++ d ∷ [])))
    by_next None is rest = ap (follow (come_to k t) (w ++ d ∷ [])) is ∙ sym (ap (follow (come_to m t) (w ++ d ∷ [])) is)
    by_next (Some e) is rest =
        ap (follow (come_to k t) (w ++ d ∷ [])) is ∙ rest e (least_is (next_steps t (w ++ d ∷ [])) e is).0 ∙ sym (ap (follow (come_to m t) (w ++ d ∷ [])) is)

-- play comes to a place as it comes to its step
arrive_of : (t : Shape) (w : List ℕ) (o : Option ℕ) → arrive_at t w (place_of o) ≡ follow (arrive t) w o
arrive_of t w None = refl
arrive_of t w (Some d) = refl

-- a retriable step is done at once, and play comes to the next
pub arrive_on : (t : Shape) (k : ℕ) (w : List ℕ) (d : ℕ) → length t.kinds ≡ k → Each IsRising t.paths → Each (Each (λ b. b < k)) t.paths → goes_on_to t w d ≡ true → can_be_refused (kind_of t d) ≡ false → come_to k t w d ≡ follow (come_to k t) (w ++ d ∷ []) (least (next_steps t (w ++ d ∷ [])))
arrive_on t zero w d is rise within on kind = let lt = goes_within t 0 w d within on in absurd (omega arith)
arrive_on t (suc k) w d is rise within on kind =
    ap (λ b. if b then asks w d else follow (come_to k t) (w ++ d ∷ []) (least (next_steps t (w ++ d ∷ [])))) kind
    ∙ by_next (least (next_steps t (w ++ d ∷ []))) refl
  where
    by_next : (o : Option ℕ) → least (next_steps t (w ++ d ∷ [])) ≡ o → follow (come_to k t) (w ++ d ∷ []) (least (next_steps t (w ++ d ∷ []))) ≡ follow (come_to (suc k) t) (w ++ d ∷ []) (least (next_steps t (w ++ d ∷ [])))
    by_next None f = ap (follow (come_to k t) (w ++ d ∷ [])) f ∙ sym (ap (follow (come_to (suc k) t) (w ++ d ∷ [])) f)
    by_next (Some e) f =
        let on' = (least_is (next_steps t (w ++ d ∷ [])) e f).0 in
        let up = goes_up t w d e rise on' in
        ap (follow (come_to k t) (w ++ d ∷ [])) f
        ∙ come_enough t (suc k) k (suc k) (w ++ d ∷ []) e rise within on' (omega arith) (omega arith)
        ∙ sym (ap (follow (come_to (suc k) t) (w ++ d ∷ [])) f)

-- of a tree: as many kinds as steps
pub kinds_count : (root : Block) → length (shape_of root).kinds ≡ length (outline root).steps
kinds_count root = length-map (outline root).steps (λ s. s.kind)

-- of a tree: a retriable step is done at once
pub passes : (root : Block) (w : List ℕ) (d : ℕ) → tree_fault root ≡ None → goes_on_to (shape_of root) w d ≡ true → can_be_refused (kind_of (shape_of root) d) ≡ false → arrive (shape_of root) w d ≡ arrive_at (shape_of root) (w ++ d ∷ []) (place_after (shape_of root) d)
passes root w d good on kind =
    let t = shape_of root in
    let laid = tree_laid_out root good in
    let P : ℕ → Type 0 = λ c. Each (Each (λ b. b < c)) t.paths in
    let within = subst P (sym (kinds_count root)) laid.within in
    arrive_on t (length t.kinds) w d refl laid.rising within on kind
    ∙ sym (arrive_of t (w ++ d ∷ []) (least (next_steps t (w ++ d ∷ []))))
    ∙ ap (λ v. arrive_at t (w ++ d ∷ []) (place_of (least (next_steps t (v ++ d ∷ []))))) (sym (branch_from t w d laid.in_order laid.rising on))

-- of a tree: the place after a step that goes on
pub after_is : (root : Block) (w : List ℕ) (d : ℕ) → tree_fault root ≡ None → goes_on_to (shape_of root) w d ≡ true → place_after (shape_of root) d ≡ place_of (least (next_steps (shape_of root) (w ++ d ∷ [])))
after_is root w d good on =
    let t = shape_of root in
    let laid = tree_laid_out root good in
    ap (λ v. place_of (least (next_steps t (v ++ d ∷ [])))) (branch_from t w d laid.in_order laid.rising on)

-- the least next step is next
pub least_next : (t : Shape) (w : List ℕ) → IsNext t w (place_of (least (next_steps t w)))
least_next t w = by_next (least (next_steps t w)) refl
  where
    by_next : (o : Option ℕ) → least (next_steps t w) ≡ o → IsNext t w (place_of (least (next_steps t w)))
    by_next None is = subst (λ o. IsNext t w (place_of o)) (sym is) tt
    by_next (Some d) is = subst (λ o. IsNext t w (place_of o)) (sym is) (least_is (next_steps t w) d is).0

-- fewer steps are left behind a step
pub fewer_left : (t : Shape) (c : ℕ) (w : List ℕ) (d : ℕ) (place : Place) → Each IsRising t.paths → Each (Each (λ b. b < c)) t.paths → goes_on_to t w d ≡ true → IsNext t (w ++ d ∷ []) place → left_from c place < left_from c (Step d)
fewer_left t c w d End rise within on next = let lt = goes_within t c w d within on in omega arith
fewer_left t c w d (Step e) rise within on next =
    let lt = goes_within t c w d within on in
    let up = goes_up t w d e rise next in
    omega arith

-- the greatest of a list is on it
pub greatest_is : (xs : List ℕ) (d : ℕ) → greatest xs ≡ Some d → has d xs ≡ true
greatest_is [] d is = absurd (cc)
greatest_is (x ∷ xs) d is = by_rest (greatest xs) refl (λ y e. greatest_is xs y e)
  where
    by_rest : (o : Option ℕ) → greatest xs ≡ o → ((y : ℕ) → greatest xs ≡ Some y → has y xs ≡ true) → has d (x ∷ xs) ≡ true
    by_rest None f below =
        let same : x ≡ d = (let g : Some x ≡ Some d = sym (ap (greater x) f) ∙ is in cc) in
        has_here d x xs (sym same)
    by_rest (Some y) f below = by_lt (nat_lt y x) refl
      where
        by_lt : (b : Bool) → nat_lt y x ≡ b → has d (x ∷ xs) ≡ true
        by_lt true u =
            let same : x ≡ d = (let g : Some x ≡ Some d = sym (ap (greater x) f ∙ ap (λ b. if b then Some x else Some y) u) ∙ is in cc) in
            has_here d x xs (sym same)
        by_lt false u =
            let same : y ≡ d = (let g : Some y ≡ Some d = sym (ap (greater x) f ∙ ap (λ b. if b then Some x else Some y) u) ∙ is in cc) in
            has_there d x xs (subst (λ z. has z xs ≡ true) same (below y f))

-- nothing follows where no step is next
path_none : (t : Shape) (k : ℕ) (v : List ℕ) → greatest (next_steps t v) ≡ None → last_path k t v ≡ []
path_none t zero v is = refl
path_none t (suc k) v is = ap (with_rest (λ d. last_path k t (v ++ d ∷ []))) is

-- no step is next where each would be beyond the last
none_next : (t : Shape) (c : ℕ) (v : List ℕ) → Each (Each (λ x. x < c)) t.paths → ((d : ℕ) → goes_on_to t v d ≡ true → c ≤ d) → greatest (next_steps t v) ≡ None
none_next t c v within beyond = by_next (greatest (next_steps t v)) refl
  where
    by_next : (o : Option ℕ) → greatest (next_steps t v) ≡ o → greatest (next_steps t v) ≡ None
    by_next None is = is
    by_next (Some d) is =
        let on = greatest_is (next_steps t v) d is in
        let lt = goes_within t c v d within on in
        let ge = beyond d on in
        absurd (omega arith)

-- as many further steps as the process has are enough for what follows
last_enough : (t : Shape) (c k m b : ℕ) (v : List ℕ) → Each IsRising t.paths → Each (Each (λ x. x < c)) t.paths → c ≤ k + b → c ≤ m + b → ((d : ℕ) → goes_on_to t v d ≡ true → b ≤ d) → last_path k t v ≡ last_path m t v
last_enough t c zero m b v rise within few many from =
    sym (path_none t m v (none_next t c v within (λ d on. let ge = from d on in omega arith)))
last_enough t c (suc k) zero b v rise within few many from =
    path_none t (suc k) v (none_next t c v within (λ d on. let ge = from d on in omega arith))
last_enough t c (suc k) (suc m) b v rise within few many from =
    by_next (greatest (next_steps t v)) refl
    (λ d on. let ge = from d on in last_enough t c k m (d + 1) (v ++ d ∷ []) rise within (omega arith) (omega arith) (λ e one. let up = goes_up t v d e rise one in omega arith))
  where
    by_next : (o : Option ℕ) → greatest (next_steps t v) ≡ o → ((d : ℕ) → goes_on_to t v d ≡ true → last_path k t (v ++ d ∷ []) ≡ last_path m t (v ++ d ∷ [])) → last_path (suc k) t v ≡ last_path (suc m) t v
    by_next None is rest = ap (with_rest (λ d. last_path k t (v ++ d ∷ []))) is ∙ sym (ap (with_rest (λ d. last_path m t (v ++ d ∷ []))) is)
    by_next (Some d) is rest =
        ap (with_rest (λ d. last_path k t (v ++ d ∷ []))) is
        ∙ ap (λ xs. d ∷ xs) (rest d (greatest_is (next_steps t v) d is))
        ∙ sym (ap (with_rest (λ d. last_path m t (v ++ d ∷ []))) is)

-- what follows begins with the greatest next step
pub last_step : (t : Shape) (c : ℕ) (v : List ℕ) (d : ℕ) → Each IsRising t.paths → Each (Each (λ x. x < c)) t.paths → greatest (next_steps t v) ≡ Some d → last_path c t v ≡ d ∷ last_path c t (v ++ d ∷ [])
last_step t zero v d rise within is = let lt = goes_within t 0 v d within (greatest_is (next_steps t v) d is) in absurd (omega arith)
last_step t (suc k) v d rise within is =
    ap (with_rest (λ d. last_path k t (v ++ d ∷ []))) is
    ∙ ap (λ xs. d ∷ xs) (last_enough t (suc k) k (suc k) (d + 1) (v ++ d ∷ []) rise within (omega arith) (omega arith) (λ e on. let up = goes_up t v d e rise on in omega arith))

-- of a tree: what follows v through last alternatives
pub last_on : (root : Block) (v : List ℕ) (d : ℕ) → tree_fault root ≡ None → greatest (next_steps (shape_of root) v) ≡ Some d → last_after (shape_of root) v ≡ d ∷ last_after (shape_of root) (v ++ d ∷ [])
last_on root v d good is =
    let t = shape_of root in
    let laid = tree_laid_out root good in
    let P : ℕ → Type 0 = λ c. Each (Each (λ b. b < c)) t.paths in
    last_step t (length t.kinds) v d laid.rising (subst P (sym (kinds_count root)) laid.within) is

pub last_after_none : (t : Shape) (v : List ℕ) → greatest (next_steps t v) ≡ None → last_after t v ≡ []
last_after_none t v is = path_none t (length t.kinds) v is

-- a place is that of one step
pub place_step : (o : Option ℕ) (d : ℕ) → place_of o ≡ Step d → o ≡ Some d
place_step None d is = absurd (cc)
place_step (Some e) d is = let same : e ≡ d = cc in ap Some same

-- what goes on to the next place
pub next_goes : (t : Shape) (w : List ℕ) (place : Place) (d : ℕ) → IsNext t w place → place ≡ Step d → goes_on_to t w d ≡ true
next_goes t w place d next is = subst (IsNext t w) is next

-- of a tree: the place after a step that goes on is next
pub after_next : (root : Block) (w : List ℕ) (d : ℕ) → tree_fault root ≡ None → goes_on_to (shape_of root) w d ≡ true → IsNext (shape_of root) (w ++ d ∷ []) (place_after (shape_of root) d)
after_next root w d good on = subst (IsNext (shape_of root) (w ++ d ∷ [])) (sym (after_is root w d good on)) (least_next (shape_of root) (w ++ d ∷ []))

-- of a tree: a step that goes on is one of its steps
pub step_within : (root : Block) (w : List ℕ) (d : ℕ) → tree_fault root ≡ None → goes_on_to (shape_of root) w d ≡ true → d < length (outline root).steps
step_within root w d good on = goes_within (shape_of root) (length (outline root).steps) w d (tree_laid_out root good).within on

-- of a tree: fewer steps are left behind the next
pub next_left : (root : Block) (w v : List ℕ) (d : ℕ) (at place : Place) → tree_fault root ≡ None → at ≡ Step d → goes_on_to (shape_of root) w d ≡ true → v ≡ w ++ d ∷ [] → IsNext (shape_of root) v place → left_from (length (outline root).steps) place < left_from (length (outline root).steps) at
next_left root w v d at place good is on more next =
    let t = shape_of root in
    let c = length (outline root).steps in
    let laid = tree_laid_out root good in
    subst (λ p. left_from c place < left_from c p) (sym is) (fewer_left t c w d place laid.rising laid.within on (subst (λ u. IsNext t u place) more next))

-- of a tree: play comes on as before
pub comes_on : (root : Block) (w v : List ℕ) (d : ℕ) (at place : Place) → tree_fault root ≡ None → at ≡ Step d → goes_on_to (shape_of root) w d ≡ true → can_be_refused (kind_of (shape_of root) d) ≡ false → v ≡ w ++ d ∷ [] → place ≡ place_after (shape_of root) d → arrive_at (shape_of root) v place ≡ arrive_at (shape_of root) w at
comes_on root w v d at place good is on kind more after =
    let t = shape_of root in
    ap (λ u. arrive_at t u place) more ∙ ap (arrive_at t (w ++ d ∷ [])) after ∙ sym (passes root w d good on kind) ∙ ap (arrive_at t w) (sym is)

-- of a tree: play goes on behind a done step
pub goes_after : (root : Block) (w : List ℕ) (d : ℕ) → tree_fault root ≡ None → goes_on_to (shape_of root) w d ≡ true → arrive_at (shape_of root) (w ++ d ∷ []) (place_after (shape_of root) d) ≡ go_on (shape_of root) (w ++ d ∷ [])
goes_after root w d good on =
    let t = shape_of root in
    ap (arrive_at t (w ++ d ∷ [])) (after_is root w d good on) ∙ arrive_of t (w ++ d ∷ []) (least (next_steps t (w ++ d ∷ [])))

-- the last of a list, found from its beginning
last_or-some : (x : ℕ) (xs : List ℕ) → last_or (Some x) xs ≡ last_of (x ∷ xs)
last_or-some x [] = refl
last_or-some x (y ∷ xs) = last_or-some y xs

pub last_or-none : (xs : List ℕ) → last_or None xs ≡ last_of xs
last_or-none [] = refl
last_or-none (x ∷ xs) = last_or-some x xs

-- the greatest step that a list goes on with, one step further
pub last_place_on : (root : Block) (w : List ℕ) (d : ℕ) → tree_fault root ≡ None → greatest (next_steps (shape_of root) w) ≡ Some d → last_place_after (shape_of root) d ≡ place_of (greatest (next_steps (shape_of root) (w ++ d ∷ [])))
last_place_on root w d good is =
    let t = shape_of root in
    let laid = tree_laid_out root good in
    ap (λ v. place_of (greatest (next_steps t (v ++ d ∷ [])))) (branch_from t w d laid.in_order laid.rising (greatest_is (next_steps t w) d is))

pub greatest_next : (t : Shape) (w : List ℕ) → IsNext t w (place_of (greatest (next_steps t w)))
greatest_next t w = by_next (greatest (next_steps t w)) refl
  where
    by_next : (o : Option ℕ) → greatest (next_steps t w) ≡ o → IsNext t w (place_of (greatest (next_steps t w)))
    by_next None is = subst (λ o. IsNext t w (place_of o)) (sym is) tt
    by_next (Some d) is = subst (λ o. IsNext t w (place_of o)) (sym is) (greatest_is (next_steps t w) d is)

pub last_or-end : (last : Option ℕ) (rest : List ℕ) → length rest < 1 → last_or last rest ≡ last
last_or-end last [] short = refl
last_or-end last (x ∷ rest) short = absurd (omega arith)
