-- The path that is owed: its first step goes on from what is fixed, and is above each step that can be undone.
use Rattle.std.proofs.Common.{◌≡◌, ◌⊎◌, inl, inr, ⊎_elim, ℕ, zero, suc, ◌<◌, Bool, true, false, cond, List, [], ◌∷◌, ◌++◌, length, take, drop, Option, Some, None, sym, refl, ap, ◌∙◌, subst, arith, append-nil, length-append, length-drop, nat_lt, ◌-◌, if◌then◌else◌}
use Rattle.std.proofs.lemmas.Bool.{eq-eqb, ne_eqb, false≢true, cases_eq}
use Rattle.std.proofs.lemmas.List.{take-append-drop}
use Rattle.process_tree.specs.Order.{Each, PartsBelow, IsLaidOut, has}
use Rattle.process_tree.specs.Shape.{Shape, kind_of, commits_after, fixed_len, goes_on_to, next_steps, greater, greatest, is_end, is_whole, last_after, last_path, with_rest}
use Rattle.process_tree.specs.Recovery.{class_of, class_by_kind, forward, reserved}
use Rattle.process_tree.specs.Termination.{IsWellFormed}
use Rattle.process_tree.specs.Laws.{IsTreeShape}
use Rattle.process_tree.proofs.Branches.{Each-has, has_here}
use Rattle.process_tree.proofs.Onward.{onward, onward_both, onward_first, onward_has, goes_along, goes_on}
use Rattle.process_tree.proofs.InTurn.{greatest_is, goes_within}
use Rattle.process_tree.proofs.LastPath.{greatest_ge}
use Rattle.process_tree.proofs.Wholes.{paths_part}
use Rattle.process_tree.proofs.Classes.{owed_commits, owed_not_left}
use Rattle.process_tree.proofs.TreeLaws.{paths_lie_in_order, ends_are_whole}

pub take_all : (w : List ℕ) (n : ℕ) → drop n w ≡ [] → take n w ≡ w
take_all w n none = sym (append-nil (take n w)) ∙ (ap (λ es. take n w ++ es) (sym none) ∙ take-append-drop n w)

cons_nothing : (x : ℕ) (xs : List ℕ) → x ∷ xs ≡ [] → ⊥
cons_nothing x xs e = let l = ap length e in omega arith

module _ (t : Shape) where
  -- The first step that is owed.

  pub record FirstOwed (w : List ℕ) (b : ℕ) : Type 0 where
    pub some : fixed_len t w ≡ 0 → ⊥
    pub greatest : greatest (next_steps t (take (fixed_len t w) w)) ≡ Some b
    pub on : goes_on_to t (take (fixed_len t w) w) b ≡ true

  first_of_path : (k : ℕ) (v : List ℕ) (b : ℕ) (rest : List ℕ) → last_path k t v ≡ b ∷ rest → greatest (next_steps t v) ≡ Some b
  first_of_path zero v b rest is = absurd (cons_nothing b rest (sym is))
  first_of_path (suc k) v b rest is = by_next (greatest (next_steps t v)) refl
    where
      by_next : (o : Option ℕ) → greatest (next_steps t v) ≡ o → greatest (next_steps t v) ≡ Some b
      by_next None none = absurd (cons_nothing b rest (sym is ∙ ap (with_rest (λ d. last_path k t (v ++ d ∷ []))) none))
      by_next (Some d) some =
          let same : d ∷ last_path k t (v ++ d ∷ []) ≡ b ∷ rest = sym (ap (with_rest (λ d. last_path k t (v ++ d ∷ []))) some) ∙ is in
          let first : d ≡ b = cc in
          some ∙ ap Some first

  pub first_owed : (w : List ℕ) (b : ℕ) (rest : List ℕ) → forward t w ≡ b ∷ rest → FirstOwed w b
  first_owed w b rest is = by_fixed (cases_eq (fixed_len t w) 0)
    where
      by_fixed : (fixed_len t w ≡ 0) ⊎ (fixed_len t w ≡ 0 → ⊥) → FirstOwed w b
      by_fixed (inl none) =
          absurd (cons_nothing b rest (sym is ∙ ap (λ c. if c then [] else last_after t (take (fixed_len t w) w)) (eq-eqb (fixed_len t w) 0 none)))
      by_fixed (inr some) =
          let path : last_after t (take (fixed_len t w) w) ≡ b ∷ rest =
          sym (ap (λ c. if c then [] else last_after t (take (fixed_len t w) w)) (ne_eqb (fixed_len t w) 0 some)) ∙ is in
          let top = first_of_path (length t.kinds) (take (fixed_len t w) w) b rest path in
          record { some = some; greatest = top; on = greatest_is (next_steps t (take (fixed_len t w) w)) b top }

-- Two paths that part behind v: the steps of the one are below the next step of the other.
parts_there : (v p q : List ℕ) (a b : ℕ) → PartsBelow p q → onward v p ≡ Some a → onward v q ≡ Some b → (a ≡ b → ⊥) → Each (λ z. z < b) (drop (length v) p)
parts_there [] [] q a b part one two apart = absurd part
parts_there [] (x ∷ p) [] a b part one two apart = absurd part
parts_there [] (x ∷ p) (y ∷ q) a b part one two apart =
    let first : x ≡ a = cc in
    let second : y ≡ b = cc in
    ⊎_elim (λ same. absurd (apart (sym first ∙ (same.0 ∙ second)))) (λ below. subst (λ c. Each (λ z. z < c) (x ∷ p)) second below) part
parts_there (z ∷ v) [] q a b part one two apart = absurd part
parts_there (z ∷ v) (x ∷ p) [] a b part one two apart = absurd part
parts_there (z ∷ v) (x ∷ p) (y ∷ q) a b part one two apart =
    let first = onward_both z x a v p one in
    let second = onward_both z y b v q two in
    ⊎_elim (λ same. parts_there v p q a b same.1 first.1 second.1 apart)
    (λ below. let less : x < y = below.0 in let one = first.0 in let two = second.0 in absurd (omega arith)) part

-- the step that goes on behind v and more stands behind v
onward_within : (v u p : List ℕ) (d : ℕ) → onward (v ++ u) p ≡ Some d → has d (drop (length v) p) ≡ true
onward_within [] u p d on = onward_has u p d on
onward_within (z ∷ v) u [] d on = absurd (cc)
onward_within (z ∷ v) u (x ∷ p) d on = onward_within v u p d (onward_both z x d (v ++ u) p on).1

module _ (t : Shape) (laid : IsLaidOut (length t.kinds) t.paths) where
  -- what goes on behind a lesser next step is below a greater one
  pub below_next : (v u : List ℕ) (x b d : ℕ) → goes_on_to t (v ++ x ∷ u) d ≡ true → goes_on_to t v b ≡ true → x < b → d < b
  below_next v u x b d on top less =
      let q = goes_along t (v ++ x ∷ u) d on in
      let p = goes_along t v b top in
      let on_x = onward_first v u q.0 x d q.2 in
      let d_in = onward_within v (x ∷ u) q.0 d q.2 in
      ⊎_elim
      (λ same. let one : Some x ≡ Some b = sym on_x ∙ (ap (onward v) same ∙ p.2) in let e : x ≡ b = cc in absurd (omega arith))
      (⊎_elim
      (λ below. Each-has (λ z. z < b) (drop (length v) q.0) d (parts_there v q.0 p.0 x b below on_x p.2 (λ e. omega arith)) d_in)
      (λ above.
      let down : b < x = Each-has (λ z. z < x) (drop (length v) p.0) b (parts_there v p.0 q.0 b x above p.2 on_x (λ e. omega arith))
      (onward_within v [] p.0 b (ap (λ w. onward w p.0) (append-nil v) ∙ p.2)) in
      absurd (omega arith)))
      (paths_part t.paths q.0 p.0 laid.in_order q.1 p.1)

  module _ (well : IsWellFormed t) where
    owed_head : (w : List ℕ) (b : ℕ) (rest : List ℕ) → forward t w ≡ b ∷ rest → has b (forward t w) ≡ true
    owed_head w b rest is = ap (has b) is ∙ has_here b b rest refl

    -- the first owed step is a commit point, so none that can be undone
    owed_first_commits : (w : List ℕ) (b : ℕ) (rest : List ℕ) → forward t w ≡ b ∷ rest → commits_after t w b ≡ true
    owed_first_commits w b rest is = owed_commits t laid well w b (owed_head w b rest is)

    by_tail : (w u : List ℕ) (b d : ℕ) (rest : List ℕ) → drop (fixed_len t w) w ≡ u → forward t w ≡ b ∷ rest
        → goes_on_to t w d ≡ true → commits_after t w d ≡ false → d < b
    by_tail w [] b d rest tail is on not_commit =
        let first = first_owed t w b rest is in
        let whole = take_all w (fixed_len t w) tail in
        let on_v : goes_on_to t (take (fixed_len t w) w) d ≡ true = ap (λ v. goes_on_to t v d) whole ∙ on in
        let le = greatest_ge (next_steps t (take (fixed_len t w) w)) b d first.greatest on_v in
        let apart : d ≡ b → ⊥ = λ e. false≢true (sym not_commit ∙ (ap (λ x. commits_after t w x) e ∙ owed_first_commits w b rest is)) in
        ⊎_elim (λ same. absurd (apart same)) (λ differ. omega arith) (cases_eq d b)
    by_tail w (x ∷ u) b d rest tail is on not_commit =
        let v = take (fixed_len t w) w in
        let first = first_owed t w b rest is in
        let whole : w ≡ v ++ x ∷ u = sym (take-append-drop (fixed_len t w) w) ∙ ap (λ es. v ++ es) tail in
        let on' : goes_on_to t (v ++ x ∷ u) d ≡ true = sym (ap (λ es. goes_on_to t es d) whole) ∙ on in
        let q = goes_along t (v ++ x ∷ u) d on' in
        let on_x = goes_on t v x q.0 q.1 (onward_first v u q.0 x d q.2) in
        let le = greatest_ge (next_steps t v) b x first.greatest on_x in
        let apart : x ≡ b → ⊥ = λ e. owed_not_left t laid well w x u whole (ap (λ y. has y (forward t w)) e ∙ owed_head w b rest is) in
        ⊎_elim (λ same. absurd (apart same)) (λ differ. below_next v u x b d on' first.on (omega arith)) (cases_eq x b)

    -- a next step that isn't a commit point is below the first that is owed
    pub below_owed : (w : List ℕ) (b d : ℕ) (rest : List ℕ) → forward t w ≡ b ∷ rest → goes_on_to t w d ≡ true → commits_after t w d ≡ false → d < b
    below_owed w b d rest is on not_commit = by_tail w (drop (fixed_len t w) w) b d rest refl is on not_commit

    -- where nothing is to be undone, the first owed step goes on, and is reserved
    pub owed_goes_on : (w : List ℕ) (b : ℕ) (rest : List ℕ) → drop (fixed_len t w) w ≡ [] → forward t w ≡ b ∷ rest → goes_on_to t w b ≡ true
    owed_goes_on w b rest none is = sym (ap (λ v. goes_on_to t v b) (take_all w (fixed_len t w) none)) ∙ (first_owed t w b rest is).on

    pub owed_is_reserved : (w : List ℕ) (b : ℕ) (rest : List ℕ) → forward t w ≡ b ∷ rest → class_of t w b ≡ reserved
    owed_is_reserved w b rest is = ap (λ c. if c then reserved else class_by_kind (kind_of t b)) (owed_head w b rest is)

-- Where nothing is to be undone and nothing owed, the process is at an end.

none_greatest : (t : Shape) (k : ℕ) (v : List ℕ) → 0 < k → last_path k t v ≡ [] → greatest (next_steps t v) ≡ None
none_greatest t zero v some is = absurd (omega arith)
none_greatest t (suc k) v some is = by_next (greatest (next_steps t v)) refl
  where
    by_next : (o : Option ℕ) → greatest (next_steps t v) ≡ o → greatest (next_steps t v) ≡ None
    by_next None none = none
    by_next (Some d) one = absurd (cons_nothing d (last_path k t (v ++ d ∷ [])) (sym (ap (with_rest (λ d. last_path k t (v ++ d ∷ []))) one) ∙ is))

none_next : (xs : List ℕ) → greatest xs ≡ None → xs ≡ []
none_next [] none = refl
none_next (x ∷ xs) none = absurd (some_greater x (greatest xs) none)
  where
    open_by : (y z : ℕ) (c : Bool) → cond c (Some y) (Some z) ≡ None → ⊥
    open_by y z true e = cc
    open_by y z false e = cc

    some_greater : (y : ℕ) (o : Option ℕ) → greater y o ≡ None → ⊥
    some_greater y None f = cc
    some_greater y (Some z) f = open_by y z (nat_lt z y) f

module _ (t : Shape) (tree : IsTreeShape t) where
  pub at_end : (v : List ℕ) (a : ℕ) → goes_on_to t v a ≡ true → drop (fixed_len t (v ++ a ∷ [])) (v ++ a ∷ []) ≡ [] → forward t (v ++ a ∷ []) ≡ [] → is_end t (v ++ a ∷ []) ≡ true
  at_end v a on none owes =
      let w = v ++ a ∷ [] in
      let long = length-append v (a ∷ []) in
      let left : length w - fixed_len t w ≡ 0 = sym (length-drop (fixed_len t w) w) ∙ ap length none in
      let some : fixed_len t w ≡ 0 → ⊥ = λ e. omega arith in
      let path : last_after t w ≡ [] = ap (last_after t) (sym (take_all w (fixed_len t w) none))
      ∙ (sym (ap (λ c. if c then [] else last_after t (take (fixed_len t w) w)) (ne_eqb (fixed_len t w) 0 some)) ∙ owes) in
      let less = goes_within t (length t.kinds) v a (paths_lie_in_order t tree).within on in
      let stops = none_next (next_steps t w) (none_greatest t (length t.kinds) w (omega arith) path) in
      end_if_whole w (ends_are_whole t tree v a on stops)
    where
      end_if_whole : (w : List ℕ) → is_whole t w ≡ true → is_end t w ≡ true
      end_if_whole [] whole = refl
      end_if_whole (x ∷ w) whole = whole
