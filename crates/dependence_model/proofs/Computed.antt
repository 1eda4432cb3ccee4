-- What is computed is what is left.
use Rattle.std.proofs.Common.{◌≡◌, inl, inr, ℕ, zero, suc, ◌+◌, ◌≤◌, Bool, true, false, not, cond, List, [], ◌∷◌, ◌++◌, length, Option, Some, None, sym, refl, ap, ◌∙◌, subst, arith, append_assoc, length-append}
use Rattle.std.specs.Option.{option_map}
use Rattle.std.proofs.lemmas.Bool.{false≢true}
use Rattle.process_tree.specs.declared.entry.Entry.{Entry}
use Rattle.schedule_model.specs.Conflict.{ConflictRelation}
use Rattle.schedule_model.specs.Reduction.{is_pair}
use Rattle.dependence_model.specs.declared.placed.Placed.{Placed}
use Rattle.dependence_model.specs.Dependence.{chained, can_go, placed_from, placed, entries_of, IsTaken, none_taken, taken_first, IsLeft, without_undo, or_else, one_taken, left_by, left_after}
use Rattle.dependence_model.specs.Laws.{AreOnce, LeftIsComputed}
use Rattle.dependence_model.proofs.Once.{once-sub, no-twin, undos-twins}
use Rattle.dependence_model.proofs.Takings.{grown, Closes, Takes, closes-pair, undo-among, taken, taken-sub}
use Rattle.dependence_model.proofs.PlacedTakings.{entries-append, once-placed, taken-entries}

module _ (table : ConflictRelation) where
  -- one more entry between: the chains come by it last
  chained-push : (f : Entry) (found es : List Entry) (e : Entry) → chained table f found (es ++ e ∷ []) ≡ grown table f (chained table f found es) e
  chained-push f found [] e = refl
  chained-push f found (x ∷ es) e = chained-push f (grown table f found x) es e

  -- Where a pair is found, it is taken.

  -- a pair that can go stands behind f
  abbrev Found : Placed → List Placed → List Placed → List Placed → Type 0
  Found f between rest ys = (mid after : List Placed) × (u : Placed) × (between ++ rest ≡ mid ++ u ∷ after) × (ys ≡ mid ++ after)
      × (is_pair f.entry u.entry ≡ true) × (can_go table f.entry (entries_of mid) u.entry ≡ true)

  found-here : (f u : Placed) (between rest ys : List Placed) (p g : Bool) → is_pair f.entry u.entry ≡ p → can_go table f.entry (entries_of between) u.entry ≡ g
      → (without_undo table f (between ++ u ∷ []) rest ≡ Some ys → Found f (between ++ u ∷ []) rest ys)
      → cond p (cond g (Some (between ++ rest)) None) (without_undo table f (between ++ u ∷ []) rest) ≡ Some ys → Found f between (u ∷ rest) ys
  found-here f u between rest ys true true pair goes later is = (between, rest, u, refl, (let same : ys ≡ between ++ rest = cc in same), pair, goes)
  found-here f u between rest ys true false pair goes later is = absurd (cc)
  found-here f u between rest ys false g pair goes later is =
      let l = later is in (l.0, l.1, l.2, sym (append_assoc between (u ∷ []) rest) ∙ l.3, l.4, l.5, l.6)

  found : (f : Placed) (between rest ys : List Placed) → without_undo table f between rest ≡ Some ys → Found f between rest ys
  found f between [] ys is = absurd (cc)
  found f between (u ∷ rest) ys is =
      found-here f u between rest ys (is_pair f.entry u.entry) (can_go table f.entry (entries_of between) u.entry) refl refl (found f (between ++ u ∷ []) rest ys) is

  taken_behind : (x : Placed) (xs ys : List Placed) → IsTaken table xs ys → IsTaken table (x ∷ xs) (x ∷ ys)
  taken_behind x xs ys (before, between, after, f, u, xs_is, ys_is, pair, can) =
      (x ∷ before, between, after, f, u, ap (λ zs. x ∷ zs) xs_is, ap (λ zs. x ∷ zs) ys_is, pair, can)

  first-taken : (f : Placed) (rest ys : List Placed) (first later : Option (List Placed)) → ((zs : List Placed) → first ≡ Some zs → IsTaken table (f ∷ rest) zs)
      → ((zs : List Placed) → later ≡ Some zs → IsTaken table rest zs) → or_else first (option_map (λ zs. f ∷ zs) later) ≡ Some ys → IsTaken table (f ∷ rest) ys
  first-taken f rest ys (Some zs) later here there is = here ys (let same : Some zs ≡ Some ys = is in same)
  first-taken f rest ys None None here there is = absurd (cc)
  first-taken f rest ys None (Some zs) here there is =
      let same : f ∷ zs ≡ ys = cc in subst (λ ws. IsTaken table (f ∷ rest) ws) same (taken_behind f rest zs (there zs refl))

  one-taken : (xs ys : List Placed) → one_taken table xs ≡ Some ys → IsTaken table xs ys
  one-taken [] ys is = absurd (cc)
  one-taken (f ∷ rest) ys is = first-taken f rest ys (without_undo table f [] rest) (one_taken table rest) goes (λ zs later. one-taken rest zs later) is
    where
      goes : (zs : List Placed) → without_undo table f [] rest ≡ Some zs → IsTaken table (f ∷ rest) zs
      goes zs first = let s = found f [] rest zs first in ([], s.0, s.1, f, s.2, ap (λ ws. f ∷ ws) s.3, s.4, s.5, s.6)

  -- Where none is found, none can go.

  none-here : (f u : Placed) (v : Entry) (between rest : List Placed) (p g : Bool) → is_pair f.entry u.entry ≡ p → can_go table f.entry (entries_of between) u.entry ≡ g
      → AreOnce (entries_of (u ∷ rest))
      → (without_undo table f (between ++ u ∷ []) rest ≡ None → Closes table f.entry v (chained table f.entry [] (entries_of (between ++ u ∷ []))) (entries_of rest) → ⊥)
      → cond p (cond g (Some (between ++ rest)) None) (without_undo table f (between ++ u ∷ []) rest) ≡ None
      → Closes table f.entry v (chained table f.entry [] (entries_of between)) (entries_of (u ∷ rest)) → ⊥
  none-here f u v between rest true true pair goes once later is c = absurd (cc)
  none-here f u v between rest true false pair goes once later is (inl c) =
      false≢true (sym goes ∙ subst (λ w. can_go table f.entry (entries_of between) w ≡ true) (sym c.0) (ap not c.2))
  none-here f u v between rest true false pair goes once later is (inr c) =
      let behind = grown table f.entry (chained table f.entry [] (entries_of between)) u.entry in
      no-twin u.entry v (entries_of rest) once (undo-among table f.entry v behind (entries_of rest) c)
      (undos-twins f.entry u.entry v pair (closes-pair table f.entry v behind (entries_of rest) c))
  none-here f u v between rest false g pair goes once later is (inl c) =
      false≢true (sym pair ∙ subst (λ w. is_pair f.entry w ≡ true) (sym c.0) c.1)
  none-here f u v between rest false g pair goes once later is (inr c) =
      let same : grown table f.entry (chained table f.entry [] (entries_of between)) u.entry ≡ chained table f.entry [] (entries_of (between ++ u ∷ [])) =
      sym (ap (chained table f.entry []) (entries-append between (u ∷ [])) ∙ chained-push f.entry [] (entries_of between) u.entry) in
      later is (subst (λ fs. Closes table f.entry v fs (entries_of rest)) same c)

  none-found : (f : Placed) (v : Entry) (between rest : List Placed) → AreOnce (entries_of rest) → without_undo table f between rest ≡ None
      → Closes table f.entry v (chained table f.entry [] (entries_of between)) (entries_of rest) → ⊥
  none-found f v between [] once is c = c
  none-found f v between (u ∷ rest) once is c =
      none-here f u v between rest (is_pair f.entry u.entry) (can_go table f.entry (entries_of between) u.entry) refl refl once
      (λ later. none-found f v (between ++ u ∷ []) rest once.1 later) is c

  none_first : (f : Placed) (first later : Option (List Placed)) → or_else first (option_map (λ zs. f ∷ zs) later) ≡ None → (first ≡ None) × (later ≡ None)
  none_first f (Some zs) later is = absurd (cc)
  none_first f None (Some zs) is = absurd (cc)
  none_first f None None is = (refl, refl)

  none-taken : (xs : List Placed) → AreOnce (entries_of xs) → one_taken table xs ≡ None → (f u : Entry) → Takes table f u (entries_of xs) → ⊥
  none-taken [] once is f u t = t
  none-taken (x ∷ xs) once is f u (inl t) =
      none-found x u [] xs once.1 (none_first x (without_undo table x [] xs) (one_taken table xs) is).0 (subst (λ g. Closes table g u [] (entries_of xs)) (sym t.0) t.1)
  none-taken (x ∷ xs) once is f u (inr t) = none-taken xs once.1 (none_first x (without_undo table x [] xs) (one_taken table xs) is).1 f u t

  -- So it goes on until none is left.

  shorter : (xs ys : List Placed) → IsTaken table xs ys → suc (length ys) ≤ length xs
  shorter xs ys (before, between, after, f, u, xs_is, ys_is, pair, can) =
      let a = ap length xs_is in
      let b = ap length ys_is in
      let c = length-append before (f ∷ (between ++ u ∷ after)) in
      let d = length-append between (u ∷ after) in
      let e = length-append before (between ++ after) in
      let g = length-append between after in
      omega arith

  once-taken : (xs ys : List Placed) → IsTaken table xs ys → AreOnce (entries_of xs) → AreOnce (entries_of ys)
  once-taken xs ys one once =
      let t = taken-entries table xs ys one in
      subst AreOnce (sym t.3) (once-sub (taken table t.0 t.1 (entries_of xs) t.2) (entries_of xs) (taken-sub table t.0 t.1 (entries_of xs) t.2) once)

  left-none : (xs : List Placed) → ((f u : Entry) → Takes table f u (entries_of xs) → ⊥) → IsLeft table xs xs
  left-none xs none = record { taken = none_taken; no_more = λ ys one. let t = taken-entries table xs ys one in none t.0 t.1 t.2 }

  left-some : (xs ys left : List Placed) → IsTaken table xs ys → IsLeft table ys left → IsLeft table xs left
  left-some xs ys left one rest = record { taken = taken_first one rest.taken; no_more = rest.no_more }

  pub left-after : (n : ℕ) (xs : List Placed) → length xs ≤ n → AreOnce (entries_of xs) → IsLeft table xs (left_after n table xs)
  left-after zero [] short once = left-none [] (λ f u t. t)
  left-after zero (x ∷ xs) short once = absurd (omega arith)
  left-after (suc n) xs short once = by_first (one_taken table xs) refl (λ ys less again. left-after n ys less again)
    where
      by_first : (first : Option (List Placed)) → one_taken table xs ≡ first
          → ((ys : List Placed) → length ys ≤ n → AreOnce (entries_of ys) → IsLeft table ys (left_after n table ys)) → IsLeft table xs (left_by (left_after n table) xs first)
      by_first None is rest = left-none xs (none-taken xs once is)
      by_first (Some ys) is rest =
          let one = one-taken xs ys is in
          let less = shorter xs ys one in
          left-some xs ys (left_after n table ys) one (rest ys (omega arith) (once-taken xs ys one once))

placed-length : (n : ℕ) (es : List Entry) → length (placed_from n es) ≡ length es
placed-length n [] = refl
placed-length n (e ∷ es) = ap suc (placed-length (n + 1) es)

pub left-computed : LeftIsComputed
left-computed table es once = left-after table (length es) (placed es) (let l = placed-length 1 es in omega arith) (once-placed es once)
