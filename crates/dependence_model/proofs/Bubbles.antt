-- A pair that can go goes by exchanges and one cancel: what no chain reaches is carried to the front of the step, the undo is
-- carried back to it, and what was carried to the front goes back to its place.
use Rattle.std.proofs.Common.{◌≡◌, inl, inr, Bool, true, false, not, cond, eqb, ◌||◌, List, [], ◌∷◌, ◌++◌, sym, refl, ap, ◌∙◌, subst, append_assoc}
use Rattle.std.proofs.lemmas.Bool.{and_from, or_parts}
use Rattle.process_tree.specs.declared.entry.Entry.{Entry}
use Rattle.schedule_model.specs.Conflict.{ConflictRelation, IsSymmetric, conflict}
use Rattle.schedule_model.specs.Reduction.{can_change, is_pair, IsReduced, AreReduced, no_step, step_first}
use Rattle.schedule_model.proofs.Members.{Among}
use Rattle.schedule_model.proofs.Chains.{reduced-append, reduced-one}
use Rattle.schedule_model.proofs.Conflicts.{conflict-symmetric, same_either_way}
use Rattle.dependence_model.specs.Dependence.{depends, depends_on_any}
use Rattle.dependence_model.proofs.Once.{none-among}
use Rattle.dependence_model.proofs.Takings.{grown, grown-not, Closes, closed, Takes, taken}
use Rattle.dependence_model.proofs.Unique.{TakesAll, takes_none, takes_first}

module _ (table : ConflictRelation) where
  one_behind : (x : Entry) (xs ys : List Entry) → IsReduced table xs ys → IsReduced table (x ∷ xs) (x ∷ ys)
  one_behind x xs ys (inl (before, after, a, b, xs_is, ys_is, can)) = inl (x ∷ before, after, a, b, ap (λ zs. x ∷ zs) xs_is, ap (λ zs. x ∷ zs) ys_is, can)
  one_behind x xs ys (inr (before, after, a, b, xs_is, ys_is, pair)) = inr (x ∷ before, after, a, b, ap (λ zs. x ∷ zs) xs_is, ap (λ zs. x ∷ zs) ys_is, pair)

  -- steps behind an entry that stays
  pub reduced-behind : (x : Entry) {xs ys : List Entry} → AreReduced table xs ys → AreReduced table (x ∷ xs) (x ∷ ys)
  reduced-behind x no_step = no_step
  reduced-behind x (step_first {xs = xs} {ys = ys} one rest) = step_first (one_behind x xs ys one) (reduced-behind x rest)

  -- an entry is carried to the front of some
  to-front : (x : Entry) (bs rest : List Entry) → ((b : Entry) → Among b bs → can_change table b x ≡ true) → AreReduced table (bs ++ x ∷ rest) (x ∷ (bs ++ rest))
  to-front x [] rest can = no_step
  to-front x (b ∷ bs) rest can =
      reduced-append table (reduced-behind b (to-front x bs rest (λ c is. can c (inr is))))
      (reduced-one table (inl ([], bs ++ rest, b, x, refl, refl, can b (inl refl))))

  -- and behind them
  to-back : (x : Entry) (bs rest : List Entry) → ((b : Entry) → Among b bs → can_change table x b ≡ true) → AreReduced table (x ∷ (bs ++ rest)) (bs ++ x ∷ rest)
  to-back x [] rest can = no_step
  to-back x (b ∷ bs) rest can =
      step_first (inl ([], bs ++ rest, x, b, refl, refl, can b (inl refl))) (reduced-behind b (to-back x bs rest (λ c is. can c (inr is))))

  free-changes : (a b : Entry) → depends table a b ≡ false → can_change table a b ≡ true
  free-changes a b free =
      let parts = or_parts (eqb a.process b.process) (conflict table a b) free in
      and_from (not (eqb a.process b.process)) (not (conflict table a b)) (ap not parts.0) (ap not parts.1)

  module _ (symmetric : IsSymmetric table) where
    pub depends-turned : (a b : Entry) → depends table a b ≡ depends table b a
    depends-turned a b =
        ap (λ t. t || conflict table a b) (sym (same_either_way a.process b.process (eqb a.process b.process) refl))
        ∙ ap (λ t. eqb b.process a.process || t) (conflict-symmetric table symmetric a b)

    closes-by : (f u x : Entry) (found xs rest : List Entry) (t : Bool) → depends_on_any table (f ∷ found) x ≡ t
        → AreReduced table (f ∷ (grown table f found x ++ xs)) (grown table f found x ++ rest) → AreReduced table (f ∷ (found ++ x ∷ xs)) (found ++ x ∷ rest)
    closes-by f u x found xs rest true new steps =
        let is : grown table f found x ≡ found ++ x ∷ [] = ap (λ t. cond t (found ++ x ∷ []) found) new in
        let now : AreReduced table (f ∷ ((found ++ x ∷ []) ++ xs)) ((found ++ x ∷ []) ++ rest) = subst (λ fs. AreReduced table (f ∷ (fs ++ xs)) (fs ++ rest)) is steps in
        subst (λ ys. AreReduced table (f ∷ (found ++ x ∷ xs)) ys) (append_assoc found (x ∷ []) rest)
        (subst (λ ys. AreReduced table (f ∷ ys) ((found ++ x ∷ []) ++ rest)) (append_assoc found (x ∷ []) xs) now)
    closes-by f u x found xs rest false none steps =
        let now : AreReduced table (f ∷ (found ++ xs)) (found ++ rest) = subst (λ fs. AreReduced table (f ∷ (fs ++ xs)) (fs ++ rest)) (grown-not table f found x none) steps in
        reduced-append table (to-front x (f ∷ found) xs (λ b is. free-changes b x (none-among (λ y. depends table y x) b (f ∷ found) none is)))
        (reduced-append table (reduced-behind x now)
        (to-back x found rest (λ b is. free-changes x b (depends-turned x b ∙ none-among (λ y. depends table y x) b (f ∷ found) none (inr is)))))

    closes-reduces : (f u : Entry) (found xs : List Entry) (c : Closes table f u found xs) → AreReduced table (f ∷ (found ++ xs)) (found ++ closed table f u found xs c)
    closes-reduces f u found [] c = absurd c
    closes-reduces f u found (x ∷ xs) (inl c) =
        reduced-append table
        (reduced-behind f (to-front x found xs (λ b is. free-changes b x (ap (depends table b) c.0 ∙ none-among (λ y. depends table y u) b found c.2 is))))
        (reduced-one table (inr ([], found ++ xs, f, x, refl, refl, ap (is_pair f) c.0 ∙ c.1)))
    closes-reduces f u found (x ∷ xs) (inr c) =
        closes-by f u x found xs (closed table f u (grown table f found x) xs c) (depends_on_any table (f ∷ found) x) refl (closes-reduces f u (grown table f found x) xs c)

    takes-reduces : (f u : Entry) (xs : List Entry) (t : Takes table f u xs) → AreReduced table xs (taken table f u xs t)
    takes-reduces f u [] t = absurd t
    takes-reduces f u (x ∷ xs) (inl t) = subst (λ z. AreReduced table (z ∷ xs) (closed table f u [] xs t.1)) (sym t.0) (closes-reduces f u [] xs t.1)
    takes-reduces f u (x ∷ xs) (inr t) = reduced-behind x (takes-reduces f u xs t)

    -- so does what goes one after another
    pub all-reduces : {xs ys : List Entry} → TakesAll table xs ys → AreReduced table xs ys
    all-reduces takes_none = no_step
    all-reduces (takes_first {xs = xs} f u t more) = reduced-append table (takes-reduces f u xs t) (all-reduces more)
