-- Neighbours of which neither depends on the other change places: what can go can go as before.
use Rattle.std.proofs.Common.{◌≡◌, ◌⊎◌, inl, inr, ⊎_elim, true, false, eqb, List, [], ◌∷◌, sym, refl, ap, ◌∙◌, subst}
use Rattle.std.proofs.lemmas.Bool.{eq-eqb, or_left, or_from, false≢true}
use Rattle.process_tree.specs.declared.entry.Entry.{Entry}
use Rattle.schedule_model.specs.Conflict.{ConflictRelation, conflict}
use Rattle.schedule_model.specs.Reduction.{is_pair}
use Rattle.schedule_model.proofs.Members.{Among, among-any, not_any}
use Rattle.dependence_model.specs.Dependence.{depends, depends_on_any}
use Rattle.dependence_model.proofs.Once.{none-among, pair-process}
use Rattle.dependence_model.proofs.Takings.{AllIn, grown, grown-has, grown-new, grown-from, grown-not, grown-more, depends-more, depends-less, Closes, closed, Takes, taken}
use Rattle.dependence_model.proofs.Unique.{TakesAll, takes_none, takes_first, Leaves}

module _ (table : ConflictRelation) where
  -- neither depends on the other
  abbrev pub AreFree : Entry → Entry → Type 0
  AreFree a c = (depends table a c ≡ false) × (depends table c a ≡ false)

  -- two such neighbours stand in the list
  abbrev pub Swaps : List Entry → Type 0
  Swaps [] = ⊥
  Swaps (a ∷ []) = ⊥
  Swaps (a ∷ c ∷ es) = AreFree a c ⊎ Swaps (c ∷ es)

  -- the list in which they have changed places
  abbrev pub swapped : (xs : List Entry) → Swaps xs → List Entry
  swapped [] s = []
  swapped (a ∷ []) s = a ∷ []
  swapped (a ∷ c ∷ es) (inl free) = c ∷ a ∷ es
  swapped (a ∷ c ∷ es) (inr later) = a ∷ swapped (c ∷ es) later

  -- the same list, or one in which two such neighbours have changed places
  abbrev pub Alike : List Entry → List Entry → Type 0
  Alike xs ys = (xs ≡ ys) ⊎ ((s : Swaps xs) × (swapped xs s ≡ ys))

  pub swaps-behind : (x : Entry) (xs : List Entry) (s : Swaps xs) → (t : Swaps (x ∷ xs)) × (swapped (x ∷ xs) t ≡ x ∷ swapped xs s)
  swaps-behind x [] s = absurd s
  swaps-behind x (a ∷ es) s = (inr s, refl)

  alike-behind : (x : Entry) (xs ys : List Entry) → Alike xs ys → Alike (x ∷ xs) (x ∷ ys)
  alike-behind x xs ys (inl same) = inl (ap (λ zs. x ∷ zs) same)
  alike-behind x xs ys (inr swap) = let more = swaps-behind x xs swap.0 in inr (more.0, more.1 ∙ ap (λ zs. x ∷ zs) swap.1)

  -- and back again
  swaps-back : (xs : List Entry) (s : Swaps xs) → (t : Swaps (swapped xs s)) × (swapped (swapped xs s) t ≡ xs)
  swaps-back [] s = absurd s
  swaps-back (a ∷ []) s = absurd s
  swaps-back (a ∷ c ∷ es) (inl free) = (inl (free.1, free.0), refl)
  swaps-back (a ∷ c ∷ es) (inr later) =
      let back = swaps-back (c ∷ es) later in
      let more = swaps-behind a (swapped (c ∷ es) later) back.0 in
      (more.0, more.1 ∙ ap (λ zs. a ∷ zs) back.1)

  -- fewer found leave the same
  closes-less : (f u : Entry) (some found xs : List Entry) → AllIn some found → (c : Closes table f u found xs)
      → (d : Closes table f u some xs) × (closed table f u some xs d ≡ closed table f u found xs c)
  closes-less f u some found [] all c = absurd c
  closes-less f u some found (x ∷ xs) all (inl c) = (inl (c.0, c.1, depends-less table some found u all c.2), refl)
  closes-less f u some found (x ∷ xs) all (inr c) =
      let rest = closes-less f u (grown table f some x) (grown table f found x) xs (grown-more table f some found x x all refl) c in
      (inr rest.0, ap (λ zs. x ∷ zs) rest.1)

  -- what isn't found from f alone isn't found
  grown-none : (f x : Entry) → depends table f x ≡ false → grown table f [] x ≡ []
  grown-none f x none = grown-not table f [] x (or_from (depends table f x) false none refl)

  -- one that x doesn't depend on makes no difference to it
  depends-without : (f : Entry) (found : List Entry) (c x : Entry) → depends table c x ≡ false
      → depends_on_any table (f ∷ grown table f found c) x ≡ true → depends_on_any table (f ∷ found) x ≡ true
  depends-without f found c x free is = by_first (among-any (λ y. depends table y x) (f ∷ grown table f found c) is)
    where
      by_first : (y : Entry) × Among y (f ∷ grown table f found c) × (depends table y x ≡ true) → depends_on_any table (f ∷ found) x ≡ true
      by_first (y, inl here, does) = or_left (depends table f x) (depends_on_any table found x) (ap (λ z. depends table z x) here ∙ does)
      by_first (y, inr later, does) =
          ⊎_elim (λ old. depends-more table (y ∷ []) (f ∷ found) x (λ e is. ⊎_elim (λ same. inr (subst (λ z. Among z found) same old)) (λ no. absurd no) is)
          (or_left (depends table y x) false does))
          (λ new. absurd (false≢true (sym free ∙ (ap (λ z. depends table z x) new.0 ∙ does))))
          (grown-from table f found c y later)

  -- two such neighbours are found in either order
  grown-turned : (f : Entry) (found : List Entry) (a c : Entry) → AreFree a c → AllIn (grown table f (grown table f found c) a) (grown table f (grown table f found a) c)
  grown-turned f found a c free e is =
      ⊎_elim (λ old. ⊎_elim (λ older. grown-has table f (grown table f found a) c e (grown-has table f found a e older))
      (λ new. subst (λ z. Among z (grown table f (grown table f found a) c)) new.0
      (grown-new table f (grown table f found a) c (depends-more table (f ∷ found) (f ∷ grown table f found a) c
      (λ z in'. ⊎_elim (λ here. inl here) (λ later. inr (grown-has table f found a z later)) in') new.1)))
      (grown-from table f found c e old))
      (λ last. grown-has table f (grown table f found a) c e
      (subst (λ z. Among z (grown table f found a)) last.0 (grown-new table f found a (depends-without f found c a free.1 last.1))))
      (grown-from table f (grown table f found c) a e is)

  -- the undo doesn't depend on what it changes places with
  none-grown : (f : Entry) (found : List Entry) (c u : Entry) → depends table c u ≡ false → depends_on_any table found u ≡ false
      → depends_on_any table (grown table f found c) u ≡ false
  none-grown f found c u free none =
      not_any (λ y. depends table y u) (grown table f found c)
      (λ y is. ⊎_elim (λ old. none-among (λ z. depends table z u) y found none old) (λ new. ap (λ z. depends table z u) (sym new.0) ∙ free) (grown-from table f found c y is))

  -- The undo behind f goes as before.
  closes-swap : (f u : Entry) (found xs : List Entry) (s : Swaps xs) (c : Closes table f u found xs)
      → (d : Closes table f u found (swapped xs s)) × Alike (closed table f u found xs c) (closed table f u found (swapped xs s) d)
  closes-swap f u found [] s c = absurd s
  closes-swap f u found (a ∷ []) s c = absurd s
  closes-swap f u found (a ∷ b ∷ es) (inl free) (inl c) =
      (inr (inl (c.0, c.1, none-grown f found b u (subst (λ z. depends table b z ≡ false) c.0 free.1) c.2)), inl refl)
  closes-swap f u found (a ∷ b ∷ es) (inl free) (inr (inl c)) =
      (inl (c.0, c.1, depends-less table found (grown table f found a) u (grown-has table f found a) c.2), inl refl)
  closes-swap f u found (a ∷ b ∷ es) (inl free) (inr (inr c)) =
      let turned = closes-less f u (grown table f (grown table f found b) a) (grown table f (grown table f found a) b) es (grown-turned f found a b free) c in
      (inr (inr turned.0), inr (inl free, ap (λ zs. b ∷ a ∷ zs) (sym turned.1)))
  closes-swap f u found (a ∷ b ∷ es) (inr later) (inl c) = (inl c, inr (later, refl))
  closes-swap f u found (a ∷ b ∷ es) (inr later) (inr c) =
      let rest = closes-swap f u (grown table f found a) (b ∷ es) later c in
      (inr rest.0, alike-behind a (closed table f u (grown table f found a) (b ∷ es) c) (closed table f u (grown table f found a) (swapped (b ∷ es) later) rest.0) rest.1)

  -- a step and its undo depend on each other
  pair-depends : (f u : Entry) → is_pair f u ≡ true → depends table f u ≡ true
  pair-depends f u pair = or_left (eqb f.process u.process) (conflict table f u) (eq-eqb f.process u.process (pair-process f u pair))

  closes-passed : (f u a c : Entry) (es : List Entry) → a ≡ f → AreFree a c → (d : Closes table f u [] (c ∷ es)) → (k : Closes table f u [] es) × (closed table f u [] (c ∷ es) d ≡ c ∷ closed table f u [] es k)
  closes-passed f u a c es same free (inl d) =
      absurd (false≢true (sym free.0 ∙ (ap (λ z. depends table z c) same ∙ (ap (depends table f) d.0 ∙ pair-depends f u d.1))))
  closes-passed f u a c es same free (inr d) =
      let less = closes-less f u [] (grown table f [] c) es (λ e is. absurd is) d in
      (less.0, ap (λ zs. c ∷ zs) (sym less.1))

  -- A pair that goes goes as before.
  pub takes-swap : (f u : Entry) (xs : List Entry) (s : Swaps xs) (t : Takes table f u xs)
      → (d : Takes table f u (swapped xs s)) × Alike (taken table f u xs t) (taken table f u (swapped xs s) d)
  takes-swap f u [] s t = absurd s
  takes-swap f u (a ∷ []) s t = absurd s
  takes-swap f u (a ∷ c ∷ es) (inl free) (inl t) =
      let passed = closes-passed f u a c es t.0 free t.1 in (inr (inl (t.0, passed.0)), inl passed.1)
  takes-swap f u (a ∷ c ∷ es) (inl free) (inr (inl t)) =
      let none : grown table f [] a ≡ [] = grown-none f a (ap (λ z. depends table z a) (sym t.0) ∙ free.1) in
      let less = closes-less f u (grown table f [] a) [] es (λ e is. subst (Among e) none is) t.1 in
      (inl (t.0, inr less.0), inl (ap (λ zs. a ∷ zs) (sym less.1)))
  takes-swap f u (a ∷ c ∷ es) (inl free) (inr (inr t)) = (inr (inr t), inr (inl free, refl))
  takes-swap f u (a ∷ c ∷ es) (inr later) (inl t) =
      let rest = closes-swap f u [] (c ∷ es) later t.1 in (inl (t.0, rest.0), rest.1)
  takes-swap f u (a ∷ c ∷ es) (inr later) (inr t) =
      let rest = takes-swap f u (c ∷ es) later t in
      (inr rest.0, alike-behind a (taken table f u (c ∷ es) t) (taken table f u (swapped (c ∷ es) later) rest.0) rest.1)

  takes-alike : (f u : Entry) (xs ys : List Entry) → Alike xs ys → (t : Takes table f u xs) → (d : Takes table f u ys) × Alike (taken table f u xs t) (taken table f u ys d)
  takes-alike f u xs ys (inl same) t = subst (λ zs. (d : Takes table f u zs) × Alike (taken table f u xs t) (taken table f u zs d)) same (t, inl refl)
  takes-alike f u xs ys (inr swap) t =
      subst (λ zs. (d : Takes table f u zs) × Alike (taken table f u xs t) (taken table f u zs d)) swap.1 (takes-swap f u xs swap.0 t)

  alike-turned : (xs ys : List Entry) → Alike xs ys → Alike ys xs
  alike-turned xs ys (inl same) = inl (sym same)
  alike-turned xs ys (inr swap) =
      subst (λ zs. Alike zs xs) swap.1 (inr (swaps-back xs swap.0))

  -- So it is of all that goes.
  all-alike : {xs left : List Entry} → TakesAll table xs left → (ys : List Entry) → Alike xs ys → (other : List Entry) × TakesAll table ys other × Alike left other
  all-alike takes_none ys alike = (ys, takes_none, alike)
  all-alike (takes_first {xs = xs} f u t more) ys alike =
      let one = takes-alike f u xs ys alike t in
      let rest = all-alike more (taken table f u ys one.0) one.1 in
      (rest.0, takes_first f u one.0 rest.1, rest.2)

  -- what is left is alike
  pub leaves-alike : (xs left ys : List Entry) → Leaves table xs left → Alike xs ys → (other : List Entry) × Leaves table ys other × Alike left other
  leaves-alike xs left ys leaves alike =
      let all = all-alike leaves.takes ys alike in
      (all.0, record { takes = all.1; none = λ f u t. leaves.none f u (takes-alike f u all.0 left (alike-turned left all.0 all.2) t).0 }, all.2)
