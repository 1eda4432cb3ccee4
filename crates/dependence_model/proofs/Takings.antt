-- A step and its undo are taken away: by recursion on the list, without places.
use Rattle.std.proofs.Common.{◌≡◌, ◌⊎◌, inl, inr, ⊎_elim, Bool, true, false, cond, if◌then◌else◌, List, [], ◌∷◌, ◌++◌, sym, refl, ap, ◌∙◌, subst}
use Rattle.process_tree.specs.declared.entry.Entry.{Entry}
use Rattle.schedule_model.specs.Conflict.{ConflictRelation}
use Rattle.schedule_model.specs.Reduction.{is_pair}
use Rattle.schedule_model.proofs.Members.{Among, among-left, among-right, among-append, any-among, among-any, not_any}
use Rattle.dependence_model.specs.Dependence.{depends, depends_on_any}
use Rattle.dependence_model.specs.Laws.{AreOnce}
use Rattle.dependence_model.proofs.Sublists.{Sub, sub-itself, sub-more, among-sub}
use Rattle.dependence_model.proofs.Once.{none-among, AreTwins, twins-turned, no-twin}

-- every one of these is one of those
abbrev pub AllIn : List Entry → List Entry → Type 0
AllIn xs ys = (e : Entry) → Among e xs → Among e ys

module _ (table : ConflictRelation) where
  -- the entries that the chains from f have found, once they have come by x
  abbrev pub grown : Entry → List Entry → Entry → List Entry
  grown f found x = if depends_on_any table (f ∷ found) x then found ++ x ∷ [] else found

  pub grown-has : (f : Entry) (found : List Entry) (x : Entry) → AllIn found (grown f found x)
  grown-has f found x e is = by_test (depends_on_any table (f ∷ found) x)
    where
      by_test : (t : Bool) → Among e (cond t (found ++ x ∷ []) found)
      by_test true = among-left e found (x ∷ []) is
      by_test false = is

  pub grown-new : (f : Entry) (found : List Entry) (x : Entry) → depends_on_any table (f ∷ found) x ≡ true → Among x (grown f found x)
  grown-new f found x new = subst (λ t. Among x (cond t (found ++ x ∷ []) found)) (sym new) (among-right x found (x ∷ []) (inl refl))

  pub grown-from : (f : Entry) (found : List Entry) (x e : Entry) → Among e (grown f found x) → Among e found ⊎ ((x ≡ e) × (depends_on_any table (f ∷ found) x ≡ true))
  grown-from f found x e is = by_test (depends_on_any table (f ∷ found) x) refl is
    where
      by_test : (t : Bool) → depends_on_any table (f ∷ found) x ≡ t → Among e (cond t (found ++ x ∷ []) found)
          → Among e found ⊎ ((x ≡ e) × (depends_on_any table (f ∷ found) x ≡ true))
      by_test false none is = inl is
      by_test true new is = ⊎_elim (λ old. inl old) (λ last. inr (⊎_elim (λ same. same) (λ no. absurd no) last, new)) (among-append e found (x ∷ []) is)

  pub grown-not : (f : Entry) (found : List Entry) (x : Entry) → depends_on_any table (f ∷ found) x ≡ false → grown f found x ≡ found
  grown-not f found x none = ap (λ t. cond t (found ++ x ∷ []) found) none

  -- what depends on some depends on more
  pub depends-more : (xs ys : List Entry) (e : Entry) → AllIn xs ys → depends_on_any table xs e ≡ true → depends_on_any table ys e ≡ true
  depends-more xs ys e all is =
      let found = among-any (λ x. depends table x e) xs is in any-among (λ x. depends table x e) found.0 ys (all found.0 found.1) found.2

  pub depends-less : (xs ys : List Entry) (e : Entry) → AllIn xs ys → depends_on_any table ys e ≡ false → depends_on_any table xs e ≡ false
  depends-less xs ys e all none = not_any (λ x. depends table x e) xs (λ x is. none-among (λ x. depends table x e) x ys none (all x is))

  all-in_more : (f : Entry) (xs ys : List Entry) → AllIn xs ys → AllIn (f ∷ xs) (f ∷ ys)
  all-in_more f xs ys all e (inl here) = inl here
  all-in_more f xs ys all e (inr later) = inr (all e later)

  pub grown-more : (f : Entry) (xs ys : List Entry) (a b : Entry) → AllIn xs ys → a ≡ b → AllIn (grown f xs a) (grown f ys b)
  grown-more f xs ys a b all same e is =
      ⊎_elim (λ old. grown-has f ys b e (all e old))
      (λ new. subst (λ z. Among z (grown f ys b)) (sym same ∙ new.0)
      (grown-new f ys b (depends-more (f ∷ xs) (f ∷ ys) b (all-in_more f xs ys all) (subst (λ z. depends_on_any table (f ∷ xs) z ≡ true) same new.1))))
      (grown-from f xs a e is)

  -- Behind the step f stands its undo u, and no chain leads to it. Found are those that chains have found so far.
  abbrev pub Closes : Entry → Entry → List Entry → List Entry → Type 0
  Closes f u found [] = ⊥
  Closes f u found (x ∷ xs) = ((x ≡ u) × (is_pair f u ≡ true) × (depends_on_any table found u ≡ false)) ⊎ Closes f u (grown f found x) xs

  -- what stands there without the undo
  abbrev pub closed : (f u : Entry) (found xs : List Entry) → Closes f u found xs → List Entry
  closed f u found [] c = []
  closed f u found (x ∷ xs) (inl here) = xs
  closed f u found (x ∷ xs) (inr later) = x ∷ closed f u (grown f found x) xs later

  -- the step f stands in the list, and its undo u behind it so that both can go
  abbrev pub Takes : Entry → Entry → List Entry → Type 0
  Takes f u [] = ⊥
  Takes f u (x ∷ xs) = ((x ≡ f) × Closes f u [] xs) ⊎ Takes f u xs

  -- the list without both
  abbrev pub taken : (f u : Entry) (xs : List Entry) → Takes f u xs → List Entry
  taken f u [] t = []
  taken f u (x ∷ xs) (inl here) = closed f u [] xs here.1
  taken f u (x ∷ xs) (inr later) = x ∷ taken f u xs later

  pub closes-pair : (f u : Entry) (found xs : List Entry) → Closes f u found xs → is_pair f u ≡ true
  closes-pair f u found [] c = absurd c
  closes-pair f u found (x ∷ xs) (inl here) = here.1
  closes-pair f u found (x ∷ xs) (inr later) = closes-pair f u (grown f found x) xs later

  pub takes-pair : (f u : Entry) (xs : List Entry) → Takes f u xs → is_pair f u ≡ true
  takes-pair f u [] t = absurd t
  takes-pair f u (x ∷ xs) (inl here) = closes-pair f u [] xs here.1
  takes-pair f u (x ∷ xs) (inr later) = takes-pair f u xs later

  -- Where they stand, and what is left.

  pub undo-among : (f u : Entry) (found xs : List Entry) → Closes f u found xs → Among u xs
  undo-among f u found [] c = absurd c
  undo-among f u found (x ∷ xs) (inl here) = inl here.0
  undo-among f u found (x ∷ xs) (inr later) = inr (undo-among f u (grown f found x) xs later)

  pub takes-step : (f u : Entry) (xs : List Entry) → Takes f u xs → Among f xs
  takes-step f u [] t = absurd t
  takes-step f u (x ∷ xs) (inl here) = inl here.0
  takes-step f u (x ∷ xs) (inr later) = inr (takes-step f u xs later)

  pub takes-undo : (f u : Entry) (xs : List Entry) → Takes f u xs → Among u xs
  takes-undo f u [] t = absurd t
  takes-undo f u (x ∷ xs) (inl here) = inr (undo-among f u [] xs here.1)
  takes-undo f u (x ∷ xs) (inr later) = inr (takes-undo f u xs later)

  pub closed-sub : (f u : Entry) (found xs : List Entry) (c : Closes f u found xs) → Sub (closed f u found xs c) xs
  closed-sub f u found [] c = absurd c
  closed-sub f u found (x ∷ xs) (inl here) = sub-more xs x xs (sub-itself xs)
  closed-sub f u found (x ∷ xs) (inr later) = inl (refl, closed-sub f u (grown f found x) xs later)

  pub taken-sub : (f u : Entry) (xs : List Entry) (t : Takes f u xs) → Sub (taken f u xs t) xs
  taken-sub f u [] t = absurd t
  taken-sub f u (x ∷ xs) (inl here) = sub-more (closed f u [] xs here.1) x xs (closed-sub f u [] xs here.1)
  taken-sub f u (x ∷ xs) (inr later) = inl (refl, taken-sub f u xs later)

  -- each entry was one of both, or is left
  pub closed-or_left : (f u : Entry) (found xs : List Entry) (c : Closes f u found xs) (e : Entry) → Among e xs → (u ≡ e) ⊎ Among e (closed f u found xs c)
  closed-or_left f u found [] c e is = absurd is
  closed-or_left f u found (x ∷ xs) (inl here) e (inl same) = inl (sym here.0 ∙ same)
  closed-or_left f u found (x ∷ xs) (inl here) e (inr is) = inr is
  closed-or_left f u found (x ∷ xs) (inr later) e (inl same) = inr (inl same)
  closed-or_left f u found (x ∷ xs) (inr later) e (inr is) = ⊎_elim (λ same. inl same) (λ left. inr (inr left)) (closed-or_left f u (grown f found x) xs later e is)

  pub taken-or_left : (f u : Entry) (xs : List Entry) (t : Takes f u xs) (e : Entry) → Among e xs → (f ≡ e) ⊎ ((u ≡ e) ⊎ Among e (taken f u xs t))
  taken-or_left f u [] t e is = absurd is
  taken-or_left f u (x ∷ xs) (inl here) e (inl same) = inl (sym here.0 ∙ same)
  taken-or_left f u (x ∷ xs) (inl here) e (inr is) = inr (closed-or_left f u [] xs here.1 e is)
  taken-or_left f u (x ∷ xs) (inr later) e (inl same) = inr (inr (inl same))
  taken-or_left f u (x ∷ xs) (inr later) e (inr is) =
      ⊎_elim (λ same. inl same) (λ rest. inr (⊎_elim (λ same. inl same) (λ left. inr (inr left)) rest)) (taken-or_left f u xs later e is)

  -- Nothing that is left is of the same step as either, and done or undone as it is.

  pub closed-no_twin : (f u : Entry) (found xs : List Entry) (c : Closes f u found xs) (g : Entry) → AreOnce xs → Among g (closed f u found xs c) → AreTwins g u → ⊥
  closed-no_twin f u found [] c g once is twins = c
  closed-no_twin f u found (x ∷ xs) (inl here) g once is twins =
      no-twin x g xs once is (subst (λ z. AreTwins z g) (sym here.0) (twins-turned g u twins))
  closed-no_twin f u found (x ∷ xs) (inr later) g once (inl same) twins =
      no-twin x u xs once (undo-among f u (grown f found x) xs later) (subst (λ z. AreTwins z u) (sym same) twins)
  closed-no_twin f u found (x ∷ xs) (inr later) g once (inr is) twins = closed-no_twin f u (grown f found x) xs later g once.1 is twins

  pub taken-no_undo : (f u : Entry) (xs : List Entry) (t : Takes f u xs) (g : Entry) → AreOnce xs → Among g (taken f u xs t) → AreTwins g u → ⊥
  taken-no_undo f u [] t g once is twins = t
  taken-no_undo f u (x ∷ xs) (inl here) g once is twins = closed-no_twin f u [] xs here.1 g once.1 is twins
  taken-no_undo f u (x ∷ xs) (inr later) g once (inl same) twins = no-twin x u xs once (takes-undo f u xs later) (subst (λ z. AreTwins z u) (sym same) twins)
  taken-no_undo f u (x ∷ xs) (inr later) g once (inr is) twins = taken-no_undo f u xs later g once.1 is twins

  pub taken-no_step : (f u : Entry) (xs : List Entry) (t : Takes f u xs) (g : Entry) → AreOnce xs → Among g (taken f u xs t) → AreTwins g f → ⊥
  taken-no_step f u [] t g once is twins = t
  taken-no_step f u (x ∷ xs) (inl here) g once is twins =
      no-twin x g xs once (among-sub g (closed f u [] xs here.1) xs (closed-sub f u [] xs here.1) is) (subst (λ z. AreTwins z g) (sym here.0) (twins-turned g f twins))
  taken-no_step f u (x ∷ xs) (inr later) g once (inl same) twins = no-twin x f xs once (takes-step f u xs later) (subst (λ z. AreTwins z f) (sym same) twins)
  taken-no_step f u (x ∷ xs) (inr later) g once (inr is) twins = taken-no_step f u xs later g once.1 is twins
