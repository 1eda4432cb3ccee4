-- The same with places: what is taken away of a list with places is taken away of its entries, and the other way round.
use Rattle.std.proofs.Common.{◌≡◌, inl, inr, ℕ, ◌+◌, true, false, not, List, [], ◌∷◌, ◌++◌, length, sym, refl, ap, ◌∙◌, subst, arith}
use Rattle.std.proofs.lemmas.Bool.{not-true}
use Rattle.std.proofs.lemmas.List.{map-append}
use Rattle.process_tree.specs.declared.entry.Entry.{Entry}
use Rattle.schedule_model.specs.Conflict.{ConflictRelation}
use Rattle.schedule_model.specs.Reduction.{is_pair}
use Rattle.schedule_model.proofs.Members.{Among, in_map}
use Rattle.dependence_model.specs.declared.placed.Placed.{Placed}
use Rattle.dependence_model.specs.Dependence.{depends_on_any, chained, can_go, placed_from, placed, entries_of, IsTaken, AreTaken, none_taken, taken_first, IsLeft}
use Rattle.dependence_model.specs.Laws.{AreOnce, LeftIsUnique}
use Rattle.dependence_model.proofs.Sublists.{Sub, sub-itself, sub-more, sub-trans, among-sub}
use Rattle.dependence_model.proofs.Once.{not-behind}
use Rattle.dependence_model.proofs.Takings.{grown, Closes, closed, Takes, taken}
use Rattle.dependence_model.proofs.Unique.{TakesAll, takes_none, takes_first, Leaves, leaves-unique}

pub entries-append : (xs ys : List Placed) → entries_of (xs ++ ys) ≡ entries_of xs ++ entries_of ys
entries-append xs ys = map-append (λ (x : Placed). x.entry) xs ys

pub entries-placed : (n : ℕ) (es : List Entry) → entries_of (placed_from n es) ≡ es
entries-placed n [] = refl
entries-placed n (e ∷ es) = ap (λ fs. e ∷ fs) (entries-placed (n + 1) es)

sub-behind : {X : Type 0} → (front xs ys : List X) → Sub xs ys → Sub (front ++ xs) (front ++ ys)
sub-behind [] xs ys sub = sub
sub-behind (z ∷ front) xs ys sub = inl (refl, sub-behind front xs ys sub)

module _ (table : ConflictRelation) where
  -- A step and its undo at their places.

  closes-at : (f u : Entry) (found between after : List Entry) → is_pair f u ≡ true → depends_on_any table (chained table f found between) u ≡ false
      → (c : Closes table f u found (between ++ u ∷ after)) × (closed table f u found (between ++ u ∷ after) c ≡ between ++ after)
  closes-at f u found [] after pair none = (inl (refl, pair, none), refl)
  closes-at f u found (x ∷ between) after pair none =
      let rest = closes-at f u (grown table f found x) between after pair none in (inr rest.0, ap (λ es. x ∷ es) rest.1)

  pub takes-at : (f u : Entry) (before between after : List Entry) → is_pair f u ≡ true → depends_on_any table (chained table f [] between) u ≡ false
      → (t : Takes table f u (before ++ f ∷ (between ++ u ∷ after))) × (taken table f u (before ++ f ∷ (between ++ u ∷ after)) t ≡ before ++ (between ++ after))
  takes-at f u [] between after pair none = let c = closes-at f u [] between after pair none in (inl (refl, c.0), c.1)
  takes-at f u (x ∷ before) between after pair none = let rest = takes-at f u before between after pair none in (inr rest.0, ap (λ es. x ∷ es) rest.1)

  -- what is taken away with places is taken away of the entries
  pub taken-entries : (xs ys : List Placed) → IsTaken table xs ys → (f u : Entry) × (t : Takes table f u (entries_of xs)) × (entries_of ys ≡ taken table f u (entries_of xs) t)
  taken-entries xs ys (before, between, after, f, u, xs_is, ys_is, pair, can) =
      let at = takes-at f.entry u.entry (entries_of before) (entries_of between) (entries_of after) pair
      (not-true (depends_on_any table (chained table f.entry [] (entries_of between)) u.entry) can) in
      let whole : entries_of before ++ f.entry ∷ (entries_of between ++ u.entry ∷ entries_of after) ≡ entries_of xs =
      sym (ap entries_of xs_is ∙ (entries-append before (f ∷ (between ++ u ∷ after)) ∙ ap (λ es. entries_of before ++ f.entry ∷ es) (entries-append between (u ∷ after)))) in
      let rest : entries_of ys ≡ entries_of before ++ (entries_of between ++ entries_of after) =
      ap entries_of ys_is ∙ (entries-append before (between ++ after) ∙ ap (λ es. entries_of before ++ es) (entries-append between after)) in
      let both : (t : Takes table f.entry u.entry (entries_of xs)) × (entries_of ys ≡ taken table f.entry u.entry (entries_of xs) t) =
      subst (λ es. (t : Takes table f.entry u.entry es) × (entries_of ys ≡ taken table f.entry u.entry es t)) whole (at.0, rest ∙ sym at.1) in
      (f.entry, u.entry, both.0, both.1)

  -- And the other way round.

  closes-split : (f u : Entry) (found : List Entry) (xs : List Placed) (c : Closes table f u found (entries_of xs)) → (between after : List Placed) × (v : Placed)
      × (xs ≡ between ++ v ∷ after) × (v.entry ≡ u) × (entries_of (between ++ after) ≡ closed table f u found (entries_of xs) c)
      × (is_pair f u ≡ true) × (depends_on_any table (chained table f found (entries_of between)) u ≡ false)
  closes-split f u found [] c = absurd c
  closes-split f u found (x ∷ xs) (inl here) = ([], xs, x, refl, here.0, refl, here.1, here.2)
  closes-split f u found (x ∷ xs) (inr later) =
      let s = closes-split f u (grown table f found x.entry) xs later in
      (x ∷ s.0, s.1, s.2, ap (λ ys. x ∷ ys) s.3, s.4, ap (λ es. x.entry ∷ es) s.5, s.6, s.7)

  pub taken-placed : (f u : Entry) (xs : List Placed) (t : Takes table f u (entries_of xs)) → (ys : List Placed) × IsTaken table xs ys × (entries_of ys ≡ taken table f u (entries_of xs) t)
  taken-placed f u [] t = absurd t
  taken-placed f u (x ∷ xs) (inl here) =
      let s = closes-split f u [] xs here.1 in
      let pair : is_pair x.entry s.2.entry ≡ true = subst (λ g. is_pair g s.2.entry ≡ true) (sym here.0) (subst (λ w. is_pair f w ≡ true) (sym s.4) s.6) in
      let can : can_go table x.entry (entries_of s.0) s.2.entry ≡ true =
      subst (λ g. can_go table g (entries_of s.0) s.2.entry ≡ true) (sym here.0) (subst (λ w. can_go table f (entries_of s.0) w ≡ true) (sym s.4) (ap not s.7)) in
      (s.0 ++ s.1, ([], s.0, s.1, x, s.2, ap (λ ys. x ∷ ys) s.3, refl, pair, can), s.5)
  taken-placed f u (x ∷ xs) (inr later) =
      let rest = taken-placed f u xs later in
      (x ∷ rest.0, one_more rest.0 rest.1, ap (λ es. x.entry ∷ es) rest.2)
    where
      one_more : (ys : List Placed) → IsTaken table xs ys → IsTaken table (x ∷ xs) (x ∷ ys)
      one_more ys (before, between, after, g, v, xs_is, ys_is, pair, can) =
          (x ∷ before, between, after, g, v, ap (λ zs. x ∷ zs) xs_is, ap (λ zs. x ∷ zs) ys_is, pair, can)

  -- So it is with what is left.

  all-entries : {xs ys : List Placed} → AreTaken table xs ys → TakesAll table (entries_of xs) (entries_of ys)
  all-entries none_taken = takes_none
  all-entries (taken_first {xs = xs} {ys = ys} {zs = zs} one more) =
      let first = taken-entries xs ys one in
      takes_first first.0 first.1 first.2 (subst (λ es. TakesAll table es (entries_of zs)) first.3 (all-entries more))

  pub left-entries : (xs left : List Placed) → IsLeft table xs left → Leaves table (entries_of xs) (entries_of left)
  left-entries xs left is = record { takes = all-entries is.taken; none = λ f u t. let one = taken-placed f u left t in is.no_more one.0 one.1 }

  -- A part of a list with places is told by its entries.

  taken-part : (xs ys : List Placed) → IsTaken table xs ys → Sub ys xs
  taken-part xs ys (before, between, after, f, u, xs_is, ys_is, pair, can) =
      subst (λ zs. Sub zs xs) (sym ys_is) (subst (λ zs. Sub (before ++ (between ++ after)) zs) (sym xs_is)
      (sub-behind before (between ++ after) (f ∷ (between ++ u ∷ after))
      (sub-more (between ++ after) f (between ++ u ∷ after) (sub-behind between after (u ∷ after) (sub-more after u after (sub-itself after))))))

  pub all-part : {xs ys : List Placed} → AreTaken table xs ys → Sub ys xs
  all-part (none_taken {xs = xs}) = sub-itself xs
  all-part (taken_first {xs = xs} {ys = ys} {zs = zs} one more) = sub-trans zs ys xs (all-part more) (taken-part xs ys one)

same-heads : (x y : Placed) (xs ys : List Placed) → entries_of (x ∷ xs) ≡ entries_of (y ∷ ys) → (x.entry ≡ y.entry) × (entries_of xs ≡ entries_of ys)
same-heads x y xs ys same =
    let both : x.entry ∷ entries_of xs ≡ y.entry ∷ entries_of ys = same in
    let head : x.entry ≡ y.entry = cc in
    let tail : entries_of xs ≡ entries_of ys = cc in
    (head, tail)

-- one can't begin with an entry that stands further on in the list, too
stands-twice : (z y : Placed) (ys zs : List Placed) → AreOnce (entries_of (z ∷ zs)) → Sub (y ∷ ys) zs → y.entry ≡ z.entry → ⊥
stands-twice z y ys zs once sub same =
    not-behind z.entry (entries_of zs) once (subst (λ e. Among e (entries_of zs)) same (in_map (λ (x : Placed). x.entry) y zs (among-sub y (y ∷ ys) zs sub (inl refl))))

same-part : (xs ys zs : List Placed) → Sub xs zs → Sub ys zs → entries_of xs ≡ entries_of ys → AreOnce (entries_of zs) → xs ≡ ys
same-part [] [] zs one two same once = refl
same-part [] (y ∷ ys) zs one two same once = let l = ap length same in absurd (omega arith)
same-part (x ∷ xs) [] zs one two same once = let l = ap length same in absurd (omega arith)
same-part (x ∷ xs) (y ∷ ys) [] one two same once = absurd one
same-part (x ∷ xs) (y ∷ ys) (z ∷ zs) (inl here) (inl there) same once =
    ap (λ w. w ∷ xs) (here.0 ∙ sym there.0) ∙ ap (λ ws. y ∷ ws) (same-part xs ys zs here.1 there.1 (same-heads x y xs ys same).1 once.1)
same-part (x ∷ xs) (y ∷ ys) (z ∷ zs) (inl here) (inr two) same once =
    absurd (stands-twice z y ys zs once two (sym (same-heads x y xs ys same).0 ∙ ap (λ (w : Placed). w.entry) here.0))
same-part (x ∷ xs) (y ∷ ys) (z ∷ zs) (inr one) (inl there) same once =
    absurd (stands-twice z x xs zs once one ((same-heads x y xs ys same).0 ∙ ap (λ (w : Placed). w.entry) there.0))
same-part (x ∷ xs) (y ∷ ys) (z ∷ zs) (inr one) (inr two) same once = same-part (x ∷ xs) (y ∷ ys) zs one two same once.1

pub once-placed : (es : List Entry) → AreOnce es → AreOnce (entries_of (placed es))
once-placed es once = subst AreOnce (sym (entries-placed 1 es)) once

pub left-unique : LeftIsUnique
left-unique table es left other once one two =
    same-part left other (placed es) (all-part table one.taken) (all-part table two.taken)
    (leaves-unique table (entries_of (placed es)) (entries_of left) (entries_of other) (once-placed es once)
    (left-entries table (placed es) left one) (left-entries table (placed es) other two))
    (once-placed es once)
