-- Steps taken away with their undos: where one is taken, and where none can be.
use Rattle.std.proofs.Common.{◌≡◌, ◌⊎◌, inl, inr, ℕ, Bool, true, false, not, ◌||◌, ◌&&◌, List, [], ◌∷◌, ◌++◌, length, take, drop, eqb, ◌≤◌, ◌<◌, ◌+◌, sym, refl, ap, ◌∙◌, subst, arith, append_assoc, length-append}
use Rattle.std.specs.Bool.{IsTrue}
use Rattle.std.specs.List.{list_any, remove}
use Rattle.std.proofs.lemmas.List.{take-append-drop}
use Rattle.std.proofs.lemmas.Bool.{or_left, and_parts, false≢true, eqb-true, eq-eqb, cases_Bool}
use Rattle.schedule_model.specs.Conflict.{ConflictRelation}
use Rattle.schedule_model.specs.Histories.{same_step}
use Rattle.schedule_model.specs.Reduction.{is_pair}
use Rattle.dependence_model.specs.declared.placed.Placed.{Placed}
use Rattle.dependence_model.specs.Dependence.{can_go, entries_of, IsTaken, AreTaken, none_taken, taken_first}
use Rattle.audit_core.specs.Taking.{is_own, AreAllKnown, IsTakenAt, StaysAt, TookFrom, TookSome}
use Rattle.process_tree.specs.Conflicts.{Table}
use Rattle.process_tree.specs.Order.{Each}
use Rattle.process_tree.proofs.Every.{Each-append}
use Rattle.audit_core.specs.Arrows.{AreFew, columns}
use Rattle.audit_core.proofs.Chains.{own_stays}

-- two lists that begin with as many
same_front : {X : Type 0} (xs vs ys ws : List X) → length xs ≡ length vs → xs ++ ys ≡ vs ++ ws → (xs ≡ vs) × (ys ≡ ws)
same_front [] [] ys ws long is = (refl, is)
same_front [] (v ∷ vs) ys ws long is = absurd (omega (arith, long))
same_front (x ∷ xs) [] ys ws long is = absurd (omega (arith, long))
same_front (x ∷ xs) (v ∷ vs) ys ws long is =
    let head : x ≡ v = cc in
    let tail : xs ++ ys ≡ vs ++ ws = cc in
    let more = same_front xs vs ys ws (omega (arith, long)) tail in
    let fronts : x ∷ xs ≡ v ∷ vs = cc (head, more.0) in
    (fronts, more.1)

-- the next entry of a process is one, wherever the list is cut
next_is : (i : ℕ) (mid rest between after : List Placed) (u : Placed) → list_any (is_own i) mid ≡ false
    → ((x : Placed) (more : List Placed) → rest ≡ x ∷ more → is_own i x ≡ true) → list_any (is_own i) between ≡ false → is_own i u ≡ true
    → between ++ u ∷ after ≡ mid ++ rest → (between ≡ mid) × (rest ≡ u ∷ after)
next_is i [] rest [] after u none next clear own is = (refl, sym is)
next_is i [] rest (b ∷ bs) after u none next clear own is =
    absurd (false≢true (sym clear ∙ or_left (is_own i b) (list_any (is_own i) bs) (next b (bs ++ u ∷ after) (sym is))))
next_is i (m ∷ ms) rest [] after u none next clear own is =
    let head : u ≡ m = cc in
    absurd (false≢true (sym none ∙ or_left (is_own i m) (list_any (is_own i) ms) (ap (is_own i) (sym head) ∙ own)))
next_is i (m ∷ ms) rest (b ∷ bs) after u none next clear own is =
    let head : b ≡ m = cc in
    let tail : bs ++ u ∷ after ≡ ms ++ rest = cc in
    let more = next_is i ms rest bs after u (later (is_own i m) (list_any (is_own i) ms) none) next (later (is_own i b) (list_any (is_own i) bs) clear) own tail in
    let fronts : b ∷ bs ≡ m ∷ ms = cc (head, more.0) in
    (fronts, more.1)
  where
    later : (a b : Bool) → (a || b) ≡ false → b ≡ false
    later true b none = absurd (false≢true (sym none))
    later false b none = none

module _ (table : ConflictRelation) where
  pub taken-at : (at : ℕ) (xs ys : List Placed) → IsTakenAt table at xs ys → IsTaken table xs ys
  taken-at at xs ys t = (t.0, t.1, t.2, t.3, t.4, t.6, t.7, t.8, t.9)

  pub at-taken : (xs ys : List Placed) → IsTaken table xs ys → (at : ℕ) × IsTakenAt table at xs ys
  at-taken xs ys t = (length t.0, (t.0, t.1, t.2, t.3, t.4, refl, t.5, t.6, t.7, t.8))

  -- one pair more, behind the others
  pub taken-last : {xs ys zs : List Placed} → AreTaken table xs ys → IsTaken table ys zs → AreTaken table xs zs
  taken-last none_taken last = taken_first last none_taken
  taken-last (taken_first first rest) last = taken_first first (taken-last rest last)

  pub taken-append : {xs ys zs : List Placed} → AreTaken table xs ys → AreTaken table ys zs → AreTaken table xs zs
  taken-append none_taken more = more
  taken-append (taken_first first rest) more = taken_first first (taken-append rest more)

  own_between : (f u : Placed) (between : List Placed) → eqb f.entry.process u.entry.process ≡ true → IsTrue (can_go table f.entry (entries_of between) u.entry)
      → list_any (is_own f.entry.process) between ≡ false
  own_between f u between same goes = by (cases_Bool (list_any (is_own f.entry.process) between))
    where
      by : (list_any (is_own f.entry.process) between ≡ true) ⊎ (list_any (is_own f.entry.process) between ≡ false) → list_any (is_own f.entry.process) between ≡ false
      by (inl has) = absurd (false≢true (sym (ap not (own_stays table f.entry [] between u.entry same has)) ∙ goes))
      by (inr none) = none

  pair_own : (f u : Placed) → IsTrue (is_pair f.entry u.entry) → eqb f.entry.process u.entry.process ≡ true
  pair_own f u pair =
      let undone = (and_parts (not f.entry.undo) (u.entry.undo && same_step f.entry u.entry) pair).1 in
      let same = (and_parts u.entry.undo (same_step f.entry u.entry) undone).1 in
      (and_parts (eqb f.entry.process u.entry.process) (eqb f.entry.step u.entry.step) same).0

  -- where the next entry of its process isn't its undo, or there is a chain to that, a step stays
  pub stays_so : (at : ℕ) (front mid rest xs : List Placed) (step : Placed) → xs ≡ front ++ step ∷ (mid ++ rest) → length front ≡ at
      → list_any (is_own step.entry.process) mid ≡ false → ((x : Placed) (more : List Placed) → rest ≡ x ∷ more → is_own step.entry.process x ≡ true)
      → ((u : Placed) (after : List Placed) → rest ≡ u ∷ after → IsTrue (is_pair step.entry u.entry) → IsTrue (can_go table step.entry (entries_of mid) u.entry) → ⊥)
      → StaysAt table at xs
  stays_so at front mid rest xs step is long none next no' ys t =
      let split = same_front t.0 front (t.3 ∷ t.1 ++ t.4 ∷ t.2) (step ∷ (mid ++ rest)) (t.5 ∙ sym long) (sym t.6 ∙ is) in
      let both : t.3 ∷ (t.1 ++ t.4 ∷ t.2) ≡ step ∷ (mid ++ rest) = split.1 in
      let head : t.3 ≡ step = cc in
      let tail : t.1 ++ t.4 ∷ t.2 ≡ mid ++ rest = cc in
      let same = pair_own t.3 t.4 t.8 in
      let clear = own_between t.3 t.4 t.1 same t.9 in
      let own : is_own step.entry.process t.4 ≡ true = eq-eqb t.4.entry.process step.entry.process (sym (eqb-true t.3.entry.process t.4.entry.process same) ∙ ap (λ (x : Placed). x.entry.process) head) in
      let found = next_is step.entry.process mid rest t.1 t.2 t.4 none next (ap (λ (x : Placed). list_any (is_own x.entry.process) t.1) (sym head) ∙ clear) own tail in
      no' t.4 t.2 found.1 (ap (λ (x : Placed). is_pair x.entry t.4.entry) (sym head) ∙ t.8)
      (ap (λ (ms : List Placed). can_go table step.entry (entries_of ms) t.4.entry) (sym found.0)
      ∙ (ap (λ (x : Placed). can_go table x.entry (entries_of t.1) t.4.entry) (sym head) ∙ t.9))

  pub taken_long : (at : ℕ) (xs ys : List Placed) → IsTakenAt table at xs ys → at ≤ length ys
  taken_long at xs ys t =
      let fronts = length-append t.1 t.2 in
      let all = length-append t.0 (t.1 ++ t.2) in
      let same = ap length t.7 in
      let long = t.5 in
      omega (arith, fronts, all, same, long)

  pub taken_fewer : (at : ℕ) (xs ys : List Placed) → IsTakenAt table at xs ys → length ys < length xs
  taken_fewer at xs ys t =
      let a = length-append t.1 t.2 in
      let b = length-append t.0 (t.1 ++ t.2) in
      let same = ap length t.7 in
      let c = length-append t.1 (t.4 ∷ t.2) in
      let d = length-append t.0 (t.3 ∷ (t.1 ++ t.4 ∷ t.2)) in
      let was = ap length t.6 in
      omega (arith, a, b, same, c, d, was)

  -- a step more is taken away
  pub took-then : (from at : ℕ) (old xs ys : List Placed) (t : Bool) → TookFrom table from old xs t → IsTakenAt table at xs ys
      → AreTaken table old ys × (length ys < length old)
  took-then from at old xs ys true took this =
      let fewer = taken_fewer at xs ys this in
      let before = took.1 in
      (taken-last took.0 (taken-at at xs ys this), omega (arith, fewer, before))
  took-then from at old xs ys false took this =
      subst (λ zs. AreTaken table zs ys × (length ys < length zs)) took.0 (taken_first (taken-at at xs ys this) none_taken, taken_fewer at xs ys this)

  -- or it stays
  pub took-else : (from at : ℕ) (old xs ys : List Placed) (t : Bool) → from ≡ at + 1 → TookFrom table from old xs t → (ys ≡ xs) × StaysAt table at xs → TookFrom table at old ys t
  took-else from at old xs ys true next took this = subst (λ zs. AreTaken table old zs × (length zs < length old)) (sym this.0) took
  took-else from at old xs ys false next took this = (this.0 ∙ took.0, λ k above. by k above (cases_eq k at))
    where
      cases_eq : (a b : ℕ) → (a ≡ b) ⊎ ((a ≡ b) → ⊥)
      cases_eq a b = split (cases_Bool (eqb a b))
        where
          split : (eqb a b ≡ true) ⊎ (eqb a b ≡ false) → (a ≡ b) ⊎ ((a ≡ b) → ⊥)
          split (inl is) = inl (eqb-true a b is)
          split (inr no') = inr (λ same. false≢true (sym no' ∙ eq-eqb a b same))

      by : (k : ℕ) → at ≤ k → (k ≡ at) ⊎ ((k ≡ at) → ⊥) → StaysAt table k old
      by k above (inl same) = subst (λ (zs : List Placed). StaysAt table k zs) took.0 (subst (λ (n : ℕ). StaysAt table n xs) (sym same) this.1)
      by k above (inr other) = took.1 k (omega (arith, above, other, next))

  pub took-all : (old xs : List Placed) (t : Bool) (from : ℕ) → from ≤ 0 → TookFrom table from old xs t → TookSome table old xs t
  took-all old xs true from none took = took
  took-all old xs false from none took = (took.0, λ at. took.1 at (omega (arith, none)))

  pub some-taken : (zs xs ys : List Placed) (t : Bool) → AreTaken table zs xs → TookSome table xs ys t → AreTaken table zs ys
  some-taken zs xs ys true before took = taken-append before took.0
  some-taken zs xs ys false before took = subst (λ ws. AreTaken table zs ws) (sym took.0) before

  pub some-stays : (xs ys : List Placed) (t : Bool) → TookSome table xs ys t → t ≡ false → (at : ℕ) → StaysAt table at ys
  some-stays xs ys true took none at = absurd (false≢true (sym none))
  some-stays xs ys false took none at = subst (λ (zs : List Placed). StaysAt table at zs) (sym took.0) (took.1 at)

-- what is left of a list without two of its entries
pub remove-here : (xs : List Placed) (x : Placed) (ys : List Placed) → remove (xs ++ x ∷ ys) (length xs) ≡ xs ++ ys
remove-here [] x ys = refl
remove-here (z ∷ xs) x ys = ap (λ zs. z ∷ zs) (remove-here xs x ys)

pub removed_pair : (before between after xs ys zs : List Placed) (f u : Placed) (at n : ℕ) → length before ≡ at → length between ≡ n
    → xs ≡ before ++ f ∷ (between ++ u ∷ after) → ys ≡ remove xs (at + 1 + n) → zs ≡ remove ys at → zs ≡ before ++ (between ++ after)
removed_pair before between after xs ys zs f u at n long size is first then' =
    let front = length-append before (f ∷ between) in
    let place : at + 1 + n ≡ length (before ++ f ∷ between) = omega (arith, front, long, size) in
    let once : ys ≡ (before ++ f ∷ between) ++ after = first ∙ (ap (λ ws. remove ws (at + 1 + n)) (is ∙ sym (append_assoc before (f ∷ between) (u ∷ after))) ∙ (ap (λ k. remove ((before ++ f ∷ between) ++ u ∷ after) k) place ∙ remove-here (before ++ f ∷ between) u after)) in
    then' ∙ (ap (λ ws. remove ws at) (once ∙ append_assoc before (f ∷ between) after) ∙ (ap (λ k. remove (before ++ f ∷ (between ++ after)) k) (sym long)
    ∙ remove-here before f (between ++ after)))

module _ (known : Table) where
  pub known-parts : (xs ys : List Placed) → AreAllKnown known (xs ++ ys) → AreAllKnown known xs × AreAllKnown known ys
  known-parts [] ys each = (tt, each)
  known-parts (x ∷ xs) ys each = let more = known-parts xs ys each.1 in ((each.0, more.0), more.1)

  pub known-both : (xs ys : List Placed) → AreAllKnown known xs → AreAllKnown known ys → AreAllKnown known (xs ++ ys)
  known-both [] ys front back = back
  known-both (x ∷ xs) ys front back = (front.0, known-both xs ys front.1 back)

  pub taken-known : (table : ConflictRelation) (xs ys : List Placed) → IsTaken table xs ys → AreAllKnown known xs → AreAllKnown known ys
  taken-known table xs ys t each =
      let parts = known-parts t.0 (t.3 ∷ (t.1 ++ t.4 ∷ t.2)) (subst (AreAllKnown known) t.5 each) in
      let mids = known-parts t.1 (t.4 ∷ t.2) parts.1.1 in
      subst (AreAllKnown known) (sym t.6) (known-both t.0 (t.1 ++ t.2) parts.0 (known-both t.1 t.2 mids.0 mids.1.1))

  pub all-taken-known : (table : ConflictRelation) {xs ys : List Placed} → AreTaken table xs ys → AreAllKnown known xs → AreAllKnown known ys
  all-taken-known table none_taken each = each
  all-taken-known table (taken_first {xs = xs} {ys = ys} first rest) each = all-taken-known table rest (taken-known table xs ys first each)

each-parts : (P : Placed → Type 0) (xs ys : List Placed) → Each P (xs ++ ys) → Each P xs × Each P ys
each-parts P [] ys each = (tt, each)
each-parts P (x ∷ xs) ys each = let more = each-parts P xs ys each.1 in ((each.0, more.0), more.1)

taken-few : (table : ConflictRelation) (xs ys : List Placed) → IsTaken table xs ys → AreFew xs → AreFew ys
taken-few table xs ys t each =
    let few = λ (x : Placed). x.entry.process < columns in
    let parts = each-parts few t.0 (t.3 ∷ (t.1 ++ t.4 ∷ t.2)) (subst AreFew t.5 each) in
    let mids = each-parts few t.1 (t.4 ∷ t.2) parts.1.1 in
    subst AreFew (sym t.6) (Each-append few t.0 (t.1 ++ t.2) parts.0 (Each-append few t.1 t.2 mids.0 mids.1.1))

-- what is left has no further processes
pub all-taken-few : (table : ConflictRelation) {xs ys : List Placed} → AreTaken table xs ys → AreFew xs → AreFew ys
all-taken-few table none_taken each = each
all-taken-few table (taken_first {xs = xs} {ys = ys} first rest) each = all-taken-few table rest (taken-few table xs ys first each)

-- a list cut at a place
pub cut_at : (xs front back : List Placed) (n : ℕ) → front ≡ take n xs → back ≡ drop n xs → xs ≡ front ++ back
cut_at xs front back n is_front is_back = sym (take-append-drop n xs) ∙ (ap (λ f. f ++ drop n xs) (sym is_front) ∙ ap (λ b. front ++ b) (sym is_back))

-- an entry where there is none
abbrev pub nothing : Placed
nothing = record { place = 0; entry = record { process = 0; step = 0; op = 0; key = 0; undo = false } }
