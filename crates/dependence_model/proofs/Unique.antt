-- What is left doesn't depend on the order of taking away.
use Rattle.std.proofs.Common.{◌≡◌, ◌⊎◌, inl, inr, ⊎_elim, true, List, [], ◌∷◌, sym, ap, ◌∙◌, subst}
use Rattle.std.proofs.lemmas.Bool.{false≢true}
use Rattle.process_tree.specs.declared.entry.Entry.{Entry}
use Rattle.schedule_model.specs.Conflict.{ConflictRelation}
use Rattle.schedule_model.specs.Reduction.{is_pair}
use Rattle.schedule_model.proofs.Members.{Among}
use Rattle.dependence_model.specs.Laws.{AreOnce}
use Rattle.dependence_model.proofs.Sublists.{Sub, sub-itself, sub-trans, sub-both, among-sub}
use Rattle.dependence_model.proofs.Once.{twin-itself, once-sub, not-behind, undos-twins, steps-twins, pair-step, pair-undo, pair-apart}
use Rattle.dependence_model.proofs.Takings.{AllIn, grown, grown-has, grown-more, depends-less, Closes, closed, Takes, taken, closes-pair, takes-pair, undo-among, takes-step, takes-undo, taken-sub, taken-or_left, closed-no_twin, taken-no_undo, taken-no_step}

-- one pair after another goes
pub data TakesAll (table : ConflictRelation) : List Entry → List Entry → Type 0 where
  takes_none : {xs : List Entry} → TakesAll table xs xs
  takes_first : {xs zs : List Entry} → (f u : Entry) → (t : Takes table f u xs) → TakesAll table (taken table f u xs t) zs → TakesAll table xs zs

-- no pair of these can go
abbrev pub NoneGoes : ConflictRelation → List Entry → Type 0
NoneGoes table xs = (f u : Entry) → Takes table f u xs → ⊥

-- this is left once none can
pub record Leaves (table : ConflictRelation) (xs left : List Entry) : Type 0 where
  pub takes : TakesAll table xs left
  pub none : NoneGoes table left

module _ (table : ConflictRelation) where
  pub all-sub : {xs ys : List Entry} → TakesAll table xs ys → Sub ys xs
  all-sub (takes_none {xs = xs}) = sub-itself xs
  all-sub (takes_first {xs = xs} {zs = zs} f u t more) = sub-trans zs (taken table f u xs t) xs (all-sub more) (taken-sub table f u xs t)

  pub all-once : {xs ys : List Entry} → TakesAll table xs ys → AreOnce xs → AreOnce ys
  all-once {xs} {ys} steps once = once-sub ys xs (all-sub steps) once

  -- A step and its undo are left together.

  abbrev Together : List Entry → List Entry → Type 0
  Together xs ys = (f u : Entry) → is_pair f u ≡ true → Among f xs → Among u xs → (Among f ys → Among u ys) × (Among u ys → Among f ys)

  taken-together : (f u : Entry) (xs : List Entry) (t : Takes table f u xs) → AreOnce xs → Together xs (taken table f u xs t)
  taken-together f u xs t once g v pair step undo = (
    λ left. ⊎_elim (λ same. absurd (not_undo same)) (⊎_elim (λ same. absurd (other_undo same left)) (λ is. is)) (taken-or_left table f u xs t v undo),
    λ left. ⊎_elim (λ same. absurd (other_step same left)) (⊎_elim (λ same. absurd (not_step same)) (λ is. is)) (taken-or_left table f u xs t g step),
  )
    where
      not_undo : f ≡ v → ⊥
      not_undo same = false≢true (sym (pair-step f u (takes-pair table f u xs t)) ∙ (ap (λ (e : Entry). e.undo) same ∙ pair-undo g v pair))

      not_step : u ≡ g → ⊥
      not_step same = false≢true (sym (pair-step g v pair) ∙ (sym (ap (λ (e : Entry). e.undo) same) ∙ pair-undo f u (takes-pair table f u xs t)))

      other_undo : u ≡ v → Among g (taken table f u xs t) → ⊥
      other_undo same left = taken-no_step table f u xs t g once left (steps-twins g f v pair (subst (λ z. is_pair f z ≡ true) same (takes-pair table f u xs t)))

      other_step : f ≡ g → Among v (taken table f u xs t) → ⊥
      other_step same left = taken-no_undo table f u xs t v once left (undos-twins g v u pair (subst (λ z. is_pair z u ≡ true) same (takes-pair table f u xs t)))

  all-together : {xs ys : List Entry} → TakesAll table xs ys → AreOnce xs → Together xs ys
  all-together (takes_none {xs = xs}) once f u pair step undo = (λ left. undo, λ left. step)
  all-together (takes_first {xs = xs} {zs = zs} f u t more) once g v pair step undo =
      let first = taken-together f u xs t once g v pair step undo in
      let rest = all-together more (once-sub (taken table f u xs t) xs (taken-sub table f u xs t) once) g v pair in (
        λ left. let now = among-sub g zs (taken table f u xs t) (all-sub more) left in (rest now (first.0 now)).0 left,
        λ left. let now = among-sub v zs (taken table f u xs t) (all-sub more) left in (rest (first.1 now) now).1 left,
      )

  -- Of a part in which no pair can go, none goes: with fewer entries between them there are fewer chains.

  closes-part : (f u : Entry) (some found xs ys : List Entry) → AllIn some found → Sub xs ys → (c : Closes table f u found ys)
      → Closes table f u some xs ⊎ Sub xs (closed table f u found ys c)
  closes-part f u some found xs [] all sub c = absurd c
  closes-part f u some found [] (y ∷ ys) all sub c = inr tt
  closes-part f u some found (x ∷ xs) (y ∷ ys) all (inl here) (inl c) = inl (inl (here.0 ∙ c.0, c.1, depends-less table some found u all c.2))
  closes-part f u some found (x ∷ xs) (y ∷ ys) all (inr sub) (inl c) = inr sub
  closes-part f u some found (x ∷ xs) (y ∷ ys) all (inl here) (inr c) =
      ⊎_elim (λ closes. inl (inr closes)) (λ sub. inr (inl (here.0, sub)))
      (closes-part f u (grown table f some x) (grown table f found y) xs ys (grown-more table f some found x y all here.0) here.1 c)
  closes-part f u some found (x ∷ xs) (y ∷ ys) all (inr sub) (inr c) =
      ⊎_elim (λ closes. inl closes) (λ left. inr (inr left))
      (closes-part f u some (grown table f found y) (x ∷ xs) ys (λ e is. grown-has table f found y e (all e is)) sub c)

  takes-part : (f u : Entry) (xs ys : List Entry) → AreOnce ys → Sub xs ys → (t : Takes table f u ys) → (Among f xs → Among u xs) → (Among u xs → Among f xs)
      → (Takes table f u xs → ⊥) → Sub xs (taken table f u ys t)
  takes-part f u xs [] once sub t with_undo with_step none = absurd t
  takes-part f u [] (y ∷ ys) once sub t with_undo with_step none = tt
  takes-part f u (x ∷ xs) (y ∷ ys) once (inl here) (inr t) with_undo with_step none =
      inl (
        here.0,
        takes-part f u xs ys once.1 here.1 t
            (λ is. ⊎_elim (λ same. absurd (not-behind y ys once (subst (λ z. Among z ys) (sym same ∙ here.0) (takes-undo table f u ys t)))) (λ later. later) (with_undo (inr is)))
            (λ is. ⊎_elim (λ same. absurd (not-behind y ys once (subst (λ z. Among z ys) (sym same ∙ here.0) (takes-step table f u ys t)))) (λ later. later) (with_step (inr is)))
            (λ takes. none (inr takes)),
      )
  takes-part f u (x ∷ xs) (y ∷ ys) once (inr sub) (inr t) with_undo with_step none = inr (takes-part f u (x ∷ xs) ys once.1 sub t with_undo with_step none)
  takes-part f u (x ∷ xs) (y ∷ ys) once (inl here) (inl t) with_undo with_step none =
      absurd (⊎_elim (λ closes. none (inl (here.0 ∙ t.0, closes)))
      (λ sub. ⊎_elim (λ same. pair-apart f u (closes-pair table f u [] ys t.1) (sym same ∙ (here.0 ∙ t.0)))
      (λ is. closed-no_twin table f u [] ys t.1 u once.1 (among-sub u xs (closed table f u [] ys t.1) sub is) (twin-itself u)) (with_undo (inl (here.0 ∙ t.0))))
      (closes-part f u [] [] xs ys (λ e is. is) here.1 t.1))
  takes-part f u (x ∷ xs) (y ∷ ys) once (inr sub) (inl t) with_undo with_step none =
      ⊎_elim (λ closes. absurd (not-behind y ys once (subst (λ z. Among z ys) (sym t.0) (among-sub f (x ∷ xs) ys sub (with_step (undo-among table f u [] (x ∷ xs) closes))))))
      (λ left. left) (closes-part f u [] [] (x ∷ xs) ys (λ e is. is) sub t.1)

  -- so what is left is in what any taking away leaves
  stays-in : (xs left : List Entry) → AreOnce xs → Together xs left → NoneGoes table left → {ys zs : List Entry} → TakesAll table ys zs → Sub ys xs → Sub left ys → Sub left zs
  stays-in xs left once together none takes_none part sub = sub
  stays-in xs left once together none (takes_first {xs = ys} {zs = zs} f u t more) part sub =
      let both = together f u (takes-pair table f u ys t) (among-sub f ys xs part (takes-step table f u ys t)) (among-sub u ys xs part (takes-undo table f u ys t)) in
      stays-in xs left once together none more (sub-trans (taken table f u ys t) ys xs (taken-sub table f u ys t) part)
      (takes-part f u left ys (once-sub ys xs part once) sub t both.0 both.1 (none f u))

  pub leaves-unique : (xs left other : List Entry) → AreOnce xs → Leaves table xs left → Leaves table xs other → left ≡ other
  leaves-unique xs left other once one two =
      sub-both left other
      (stays-in xs left once (all-together one.takes once) one.none two.takes (sub-itself xs) (all-sub one.takes))
      (stays-in xs other once (all-together two.takes once) two.none one.takes (sub-itself xs) (all-sub two.takes))
