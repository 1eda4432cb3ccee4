-- The entries that stand in a legal history are of different steps, so each undo finds one entry.
use Rattle.std.proofs.Common.{◌≡◌, ◌⊎◌, inl, inr, Bool, true, false, not, cond, eqb, ltb, List, [], ◌∷◌, ◌++◌, filter, sym, refl, ap, ◌∙◌, subst, arith}
use Rattle.std.specs.Bool.{IsTrue}
use Rattle.std.specs.List.{list_all}
use Rattle.std.proofs.lemmas.Bool.{and_parts, and_from, or_cases, false≢true, ltb-true, ne_eqb, and_right, and_left}
use Rattle.process_tree.specs.declared.entry.Entry.{Entry}
use Rattle.schedule_model.specs.declared.event.Event.{Event}
use Rattle.schedule_model.specs.declared.event.Event.TheVariants.{Start, Act, End}
use Rattle.schedule_model.specs.Course.{Course, shape}
use Rattle.schedule_model.specs.Conflict.{ConflictRelation}
use Rattle.schedule_model.specs.Histories.{net, net_steps, done_steps, same_step}
use Rattle.process_tree.specs.Shape.{goes_on_to}
use Rattle.schedule_model.specs.Legal.{may_come, is_legal}
use Rattle.schedule_model.proofs.Induction.{by_legal}
use Rattle.schedule_model.proofs.Snoc.{net-start, net-end, net-do, net-undo}
use Rattle.schedule_model.proofs.Rising.{passes_of, all_of, all_net_steps, step_goes_on}

-- no two of these are of one step
abbrev pub Apart : List Entry → Type 0
Apart [] = Unit {0}
Apart (e ∷ es) = IsTrue (list_all (λ f. not (same_step e f)) es) × Apart es

apart_front : (x e : Entry) (xs : List Entry) → IsTrue (list_all (λ f. not (same_step x f)) xs) → not (same_step x e) ≡ true → IsTrue (list_all (λ f. not (same_step x f)) (xs ++ e ∷ []))
apart_front x e [] all new = and_from (not (same_step x e)) true new refl
apart_front x e (y ∷ ys) all new =
    let parts = and_parts (not (same_step x y)) (list_all (λ f. not (same_step x f)) ys) all in
    and_from (not (same_step x y)) (list_all (λ f. not (same_step x f)) (ys ++ e ∷ [])) parts.0 (apart_front x e ys parts.1 new)

-- and one more that is of none of their steps
pub Apart-push : (xs : List Entry) (e : Entry) → Apart xs → IsTrue (list_all (λ f. not (same_step f e)) xs) → Apart (xs ++ e ∷ [])
Apart-push [] e apart new = (refl, tt)
Apart-push (x ∷ xs) e apart new =
    let parts = and_parts (not (same_step x e)) (list_all (λ f. not (same_step f e)) xs) new in
    (apart_front x e xs apart.0 parts.0, Apart-push xs e apart.1 parts.1)

-- what passes of all passes of some
pub list_all-filter : {X : Type 0} (p q : X → Bool) (xs : List X) → list_all p xs ≡ true → list_all p (filter q xs) ≡ true
list_all-filter p q [] all = refl
list_all-filter p q (x ∷ xs) all = by_test (q x) (and_parts (p x) (list_all p xs) all) (list_all-filter p q xs (and_parts (p x) (list_all p xs) all).1)
  where
    by_test : (t : Bool) → (p x ≡ true) × (list_all p xs ≡ true) → list_all p (filter q xs) ≡ true → list_all p (cond t (x ∷ filter q xs) (filter q xs)) ≡ true
    by_test true parts rest = and_from (p x) (list_all p (filter q xs)) parts.0 rest
    by_test false parts rest = rest

-- some of them are of different steps, too
pub Apart-filter : (q : Entry → Bool) (xs : List Entry) → Apart xs → Apart (filter q xs)
Apart-filter q [] apart = tt
Apart-filter q (x ∷ xs) apart = by_test (q x) (list_all-filter (λ f. not (same_step x f)) q xs apart.0) (Apart-filter q xs apart.1)
  where
    by_test : (t : Bool) → IsTrue (list_all (λ f. not (same_step x f)) (filter q xs)) → Apart (filter q xs) → Apart (cond t (x ∷ filter q xs) (filter q xs))
    by_test true head rest = (head, rest)
    by_test false head rest = rest

-- of different steps before the last: none is of its step
pub Apart-last : (xs : List Entry) (e : Entry) → Apart (xs ++ e ∷ []) → IsTrue (list_all (λ f. not (same_step f e)) xs)
Apart-last [] e apart = refl
Apart-last (x ∷ xs) e apart = and_from (not (same_step x e)) (list_all (λ f. not (same_step f e)) xs) (last_of_all xs apart.0) (Apart-last xs e apart.1)
  where
    last_of_all : (ys : List Entry) → IsTrue (list_all (λ f. not (same_step x f)) (ys ++ e ∷ [])) → not (same_step x e) ≡ true
    last_of_all [] all = (and_parts (not (same_step x e)) true all).0
    last_of_all (y ∷ ys) all = last_of_all ys (and_parts (not (same_step x y)) (list_all (λ f. not (same_step x f)) (ys ++ e ∷ [])) all).1

-- a lesser step, or one of another process, is another step
lesser_is_apart : (e f : Entry) → passes_of (λ d. ltb d e.step) e.process f ≡ true → not (same_step f e) ≡ true
lesser_is_apart e f passes = by_reason (or_cases (not (eqb f.process e.process)) (ltb f.step e.step) passes)
  where
    by_process : (t : Bool) → eqb f.process e.process ≡ t → not t ≡ true → not (same_step f e) ≡ true
    by_process true is other = absurd (false≢true other)
    by_process false is other = ap not (and_left (eqb f.process e.process) (eqb f.step e.step) is)

    by_reason : (not (eqb f.process e.process) ≡ true) ⊎ (ltb f.step e.step ≡ true) → not (same_step f e) ≡ true
    by_reason (inl other) = by_process (eqb f.process e.process) refl other
    by_reason (inr less) = let l = ltb-true f.step e.step less in ap not (and_right (eqb f.process e.process) (eqb f.step e.step) (ne_eqb f.step e.step (λ same. omega arith)))

pub list_all-weaker : {X : Type 0} (p q : X → Bool) (xs : List X) → ((x : X) → p x ≡ true → q x ≡ true) → list_all p xs ≡ true → list_all q xs ≡ true
list_all-weaker p q [] h all = refl
list_all-weaker p q (x ∷ xs) h all =
    let parts = and_parts (p x) (list_all p xs) all in and_from (q x) (list_all q xs) (h x parts.0) (list_all-weaker p q xs h parts.1)

module _ (table : ConflictRelation) (courses : List Course) where
  by_undo : (h : List Event) (e : Entry) (u : Bool) → e.undo ≡ u → IsTrue (may_come table courses h (Act e)) → Apart (net h) → Apart (net (h ++ Act e ∷ []))
  by_undo h e true undo may apart = subst Apart (sym (net-undo h e undo)) (Apart-filter (λ f. not (same_step f e)) (net h) apart)
  by_undo h e false is_step may apart =
      let goes = step_goes_on table courses h e is_step may in
      let above = all_net_steps (λ d. ltb d e.step) h e.process (and_parts (goes_on_to (shape courses e.process) (net_steps h e.process) e.step) (list_all (λ d. ltb d e.step) (done_steps h e.process)) goes).1 in
      subst Apart (sym (net-do h e is_step))
      (Apart-push (net h) e apart (list_all-weaker (passes_of (λ d. ltb d e.step) e.process) (λ f. not (same_step f e)) (net h) (λ f. lesser_is_apart e f) (sym (all_of (λ d. ltb d e.step) e.process (net h)) ∙ above)))

  apart_after : (h : List Event) (e : Event) → IsTrue (may_come table courses h e) → Apart (net h) → Apart (net (h ++ e ∷ []))
  apart_after h (Start k) may apart = subst Apart (sym (net-start h k)) apart
  apart_after h (Act e) may apart = by_undo h e e.undo refl may apart
  apart_after h (End k) may apart = subst Apart (sym (net-end h k)) apart

  -- the entries that stand in a legal history are of different steps
  pub net-apart : (h : List Event) → IsTrue (is_legal table courses h) → Apart (net h)
  net-apart h legal = by_legal table courses (λ g. Apart (net g)) (λ g e before may apart. apart_after g e may apart) tt h legal
