-- What stands in a legal history, and what is owed, is of processes that started.
use Rattle.std.proofs.Common.{◌≡◌, ◌⊎◌, inl, inr, ⊎_elim, ℕ, Bool, true, false, not, eqb, ◌||◌, List, [], ◌∷◌, ◌++◌, map, sym, refl, ap, ◌∙◌, subst, append-nil}
use Rattle.std.specs.Bool.{IsTrue}
use Rattle.std.proofs.lemmas.Bool.{and_parts, and_from, or_left, eqb-true, eq-eqb, or_cases, false≢true}
use Rattle.process_tree.specs.declared.entry.Entry.{Entry}
use Rattle.process_tree.specs.Recovery.{forward}
use Rattle.schedule_model.specs.declared.event.Event.{Event}
use Rattle.schedule_model.specs.declared.event.Event.TheVariants.{Start, Act, End}
use Rattle.schedule_model.specs.Course.{Course, shape}
use Rattle.schedule_model.specs.Conflict.{ConflictRelation}
use Rattle.schedule_model.specs.Histories.{acts, ends, is_active, is_in, net, net_of, same_step, starts, doing, steps_of}
use Rattle.schedule_model.specs.Recovery.{owed}
use Rattle.schedule_model.specs.Legal.{may_come, is_legal}
use Rattle.schedule_model.proofs.Induction.{by_legal}
use Rattle.schedule_model.proofs.Members.{Among, among-append, among-filter, in_filter}
use Rattle.schedule_model.proofs.Appends.{acts-append, starts-append, ends-append, is_in-append}
use Rattle.schedule_model.proofs.Snoc.{net-start, net-end, net-do, net-undo}
use Rattle.schedule_model.proofs.Acting.{act_active, end_active}

-- an entry of a process is in the net, and of that process
pub among_net_of : (h : List Event) (i : ℕ) (e : Entry) → Among e (net_of h i) → Among e (net h) × (e.process ≡ i)
among_net_of h i e is = let found = among-filter (λ (f : Entry). eqb f.process i) e (net h) is in (found.0, eqb-true e.process i found.1)

pub in_net_of : (h : List Event) (i : ℕ) (e : Entry) → Among e (net h) → e.process ≡ i → Among e (net_of h i)
in_net_of h i e is own = in_filter (λ (f : Entry). eqb f.process i) e (net h) is (eq-eqb e.process i own)

module _ (table : ConflictRelation) (courses : List Course) where
  abbrev NetStarted : List Event → Type 0
  NetStarted h = (e : Entry) → Among e (net h) → IsTrue (is_in e.process (starts h))

  still_started : (h : List Event) (e : Event) (i : ℕ) → IsTrue (is_in i (starts h)) → IsTrue (is_in i (starts (h ++ e ∷ [])))
  still_started h e i is = ap (is_in i) (starts-append h (e ∷ [])) ∙ (is_in-append i (starts h) (starts (e ∷ [])) ∙ or_left (is_in i (starts h)) (is_in i (starts (e ∷ []))) is)

  started_by_undo : (h : List Event) (e : Entry) (u : Bool) → e.undo ≡ u → IsTrue (may_come table courses h (Act e)) → NetStarted h → NetStarted (h ++ Act e ∷ [])
  started_by_undo h e true undo may was f is =
      still_started h (Act e) f.process (was f (among-filter (λ (g : Entry). not (same_step g e)) f (net h) (subst (Among f) (net-undo h e undo) is)).0)
  started_by_undo h e false is_step may was f is =
      still_started h (Act e) f.process
      (⊎_elim (λ before. was f before)
      (λ now. by_now now)
      (among-append f (net h) (e ∷ []) (subst (Among f) (net-do h e is_step) is)))
    where
      by_now : Among f (e ∷ []) → IsTrue (is_in f.process (starts h))
      by_now (inl same) =
          ap (λ (g : Entry). is_in g.process (starts h)) (sym same)
          ∙ (and_parts (is_in e.process (starts h)) (not (is_in e.process (ends h))) (act_active table courses h e may)).0
      by_now (inr none) = absurd none

  started_more : (h : List Event) (e : Event) → IsTrue (may_come table courses h e) → NetStarted h → NetStarted (h ++ e ∷ [])
  started_more h (Start k) may was f is = still_started h (Start k) f.process (was f (subst (Among f) (net-start h k) is))
  started_more h (Act e) may was f is = started_by_undo h e e.undo refl may was f is
  started_more h (End k) may was f is = still_started h (End k) f.process (was f (subst (Among f) (net-end h k) is))

  -- each net entry is of a process that started
  pub net-started : (h : List Event) → IsTrue (is_legal table courses h) → NetStarted h
  net-started h legal = by_legal table courses NetStarted (λ g e before may was. started_more g e may was) (λ f is. absurd is) h legal

  -- each act is of a process that started
  pub acts-started : (h : List Event) → IsTrue (is_legal table courses h) → (e : Entry) → Among e (acts h) → IsTrue (is_in e.process (starts h))
  acts-started h legal =
      by_legal table courses (λ g. (e : Entry) → Among e (acts g) → IsTrue (is_in e.process (starts g))) (λ g e before may was. acts_more g e may was) (λ e is. absurd is) h legal
    where
      acts_more : (h : List Event) (a : Event) → IsTrue (may_come table courses h a) → ((e : Entry) → Among e (acts h) → IsTrue (is_in e.process (starts h)))
          → (e : Entry) → Among e (acts (h ++ a ∷ [])) → IsTrue (is_in e.process (starts (h ++ a ∷ [])))
      acts_more h (Start k) may was e is = still_started h (Start k) e.process (was e (subst (Among e) (acts-append h (Start k ∷ []) ∙ append-nil (acts h)) is))
      acts_more h (End k) may was e is = still_started h (End k) e.process (was e (subst (Among e) (acts-append h (End k ∷ []) ∙ append-nil (acts h)) is))
      acts_more h (Act a) may was e is =
          still_started h (Act a) e.process
          (⊎_elim (λ before. was e before) (λ now. by_now now) (among-append e (acts h) (a ∷ []) (subst (Among e) (acts-append h (Act a ∷ [])) is)))
        where
          by_now : Among e (a ∷ []) → IsTrue (is_in e.process (starts h))
          by_now (inl same) =
              ap (λ (g : Entry). is_in g.process (starts h)) (sym same)
              ∙ (and_parts (is_in a.process (starts h)) (not (is_in a.process (ends h))) (act_active table courses h a may)).0
          by_now (inr none) = absurd none

  -- each process that ended had started
  pub ends-started : (h : List Event) → IsTrue (is_legal table courses h) → (i : ℕ) → IsTrue (is_in i (ends h)) → IsTrue (is_in i (starts h))
  ends-started h legal =
      by_legal table courses (λ g. (i : ℕ) → IsTrue (is_in i (ends g)) → IsTrue (is_in i (starts g))) (λ g e before may was. ends_more g e may was) (λ i is. absurd (false≢true is)) h legal
    where
      ends_more : (h : List Event) (a : Event) → IsTrue (may_come table courses h a) → ((i : ℕ) → IsTrue (is_in i (ends h)) → IsTrue (is_in i (starts h)))
          → (i : ℕ) → IsTrue (is_in i (ends (h ++ a ∷ []))) → IsTrue (is_in i (starts (h ++ a ∷ [])))
      ends_more h (Start k) may was i is = still_started h (Start k) i (was i (sym (ap (is_in i) (ends-append h (Start k ∷ []) ∙ append-nil (ends h))) ∙ is))
      ends_more h (Act a) may was i is = still_started h (Act a) i (was i (sym (ap (is_in i) (ends-append h (Act a ∷ []) ∙ append-nil (ends h))) ∙ is))
      ends_more h (End k) may was i is =
          still_started h (End k) i
          (⊎_elim (λ before. was i before) (λ now. by_now (or_cases (eqb i k) false now))
          (or_cases (is_in i (ends h)) (is_in i (k ∷ [])) (sym (ap (is_in i) (ends-append h (End k ∷ [])) ∙ is_in-append i (ends h) (k ∷ [])) ∙ is)))
        where
          by_now : (eqb i k ≡ true) ⊎ (false ≡ true) → IsTrue (is_in i (starts h))
          by_now (inl same) =
              ap (λ j. is_in j (starts h)) (eqb-true i k same) ∙ (and_parts (is_in k (starts h)) (not (is_in k (ends h))) (end_active table courses h k may)).0
          by_now (inr none) = absurd (false≢true none)

  -- one that owes has started
  pub owed-started : (h : List Event) → IsTrue (is_legal table courses h) → (i : ℕ) (s : Entry) → Among s (owed courses h i) → IsTrue (is_in i (starts h))
  owed-started h legal i s is = by_net (net_of h i) refl
    where
      by_net : (es : List Entry) → net_of h i ≡ es → IsTrue (is_in i (starts h))
      by_net [] none = absurd (subst (Among s) (ap (λ es. map (doing courses i) (forward (shape courses i) (steps_of es))) none) is)
      by_net (e ∷ es) some =
          let found = among_net_of h i e (subst (Among e) (sym some) (inl refl)) in
          subst (λ k. IsTrue (is_in k (starts h))) found.1 (net-started h legal e found.0)

-- Who was active before an event.

-- after a start, one that had started
pub active-before_start : (h : List Event) (k i : ℕ) → IsTrue (is_in i (starts h)) → IsTrue (is_active (h ++ Start k ∷ []) i) → IsTrue (is_active h i)
active-before_start h k i started goes =
    let parts = and_parts (is_in i (starts (h ++ Start k ∷ []))) (not (is_in i (ends (h ++ Start k ∷ [])))) goes in
    and_from (is_in i (starts h)) (not (is_in i (ends h))) started (sym (ap (λ es. not (is_in i es)) (ends-append h (Start k ∷ []) ∙ append-nil (ends h))) ∙ parts.1)

-- after an end, any
pub active-before_end : (h : List Event) (k i : ℕ) → IsTrue (is_active (h ++ End k ∷ []) i) → IsTrue (is_active h i)
active-before_end h k i goes =
    let parts = and_parts (is_in i (starts (h ++ End k ∷ []))) (not (is_in i (ends (h ++ End k ∷ [])))) goes in
    and_from (is_in i (starts h)) (not (is_in i (ends h)))
    (sym (ap (is_in i) (starts-append h (End k ∷ []) ∙ append-nil (starts h))) ∙ parts.0)
    (not_either (is_in i (ends h)) (is_in i (k ∷ [])) (sym (ap not (ap (is_in i) (ends-append h (End k ∷ [])) ∙ is_in-append i (ends h) (k ∷ []))) ∙ parts.1))
  where
    not_either : (a b : Bool) → not (a || b) ≡ true → not a ≡ true
    not_either true b is = is
    not_either false b is = refl
