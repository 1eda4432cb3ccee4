-- Steps of a process rise: in a history in own order each is greater than those that took effect before.
use Rattle.std.proofs.Common.{◌≡◌, ℕ, Bool, true, false, not, cond, eqb, ltb, ◌&&◌, ◌||◌, ◌⊎◌, inl, inr, if◌then◌else◌, List, [], ◌∷◌, ◌++◌, filter, sym, refl, ap, ◌∙◌, subst, append-nil}
use Rattle.std.specs.Bool.{IsTrue}
use Rattle.std.specs.List.{list_any, list_all}
use Rattle.std.proofs.lemmas.Bool.{eqb-true, and_parts, and_from, cases_Bool}
use Rattle.process_tree.specs.Entries.{access_of}
use Rattle.process_tree.specs.Conflicts.{same_access}
use Rattle.process_tree.specs.declared.entry.Entry.{Entry}
use Rattle.schedule_model.specs.declared.event.Event.{Event}
use Rattle.schedule_model.specs.declared.event.Event.TheVariants.{Start, Act, End}
use Rattle.schedule_model.specs.Course.{Course, shape, access_at}
use Rattle.schedule_model.specs.Conflict.{ConflictRelation}
use Rattle.schedule_model.specs.Histories.{acts, net_acts, net, net_of, net_steps, done_steps, same_step, steps_of, of_process, takes_back, is_active}
use Rattle.schedule_model.specs.OwnOrder.{entry_keeps_order, goes_on, is_of_last}
use Rattle.schedule_model.specs.Recovery.{backward_entries}
use Rattle.process_tree.specs.Shape.{goes_on_to}
use Rattle.schedule_model.specs.Legal.{may_come, is_clear, is_legal}
use Rattle.schedule_model.proofs.Induction.{by_legal}
use Rattle.schedule_model.proofs.Snoc.{done_steps-do, done_steps-undo, net_of-other, net_of-start, net_of-end}
use Rattle.schedule_model.proofs.Recoveries.{net_steps-do, net_of-undo}
use Rattle.schedule_model.proofs.Appends.{done_steps-append}

-- each of these is greater than those before it
abbrev pub Rising : List ℕ → Type 0
Rising [] = Unit {0}
Rising (x ∷ xs) = IsTrue (list_all (λ y. ltb x y) xs) × Rising xs

all_above-push : (x b : ℕ) (xs : List ℕ) → IsTrue (list_all (λ y. ltb x y) xs) → ltb x b ≡ true → IsTrue (list_all (λ y. ltb x y) (xs ++ b ∷ []))
all_above-push x b [] all above = and_from (ltb x b) true above refl
all_above-push x b (y ∷ ys) all above =
    let parts = and_parts (ltb x y) (list_all (λ z. ltb x z) ys) all in
    and_from (ltb x y) (list_all (λ z. ltb x z) (ys ++ b ∷ [])) parts.0 (all_above-push x b ys parts.1 above)

-- and one more that is greater than all
pub Rising-push : (xs : List ℕ) (b : ℕ) → Rising xs → IsTrue (list_all (λ d. ltb d b) xs) → Rising (xs ++ b ∷ [])
Rising-push [] b rising all = (refl, tt)
Rising-push (x ∷ xs) b rising all =
    let parts = and_parts (ltb x b) (list_all (λ d. ltb d b) xs) all in
    (all_above-push x b xs rising.0 parts.0, Rising-push xs b rising.1 parts.1)

-- a step that may come goes on
pub step_goes_on : (table : ConflictRelation) (courses : List Course) (h : List Event) (e : Entry) → e.undo ≡ false → IsTrue (may_come table courses h (Act e)) → IsTrue (goes_on courses h e.process e.step)
step_goes_on table courses h e is_step may =
    subst (λ u. (if u then is_of_last (backward_entries courses h e.process) e else goes_on courses h e.process e.step) ≡ true) is_step
    (and_parts (is_active h e.process && same_access (access_of e) (access_at courses e.process e.step)) (if e.undo then is_of_last (backward_entries courses h e.process) e else goes_on courses h e.process e.step)
    (and_parts (entry_keeps_order courses h e) (is_clear table courses h (Act e)) may).0).1

-- an undo that may come is of the last entry that can be undone
pub undo_is_of_last : (table : ConflictRelation) (courses : List Course) (h : List Event) (e : Entry) → e.undo ≡ true → IsTrue (may_come table courses h (Act e)) → IsTrue (is_of_last (backward_entries courses h e.process) e)
undo_is_of_last table courses h e undo may =
    subst (λ u. (if u then is_of_last (backward_entries courses h e.process) e else goes_on courses h e.process e.step) ≡ true) undo
    (and_parts (is_active h e.process && same_access (access_of e) (access_at courses e.process e.step)) (if e.undo then is_of_last (backward_entries courses h e.process) e else goes_on courses h e.process e.step)
    (and_parts (entry_keeps_order courses h e) (is_clear table courses h (Act e)) may).0).1

module _ (table : ConflictRelation) (courses : List Course) where
  by_process : (h : List Event) (e : Entry) (i : ℕ) → e.undo ≡ false → IsTrue (goes_on courses h e.process e.step) → Rising (done_steps h i)
      → (eqb e.process i ≡ true) ⊎ (eqb e.process i ≡ false) → Rising (done_steps (h ++ Act e ∷ []) i)
  by_process h e i is_step goes rising (inl own) =
      let same = eqb-true e.process i own in
      subst (λ k. Rising (done_steps (h ++ Act e ∷ []) k)) same
      (subst Rising (sym (done_steps-do h e is_step))
      (Rising-push (done_steps h e.process) e.step (subst (λ k. Rising (done_steps h k)) (sym same) rising) (and_parts (goes_on_to (shape courses e.process) (net_steps h e.process) e.step) (list_all (λ d. ltb d e.step) (done_steps h e.process)) goes).1))
  by_process h e i is_step goes rising (inr other) =
      subst Rising (sym (done_steps-append h (Act e ∷ []) i ∙ (ap (λ bs. done_steps h i ++ bs) (rw is_step (rw other refl)) ∙ append-nil (done_steps h i)))) rising

  by_undo : (h : List Event) (e : Entry) (i : ℕ) (u : Bool) → e.undo ≡ u → IsTrue (may_come table courses h (Act e)) → Rising (done_steps h i) → Rising (done_steps (h ++ Act e ∷ []) i)
  by_undo h e i true undo may rising = subst Rising (sym (done_steps-undo h e i undo)) rising
  by_undo h e i false is_step may rising = by_process h e i is_step (step_goes_on table courses h e is_step may) rising (cases_Bool (eqb e.process i))

  -- one more event that may come keeps the steps rising
  pub Rising-may_come : (h : List Event) (e : Event) (i : ℕ) → IsTrue (may_come table courses h e) → Rising (done_steps h i) → Rising (done_steps (h ++ e ∷ []) i)
  Rising-may_come h (Start k) i may rising = subst Rising (sym (done_steps-append h (Start k ∷ []) i ∙ append-nil (done_steps h i))) rising
  Rising-may_come h (Act e) i may rising = by_undo h e i e.undo refl may rising
  Rising-may_come h (End k) i may rising = subst Rising (sym (done_steps-append h (End k ∷ []) i ∙ append-nil (done_steps h i))) rising

  -- the steps of a process that took effect in a legal history rise
  pub done_steps-rising : (h : List Event) (i : ℕ) → IsTrue (is_legal table courses h) → Rising (done_steps h i)
  done_steps-rising h i legal = by_legal table courses (λ g. Rising (done_steps g i)) (λ g e before may rising. Rising-may_come g e i may rising) tt h legal

-- What stands is some of what took effect.

abbrev pub forwards : List Entry → List Entry
forwards es = filter (λ e. not e.undo) es

-- the entry is of another process, or its step passes
abbrev pub passes_of : (ℕ → Bool) → ℕ → Entry → Bool
passes_of p i e = not (eqb e.process i) || p e.step

all_of_step : (p : ℕ → Bool) (i : ℕ) (e : Entry) (es : List Entry) (own : Bool) → list_all p (steps_of (of_process i es)) ≡ list_all (passes_of p i) es
    → list_all p (steps_of (cond own (e ∷ of_process i es) (of_process i es))) ≡ ((not own || p e.step) && list_all (passes_of p i) es)
all_of_step p i e es true rest = ap (λ b. p e.step && b) rest
all_of_step p i e es false rest = rest

-- a test of the steps of one process, as a test of entries
pub all_of : (p : ℕ → Bool) (i : ℕ) (es : List Entry) → list_all p (steps_of (of_process i es)) ≡ list_all (passes_of p i) es
all_of p i [] = refl
all_of p i (e ∷ es) = all_of_step p i e es (eqb e.process i) (all_of p i es)

all_net_step : (q : Entry → Bool) (e : Entry) (ds ns : List Entry) (u t : Bool) → (list_all q ds ≡ true → list_all q ns ≡ true)
    → list_all q (cond (not u) (e ∷ ds) ds) ≡ true → list_all q (cond (u || t) ns (e ∷ ns)) ≡ true
all_net_step q e ds ns true t rest all = rest all
all_net_step q e ds ns false true rest all = rest (and_parts (q e) (list_all q ds) all).1
all_net_step q e ds ns false false rest all = let parts = and_parts (q e) (list_all q ds) all in and_from (q e) (list_all q ns) parts.0 (rest parts.1)

all_net : (q : Entry → Bool) (es : List Entry) → list_all q (forwards es) ≡ true → list_all q (net_acts es) ≡ true
all_net q [] all = refl
all_net q (e ∷ es) all = all_net_step q e (forwards es) (net_acts es) e.undo (list_any (λ f. takes_back f e) es) (all_net q es) all

-- what each step of a process that took effect has, each step that stands has
pub all_net_steps : (p : ℕ → Bool) (h : List Event) (i : ℕ) → IsTrue (list_all p (done_steps h i)) → IsTrue (list_all p (net_steps h i))
all_net_steps p h i all = all_of p i (net h) ∙ all_net (passes_of p i) (acts h) (sym (all_of p i (forwards (acts h))) ∙ all)

all_filter_step : (p : ℕ → Bool) (e : Entry) (xs ys : List Entry) (k : Bool) → (list_all p (steps_of xs) ≡ true → list_all p (steps_of ys) ≡ true)
    → list_all p (steps_of (e ∷ xs)) ≡ true → list_all p (steps_of (cond k (e ∷ ys) ys)) ≡ true
all_filter_step p e xs ys true rest all = let parts = and_parts (p e.step) (list_all p (steps_of xs)) all in and_from (p e.step) (list_all p (steps_of ys)) parts.0 (rest parts.1)
all_filter_step p e xs ys false rest all = rest (and_parts (p e.step) (list_all p (steps_of xs)) all).1

all_filter : (p : ℕ → Bool) (q : Entry → Bool) (xs : List Entry) → list_all p (steps_of xs) ≡ true → list_all p (steps_of (filter q xs)) ≡ true
all_filter p q [] all = refl
all_filter p q (e ∷ xs) all = all_filter_step p e xs (filter q xs) (q e) (all_filter p q xs) all

rising_filter_step : (q : Entry → Bool) (e : Entry) (xs : List Entry) (k : Bool) → Rising (steps_of (filter q xs)) → IsTrue (list_all (λ y. ltb e.step y) (steps_of xs))
    → Rising (steps_of (cond k (e ∷ filter q xs) (filter q xs)))
rising_filter_step q e xs true rest above = (all_filter (λ y. ltb e.step y) q xs above, rest)
rising_filter_step q e xs false rest above = rest

-- some of them rise too
pub Rising-filter : (q : Entry → Bool) (xs : List Entry) → Rising (steps_of xs) → Rising (steps_of (filter q xs))
Rising-filter q [] rising = tt
Rising-filter q (e ∷ xs) rising = rising_filter_step q e xs (q e) (Rising-filter q xs rising.1) rising.0

module _ (table : ConflictRelation) (courses : List Course) where
  net_by_process : (h : List Event) (e : Entry) (i : ℕ) → e.undo ≡ false → IsTrue (goes_on courses h e.process e.step) → Rising (net_steps h i)
      → (eqb e.process i ≡ true) ⊎ (eqb e.process i ≡ false) → Rising (net_steps (h ++ Act e ∷ []) i)
  net_by_process h e i is_step goes rising (inl own) =
      let same = eqb-true e.process i own in
      subst (λ k. Rising (net_steps (h ++ Act e ∷ []) k)) same
      (subst Rising (sym (net_steps-do h e is_step))
      (Rising-push (net_steps h e.process) e.step (subst (λ k. Rising (net_steps h k)) (sym same) rising)
      (all_net_steps (λ d. ltb d e.step) h e.process (and_parts (goes_on_to (shape courses e.process) (net_steps h e.process) e.step) (list_all (λ d. ltb d e.step) (done_steps h e.process)) goes).1)))
  net_by_process h e i is_step goes rising (inr other) = subst Rising (sym (ap steps_of (net_of-other h e i other))) rising

  net_by_undo : (h : List Event) (e : Entry) (i : ℕ) (u : Bool) → e.undo ≡ u → IsTrue (may_come table courses h (Act e)) → Rising (net_steps h i) → Rising (net_steps (h ++ Act e ∷ []) i)
  net_by_undo h e i true undo may rising = subst Rising (sym (ap steps_of (net_of-undo h e i undo))) (Rising-filter (λ f. not (same_step f e)) (net_of h i) rising)
  net_by_undo h e i false is_step may rising = net_by_process h e i is_step (step_goes_on table courses h e is_step may) rising (cases_Bool (eqb e.process i))

  -- one more event that may come keeps the steps that stand rising
  pub Rising-net-may_come : (h : List Event) (e : Event) (i : ℕ) → IsTrue (may_come table courses h e) → Rising (net_steps h i) → Rising (net_steps (h ++ e ∷ []) i)
  Rising-net-may_come h (Start k) i may rising = subst Rising (sym (ap steps_of (net_of-start h k i))) rising
  Rising-net-may_come h (Act e) i may rising = net_by_undo h e i e.undo refl may rising
  Rising-net-may_come h (End k) i may rising = subst Rising (sym (ap steps_of (net_of-end h k i))) rising

  -- the steps of a process that stand in a legal history rise
  pub net_steps-rising : (h : List Event) (i : ℕ) → IsTrue (is_legal table courses h) → Rising (net_steps h i)
  net_steps-rising h i legal = by_legal table courses (λ g. Rising (net_steps g i)) (λ g e before may rising. Rising-net-may_come g e i may rising) tt h legal
