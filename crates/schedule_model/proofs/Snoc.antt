-- What each definition is of a history with one event more.
use Rattle.std.proofs.Common.{◌≡◌, ℕ, Bool, true, false, not, cond, eqb, ◌||◌, ◌&&◌, List, [], ◌∷◌, ◌++◌, map, filter, drop, sym, refl, ap, ◌∙◌, append-nil, rules}
use Rattle.std.proofs.Math.Bool.{or-false}
use Rattle.std.proofs.lemmas.Bool.{eq-eqb, eqb-true}
use Rattle.std.proofs.lemmas.List.Elements.{filter-append}
use Rattle.process_tree.specs.declared.entry.Entry.{Entry}
use Rattle.schedule_model.specs.declared.event.Event.{Event}
use Rattle.schedule_model.specs.declared.event.Event.TheVariants.{Start, Act, End}
use Rattle.schedule_model.specs.Course.{Course, shape}
use Rattle.schedule_model.specs.Histories.{starts, ends, net, net_of, is_in, is_active, active, done_steps, same_step, of_process, steps_of, doing}
use Rattle.schedule_model.specs.Recovery.{backward_entries, owed}
use Rattle.process_tree.specs.Shape.{fixed_len}
use Rattle.process_tree.specs.Recovery.{forward}
use Rattle.schedule_model.proofs.Legal.{both-left}
use Rattle.schedule_model.proofs.Appends.{starts-append, ends-append, net-append, is_in-append, done_steps-append, is_taken_back, kept_by}

-- a filter that lets everything through
pub filter_all : {X : Type 0} (p : X → Bool) (xs : List X) → ((x : X) → p x ≡ true) → filter p xs ≡ xs
filter_all p [] all = refl
filter_all p (x ∷ xs) all = rw (all x) (ap (λ ys. x ∷ ys) (filter_all p xs all))

-- filters by tests that agree
pub filter_same : {X : Type 0} (p q : X → Bool) (xs : List X) → ((x : X) → p x ≡ q x) → filter p xs ≡ filter q xs
filter_same p q [] same = refl
filter_same p q (x ∷ xs) same = rw (same x) (ap (λ ys. cond (q x) (x ∷ ys) ys) (filter_same p q xs same))

-- Net.

pub net-start : (h : List Event) (i : ℕ) → net (h ++ Start i ∷ []) ≡ net h
net-start h i = net-append h (Start i ∷ []) ∙ (append-nil (kept_by [] (net h)) ∙ filter_all (λ e. not (is_taken_back [] e)) (net h) (λ _. refl))

pub net-end : (h : List Event) (i : ℕ) → net (h ++ End i ∷ []) ≡ net h
net-end h i = net-append h (End i ∷ []) ∙ (append-nil (kept_by [] (net h)) ∙ filter_all (λ e. not (is_taken_back [] e)) (net h) (λ _. refl))

not_taken : (e f : Entry) → e.undo ≡ false → not (is_taken_back (e ∷ []) f) ≡ true
not_taken e f forward = rw forward refl

-- a step that takes effect comes last
pub net-do : (h : List Event) (e : Entry) → e.undo ≡ false → net (h ++ Act e ∷ []) ≡ net h ++ e ∷ []
net-do h e forward = net-append h (Act e ∷ []) ∙ (ap (λ es. es ++ net (Act e ∷ [])) (filter_all (λ f. not (is_taken_back (e ∷ []) f)) (net h) (λ f. not_taken e f forward)) ∙ rw forward refl)

taken : (e f : Entry) → e.undo ≡ true → not (is_taken_back (e ∷ []) f) ≡ not (same_step f e)
taken e f undo = rw undo (ap not (or-false (same_step f e)))

-- an undo takes the entry of its step away
pub net-undo : (h : List Event) (e : Entry) → e.undo ≡ true → net (h ++ Act e ∷ []) ≡ filter (λ f. not (same_step f e)) (net h)
net-undo h e undo =
    net-append h (Act e ∷ [])
    ∙ (ap (λ es. kept_by (e ∷ []) (net h) ++ es) (rw undo refl)
    ∙ (append-nil (kept_by (e ∷ []) (net h)) ∙ filter_same (λ f. not (is_taken_back (e ∷ []) f)) (λ f. not (same_step f e)) (net h) (λ f. taken e f undo)))

-- Net of one process, and what follows from it.

pub of_process-append : (i : ℕ) (xs ys : List Entry) → of_process i (xs ++ ys) ≡ of_process i xs ++ of_process i ys
of_process-append i xs ys = filter-append (λ e. eqb e.process i) xs ys

-- a step of process i is the last of its net
pub net_of-do : (h : List Event) (e : Entry) → e.undo ≡ false → net_of (h ++ Act e ∷ []) e.process ≡ net_of h e.process ++ e ∷ []
net_of-do h e forward = rw (net-do h e forward) (of_process-append e.process (net h) (e ∷ []) ∙ ap (λ es. of_process e.process (net h) ++ es) (rw (eq-eqb e.process e.process refl) refl))

through : {X : Type 0} (p q : X → Bool) (x : X) (xs : List X) (a b : Bool) → p x ≡ a → q x ≡ b → (p x ≡ true → q x ≡ true)
    → filter p (filter q xs) ≡ filter p xs → filter p (cond b (x ∷ filter q xs) (filter q xs)) ≡ cond a (x ∷ filter p xs) (filter p xs)
through p q x xs true true is has h e = rw is (ap (λ ys. x ∷ ys) e)
through p q x xs true false is has h e = absurd (search (rules, sym (h is) ∙ has))
through p q x xs false true is has h e = rw is e
through p q x xs false false is has h e = e

-- a filter after a weaker one
pub filter_through : {X : Type 0} (p q : X → Bool) (xs : List X) → ((x : X) → p x ≡ true → q x ≡ true) → filter p (filter q xs) ≡ filter p xs
filter_through p q [] h = refl
filter_through p q (x ∷ xs) h = through p q x xs (p x) (q x) refl refl (h x) (filter_through p q xs h)

twice : {X : Type 0} (q : X → Bool) (x : X) (ys zs : List X) (a : Bool) → filter q ys ≡ zs → filter q (cond a (x ∷ ys) ys) ≡ cond (a && q x) (x ∷ zs) zs
twice q x ys zs true e = ap (λ us. cond (q x) (x ∷ us) us) e
twice q x ys zs false e = e

-- two filters at once
pub filter_twice : {X : Type 0} (p q : X → Bool) (xs : List X) → filter q (filter p xs) ≡ filter (λ x. p x && q x) xs
filter_twice p q [] = refl
filter_twice p q (x ∷ xs) = twice q x (filter p xs) (filter (λ x. p x && q x) xs) (p x) (filter_twice p q xs)

neither : (a b : Bool) → not (a || (b || false)) ≡ (not a && not b)
neither true b = refl
neither false true = refl
neither false false = refl

apart : (i : ℕ) (e f : Entry) → eqb e.process i ≡ false → eqb f.process i ≡ true → (s : Bool) → same_step f e ≡ s → not s ≡ true
apart i e f away is true same = sym away ∙ (ap (λ k. eqb k i) (sym (eqb-true f.process e.process (both-left (eqb f.process e.process) (eqb f.step e.step) same))) ∙ is)
apart i e f away is false same = refl

-- an event of another process leaves the net of process i
pub net_of-other : (h : List Event) (e : Entry) (i : ℕ) → eqb e.process i ≡ false → net_of (h ++ Act e ∷ []) i ≡ net_of h i
net_of-other h e i away = by_undo e.undo refl
  where
    by_undo : (u : Bool) → e.undo ≡ u → net_of (h ++ Act e ∷ []) i ≡ net_of h i
    by_undo true undo = rw (net-undo h e undo) (filter_through (λ f. eqb f.process i) (λ f. not (same_step f e)) (net h) (λ f is. apart i e f away is (same_step f e) refl))
    by_undo false forward = rw (net-do h e forward) (of_process-append i (net h) (e ∷ []) ∙ (ap (λ es. net_of h i ++ es) (rw away refl) ∙ append-nil (net_of h i)))

pub net_of-start : (h : List Event) (k i : ℕ) → net_of (h ++ Start k ∷ []) i ≡ net_of h i
net_of-start h k i = ap (of_process i) (net-start h k)

pub net_of-end : (h : List Event) (k i : ℕ) → net_of (h ++ End k ∷ []) i ≡ net_of h i
net_of-end h k i = ap (of_process i) (net-end h k)

-- Recovery speaks of the net of its process alone.

pub backward_entries-by_net : (courses : List Course) (g h : List Event) (i : ℕ) → net_of g i ≡ net_of h i → backward_entries courses g i ≡ backward_entries courses h i
backward_entries-by_net courses g h i same = ap (λ es. drop (fixed_len (shape courses i) (steps_of es)) es) same

pub owed-by_net : (courses : List Course) (g h : List Event) (i : ℕ) → net_of g i ≡ net_of h i → owed courses g i ≡ owed courses h i
owed-by_net courses g h i same = ap (λ es. map (doing courses i) (forward (shape courses i) (steps_of es))) same

-- Who is active.

pub is_active-do : (h : List Event) (e : Entry) (i : ℕ) → is_active (h ++ Act e ∷ []) i ≡ is_active h i
is_active-do h e i = rw (starts-append h (Act e ∷ []), ends-append h (Act e ∷ []), append-nil (starts h), append-nil (ends h)) refl

pub active-do : (h : List Event) (e : Entry) → active (h ++ Act e ∷ []) ≡ active h
active-do h e = rw (starts-append h (Act e ∷ []), ends-append h (Act e ∷ []), append-nil (starts h), append-nil (ends h)) refl

-- a start adds its process, unless that has ended before
pub active-start : (h : List Event) (i : ℕ) → active (h ++ Start i ∷ []) ≡ active h ++ filter (λ k. not (is_in k (ends h))) (i ∷ [])
active-start h i = rw (starts-append h (Start i ∷ []), ends-append h (Start i ∷ []), append-nil (ends h)) (filter-append (λ k. not (is_in k (ends h))) (starts h) (i ∷ []))

-- an end takes its process away
pub active-end : (h : List Event) (i : ℕ) → active (h ++ End i ∷ []) ≡ filter (λ k. not (eqb k i)) (active h)
active-end h i =
    rw (starts-append h (End i ∷ []), ends-append h (End i ∷ []), append-nil (starts h))
    (filter_same (λ k. not (is_in k (ends h ++ i ∷ []))) (λ k. not (is_in k (ends h)) && not (eqb k i)) (starts h) (λ k. rw (is_in-append k (ends h) (i ∷ [])) (neither (is_in k (ends h)) (eqb k i)))
    ∙ sym (filter_twice (λ k. not (is_in k (ends h))) (λ k. not (eqb k i)) (starts h)))

-- Which steps took effect.

pub done_steps-do : (h : List Event) (e : Entry) → e.undo ≡ false → done_steps (h ++ Act e ∷ []) e.process ≡ done_steps h e.process ++ e.step ∷ []
done_steps-do h e forward = done_steps-append h (Act e ∷ []) e.process ∙ ap (λ bs. done_steps h e.process ++ bs) (rw forward (rw (eq-eqb e.process e.process refl) refl))

pub done_steps-undo : (h : List Event) (e : Entry) (i : ℕ) → e.undo ≡ true → done_steps (h ++ Act e ∷ []) i ≡ done_steps h i
done_steps-undo h e i undo = done_steps-append h (Act e ∷ []) i ∙ (ap (λ bs. done_steps h i ++ bs) (rw undo refl) ∙ append-nil (done_steps h i))
