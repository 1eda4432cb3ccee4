-- Pieces that never come again: a step below the bound, or one that isn't owed once its process has begun to complete, and the undo
-- of a step that was undone.
use Rattle.std.proofs.Common.{◌≡◌, ◌⊎◌, inl, inr, ℕ, ◌≤◌, ◌<◌, Bool, true, false, not, if◌then◌else◌, eqb, ltb, ◌||◌, List, [], ◌∷◌, ◌++◌, take, drop, Option, Some, None, sym, refl, ap, ◌∙◌, arith}
use Rattle.std.specs.List.{list_all}
use Rattle.std.proofs.lemmas.Option.{none-some, same_Some}
use Rattle.std.proofs.lemmas.Bool.{and_parts, and_from, or_parts, or_cases, or_left, or_right, or_from, not-true, eqb-true, eq-eqb, ne_eqb, ltb-true, false≢true}
use Rattle.std.proofs.lemmas.List.{take-append-drop}
use Rattle.process_tree.specs.Recovery.{forward}
use Rattle.process_tree.specs.Shape.{Shape, first_of, goes_on_to, last_of}
use Rattle.process_tree.specs.Laws.{IsTreeShape}
use Rattle.process_tree.specs.Termination.{IsWellFormed}
use Rattle.process_tree.proofs.TreeLaws.{next_steps_have_a_class, paths_lie_in_order}
use Rattle.schedule_model.specs.Course.{Course}
use Rattle.schedule_model.specs.Histories.{done_steps, is_in, net_steps}
use Rattle.schedule_model.specs.Recovery.{owed_steps}
use Rattle.schedule_model.specs.declared.event.Event.{Event}
use Rattle.schedule_model.proofs.Appends.{is_in-append}
use Rattle.schedule_model.proofs.OwedPaths.{owed_is_reserved}
use Rattle.schedule_model.proofs.Rising.{Rising, all_net_steps}
use Rattle.machine_model.specs.declared.kept.Work.{Work}
use Rattle.machine_model.specs.declared.kept.Work.TheVariants.{Forward, Undo, End}
use Rattle.machine_model.specs.Progress.{Progress, next_forward, next_task, pending_steps, same_task, staying, step_or_end, undo_or, way_on}
use Rattle.machine_model.specs.Moment.{Moment, has_begun}
use Rattle.machine_model.specs.State.{next_of, progress}
use Rattle.machine_model.specs.PieceLaws.{IsGone}
use Rattle.machine_model.proofs.LastElements.{HasEnd, has_end, last_of-push, any_last}
use Rattle.machine_model.proofs.NextInOrder.{OwedIsAhead}
use Rattle.machine_model.proofs.OwnOrder.{next_step, next_step-bound}

-- a process whose next piece is an undo has that step pending last
pub next_undo : (s : Progress) (b : ℕ) → same_task (record { work = Undo; step = b }) (next_task s) ≡ true → last_of (pending_steps s) ≡ Some b
next_undo s b is = by_pending (last_of (pending_steps s)) refl is
  where
    by_step : (o : Option ℕ) → same_task (record { work = Undo; step = b }) (step_or_end o) ≡ true → last_of (pending_steps s) ≡ Some b
    by_step None same = absurd (false≢true same)
    by_step (Some d) same = absurd (false≢true same)

    by_pending : (o : Option ℕ) → last_of (pending_steps s) ≡ o → same_task (record { work = Undo; step = b }) (undo_or (next_forward s) o) ≡ true → last_of (pending_steps s) ≡ Some b
    by_pending (Some d) last same = last ∙ ap Some (sym (eqb-true b d same))
    by_pending None last same = by_step (if s.begun then first_of (forward s.shape s.net) else way_on s) same

pub last_listed : (xs : List ℕ) (b : ℕ) → last_of xs ≡ Some b → is_in b xs ≡ true
last_listed xs b last = by_end (has_end xs)
  where
    by_end : (xs ≡ []) ⊎ HasEnd xs → is_in b xs ≡ true
    by_end (inl none) = absurd (none-some b (sym (ap last_of none) ∙ last))
    by_end (inr ends) =
        let same : ends.last ≡ b = same_Some ends.last b (sym (ap last_of ends.is ∙ last_of-push ends.front ends.last) ∙ last) in
        ap (is_in b) ends.is ∙ any_last (eqb b) ends.front ends.last (eq-eqb b ends.last (sym same))

pub dropped_listed : (n : ℕ) (xs : List ℕ) (b : ℕ) → is_in b (drop n xs) ≡ true → is_in b xs ≡ true
dropped_listed n xs b is = ap (is_in b) (sym (take-append-drop n xs)) ∙ (is_in-append b (take n xs) (drop n xs) ∙ or_right (is_in b (take n xs)) (is_in b (drop n xs)) is)

taken_unlisted : (n : ℕ) (xs : List ℕ) (b : ℕ) → is_in b xs ≡ false → is_in b (take n xs) ≡ false
taken_unlisted n xs b is = (or_parts (is_in b (take n xs)) (is_in b (drop n xs)) (sym (is_in-append b (take n xs) (drop n xs)) ∙ (ap (is_in b) (take-append-drop n xs) ∙ is))).0

first_in : (bs : List ℕ) (b : ℕ) → first_of bs ≡ Some b → is_in b bs ≡ true
first_in [] b is = absurd (none-some b is)
first_in (c ∷ bs) b is = or_left (eqb b c) (is_in b bs) (eq-eqb b c (sym (same_Some c b is)))

-- what is gone isn't next
pub gone_not_next : (courses : List Course) (m : Moment) (i b : ℕ) (w : Work) → OwedIsAhead (progress courses m i) → IsGone courses m i b w → same_task (record { work = w; step = b }) (next_of courses m i) ≡ true → ⊥
gone_not_next courses m i b Forward ahead (inl below) is = let bound = next_step-bound (progress courses m i) b ahead is in omega arith
gone_not_next courses m i b Forward ahead (inr gone) is =
    let step = (next_step (progress courses m i) b is).1 in
    let first : first_of (owed_steps courses m.events i) ≡ Some b = sym (ap (λ t. if t then first_of (owed_steps courses m.events i) else way_on (progress courses m i)) gone.0) ∙ step in
    false≢true (sym gone.1 ∙ first_in (owed_steps courses m.events i) b first)
gone_not_next courses m i b Undo ahead gone is =
    false≢true (sym gone.1 ∙ dropped_listed (staying (progress courses m i)) (net_steps m.events i) b (last_listed (pending_steps (progress courses m i)) b (next_undo (progress courses m i) b is)))
gone_not_next courses m i b End ahead gone is = gone

-- what process i has gone through from m to n
pub record GoesThrough (courses : List Course) (m n : Moment) (i : ℕ) : Type 0 where
  pub onward : (progress courses m i).onward ≤ (progress courses n i).onward
  pub begun : has_begun m i ≡ true → has_begun n i ≡ true
  pub owed : has_begun m i ≡ true → (b : ℕ) → is_in b (owed_steps courses m.events i) ≡ false → is_in b (owed_steps courses n.events i) ≡ false
  pub done : (b : ℕ) → is_in b (done_steps m.events i) ≡ true → is_in b (done_steps n.events i) ≡ true
  pub net : (b : ℕ) → is_in b (done_steps m.events i) ≡ true → is_in b (net_steps m.events i) ≡ false → is_in b (net_steps n.events i) ≡ false

-- what is gone stays so
pub stays_gone : (courses : List Course) (m n : Moment) (i b : ℕ) (w : Work) → GoesThrough courses m n i → IsGone courses m i b w → IsGone courses n i b w
stays_gone courses m n i b Forward through (inl below) = let o = through.onward in inl (omega arith)
stays_gone courses m n i b Forward through (inr gone) = inr (through.begun gone.0, through.owed gone.0 b gone.1)
stays_gone courses m n i b Undo through gone = (through.done b gone.0, through.net b gone.0 gone.1)
stays_gone courses m n i b End through gone = gone

below_listed : (ds : List ℕ) (b d : ℕ) → list_all (λ x. ltb x d) ds ≡ true → is_in b ds ≡ true → b < d
below_listed [] b d all is = absurd (false≢true is)
below_listed (x ∷ ds) b d all is = by_head (or_cases (eqb b x) (is_in b ds) is) (below_listed ds b d parts.1)
  where
    parts : (ltb x d ≡ true) × (list_all (λ y. ltb y d) ds ≡ true)
    parts = and_parts (ltb x d) (list_all (λ y. ltb y d) ds) all

    by_head : (eqb b x ≡ true) ⊎ (is_in b ds ≡ true) → (is_in b ds ≡ true → b < d) → b < d
    by_head (inl same) rest = let e = eqb-true b x same in let l = ltb-true x d parts.0 in omega arith
    by_head (inr later) rest = rest later

-- a step that is done was not done before
pub not_again : (w ds : List ℕ) (b d : ℕ) → list_all (λ x. ltb x d) ds ≡ true → is_in b ds ≡ true → is_in b w ≡ false → is_in b (w ++ d ∷ []) ≡ false
not_again w ds b d all done none = is_in-append b w (d ∷ []) ∙ or_from (is_in b w) (eqb b d || false) none (or_from (eqb b d) false (ne_eqb b d (λ same. let less = below_listed ds b d all done in omega arith)) refl)

-- the last of a rising list stands in it once
pub last_once : (xs : List ℕ) (b : ℕ) → Rising (xs ++ b ∷ []) → is_in b xs ≡ false
last_once [] b rising = refl
last_once (x ∷ xs) b rising =
    or_from (eqb b x) (is_in b xs)
    (ne_eqb b x (λ same. let less = ltb-true x b (above_last xs rising.0) in omega arith)) (last_once xs b rising.1)
  where
    above_last : (ys : List ℕ) → list_all (λ y. ltb x y) (ys ++ b ∷ []) ≡ true → ltb x b ≡ true
    above_last [] all = (and_parts (ltb x b) true all).0
    above_last (y ∷ ys) all = above_last ys (and_parts (ltb x y) (list_all (λ z. ltb x z) (ys ++ b ∷ [])) all).1

unlisted_all : (ds : List ℕ) (b : ℕ) → is_in b ds ≡ false → list_all (λ x. not (eqb b x)) ds ≡ true
unlisted_all [] b none = refl
unlisted_all (x ∷ ds) b none = let parts = or_parts (eqb b x) (is_in b ds) none in and_from (not (eqb b x)) (list_all (λ y. not (eqb b y)) ds) (ap not parts.0) (unlisted_all ds b parts.1)

all_unlisted : (ds : List ℕ) (b : ℕ) → list_all (λ x. not (eqb b x)) ds ≡ true → is_in b ds ≡ false
all_unlisted [] b all = refl
all_unlisted (x ∷ ds) b all = let parts = and_parts (not (eqb b x)) (list_all (λ y. not (eqb b y)) ds) all in or_from (eqb b x) (is_in b ds) (not-true (eqb b x) parts.0) (all_unlisted ds b parts.1)

-- what stands was done
pub net_done : (h : List Event) (i b : ℕ) → is_in b (net_steps h i) ≡ true → is_in b (done_steps h i) ≡ true
net_done h i b is = by_done (is_in b (done_steps h i)) refl
  where
    by_done : (t : Bool) → is_in b (done_steps h i) ≡ t → is_in b (done_steps h i) ≡ true
    by_done true at = at
    by_done false at = absurd (false≢true (sym (all_unlisted (net_steps h i) b (all_net_steps (λ x. not (eqb b x)) h i (unlisted_all (done_steps h i) b at))) ∙ is))

-- what isn't owed isn't owed once the first owed step is done
pub owed_shrinks : (t : Shape) (w : List ℕ) (b d : ℕ) (rest : List ℕ) → IsTreeShape t → IsWellFormed t → goes_on_to t w d ≡ true → forward t w ≡ d ∷ rest → is_in b (forward t w) ≡ false → is_in b (forward t (w ++ d ∷ [])) ≡ false
owed_shrinks t w b d rest tree well on owes none =
    let class = next_steps_have_a_class t tree well w d on in
    let first = class.owed_first (owed_is_reserved t (paths_lie_in_order t tree) well w d rest owes) in
    (or_parts (eqb b d) (is_in b (forward t (w ++ d ∷ []))) (sym (ap (is_in b) first) ∙ none)).1
