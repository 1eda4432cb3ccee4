-- An undo takes back the last entry of its process, and leaves what the process owes.
use Rattle.std.proofs.Common.{◌≡◌, ℕ, ◌+◌, ◌≤◌, Bool, true, false, not, cond, eqb, ltb, if◌then◌else◌, List, [], ◌∷◌, ◌++◌, length, map, filter, take, drop, sym, refl, ap, ◌∙◌, subst, arith, append-nil, append_assoc}
use Rattle.std.specs.Bool.{IsTrue}
use Rattle.std.specs.List.{list_all}
use Rattle.std.proofs.lemmas.Bool.{eqb-true, and_from, and_parts, false≢true, ltb-true, ne_eqb, and_right}
use Rattle.std.proofs.lemmas.List.Elements.{filter-append}
use Rattle.std.proofs.lemmas.List.{take-append-drop, drop-append-le, take-append-le, map-append, length-append, length-drop}
use Rattle.process_tree.specs.declared.entry.Entry.{Entry}
use Rattle.process_tree.specs.Shape.{Shape, commits_after, fixed_len, last_after}
use Rattle.process_tree.specs.Recovery.{forward}
use Rattle.process_tree.proofs.Fixed.{fixed_more, fixed_le}
use Rattle.schedule_model.specs.declared.event.Event.{Event}
use Rattle.schedule_model.specs.declared.event.Event.TheVariants.{Act}
use Rattle.schedule_model.specs.Course.{Course, shape}
use Rattle.schedule_model.specs.Conflict.{ConflictRelation}
use Rattle.schedule_model.specs.Histories.{doing, net_of, net_steps, same_step, steps_of}
use Rattle.schedule_model.specs.Recovery.{backward_entries, owed}
use Rattle.schedule_model.specs.OwnOrder.{is_of_last}
use Rattle.schedule_model.specs.Legal.{may_come, is_legal}
use Rattle.schedule_model.proofs.Recoveries.{net_of-undo, steps_count, net_steps-do}
use Rattle.schedule_model.proofs.Rising.{Rising, net_steps-rising, undo_is_of_last}

-- a list that ends with an entry of this step
pub record EndsWith (e : Entry) (xs : List Entry) : Type 0 where
  pub front : List Entry
  pub last : Entry
  pub is : xs ≡ front ++ last ∷ []
  pub same : same_step last e ≡ true

behind_one : (e x : Entry) (xs : List Entry) → EndsWith e xs → EndsWith e (x ∷ xs)
behind_one e x xs ends = record { front = x ∷ ends.front; last = ends.last; is = ap (λ ys. x ∷ ys) ends.is; same = ends.same }

pub ends_with : (e : Entry) (xs : List Entry) → is_of_last xs e ≡ true → EndsWith e xs
ends_with e [] is = absurd (false≢true is)
ends_with e (x ∷ []) is = record { front = []; last = x; is = refl; same = is }
ends_with e (x ∷ y ∷ xs) is = behind_one e x (y ∷ xs) (ends_with e (y ∷ xs) is)

above_front : (x b : ℕ) (xs : List ℕ) → IsTrue (list_all (λ y. ltb x y) (xs ++ b ∷ [])) → ltb x b ≡ true
above_front x b [] all = (and_parts (ltb x b) true all).0
above_front x b (y ∷ ys) all = above_front x b ys (and_parts (ltb x y) (list_all (λ z. ltb x z) (ys ++ b ∷ [])) all).1

-- in a rising list the last is the greatest
pub Rising-last : (xs : List ℕ) (b : ℕ) → Rising (xs ++ b ∷ []) → IsTrue (list_all (λ d. ltb d b) xs)
Rising-last [] b rising = refl
Rising-last (x ∷ xs) b rising = and_from (ltb x b) (list_all (λ d. ltb d b) xs) (above_front x b xs rising.0) (Rising-last xs b rising.1)

-- entries of lesser steps aren't of this one
lesser_steps_stay : (e : Entry) (xs : List Entry) → IsTrue (list_all (λ d. ltb d e.step) (steps_of xs)) → filter (λ f. not (same_step f e)) xs ≡ xs
lesser_steps_stay e [] all = refl
lesser_steps_stay e (x ∷ xs) all =
    let parts = and_parts (ltb x.step e.step) (list_all (λ d. ltb d e.step) (steps_of xs)) all in
    let less = ltb-true x.step e.step parts.0 in
    rw (and_right (eqb x.process e.process) (eqb x.step e.step) (ne_eqb x.step e.step (λ same. omega arith)))
    (ap (λ ys. x ∷ ys) (lesser_steps_stay e xs parts.1))

-- The last entry of a net goes, where it is of the backward recovery: nothing else was fixed by it.

fixed_at_last : (t : Shape) (front : List Entry) (x : Entry)
    → fixed_len t (steps_of (front ++ x ∷ [])) ≡ cond (commits_after t (steps_of front) x.step) (length (steps_of front) + 1) (fixed_len t (steps_of front))
fixed_at_last t front x = ap (fixed_len t) (map-append (λ (f : Entry). f.step) front (x ∷ [])) ∙ fixed_more t (steps_of front) x.step

nothing_left : (front us : List Entry) (x : Entry) (n : ℕ) → n ≡ length (steps_of front) + 1 → drop n (front ++ x ∷ []) ≡ us ++ x ∷ [] → ⊥
nothing_left front us x n is left =
    let few = ap length left in
    omega (arith, few, length-drop n (front ++ x ∷ []), length-append front (x ∷ []), length-append us (x ∷ []), steps_count front)

by_kind : (t : Shape) (front us : List Entry) (x : Entry) (c : Bool) → commits_after t (steps_of front) x.step ≡ c
    → drop (fixed_len t (steps_of (front ++ x ∷ []))) (front ++ x ∷ []) ≡ us ++ x ∷ [] → fixed_len t (steps_of (front ++ x ∷ [])) ≡ fixed_len t (steps_of front)
by_kind t front us x true is left =
    absurd (nothing_left front us x (fixed_len t (steps_of (front ++ x ∷ []))) (fixed_at_last t front x ∙ ap (λ c. cond c (length (steps_of front) + 1) (fixed_len t (steps_of front))) is) left)
by_kind t front us x false is left = fixed_at_last t front x ∙ ap (λ c. cond c (length (steps_of front) + 1) (fixed_len t (steps_of front))) is

-- the same steps are fixed without it
fixed_without : (t : Shape) (front us : List Entry) (x : Entry)
    → drop (fixed_len t (steps_of (front ++ x ∷ []))) (front ++ x ∷ []) ≡ us ++ x ∷ [] → fixed_len t (steps_of (front ++ x ∷ [])) ≡ fixed_len t (steps_of front)
fixed_without t front us x = by_kind t front us x (commits_after t (steps_of front) x.step) refl

fixed_within : (t : Shape) (front : List Entry) → fixed_len t (steps_of front) ≤ length front
fixed_within t front = subst (λ n. fixed_len t (steps_of front) ≤ n) (steps_count front) (fixed_le t (steps_of front))

-- the path that is owed stays the same
pub owed_without : (t : Shape) (ws : List ℕ) (b : ℕ) → fixed_len t (ws ++ b ∷ []) ≡ fixed_len t ws → forward t (ws ++ b ∷ []) ≡ forward t ws
owed_without t ws b same =
    ap (λ k. if eqb k 0 then [] else last_after t (take k (ws ++ b ∷ []))) same
    ∙ ap (λ vs. if eqb (fixed_len t ws) 0 then [] else last_after t vs) (take-append-le (fixed_len t ws) ws (b ∷ []) (fixed_le t ws))

-- what an undo does to its process: its net and its backward recovery lose their last entry, and what it owes stays
pub record Undoes (courses : List Course) (e : Entry) (h after : List Event) : Type 0 where
  pub last : Entry
  pub same : same_step last e ≡ true
  pub net : net_of h e.process ≡ net_of after e.process ++ last ∷ []
  pub backward_entries : backward_entries courses h e.process ≡ backward_entries courses after e.process ++ last ∷ []
  pub owed : owed courses after e.process ≡ owed courses h e.process

goes : (courses : List Course) (e : Entry) (h after : List Event) (front us : List Entry) (x : Entry) → same_step x e ≡ true
    → net_of h e.process ≡ front ++ x ∷ [] → net_of after e.process ≡ front → backward_entries courses h e.process ≡ us ++ x ∷ [] → Undoes courses e h after
goes courses e h after front us x same net_is after_is left =
    let t = shape courses e.process in
    let fixed = fixed_without t front us x (subst (λ (es : List Entry). drop (fixed_len t (steps_of es)) es ≡ us ++ x ∷ []) net_is left) in
    record {
      last = x;
      same = same;
      net = net_is ∙ ap (λ es. es ++ x ∷ []) (sym after_is);
      backward_entries =
          ap (λ es. drop (fixed_len t (steps_of es)) es) net_is
          ∙ (ap (λ k. drop k (front ++ x ∷ [])) fixed
          ∙ (drop-append-le (fixed_len t (steps_of front)) front (x ∷ []) (fixed_within t front)
          ∙ ap (λ es. drop (fixed_len t (steps_of es)) es ++ x ∷ []) (sym after_is)));
      owed = ap (map (doing courses e.process))
          (ap (λ es. forward t (steps_of es)) after_is
          ∙ (sym (owed_without t (steps_of front) x.step (sym (ap (fixed_len t) (map-append (λ (f : Entry). f.step) front (x ∷ []))) ∙ fixed))
          ∙ (ap (forward t) (sym (map-append (λ (f : Entry). f.step) front (x ∷ []))) ∙ ap (λ es. forward t (steps_of es)) (sym net_is))));
    }

front_stays : (e x : Entry) (front : List Entry) → same_step x e ≡ true → Rising (steps_of (front ++ x ∷ [])) → filter (λ f. not (same_step f e)) (front ++ x ∷ []) ≡ front
front_stays e x front same rising =
    let at = eqb-true x.step e.step (and_parts (eqb x.process e.process) (eqb x.step e.step) same).1 in
    let lesser = subst (λ b. IsTrue (list_all (λ d. ltb d b) (steps_of front))) at (Rising-last (steps_of front) x.step (subst Rising (map-append (λ (f : Entry). f.step) front (x ∷ [])) rising)) in
    filter-append (λ f. not (same_step f e)) front (x ∷ [])
    ∙ (ap (λ es. es ++ filter (λ f. not (same_step f e)) (x ∷ [])) (lesser_steps_stay e front lesser)
    ∙ (ap (λ b. front ++ cond (not b) (x ∷ []) []) same ∙ append-nil front))

-- an undo of the last entry that can be undone takes that back, after a legal history
pub undoes_last : (table : ConflictRelation) (courses : List Course) (h : List Event) (e : Entry) → IsTrue (is_legal table courses h) → e.undo ≡ true
    → IsTrue (is_of_last (backward_entries courses h e.process) e) → Undoes courses e h (h ++ Act e ∷ [])
undoes_last table courses h e legal undo of_last =
    let t = shape courses e.process in
    let w = net_of h e.process in
    let k = fixed_len t (steps_of w) in
    let ends = ends_with e (backward_entries courses h e.process) of_last in
    let front = take k w ++ ends.front in
    let net_is : w ≡ front ++ ends.last ∷ [] = sym (take-append-drop k w) ∙ (ap (λ es. take k w ++ es) ends.is ∙ sym (append_assoc (take k w) ends.front (ends.last ∷ []))) in
    let after_is : net_of (h ++ Act e ∷ []) e.process ≡ front =
    net_of-undo h e e.process undo
    ∙ (ap (filter (λ f. not (same_step f e))) net_is
    ∙ front_stays e ends.last front ends.same (subst (λ (es : List Entry). Rising (steps_of es)) net_is (net_steps-rising table courses h e.process legal))) in
    goes courses e h (h ++ Act e ∷ []) front ends.front ends.last ends.same net_is after_is ends.is

-- an undo that may come in a legal history does
pub undoes : (table : ConflictRelation) (courses : List Course) (h : List Event) (e : Entry) → IsTrue (is_legal table courses h) → e.undo ≡ true
    → IsTrue (may_come table courses h (Act e)) → Undoes courses e h (h ++ Act e ∷ [])
undoes table courses h e legal undo may = undoes_last table courses h e legal undo (undo_is_of_last table courses h e undo may)

-- a step that can be undone leaves what its process owes, too
pub owed-stays : (courses : List Course) (h : List Event) (e : Entry) → e.undo ≡ false → commits_after (shape courses e.process) (net_steps h e.process) e.step ≡ false
    → owed courses (h ++ Act e ∷ []) e.process ≡ owed courses h e.process
owed-stays courses h e is_step backward_entries =
    let t = shape courses e.process in
    let ws = net_steps h e.process in
    ap (map (doing courses e.process))
    (ap (forward t) (net_steps-do h e is_step)
    ∙ owed_without t ws e.step (fixed_more t ws e.step ∙ ap (λ c. cond c (length ws + 1) (fixed_len t ws)) backward_entries))
