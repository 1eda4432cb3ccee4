-- One act more in own order, and what it makes of a process at an opening.
use Rattle.std.proofs.Common.{◌≡◌, subst, ℕ, ◌+◌, ◌-◌, ◌<◌, ◌≤◌, max, suc, true, false, not, cond, eqb, ltb, List, [], ◌∷◌, ◌++◌, length, map, filter, take, drop, Option, Some, None, refl, sym, ap, ◌∙◌, arith, if◌then◌else◌, append_assoc, append-nil, length-drop, get_or}
use Rattle.std.proofs.Math.Seq.{drop-cons, take-suc}
use Rattle.std.specs.Bool.{IsTrue}
use Rattle.std.specs.List.{list_all}
use Rattle.std.proofs.lemmas.Bool.{and_parts, eqb-true, ltb-true, ne_eqb, and_right}
use Rattle.std.proofs.lemmas.List.Elements.{filter-append}
use Rattle.std.proofs.lemmas.List.{take-append-drop, map-append, length-append, length-map}
use Rattle.process_tree.specs.declared.entry.Entry.{Entry}
use Rattle.process_tree.specs.Order.{Each}
use Rattle.process_tree.specs.Shape.{Shape, branch_to, fixed_len, goes_on_to, last_of}
use Rattle.process_tree.proofs.Kept.{branch_below}
use Rattle.process_tree.proofs.TreeLaws.{paths_lie_in_order}
use Rattle.schedule_model.specs.declared.event.Event.{Event}
use Rattle.schedule_model.specs.declared.event.Event.TheVariants.{Act}
use Rattle.schedule_model.specs.Course.{Course}
use Rattle.schedule_model.specs.Histories.{acts, net, net_acts, same_step, steps_of}
use Rattle.schedule_model.specs.OwnOrder.{is_of_last}
use Rattle.schedule_model.proofs.Snoc.{net-do, net-undo}
use Rattle.schedule_model.proofs.Undoing.{ends_with}
use Rattle.machine_model.specs.Progress.{above}
use Rattle.machine_model.specs.ProcessState.{ProcessState, opening_state, step_done, last_undone}
use Rattle.machine_model.proofs.OwnEvents.{above-append}
use Rattle.instance_state.specs.declared.standing.Standing.{Standing}
use Rattle.instance_state.specs.OwnActs.{each_follows, goes_further, may_follow, steps_done}
use Rattle.instance_state.specs.Rows.{done_to}
use Rattle.instance_state.specs.Standings.{Keeps, state_of, progress_of, with_progress}
use Rattle.instance_state.proofs.Lists.{last_push, length_push, take_push, take_all}
use Rattle.instance_state.proofs.States.{same_state}

-- The acts as a history of their own.

abbrev as_events : List Entry → List Event
as_events es = map Act es

acts-as_events : (es : List Entry) → acts (as_events es) ≡ es
acts-as_events [] = refl
acts-as_events (e ∷ es) = ap (λ l. e ∷ l) (acts-as_events es)

net-as_events : (es : List Entry) → net (as_events es) ≡ net_acts es
net-as_events es = ap net_acts (acts-as_events es)

as_events-push : (es : List Entry) (e : Entry) → as_events (es ++ e ∷ []) ≡ as_events es ++ Act e ∷ []
as_events-push es e = map-append Act es (e ∷ [])

pub net_acts-do : (es : List Entry) (e : Entry) → e.undo ≡ false → net_acts (es ++ e ∷ []) ≡ net_acts es ++ e ∷ []
net_acts-do es e forward =
    sym (net-as_events (es ++ e ∷ [])) ∙ ap net (as_events-push es e) ∙ net-do (as_events es) e forward ∙ ap (λ l. l ++ e ∷ []) (net-as_events es)

pub net_acts-undo : (es : List Entry) (e : Entry) → e.undo ≡ true → net_acts (es ++ e ∷ []) ≡ filter (λ f. not (same_step f e)) (net_acts es)
net_acts-undo es e undo =
    sym (net-as_events (es ++ e ∷ [])) ∙ ap net (as_events-push es e) ∙ net-undo (as_events es) e undo ∙ ap (filter (λ f. not (same_step f e))) (net-as_events es)

pub steps_done-do : (es : List Entry) (e : Entry) → e.undo ≡ false → steps_done (es ++ e ∷ []) ≡ steps_done es ++ e.step ∷ []
steps_done-do es e forward =
    ap steps_of (filter-append (λ f. not f.undo) es (e ∷ []) ∙ ap (λ b. filter (λ f. not f.undo) es ++ cond (not b) (e ∷ []) []) forward)
    ∙ map-append (λ (f : Entry). f.step) (filter (λ f. not f.undo) es) (e ∷ [])

pub steps_done-undo : (es : List Entry) (e : Entry) → e.undo ≡ true → steps_done (es ++ e ∷ []) ≡ steps_done es
steps_done-undo es e undo =
    ap steps_of (filter-append (λ f. not f.undo) es (e ∷ []) ∙ ap (λ b. filter (λ f. not f.undo) es ++ cond (not b) (e ∷ []) []) undo ∙ append-nil (filter (λ f. not f.undo) es))

-- the bound behind steps that are all below this one is no greater
pub above_below : (ds : List ℕ) (b : ℕ) → IsTrue (list_all (λ d. ltb d b) ds) → above ds ≤ b
above_below [] b all = omega arith
above_below (d ∷ ds) b all =
    let parts = and_parts (ltb d b) (list_all (λ d. ltb d b) ds) all in
    let lt = ltb-true d b parts.0 in
    let rest = above_below ds b parts.1 in
    omega arith

-- Where a process stands after acts in own order.

-- after these acts, with the others still to come
pub record HasReplayed (c : Course) (before rest : List Entry) (s : Standing) : Type 0 where
  pub keeps : Keeps c.shape s
  pub state : state_of c.shape s ≡ opening_state c before
  pub order : each_follows c.shape before rest ≡ true

pub replayed_net : (c : Course) (before rest : List Entry) (s : Standing) → HasReplayed c before rest s → done_to c.shape s.last ≡ steps_of (net_acts before)
replayed_net c before rest s has = ap (λ (p : ProcessState). p.progress.net) has.state

pub replayed_onward : (c : Course) (before rest : List Entry) (s : Standing) → HasReplayed c before rest s → s.onward ≡ above (steps_done before)
replayed_onward c before rest s has = ap (λ (p : ProcessState). p.progress.onward) has.state

pub not_begun : (c : Course) (before rest : List Entry) (s : Standing) → HasReplayed c before rest s → s.begun ≡ false
not_begun c before rest s has = ap (λ (p : ProcessState). p.progress.begun) has.state

pub next_follows : (t : Shape) (before rest : List Entry) (e : Entry) → each_follows t before (e ∷ rest) ≡ true → (may_follow t before e ≡ true) × (each_follows t (before ++ e ∷ []) rest ≡ true)
next_follows t before rest e all = and_parts (may_follow t before e) (each_follows t (before ++ e ∷ []) rest) all

-- a step that may come next
pub step_follows : (c : Course) (before rest : List Entry) (s : Standing) (e : Entry) → HasReplayed c before (e ∷ rest) s → e.undo ≡ false
    → (goes_on_to c.shape (done_to c.shape s.last) e.step ≡ true) × (s.onward ≤ e.step)
step_follows c before rest s e has forward =
    let t = c.shape in
    let may = (next_follows t before rest e has.order).0 in
    let further : goes_further t before e.step ≡ true = sym (ap (λ u. if u then is_of_last (drop (fixed_len t (steps_of (net_acts before))) (net_acts before)) e else goes_further t before e.step) forward) ∙ may in
    let parts = and_parts (goes_on_to t (steps_of (net_acts before)) e.step) (list_all (λ d. ltb d e.step) (steps_done before)) further in
    let low = above_below (steps_done before) e.step parts.1 in
    let bound = replayed_onward c before (e ∷ rest) s has in
    (ap (λ w. goes_on_to t w e.step) (replayed_net c before (e ∷ rest) s has) ∙ parts.0, omega arith)

pub after_step : (c : Course) (before rest : List Entry) (s next : Standing) (e : Entry) → HasReplayed c before (e ∷ rest) s → e.undo ≡ false → Keeps c.shape next
    → state_of c.shape next ≡ with_progress (step_done (progress_of c.shape s) e.step) → HasReplayed c (before ++ e ∷ []) rest next
after_step c before rest s next e has forward keeps state =
    let t = c.shape in
    record {
      keeps = keeps;
      order = (next_follows t before rest e has.order).1;
      state =
          state
          ∙ same_state t _ _ _ _ s.begun false 0 0
          (ap (λ w. w ++ e.step ∷ []) (replayed_net c before (e ∷ rest) s has)
          ∙ sym (map-append (λ (f : Entry). f.step) (net_acts before) (e ∷ []))
          ∙ ap steps_of (sym (net_acts-do before e forward)))
          (ap (λ o. max o (e.step + 1)) (replayed_onward c before (e ∷ rest) s has)
          ∙ (let m = above-append (steps_done before) (e.step ∷ []) in omega arith)
          ∙ ap above (sym (steps_done-do before e forward)))
          (not_begun c before (e ∷ rest) s has) refl;
    }

-- an undo that may come next is of the last entry of the net, behind the last commit point
pub record TakesBack (c : Course) (before : List Entry) (s : Standing) (e : Entry) : Type 0 where
  pub front : List Entry
  pub x : Entry
  pub is : net_acts before ≡ front ++ x ∷ []
  pub same : same_step x e ≡ true
  pub free : fixed_len c.shape (done_to c.shape s.last) < length (done_to c.shape s.last)

pub undo_follows : (c : Course) (before rest : List Entry) (s : Standing) (e : Entry) → HasReplayed c before (e ∷ rest) s → e.undo ≡ true → TakesBack c before s e
undo_follows c before rest s e has undo =
    let t = c.shape in
    let es = net_acts before in
    let k = fixed_len t (steps_of es) in
    let may = (next_follows t before rest e has.order).0 in
    let last : is_of_last (drop k es) e ≡ true = sym (ap (λ u. if u then is_of_last (drop k es) e else goes_further t before e.step) undo) ∙ may in
    let ends = ends_with e (drop k es) last in
    let net = replayed_net c before (e ∷ rest) s has in
    let count = ap length ends.is in
    let drops = length-drop k es in
    let more : length (ends.front ++ ends.last ∷ []) ≡ length ends.front + 1 = length-append ends.front (ends.last ∷ []) in
    let steps : length (steps_of es) ≡ length es = length-map es (λ (f : Entry). f.step) in
    record {
      front = take k es ++ ends.front;
      x = ends.last;
      is = sym (take-append-drop k es) ∙ ap (λ l. take k es ++ l) ends.is ∙ sym (append_assoc (take k es) ends.front (ends.last ∷ []));
      same = ends.same;
      free = subst (λ w. fixed_len t w < length w) (sym net) (omega arith);
    }

-- entries of lesser steps aren't of this one
lesser_stay : (e : Entry) (b : ℕ) (xs : List Entry) → e.step ≡ b → Each (λ d. d < b) (steps_of xs) → filter (λ f. not (same_step f e)) xs ≡ xs
lesser_stay e b [] is low = refl
lesser_stay e b (x ∷ xs) is low =
    let lt : x.step < b = low.0 in
    rw (and_right (eqb x.process e.process) (eqb x.step e.step) (ne_eqb x.step e.step (λ same. omega arith)))
    (ap (λ ys. x ∷ ys) (lesser_stay e b xs is low.1))

push_same : (v w : List ℕ) (a b : ℕ) → v ++ a ∷ [] ≡ w ++ b ∷ [] → (v ≡ w) × (a ≡ b)
push_same v w a b same =
    let count = ap length same in
    let m = length_push v a in
    let n = length_push w b in
    let front : v ≡ w = sym (take_all v (length v) (omega arith)) ∙ sym (take_push v a (length v) (omega arith)) ∙ ap (take (length v)) same ∙ take_push w b (length v) (omega arith) ∙ take_all w (length v) (omega arith) in
    let last : Some a ≡ Some b = sym (last_push v a) ∙ ap last_of same ∙ last_push w b in
    (front, cc)

pub after_undo : (c : Course) (before rest : List Entry) (s next : Standing) (e : Entry) → HasReplayed c before (e ∷ rest) s → e.undo ≡ true → Keeps c.shape next
    → state_of c.shape next ≡ with_progress (last_undone (progress_of c.shape s)) → HasReplayed c (before ++ e ∷ []) rest next
after_undo c before rest s next e has undo keeps state = record {
  keeps = keeps;
  order = (next_follows t before rest e has.order).1;
  state =
      state
      ∙ same_state t _ _ _ _ s.begun false 0 0 net_left
      (replayed_onward c before (e ∷ rest) s has ∙ ap above (sym (steps_done-undo before e undo)))
      (not_begun c before (e ∷ rest) s has) refl;
}
  where
    t : Shape
    t = c.shape

    back : TakesBack c before s e
    back = undo_follows c before rest s e has undo

    net : done_to t s.last ≡ steps_of back.front ++ back.x.step ∷ []
    net = replayed_net c before (e ∷ rest) s has ∙ ap steps_of back.is ∙ map-append (λ (f : Entry). f.step) back.front (back.x ∷ [])

    low : (o : Option ℕ) → s.last ≡ o → Each (λ d. d < back.x.step) (steps_of back.front)
    low None is = let f = sym (ap (done_to t) is) ∙ net in let n = length_push (steps_of back.front) back.x.step in let g = ap length f in absurd (omega arith)
    low (Some b) is =
        let parts = push_same (branch_to t b) (steps_of back.front) b back.x.step (sym (ap (done_to t) is) ∙ net) in
        subst (λ w. Each (λ d. d < back.x.step) w) parts.0 (subst (λ n. Each (λ d. d < n) (branch_to t b)) parts.1 (branch_below t b (paths_lie_in_order t has.keeps.tree).rising))

    step : e.step ≡ back.x.step
    step = sym (eqb-true back.x.step e.step (and_parts (eqb back.x.process e.process) (eqb back.x.step e.step) back.same).1)

    left : net_acts (before ++ e ∷ []) ≡ back.front
    left =
        net_acts-undo before e undo ∙ ap (filter (λ f. not (same_step f e))) back.is ∙ filter-append (λ f. not (same_step f e)) back.front (back.x ∷ [])
        ∙ ap (λ b. filter (λ f. not (same_step f e)) back.front ++ cond (not b) (back.x ∷ []) []) back.same
        ∙ append-nil (filter (λ f. not (same_step f e)) back.front)
        ∙ lesser_stay e back.x.step back.front step (low s.last refl)

    net_left : take (length (done_to t s.last) - 1) (done_to t s.last) ≡ steps_of (net_acts (before ++ e ∷ []))
    net_left =
        let n = length_push (steps_of back.front) back.x.step in
        ap (λ w. take (length w - 1) w) net
        ∙ take_push (steps_of back.front) back.x.step (length (steps_of back.front ++ back.x.step ∷ []) - 1) (omega arith)
        ∙ take_all (steps_of back.front) (length (steps_of back.front ++ back.x.step ∷ []) - 1) (omega arith)
        ∙ ap steps_of (sym left)

-- the next act of a list, at place n
pub at_place : (c : Course) (es : List Entry) (n : ℕ) (d : Entry) (s : Standing) → n < length es → HasReplayed c (take n es) (drop n es) s → HasReplayed c (take n es) (get_or es n d ∷ drop (suc n) es) s
at_place c es n d s lt has = subst (λ l. HasReplayed c (take n es) l s) (drop-cons es n d lt) has

pub place_passed : (c : Course) (es : List Entry) (n : ℕ) (d : Entry) (s : Standing) → n < length es → HasReplayed c (take n es ++ get_or es n d ∷ []) (drop (suc n) es) s → HasReplayed c (take (n + 1) es) (drop (n + 1) es) s
place_passed c es n d s lt has =
    let one : suc n ≡ n + 1 = omega arith in
    subst (λ k. HasReplayed c (take k es) (drop k es) s) one (subst (λ l. HasReplayed c l (drop (suc n) es) s) (sym (take-suc es n d lt)) has)
