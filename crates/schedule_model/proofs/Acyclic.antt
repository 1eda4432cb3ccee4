-- The conflict graph of a legal history has no circle.
use Rattle.std.proofs.Common.{◌≡◌, ◌⊎◌, inl, inr, ⊎_elim, ℕ, Bool, true, false, not, eqb, ◌&&◌, List, [], ◌∷◌, ◌++◌, filter, sym, refl, ap, ◌∙◌, subst, append-nil}
use Rattle.std.specs.Bool.{IsTrue}
use Rattle.std.specs.List.{list_any}
use Rattle.std.proofs.lemmas.Bool.{and_parts, and_from, eqb-true, eq-eqb, false≢true}
use Rattle.process_tree.specs.declared.entry.Entry.{Entry}
use Rattle.process_tree.specs.declared.plan.Plan.{Plan}
use Rattle.process_tree.specs.Recovery.{StepClass, reserved, committing, undoable}
use Rattle.schedule_model.specs.declared.event.Event.{Event}
use Rattle.schedule_model.specs.declared.event.Event.TheVariants.{Start, Act, End}
use Rattle.schedule_model.specs.Course.{Course, courses_of}
use Rattle.schedule_model.specs.Conflict.{ConflictRelation, IsSymmetric, conflict}
use Rattle.schedule_model.specs.Graph.{Walk, one_arrow, and_then}
use Rattle.schedule_model.specs.Histories.{is_active, is_in, net}
use Rattle.schedule_model.specs.Recovery.{owed}
use Rattle.schedule_model.specs.Holdings.{active_net, arrow, at_rest, behind, holders, reaches, running_steps}
use Rattle.schedule_model.specs.Legal.{class_in, is_legal, may_come}
use Rattle.schedule_model.specs.Laws.{AreGood, OpeningsAreAcyclic}
use Rattle.schedule_model.proofs.Induction.{by_legal}
use Rattle.schedule_model.proofs.Members.{Among, among-any, any-among, among-filter}
use Rattle.schedule_model.proofs.Behind.{among_behind, behind-filter, same_step-process}
use Rattle.schedule_model.proofs.Conflicts.{conflict-symmetric, conflict-itself}
use Rattle.schedule_model.proofs.Walks.{walk-from_leads, leads-from_walk}
use Rattle.schedule_model.proofs.Snoc.{net-start, net-end, is_active-do}
use Rattle.schedule_model.proofs.Acting.{act_active, clear_of}
use Rattle.schedule_model.proofs.Clear.{all_running-at_rest, among_active_net, in_active_net, is_holder, ClosesNoCircle, committing-clear, undoable-clear}
use Rattle.schedule_model.proofs.Started.{net-started, active-before_start, active-before_end}
use Rattle.schedule_model.proofs.NewSteps.{step-is_new}
use Rattle.schedule_model.proofs.OwedFree.{owed-free, is_doing, step-facts}
use Rattle.schedule_model.proofs.Orders.{behind-undo, behind-do, behind-active}

module _ (table : ConflictRelation) (courses : List Course) where
  -- an arrow at rest: a net entry of one active process conflicts with a later one of another
  pub record BuildsOn (h : List Event) (k i : ℕ) : Type 0 where
    pub x : Entry
    pub y : Entry
    pub x_stands : Among x (net h)
    pub behind_x : Among y (behind x (net h))
    pub x_active : IsTrue (is_active h x.process)
    pub y_active : IsTrue (is_active h y.process)
    pub from : x.process ≡ k
    pub to : y.process ≡ i
    pub conflicts : conflict table x y ≡ true

  abbrev pub Graph : List Event → ℕ → ℕ → Bool
  Graph h = arrow table (at_rest courses h)

  nothing_runs : (h : List Event) → running_steps (at_rest courses h) ≡ []
  nothing_runs h = ap (filter (λ (e : Entry). not e.undo)) (all_running-at_rest courses h)

  pub builds_on : (h : List Event) (k i : ℕ) → IsTrue (Graph h k i) → BuildsOn h k i
  builds_on h k i is =
      let es = active_net (at_rest courses h) in
      let p : Entry → Bool = λ (f : Entry). is_in f.process (holders (at_rest courses h)) in
      let still = ap (λ rs. list_any (λ (x : Entry). eqb x.process k && list_any (λ (y : Entry). eqb y.process i && conflict table x y) (behind x es ++ rs)) es) (nothing_runs h) in
      let first = among-any (λ (x : Entry). eqb x.process k && list_any (λ (y : Entry). eqb y.process i && conflict table x y) (behind x es ++ [])) es (sym still ∙ is) in
      let parts = and_parts (eqb (first.0).process k) (list_any (λ (y : Entry). eqb y.process i && conflict table first.0 y) (behind first.0 es ++ [])) first.2 in
      let second = among-any (λ (y : Entry). eqb y.process i && conflict table first.0 y) (behind first.0 es)
      (sym (ap (list_any (λ (y : Entry). eqb y.process i && conflict table first.0 y)) (append-nil (behind first.0 es))) ∙ parts.1) in
      let ends = and_parts (eqb (second.0).process i) (conflict table first.0 second.0) second.2 in
      let x_in = among_active_net courses h first.0 first.1 in
      let y_in = among_active_net courses h second.0 (among_behind first.0 second.0 es second.1) in
      record {
        x = first.0;
        y = second.0;
        x_stands = x_in.0;
        behind_x = (among-filter p second.0 (behind first.0 (net h))
            (subst (Among second.0) (behind-filter p first.0 (net h) (λ f same. is_holder courses h f.process ∙ (ap (is_active h) (sym (same_step-process first.0 f same)) ∙ x_in.1))) second.1)).0;
        x_active = x_in.1;
        y_active = y_in.1;
        from = eqb-true (first.0).process k parts.0;
        to = eqb-true (second.0).process i ends.0;
        conflicts = ends.1;
      }

  pub from_builds_on : (h : List Event) (k i : ℕ) → BuildsOn h k i → IsTrue (Graph h k i)
  from_builds_on h k i b =
      let es = active_net (at_rest courses h) in
      let still = ap (λ rs. list_any (λ (x : Entry). eqb x.process k && list_any (λ (y : Entry). eqb y.process i && conflict table x y) (behind x es ++ rs)) es) (nothing_runs h) in
      still
      ∙ any-among (λ (x : Entry). eqb x.process k && list_any (λ (y : Entry). eqb y.process i && conflict table x y) (behind x es ++ [])) b.x es (in_active_net courses h b.x b.x_stands b.x_active)
      (and_from (eqb (b.x).process k) (list_any (λ (y : Entry). eqb y.process i && conflict table b.x y) (behind b.x es ++ [])) (eq-eqb (b.x).process k b.from)
      (ap (list_any (λ (y : Entry). eqb y.process i && conflict table b.x y)) (append-nil (behind b.x es))
      ∙ any-among (λ (y : Entry). eqb y.process i && conflict table b.x y) b.y (behind b.x es) (behind-active courses h b.x b.y b.x_active b.y_active b.behind_x)
      (and_from (eqb (b.y).process i) (conflict table b.x b.y) (eq-eqb (b.y).process i b.to) b.conflicts)))

  abbrev pub Walks : List Event → ℕ → ℕ → Type 0
  Walks h i k = Walk (Graph h) (holders (at_rest courses h)) i k

  leads_there : (h : List Event) (k i : ℕ) → BuildsOn h k i → IsTrue (is_in i (holders (at_rest courses h)))
  leads_there h k i b = is_holder courses h i ∙ (ap (is_active h) (sym b.to) ∙ b.y_active)

  one : (h : List Event) (k i : ℕ) → BuildsOn h k i → Walks h k i
  one h k i b = one_arrow (leads_there h k i b) (from_builds_on h k i b)

  more : (h : List Event) (j k i : ℕ) → Walks h j k → BuildsOn h k i → Walks h j i
  more h j k i w b = and_then w (leads_there h k i b) (from_builds_on h k i b)

  joined : (h : List Event) (i j k : ℕ) → Walks h i j → Walks h j k → Walks h i k
  joined h i j k w (one_arrow among a) = and_then w among a
  joined h i j k w (and_then {j = l} v among a) = and_then (joined h i j l w v) among a

  -- a walk of no arrows, too
  abbrev pub Comes : List Event → ℕ → ℕ → Type 0
  Comes h i k = (i ≡ k) ⊎ Walks h i k

  comes_on : (h : List Event) (i j k : ℕ) → Comes h i j → BuildsOn h j k → Comes h i k
  comes_on h i j k (inl same) b = inr (subst (λ l. Walks h l k) (sym same) (one h j k b))
  comes_on h i j k (inr w) b = inr (more h i j k w b)

  comes_joined : (h : List Event) (i j k : ℕ) → Comes h i j → Comes h j k → Comes h i k
  comes_joined h i j k (inl same) v = subst (λ l. Comes h l k) (sym same) v
  comes_joined h i j k (inr w) (inl same) = inr (subst (Walks h i) same w)
  comes_joined h i j k (inr w) (inr v) = inr (joined h i j k w v)

  abbrev pub HasNoCircle : List Event → Type 0
  HasNoCircle h = (i : ℕ) → Walks h i i → ⊥

  -- where each arrow was there before, each walk was
  old_walk : (h after : List Event) → ((k i : ℕ) → BuildsOn after k i → BuildsOn h k i) → (i k : ℕ) → Walks after i k → Walks h i k
  old_walk h after old i k (one_arrow among a) = one h i k (old i k (builds_on after i k a))
  old_walk h after old i k (and_then {j = j} w among a) = more h i j k (old_walk h after old i j w) (old j k (builds_on after j k a))

  fewer : (h after : List Event) → ((k i : ℕ) → BuildsOn after k i → BuildsOn h k i) → HasNoCircle h → HasNoCircle after
  fewer h after old none i w = none i (old_walk h after old i i w)

  -- New arrows lead to one process: a walk is an old one, or comes to a first new arrow and goes on from that process.
  module _ (h after : List Event) (p : ℕ) (New : ℕ → Type 0) (old_or_new : (k i : ℕ) → BuildsOn after k i → BuildsOn h k i ⊎ (New k × (i ≡ p))) where
    abbrev ByNew : ℕ → ℕ → Type 0
    ByNew i k = (j : ℕ) × New j × Comes h i j × Comes h p k

    parted : (i k : ℕ) → Walks after i k → Walks h i k ⊎ ByNew i k
    parted i k (one_arrow among a) =
        ⊎_elim (λ b. inl (one h i k b)) (λ n. inr (i, n.0, inl refl, inl (sym n.1))) (old_or_new i k (builds_on after i k a))
    parted i k (and_then {j = j} w among a) = by_last (parted i j w) (old_or_new j k (builds_on after j k a))
      where
        by_last : Walks h i j ⊎ ByNew i j → BuildsOn h j k ⊎ (New j × (k ≡ p)) → Walks h i k ⊎ ByNew i k
        by_last (inl v) (inl b) = inl (more h i j k v b)
        by_last (inl v) (inr n) = inr (j, n.0, inr v, inl (sym n.1))
        by_last (inr n) (inl b) = inr (n.0, n.1, n.2, comes_on h p j k n.3 b)
        by_last (inr n) (inr m) = inr (n.0, n.1, n.2, inl (sym m.1))

    none_closed : HasNoCircle h → ((j : ℕ) → New j → Comes h p j → ⊥) → HasNoCircle after
    none_closed none closes i w =
        ⊎_elim (λ old. none i old) (λ n. closes n.0 n.1 (comes_joined h p i n.0 n.3 n.2)) (parted i i w)

module _ (table : ConflictRelation) (symmetric : IsSymmetric table) (plans : List Plan) (good : AreGood plans) where
  abbrev cs : List Course
  cs = courses_of plans

  module _ (h : List Event) (legal : IsTrue (is_legal table cs h)) where
    old-start : (j k i : ℕ) → BuildsOn table cs (h ++ Start j ∷ []) k i → BuildsOn table cs h k i
    old-start j k i b =
        let x_in = subst (Among b.x) (net-start h j) b.x_stands in
        let back = subst (λ es. Among b.y (behind b.x es)) (net-start h j) b.behind_x in
        record {
          x = b.x;
          y = b.y;
          x_stands = x_in;
          behind_x = back;
          x_active = active-before_start h j (b.x).process (net-started table cs h legal b.x x_in) b.x_active;
          y_active = active-before_start h j (b.y).process (net-started table cs h legal b.y (among_behind b.x b.y (net h) back)) b.y_active;
          from = b.from;
          to = b.to;
          conflicts = b.conflicts;
        }

    old-end : (j k i : ℕ) → BuildsOn table cs (h ++ End j ∷ []) k i → BuildsOn table cs h k i
    old-end j k i b = record {
      x = b.x;
      y = b.y;
      x_stands = subst (Among b.x) (net-end h j) b.x_stands;
      behind_x = subst (λ es. Among b.y (behind b.x es)) (net-end h j) b.behind_x;
      x_active = active-before_end h j (b.x).process b.x_active;
      y_active = active-before_end h j (b.y).process b.y_active;
      from = b.from;
      to = b.to;
      conflicts = b.conflicts;
    }

    module _ (a : Entry) (comes : IsTrue (may_come table cs h (Act a))) where
      abbrev after : List Event
      after = h ++ Act a ∷ []

      was_active : (i : ℕ) → IsTrue (is_active after i) → IsTrue (is_active h i)
      was_active i goes = sym (is_active-do h a i) ∙ goes

      old-undo : a.undo ≡ true → (k i : ℕ) → BuildsOn table cs after k i → BuildsOn table cs h k i
      old-undo undo k i b =
          let found = behind-undo h a b.x b.y undo b.x_stands b.behind_x in
          record {
            x = b.x;
            y = b.y;
            x_stands = found.0;
            behind_x = found.1;
            x_active = was_active (b.x).process b.x_active;
            y_active = was_active (b.y).process b.y_active;
            from = b.from;
            to = b.to;
            conflicts = b.conflicts;
          }

      -- an arrow into the step's process, from one with whose net it conflicts
      New : ℕ → Type 0
      New k = (x : Entry) × Among x (net h) × IsTrue (is_active h x.process) × (x.process ≡ k) × (conflict table x a ≡ true)

      old_or_new : a.undo ≡ false → (k i : ℕ) → BuildsOn table cs after k i
          → BuildsOn table cs h k i ⊎ (((x : Entry) × Among x (net h) × IsTrue (is_active h x.process) × (x.process ≡ k) × (conflict table x a ≡ true)) × (i ≡ a.process))
      old_or_new is_step k i b = by_behind (behind-do h a b.x b.y is_step (step-is_new table cs h legal a is_step comes) b.x_stands b.behind_x)
        where
          by_behind : Among b.x (net h) × (Among b.y (behind b.x (net h)) ⊎ (a ≡ b.y))
              → BuildsOn table cs h k i ⊎ (((x : Entry) × Among x (net h) × IsTrue (is_active h x.process) × (x.process ≡ k) × (conflict table x a ≡ true)) × (i ≡ a.process))
          by_behind found = ⊎_elim
              (λ back. inl (record {
                x = b.x;
                y = b.y;
                x_stands = found.0;
                behind_x = back;
                x_active = was_active (b.x).process b.x_active;
                y_active = was_active (b.y).process b.y_active;
                from = b.from;
                to = b.to;
                conflicts = b.conflicts;
              }))
              (λ same. inr ((b.x, found.0, was_active (b.x).process b.x_active, b.from, ap (conflict table b.x) same ∙ b.conflicts), sym b.to ∙ ap (λ (f : Entry). f.process) (sym same)))
              found.1

      -- a step that conflicts with no net entry of an active process brings none
      no-new : a.undo ≡ false → ((x : Entry) → Among x (net h) → IsTrue (is_active h x.process) → conflict table a x ≡ false) → HasNoCircle table cs h → HasNoCircle table cs after
      no-new is_step apart none =
          fewer table cs h after
          (λ k i b. ⊎_elim (λ old. old)
          (λ n. let new = n.0 in absurd (false≢true (sym (conflict-symmetric table symmetric new.0 a ∙ apart new.0 new.1 new.2) ∙ new.4)))
          (old_or_new is_step k i b))
          none

      circle-by_class : a.undo ≡ false → (class : StepClass) → class_in cs h a.process a.step ≡ class → HasNoCircle table cs h → HasNoCircle table cs after
      circle-by_class is_step reserved is none =
          let does = step-facts table symmetric plans good h a is_step comes in
          let owes : owed cs h a.process ≡ a ∷ owed cs after a.process = does.reserved_owes is ∙ ap (λ d. d ∷ owed cs after a.process) (sym (is_doing table symmetric plans good h a is_step comes)) in
          no-new is_step (λ x there goes. (owed-free table symmetric plans good h legal).from_net a.process a x (act_active table cs h a comes) (subst (Among a) (sym owes) (inl refl)) there goes) none
      circle-by_class is_step committing is none =
          no-new is_step (committing-clear table cs h a is_step is (clear_of table cs h (Act a) comes)).1 none
      circle-by_class is_step undoable is none =
          let closes = (undoable-clear table cs h a is_step is (clear_of table cs h (Act a) comes)).1 in
          none_closed table cs h after a.process
          (λ k. (x : Entry) × Among x (net h) × IsTrue (is_active h x.process) × (x.process ≡ k) × (conflict table x a ≡ true))
          (old_or_new is_step) none
          (λ j n walk. by_walk j n closes walk)
        where
          by_walk : (j : ℕ) → ((x : Entry) × Among x (net h) × IsTrue (is_active h x.process) × (x.process ≡ j) × (conflict table x a ≡ true)) → ClosesNoCircle table (at_rest cs h) a → Comes table cs h a.process j → ⊥
          by_walk j n closes (inl same) =
              false≢true (sym (conflict-itself table n.0 a (n.3 ∙ sym same)) ∙ n.4)
          by_walk j n closes (inr w) =
              let out = closes n.0 (in_active_net cs h n.0 n.1 n.2) (conflict-symmetric table symmetric a n.0 ∙ n.4) in
              let leads = leads-from_walk (Graph table cs h) (holders (at_rest cs h)) w in
              false≢true (sym out ∙ (ap (λ k. reaches table (at_rest cs h) a.process k) n.3 ∙ leads))

      circle-act : (u : Bool) → a.undo ≡ u → HasNoCircle table cs h → HasNoCircle table cs after
      circle-act true undo none = fewer table cs h after (old-undo undo) none
      circle-act false is_step none = circle-by_class is_step (class_in cs h a.process a.step) refl none

  circle-more : (h : List Event) (e : Event) → IsTrue (is_legal table cs h) → IsTrue (may_come table cs h e) → HasNoCircle table cs h → HasNoCircle table cs (h ++ e ∷ [])
  circle-more h (Start j) legal comes none = fewer table cs h (h ++ Start j ∷ []) (old-start h legal j) none
  circle-more h (Act a) legal comes none = circle-act h legal a comes a.undo refl none
  circle-more h (End j) legal comes none = fewer table cs h (h ++ End j ∷ []) (old-end h legal j) none

  no_walk_yet : (i k : ℕ) → Walks table cs [] i k → ⊥
  no_walk_yet i k (one_arrow among a) = false≢true among
  no_walk_yet i k (and_then w among a) = false≢true among

  pub no-circle : (h : List Event) → IsTrue (is_legal table cs h) → HasNoCircle table cs h
  no-circle h legal = by_legal table cs (HasNoCircle table cs) circle-more (λ i w. no_walk_yet i i w) h legal

pub openings-acyclic : OpeningsAreAcyclic
openings-acyclic table plans h good i = by_test (reaches table (at_rest (courses_of plans) h) i i) refl
  where
    by_test : (t : Bool) → reaches table (at_rest (courses_of plans) h) i i ≡ t → reaches table (at_rest (courses_of plans) h) i i ≡ false
    by_test false is = is
    by_test true is =
        absurd (no-circle table good.symmetric plans good.good h good.legal i
        (walk-from_leads (Graph table (courses_of plans) h) (holders (at_rest (courses_of plans) h)) i i is))
