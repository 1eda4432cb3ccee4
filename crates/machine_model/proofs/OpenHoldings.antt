-- What blocks by the holdings of the open processes alone.
use Rattle.std.proofs.Common.{◌≡◌, ℕ, Bool, true, false, cond, if◌then◌else◌, eqb, ◌&&◌, List, [], ◌∷◌, ◌++◌, filter, map, flat_map, sym, refl, ap, ◌∙◌, arith}
use Rattle.std.specs.List.{list_any, Contains}
use Rattle.std.proofs.lemmas.List.Elements.{Contains-append_right}
use Rattle.std.proofs.lemmas.Bool.{and_parts, eqb-true, false≢true}
use Rattle.process_tree.specs.Order.{Each}
use Rattle.process_tree.specs.Recovery.{StepClass, reserved, committing, undoable}
use Rattle.process_tree.specs.declared.entry.Entry.{Entry}
use Rattle.schedule_model.specs.Course.{Course}
use Rattle.schedule_model.specs.Conflict.{ConflictRelation, conflict}
use Rattle.schedule_model.specs.Graph.{leads}
use Rattle.schedule_model.specs.Histories.{active, is_active, is_in, net, same_step, doing}
use Rattle.schedule_model.specs.Holdings.{Hold, Holdings, holders, active_net, all_running, all_reserved, running_steps, behind}
use Rattle.schedule_model.specs.Blocking.{Clash, Clashes, against, against_step, against_undo, against_end, with_running, with_reserved}
use Rattle.schedule_model.specs.Legal.{class_in}
use Rattle.schedule_model.specs.Recovery.{owed_after}
use Rattle.schedule_model.proofs.Active.{is_active-is_in}
use Rattle.schedule_model.proofs.Snoc.{filter_through}
use Rattle.machine_model.specs.declared.kept.Work.{Work}
use Rattle.machine_model.specs.declared.kept.Work.TheVariants.{Forward, Undo, End}
use Rattle.machine_model.specs.Moment.{Moment}
use Rattle.machine_model.specs.State.{against_work, hold_of, holdings, next_of}
use Rattle.machine_model.specs.Laws.{OpenHoldingsBlockAlike, open_only}

pub head_contained : {X : Type 0} (x : X) (xs : List X) → Contains (x ∷ xs) x
head_contained x xs = (0, omega arith, refl)

-- what each contained element has
pub Each-contained : {X : Type 0} (P : X → Type 0) (xs : List X) → ((x : X) → Contains xs x → P x) → Each P xs
Each-contained P [] all = tt
Each-contained P (x ∷ xs) all = (all x (head_contained x xs), Each-contained P xs (λ y among. all y (Contains-append_right (x ∷ []) xs y among)))

kept_step : {X : Type 0} (p q : X → Bool) (x : X) (ys xs : List X) (t : Bool) → q x ≡ t → (q x ≡ false → p x ≡ false) → filter p ys ≡ filter p xs → filter p (cond t (x ∷ ys) ys) ≡ filter p (x ∷ xs)
kept_step p q x ys xs true is loses same = ap (λ zs. cond (p x) (x ∷ zs) zs) same
kept_step p q x ys xs false is loses same = same ∙ sym (ap (λ t. cond t (x ∷ filter p xs) (filter p xs)) (loses is))

-- a filter that loses only what fails another loses nothing for it
pub filter-kept : {X : Type 0} (p q : X → Bool) (xs : List X) → Each (λ x. q x ≡ false → p x ≡ false) xs → filter p (filter q xs) ≡ filter p xs
filter-kept p q [] each = refl
filter-kept p q (x ∷ xs) each = kept_step p q x (filter q xs) xs (q x) refl each.0 (filter-kept p q xs each.1)

behind_step : (x e : Entry) (q : Entry → Bool) (es : List Entry) (s t : Bool) → same_step x e ≡ s → q e ≡ t → (same_step x e ≡ true → q e ≡ true) → behind x (filter q es) ≡ filter q (behind x es)
    → behind x (cond t (e ∷ filter q es) (filter q es)) ≡ filter q (cond s es (behind x es))
behind_step x e q es true true same is keeps rest = ap (λ t. cond t (filter q es) (behind x (filter q es))) same
behind_step x e q es true false same is keeps rest = absurd (false≢true (sym is ∙ keeps same))
behind_step x e q es false true same is keeps rest = ap (λ t. cond t (filter q es) (behind x (filter q es))) same ∙ rest
behind_step x e q es false false same is keeps rest = rest

-- what stands behind x among those that are kept is what is kept of what stands behind it, where x's own step is
pub behind-filter : (x : Entry) (q : Entry → Bool) → ((e : Entry) → same_step x e ≡ true → q e ≡ true) → (es : List Entry) → behind x (filter q es) ≡ filter q (behind x es)
behind-filter x q keeps [] = refl
behind-filter x q keeps (e ∷ es) = behind_step x e q es (same_step x e) (q e) refl refl (keeps e) (behind-filter x q keeps es)

module _ (table : ConflictRelation) (g : Holdings) where
  -- the processes that have the arrow
  abbrev arrow_by : List Entry → ℕ → ℕ → Bool
  arrow_by es k i = list_any (λ x. eqb x.process k && list_any (λ y. eqb y.process i && conflict table x y) (behind x es ++ running_steps g)) es

  abbrev circle_by : Entry → List Entry → List Clash
  circle_by b es = filter (λ c. leads (arrow_by es) (holders g) b.process c.other.process) (against table b es)

  abbrev front_by : ℕ → List Entry → List Clash
  front_by i es = flat_map (λ x. flat_map (λ y. if eqb y.process i then against table y (x ∷ []) else []) (behind x es)) es

  abbrev owed_by : List Entry → List Entry → List Clash
  owed_by owed es = flat_map (λ s. against table s (es ++ all_running g ++ all_reserved g)) owed

  -- the net of the open processes is the same by their holdings alone
  pub open_net : active_net (open_only g) ≡ active_net g
  open_net = filter_through (λ e. is_in e.process (holders g)) (λ e. is_in e.process (holders g)) g.net (λ e is. is)

  abbrev step_by : StepClass → Entry → List Entry → List Entry → Clashes
  step_by reserved b owed es = record { a0 = with_running table g b; a1 = with_reserved table g b; a2 = []; a3 = []; a4 = []; a5 = [] }
  step_by undoable b owed es = record { a0 = with_running table g b; a1 = with_reserved table g b; a2 = circle_by b es; a3 = []; a4 = []; a5 = [] }
  step_by committing b owed es = record { a0 = with_running table g b; a1 = with_reserved table g b; a2 = []; a3 = against table b es ++ front_by b.process es; a4 = owed_by owed es; a5 = [] }

  pub step_alike : (c : StepClass) (b : Entry) (owed : List Entry) → against_step table (open_only g) c b owed ≡ against_step table g c b owed
  step_alike reserved b owed = refl
  step_alike undoable b owed = ap (step_by undoable b owed) open_net
  step_alike committing b owed = ap (step_by committing b owed) open_net

  pub end_alike : (i : ℕ) → against_end table (open_only g) i ≡ against_end table g i
  end_alike i = ap (λ es. record { a0 = []; a1 = []; a2 = []; a3 = front_by i es; a4 = []; a5 = [] }) open_net

  -- an undo is blocked alike where no ended process stands behind
  pub undo_alike : (x : Entry) → is_in x.process (holders g) ≡ true → Each (λ e. is_in e.process (holders g) ≡ false → conflict table x e ≡ false) (behind x g.net)
      → against_undo table (open_only g) x ≡ against_undo table g x
  undo_alike x held each =
      ap (λ es. record { a0 = []; a1 = []; a2 = []; a3 = []; a4 = []; a5 = map (λ (y : Entry). record { own = x; other = y }) es })
      (ap (filter (conflict table x)) (behind-filter x (λ e. is_in e.process (holders g)) (λ e same. ap (λ k. is_in k (holders g)) (sym (eqb-true x.process e.process (and_parts (eqb x.process e.process) (eqb x.step e.step) same).0)) ∙ held) g.net)
      ∙ filter-kept (conflict table x) (λ e. is_in e.process (holders g)) (behind x g.net) each)

holders_map : (f : ℕ → Hold) → ((i : ℕ) → (f i).process ≡ i) → (is : List ℕ) → map (λ (o : Hold). o.process) (map f is) ≡ is
holders_map f same [] = refl
holders_map f same (i ∷ is) = ap (λ k. k ∷ map (λ (o : Hold). o.process) (map f is)) (same i) ∙ ap (λ ks. i ∷ ks) (holders_map f same is)

-- the holders are the active processes
pub holders-active : (courses : List Course) (m : Moment) → holders (holdings courses m) ≡ active m.events
holders-active courses m = holders_map (hold_of courses m) (λ i. refl) (active m.events)

-- a process holds something exactly while it is active
pub holds-active : (courses : List Course) (m : Moment) (i : ℕ) → is_in i (holders (holdings courses m)) ≡ is_active m.events i
holds-active courses m i = ap (is_in i) (holders-active courses m) ∙ is_active-is_in m.events i

pub open_holdings_block_alike : OpenHoldingsBlockAlike
open_holdings_block_alike table courses m i active' free = by_work (next_of courses m i).work refl
  where
    by_work : (w : Work) → (next_of courses m i).work ≡ w → against_work table courses (open_only (holdings courses m)) m.events i (next_of courses m i).step (next_of courses m i).work
        ≡ against_work table courses (holdings courses m) m.events i (next_of courses m i).step (next_of courses m i).work
    by_work w is = ap (against_work table courses (open_only (holdings courses m)) m.events i (next_of courses m i).step) is
        ∙ (alike w is ∙ sym (ap (against_work table courses (holdings courses m) m.events i (next_of courses m i).step) is))
      where
        alike : (v : Work) → (next_of courses m i).work ≡ v → against_work table courses (open_only (holdings courses m)) m.events i (next_of courses m i).step v
            ≡ against_work table courses (holdings courses m) m.events i (next_of courses m i).step v
        alike Forward at = step_alike table (holdings courses m) (class_in courses m.events i (next_of courses m i).step) (doing courses i (next_of courses m i).step) (owed_after courses m.events i (next_of courses m i).step)
        alike Undo at = undo_alike table (holdings courses m) (doing courses i (next_of courses m i).step) (holds-active courses m i ∙ active')
            (Each-contained (λ e. is_in e.process (holders (holdings courses m)) ≡ false → conflict table (doing courses i (next_of courses m i).step) e ≡ false) (behind (doing courses i (next_of courses m i).step) (net m.events))
            (λ e among ended. free at e among (sym (holds-active courses m e.process) ∙ ended)))
        alike End at = end_alike table (holdings courses m) i
