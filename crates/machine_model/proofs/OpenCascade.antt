-- The cascade by the holdings of the open processes alone.
use Rattle.std.proofs.Common.{◌≡◌, ℕ, zero, suc, Bool, true, false, if◌then◌else◌, eqb, ◌&&◌, ◌||◌, List, [], ◌∷◌, ◌++◌, length, map, flat_map, drop, sym, refl, ap, ◌∙◌}
use Rattle.std.specs.List.{list_any}
use Rattle.std.proofs.lemmas.Bool.{and_parts, or_left, or_right, eqb-true, eq-eqb}
use Rattle.std.proofs.lemmas.List.Folds.{list_any-append}
use Rattle.std.proofs.lemmas.Map.Views.{any-filter_same}
use Rattle.process_tree.specs.Order.{Each}
use Rattle.process_tree.proofs.Every.{Each-weaker, Each-append}
use Rattle.process_tree.specs.declared.entry.Entry.{Entry}
use Rattle.schedule_model.specs.Course.{Course, shape}
use Rattle.schedule_model.specs.Conflict.{ConflictRelation, conflict}
use Rattle.schedule_model.specs.Graph.{Arrow, spread, spread_by}
use Rattle.schedule_model.specs.Histories.{active, is_active, is_in, net, net_of, net_steps}
use Rattle.schedule_model.specs.Holdings.{Hold, Holdings, holders, active_net, running_steps, behind}
use Rattle.schedule_model.specs.Recovery.{backward_entries}
use Rattle.process_tree.specs.Shape.{fixed_len}
use Rattle.schedule_model.proofs.Active.{is_active-is_in}
use Rattle.schedule_model.proofs.Counts.{filter_same-in}
use Rattle.machine_model.specs.Cascade.{cascade, builds_on, drags, takes_back_all, backward_of}
use Rattle.machine_model.specs.Progress.{staying}
use Rattle.machine_model.specs.Moment.{Moment}
use Rattle.machine_model.specs.State.{hold_of, holdings, pending_of, progress}
use Rattle.machine_model.specs.Laws.{OpenHoldingsDragAlike, open_only}
use Rattle.machine_model.proofs.TidyMoments.{every}
use Rattle.machine_model.proofs.LastElements.{Each-drop, all_pass}
use Rattle.machine_model.proofs.OpenHoldings.{behind-filter, holds-active}

any_same : {X : Type 0} (p q : X → Bool) (xs : List X) → Each (λ x. p x ≡ q x) xs → list_any p xs ≡ list_any q xs
any_same p q [] each = refl
any_same p q (x ∷ xs) each = rw (each.0, any_same p q xs each.1) refl

-- each of a list of numbers is listed
pub each_listed : (xs : List ℕ) → Each (λ k. is_in k xs ≡ true) xs
each_listed [] = tt
each_listed (x ∷ xs) = (or_left (eqb x x) (is_in x xs) (eq-eqb x x refl), Each-weaker (λ k. is_in k xs ≡ true) (λ k. is_in k (x ∷ xs) ≡ true) (λ k is. or_right (eqb k x) (is_in k xs) is) xs (each_listed xs))

-- arrows that agree where they lead to these processes reach the same
pub spread-same : (a b : Arrow) (all : List ℕ) → ((j k : ℕ) → is_in k all ≡ true → a j k ≡ b j k) → (n : ℕ) (set : List ℕ) → spread_by n a all set ≡ spread_by n b all set
spread-same a b all same zero set = refl
spread-same a b all same (suc n) set =
    ap (spread a all) (spread-same a b all same n set)
    ∙ filter_same-in (λ k. is_in k (spread_by n b all set) || list_any (λ j. a j k) (spread_by n b all set)) (λ k. is_in k (spread_by n b all set) || list_any (λ j. b j k) (spread_by n b all set)) all
    (λ k listed. ap (λ t. is_in k (spread_by n b all set) || t) (any_same (λ j. a j k) (λ j. b j k) (spread_by n b all set) (every (λ j. a j k ≡ b j k) (spread_by n b all set) (λ j. same j k listed))))

-- the entry is of a process that holds something
abbrev pub IsHeld : Holdings → Entry → Type 0
IsHeld g e = is_in e.process (holders g) ≡ true

module _ (table : ConflictRelation) (g : Holdings) where
  abbrev is_open : Entry → Bool
  is_open e = is_in e.process (holders g)

  one_alike : (x : Entry) (k : ℕ) → is_in k (holders g) ≡ true → IsHeld g x
      → list_any (λ y. eqb y.process k && conflict table x y) (behind x (active_net g) ++ running_steps g) ≡ list_any (λ y. eqb y.process k && conflict table x y) (behind x g.net ++ running_steps g)
  one_alike x k listed held =
      let test : Entry → Bool = λ (y : Entry). eqb y.process k && conflict table x y in
      list_any-append test (behind x (active_net g)) (running_steps g)
      ∙ (ap (λ t. t || list_any test (running_steps g))
      (ap (list_any test) (behind-filter x is_open (λ e same. ap (λ j. is_in j (holders g)) (sym (eqb-true x.process e.process (and_parts (eqb x.process e.process) (eqb x.step e.step) same).0)) ∙ held) g.net)
      ∙ any-filter_same test is_open true (λ y is. ap (λ j. is_in j (holders g)) (eqb-true y.process k (and_parts (eqb y.process k) (conflict table x y) is).0) ∙ listed) (behind x g.net))
      ∙ sym (list_any-append test (behind x g.net) (running_steps g)))

  builds_alike : (es : List Entry) (k : ℕ) → is_in k (holders g) ≡ true → Each (IsHeld g) es → builds_on table (open_only g) es k ≡ builds_on table g es k
  builds_alike es k listed held = any_same _ _ es (Each-weaker (IsHeld g) _ (λ x is. one_alike x k listed is) es held)

  -- what the root and the others take back is held
  pub record TakesHeld (root : ℕ) (entries : List Entry) : Type 0 where
    pub root_held : Each (IsHeld g) entries
    pub others_held : (j : ℕ) → Each (IsHeld g) (backward_of g j)

  taken : (root : ℕ) (entries : List Entry) (j : ℕ) → TakesHeld root entries → (t : Bool) → Each (IsHeld g) (if t then entries else backward_of g j)
  taken root entries j held true = held.root_held
  taken root entries j held false = held.others_held j

  pub cascade_alike : (root : ℕ) (entries : List Entry) → TakesHeld root entries → cascade table (open_only g) root entries ≡ cascade table g root entries
  cascade_alike root entries held = spread-same (drags table (open_only g) root entries) (drags table g root entries) (holders g)
      (λ j k listed. builds_alike (takes_back_all g root entries j) k listed (taken root entries j held (eqb j root))) (length (holders g)) (root ∷ [])

module _ (courses : List Course) (m : Moment) where
  its : (j n : ℕ) → is_active m.events j ≡ true → Each (IsHeld (holdings courses m)) (drop n (net_of m.events j))
  its j n active' = Each-drop (IsHeld (holdings courses m)) n (net_of m.events j)
      (Each-weaker (λ (e : Entry). eqb e.process j ≡ true) (IsHeld (holdings courses m)) (λ e is. holds-active courses m e.process ∙ (ap (is_active m.events) (eqb-true e.process j is) ∙ active')) (net_of m.events j) (all_pass (λ (e : Entry). eqb e.process j) (net m.events)))

  if_own : (k j : ℕ) (t : Bool) → is_active m.events k ≡ true → Each (IsHeld (holdings courses m)) (if t then backward_entries courses m.events k else [])
  if_own k j true active' = its k (fixed_len (shape courses k) (net_steps m.events k)) active'
  if_own k j false active' = tt

  held_by : (j : ℕ) (is : List ℕ) → Each (λ k. is_active m.events k ≡ true) is → Each (IsHeld (holdings courses m)) (flat_map (λ (o : Hold). if eqb o.process j then o.backward_entries else []) (map (hold_of courses m) is))
  held_by j [] each = tt
  held_by j (k ∷ is) each = Each-append (IsHeld (holdings courses m)) (if eqb k j then backward_entries courses m.events k else []) (flat_map (λ (o : Hold). if eqb o.process j then o.backward_entries else []) (map (hold_of courses m) is)) (if_own k j (eqb k j) each.0) (held_by j is each.1)

  all_active : Each (λ k. is_active m.events k ≡ true) (active m.events)
  all_active = Each-weaker (λ k. is_in k (active m.events) ≡ true) (λ k. is_active m.events k ≡ true) (λ k is. sym (is_active-is_in m.events k) ∙ is) (active m.events) (each_listed (active m.events))

pub open_holdings_drag_alike : OpenHoldingsDragAlike
open_holdings_drag_alike table courses m i active' = cascade_alike table (holdings courses m) i (pending_of courses m i)
    (record { root_held = its courses m i (staying (progress courses m i)) active'; others_held = λ j. held_by courses m j (active m.events) (all_active courses m) })
