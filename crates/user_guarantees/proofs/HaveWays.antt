-- Whoever has done something, or has to undo something, has a first way: each step that took effect goes on along a whole path.
use Rattle.std.proofs.Common.{◌≡◌, ◌⊎◌, inl, inr, ⊎_elim, ℕ, Bool, true, false, cond, if◌then◌else◌, eqb, ltb, ◌&&◌, ◌||◌, List, [], ◌∷◌, ◌++◌, length, drop, None, sym, refl, ap, subst, ◌∙◌, append-nil}
use Rattle.std.specs.Bool.{IsTrue}
use Rattle.std.specs.List.{filter_map, list_all, list_any, starts_with}
use Rattle.std.proofs.lemmas.Bool.{and_from, and_parts, eq-eqb, eqb-true, false≢true}
use Rattle.process_tree.specs.Shape.{Shape, first_of, fixed_len, goes_on_to}
use Rattle.process_tree.specs.declared.entry.Entry.{Entry}
use Rattle.schedule_model.specs.declared.event.Event.{Event}
use Rattle.schedule_model.specs.declared.event.Event.TheVariants.{Start, Act, End}
use Rattle.schedule_model.specs.Course.{Course, shape}
use Rattle.schedule_model.specs.Conflict.{no_conflict}
use Rattle.schedule_model.specs.Histories.{acts, done_steps, net_acts, net_of, net_steps, takes_back}
use Rattle.schedule_model.specs.Legal.{is_legal, may_come}
use Rattle.schedule_model.specs.Recovery.{backward_entries}
use Rattle.schedule_model.proofs.Appends.{acts-append}
use Rattle.schedule_model.proofs.Induction.{by_legal}
use Rattle.schedule_model.proofs.Members.{Among, among-any, among-append, among-is_in, among-map, among-right}
use Rattle.schedule_model.proofs.Rising.{step_goes_on, undo_is_of_last}
use Rattle.schedule_model.proofs.Started.{among_net_of}
use Rattle.schedule_model.proofs.Undoing.{ends_with}
use Rattle.machine_model.specs.declared.kept.Work.TheVariants.{Undo}
use Rattle.machine_model.specs.Moment.{Moment}
use Rattle.machine_model.specs.Progress.{same_work, staying}
use Rattle.machine_model.specs.State.{next_of, progress}
use Rattle.machine_model.proofs.GonePieces.{dropped_listed, last_listed, next_undo}
use Rattle.machine_model.proofs.OwnOrder.{same_work-is}
use Rattle.machine_model.proofs.PendingFree.{in_whole}
use Rattle.user_guarantees.specs.FirstWay.{IsFirstWay, has_undo, undoes_next}

-- no step goes on where there is no path
nowhere : (t : Shape) (w : List ℕ) (b : ℕ) → t.paths ≡ [] → goes_on_to t w b ≡ false
nowhere t w b none = ap (λ ps. list_any (eqb b) (filter_map (λ p. if starts_with eqb p w then first_of (drop (length w) p) else None) ps)) none

-- what stands took effect
net_took_effect : (x : Entry) (es : List Entry) → Among x (net_acts es) → Among x es
net_took_effect x [] is = is
net_took_effect x (e ∷ es) is = by_test (e.undo || list_any (λ f. takes_back f e) es) is (net_took_effect x es)
  where
    by_test : (t : Bool) → Among x (cond t (net_acts es) (e ∷ net_acts es)) → (Among x (net_acts es) → Among x es) → Among x (e ∷ es)
    by_test true later rest = inr (rest later)
    by_test false (inl here) rest = inl here
    by_test false (inr later) rest = inr (rest later)

module _ (courses : List Course) where
  -- whoever did something has a path
  abbrev HavePaths : List Event → Type 0
  HavePaths h = (e : Entry) → Among e (acts h) → (shape courses e.process).paths ≡ [] → ⊥

  act_has : (h : List Event) (a : Entry) (u : Bool) → a.undo ≡ u → IsTrue (may_come no_conflict courses h (Act a)) → HavePaths h → (shape courses a.process).paths ≡ [] → ⊥
  act_has h a true undo may had none =
      let ends = ends_with a (backward_entries courses h a.process) (undo_is_of_last no_conflict courses h a undo may) in
      let there = subst (Among ends.last) (sym ends.is) (among-right ends.last ends.front (ends.last ∷ []) (inl refl)) in
      let stands = among_net_of h a.process ends.last (in_whole ends.last (fixed_len (shape courses a.process) (net_steps h a.process)) (net_of h a.process) there) in
      had ends.last (net_took_effect ends.last (acts h) stands.0) (ap (λ k. (shape courses k).paths) stands.1 ∙ none)
  act_has h a false is_step may had none =
      let goes = and_parts (goes_on_to (shape courses a.process) (net_steps h a.process) a.step) (list_all (λ d. ltb d a.step) (done_steps h a.process)) (step_goes_on no_conflict courses h a is_step may) in
      false≢true (sym (nowhere (shape courses a.process) (net_steps h a.process) a.step none) ∙ goes.0)

  one_more : (h : List Event) (e : Event) → IsTrue (may_come no_conflict courses h e) → HavePaths h → HavePaths (h ++ e ∷ [])
  one_more h (Start k) may had x is none = had x (subst (Among x) (acts-append h (Start k ∷ []) ∙ append-nil (acts h)) is) none
  one_more h (End k) may had x is none = had x (subst (Among x) (acts-append h (End k ∷ []) ∙ append-nil (acts h)) is) none
  one_more h (Act a) may had x is none = ⊎_elim (λ before. had x before none) by_now (among-append x (acts h) (a ∷ []) (subst (Among x) (acts-append h (Act a ∷ [])) is))
    where
      by_now : Among x (a ∷ []) → ⊥
      by_now (inl same) = act_has h a a.undo refl may had (ap (λ (e : Entry). (shape courses e.process).paths) same ∙ none)
      by_now (inr nothing) = nothing

  have_paths : (h : List Event) → IsTrue (is_legal no_conflict courses h) → HavePaths h
  have_paths h legal = by_legal no_conflict courses HavePaths (λ g e before may had. one_more g e may had) (λ e none. absurd none) h legal

  module _ (m : Moment) (legal : IsTrue (is_legal no_conflict courses m.events)) (i : ℕ) where
    way_of : ((shape courses i).paths ≡ [] → ⊥) → (w : List ℕ) × IsFirstWay (shape courses i) w
    way_of some = by_paths (shape courses i).paths refl
      where
        by_paths : (ps : List (List ℕ)) → (shape courses i).paths ≡ ps → (w : List ℕ) × IsFirstWay (shape courses i) w
        by_paths [] none = absurd (some none)
        by_paths (w ∷ others) is = (w, (others, is))

    way_of_act : (e : Entry) → Among e (acts m.events) → e.process ≡ i → (w : List ℕ) × IsFirstWay (shape courses i) w
    way_of_act e is its = way_of (λ none. have_paths m.events legal e is (ap (λ k. (shape courses k).paths) its ∙ none))

    by_undo : has_undo m.events i ≡ true → (w : List ℕ) × IsFirstWay (shape courses i) w
    by_undo undone =
        let found = among-any (λ (e : Entry). e.undo && eqb e.process i) (acts m.events) undone in
        way_of_act found.0 found.1 (eqb-true found.0.process i (and_parts found.0.undo (eqb found.0.process i) found.2).1)

    by_next : undoes_next courses m i ≡ true → (w : List ℕ) × IsFirstWay (shape courses i) w
    by_next undoes =
        let t = next_of courses m i in
        let its = same_work-is t.work Undo undoes in
        let last = next_undo (progress courses m i) t.step (and_from (same_work Undo t.work) (eqb t.step t.step) (ap (same_work Undo) its) (eq-eqb t.step t.step refl)) in
        let listed = dropped_listed (staying (progress courses m i)) (net_steps m.events i) t.step (last_listed (drop (staying (progress courses m i)) (net_steps m.events i)) t.step last) in
        let found = among-map (λ (e : Entry). e.step) t.step (net_of m.events i) (among-is_in t.step (net_steps m.events i) listed) in
        let stands = among_net_of m.events i found.0 found.1 in
        way_of_act found.0 (net_took_effect found.0 (acts m.events) stands.0) stands.1

    -- an undo that took effect or is next is of a process that has a first way
    pub has_way : IsTrue (has_undo m.events i) ⊎ IsTrue (undoes_next courses m i) → (w : List ℕ) × IsFirstWay (shape courses i) w
    has_way (inl undone) = by_undo undone
    has_way (inr next) = by_next next
