-- Nothing stands against an event exactly where nothing of these conflicts, by the class of the event.
use Rattle.std.proofs.Common.{◌≡◌, ◌⊎◌, inl, inr, ℕ, Bool, true, false, eqb, if◌then◌else◌, List, [], ◌∷◌, ◌++◌, length, map, filter, sym, refl, ap, ◌∙◌, subst, arith}
use Rattle.std.specs.Bool.{IsTrue}
use Rattle.std.specs.List.{flat_map}
use Rattle.std.specs.Option.{option_to_list}
use Rattle.std.proofs.lemmas.Bool.{eqb-true, eq-eqb}
use Rattle.process_tree.specs.declared.entry.Entry.{Entry}
use Rattle.process_tree.specs.Recovery.{StepClass, reserved, committing, undoable}
use Rattle.schedule_model.specs.declared.event.Event.{Event}
use Rattle.schedule_model.specs.declared.event.Event.TheVariants.{Act, End}
use Rattle.schedule_model.specs.Course.{Course}
use Rattle.schedule_model.specs.Conflict.{ConflictRelation, conflict}
use Rattle.schedule_model.specs.Histories.{active, is_active, is_in, net}
use Rattle.schedule_model.specs.Recovery.{owed, owed_after}
use Rattle.schedule_model.specs.Holdings.{Holdings, Hold, hold_at_rest, at_rest, holders, active_net, all_running, all_reserved, all_pending, behind, reaches}
use Rattle.schedule_model.specs.Blocking.{Clash, Clashes, against, in_front, in_a_circle, with_running, with_reserved, with_owed, against_step, against_undo, against_end, all_clashes}
use Rattle.schedule_model.specs.Legal.{class_in, against_entry, is_clear}
use Rattle.schedule_model.proofs.Active.{is_active-is_in}
use Rattle.schedule_model.proofs.Members.{Among, among-left, among-right, among-append, among-filter, in_filter, filter-none, none_pass, append-none, none-left, none-right, among-map, in_map, among-flat_map, in_flat_map, flat_map-none, none_mapped, map-none, among-is_in, is_in-among}

-- no rule names a clash
pub record Nothing (c : Clashes) : Type 0 where
  pub a0 : c.a0 ≡ []
  pub a1 : c.a1 ≡ []
  pub a2 : c.a2 ≡ []
  pub a3 : c.a3 ≡ []
  pub a4 : c.a4 ≡ []
  pub a5 : c.a5 ≡ []

no_clash : (xs : List Clash) → eqb (length xs) 0 ≡ true → xs ≡ []
no_clash [] is = refl
no_clash (x ∷ xs) is = let l = eqb-true (length (x ∷ xs)) 0 is in absurd (omega arith)

pub nothing-from_clear : (c : Clashes) → IsTrue (eqb (length (all_clashes c)) 0) → Nothing c
nothing-from_clear c is =
    let n5 = no_clash (all_clashes c) is in
    let n4 = none-left (c.a0 ++ c.a1 ++ c.a2 ++ c.a3 ++ c.a4) c.a5 n5 in
    let n3 = none-left (c.a0 ++ c.a1 ++ c.a2 ++ c.a3) c.a4 n4 in
    let n2 = none-left (c.a0 ++ c.a1 ++ c.a2) c.a3 n3 in
    let n1 = none-left (c.a0 ++ c.a1) c.a2 n2 in
    record {
      a0 = none-left c.a0 c.a1 n1;
      a1 = none-right c.a0 c.a1 n1;
      a2 = none-right (c.a0 ++ c.a1) c.a2 n2;
      a3 = none-right (c.a0 ++ c.a1 ++ c.a2) c.a3 n3;
      a4 = none-right (c.a0 ++ c.a1 ++ c.a2 ++ c.a3) c.a4 n4;
      a5 = none-right (c.a0 ++ c.a1 ++ c.a2 ++ c.a3 ++ c.a4) c.a5 n5;
    }

pub clear-from_nothing : (c : Clashes) → Nothing c → IsTrue (eqb (length (all_clashes c)) 0)
clear-from_nothing c n =
    let n1 = append-none c.a0 c.a1 n.a0 n.a1 in
    let n2 = append-none (c.a0 ++ c.a1) c.a2 n1 n.a2 in
    let n3 = append-none (c.a0 ++ c.a1 ++ c.a2) c.a3 n2 n.a3 in
    let n4 = append-none (c.a0 ++ c.a1 ++ c.a2 ++ c.a3) c.a4 n3 n.a4 in
    ap (λ xs. eqb (length xs) 0) (append-none (c.a0 ++ c.a1 ++ c.a2 ++ c.a3 ++ c.a4) c.a5 n4 n.a5)

module _ (table : ConflictRelation) where
  -- an entry conflicts with none of these
  abbrev pub ApartFrom : Entry → List Entry → Type 0
  ApartFrom b others = (x : Entry) → Among x others → conflict table b x ≡ false

  pub against-none : (b : Entry) (others : List Entry) → ApartFrom b others → against table b others ≡ []
  against-none b others apart = ap (map (λ x. record { own = b; other = x })) (filter-none (conflict table b) others apart)

  pub none_against : (b : Entry) (others : List Entry) → against table b others ≡ [] → ApartFrom b others
  none_against b others none x is = none_pass (conflict table b) others (map-none (λ x. record { own = b; other = x }) (filter (conflict table b) others) none) x is

  -- no entry of process i conflicts with one of an active process in front of it
  abbrev pub FrontApart : Holdings → ℕ → Type 0
  FrontApart g i = (x y : Entry) → Among x (active_net g) → Among y (behind x (active_net g)) → y.process ≡ i → conflict table y x ≡ false

  one_behind : (i : ℕ) (x y : Entry) (t : Bool) → eqb y.process i ≡ t → (y.process ≡ i → conflict table y x ≡ false)
      → (if t then against table y (x ∷ []) else []) ≡ []
  one_behind i x y true is apart = against-none y (x ∷ []) (λ z here. only z here)
    where
      only : (z : Entry) → Among z (x ∷ []) → conflict table y z ≡ false
      only z (inl here) = ap (conflict table y) (sym here) ∙ apart (eqb-true y.process i is)
      only z (inr no') = absurd no'
  one_behind i x y false is apart = refl

  pub front-none : (g : Holdings) (i : ℕ) → FrontApart g i → in_front table g i ≡ []
  front-none g i apart =
      flat_map-none (λ x. flat_map (λ y. if eqb y.process i then against table y (x ∷ []) else []) (behind x (active_net g))) (active_net g)
      (λ x front. flat_map-none (λ y. if eqb y.process i then against table y (x ∷ []) else []) (behind x (active_net g))
      (λ y back. one_behind i x y (eqb y.process i) refl (apart x y front back)))

  pub none_in_front : (g : Holdings) (i : ℕ) → in_front table g i ≡ [] → FrontApart g i
  none_in_front g i none x y front back own =
      let of_x = none_mapped (λ x. flat_map (λ y. if eqb y.process i then against table y (x ∷ []) else []) (behind x (active_net g))) (active_net g) none x front in
      let of_y = none_mapped (λ y. if eqb y.process i then against table y (x ∷ []) else []) (behind x (active_net g)) of_x y back in
      none_against y (x ∷ []) (sym (ap (λ t. if t then against table y (x ∷ []) else []) (eq-eqb y.process i own)) ∙ of_y) x (inl refl)

  -- no walk leads from its process to one with whose net it conflicts
  abbrev pub ClosesNoCircle : Holdings → Entry → Type 0
  ClosesNoCircle g b = (x : Entry) → Among x (active_net g) → conflict table b x ≡ true → reaches table g b.process x.process ≡ false

  pub circle-none : (g : Holdings) (b : Entry) → ClosesNoCircle g b → in_a_circle table g b ≡ []
  circle-none g b closes =
      filter-none (λ (c : Clash). reaches table g b.process c.other.process) (against table b (active_net g))
      (λ c is.
      let found = among-map (λ x. record { own = b; other = x }) c (filter (conflict table b) (active_net g)) is in
      let there = among-filter (conflict table b) found.0 (active_net g) found.1 in
      ap (λ (c : Clash). reaches table g b.process c.other.process) (sym found.2) ∙ closes found.0 there.0 there.1)

  pub none_in_a_circle : (g : Holdings) (b : Entry) → in_a_circle table g b ≡ [] → ClosesNoCircle g b
  none_in_a_circle g b none x is conflicts =
      none_pass (λ (c : Clash). reaches table g b.process c.other.process) (against table b (active_net g)) none (record { own = b; other = x })
      (in_map (λ x. record { own = b; other = x }) x (filter (conflict table b) (active_net g)) (in_filter (conflict table b) x (active_net g) is conflicts))

-- What is held at rest.

module _ (courses : List Course) (h : List Event) where
  running-none : (is : List ℕ) → flat_map (λ (o : Hold). option_to_list o.running) (map (hold_at_rest courses h) is) ≡ []
  running-none [] = refl
  running-none (i ∷ is) = running-none is

  pub all_running-at_rest : all_running (at_rest courses h) ≡ []
  all_running-at_rest = running-none (active h)

  pending-none : (is : List ℕ) → flat_map (λ (o : Hold). o.pending) (map (hold_at_rest courses h) is) ≡ []
  pending-none [] = refl
  pending-none (i ∷ is) = pending-none is

  pub all_pending-at_rest : all_pending (at_rest courses h) ≡ []
  all_pending-at_rest = pending-none (active h)

  reserved-owed : (is : List ℕ) → flat_map (λ (o : Hold). o.reserved) (map (hold_at_rest courses h) is) ≡ flat_map (owed courses h) is
  reserved-owed [] = refl
  reserved-owed (i ∷ is) = ap (λ es. owed courses h i ++ es) (reserved-owed is)

  pub all_reserved-at_rest : all_reserved (at_rest courses h) ≡ flat_map (owed courses h) (active h)
  all_reserved-at_rest = reserved-owed (active h)

  processes-same : (is : List ℕ) → map (λ (o : Hold). o.process) (map (hold_at_rest courses h) is) ≡ is
  processes-same [] = refl
  processes-same (i ∷ is) = ap (λ js. i ∷ js) (processes-same is)

  pub holders-at_rest : holders (at_rest courses h) ≡ active h
  holders-at_rest = processes-same (active h)

  pub is_holder : (i : ℕ) → is_in i (holders (at_rest courses h)) ≡ is_active h i
  is_holder i = ap (is_in i) holders-at_rest ∙ is_active-is_in h i

  pub among_active_net : (x : Entry) → Among x (active_net (at_rest courses h)) → Among x (net h) × IsTrue (is_active h x.process)
  among_active_net x is =
      let found = among-filter (λ (e : Entry). is_in e.process (holders (at_rest courses h))) x (net h) is in
      (found.0, sym (is_holder x.process) ∙ found.1)

  pub in_active_net : (x : Entry) → Among x (net h) → IsTrue (is_active h x.process) → Among x (active_net (at_rest courses h))
  in_active_net x is active =
      in_filter (λ (e : Entry). is_in e.process (holders (at_rest courses h))) x (net h) is (is_holder x.process ∙ active)

  among_owed : (s : Entry) → Among s (flat_map (owed courses h) (active h)) → (k : ℕ) × IsTrue (is_active h k) × Among s (owed courses h k)
  among_owed s is =
      let found = among-flat_map (owed courses h) s (active h) is in
      (found.0, sym (is_active-is_in h found.0) ∙ is_in-among found.0 (active h) found.1, found.2)

  pub among_reserved : (s : Entry) → Among s (all_reserved (at_rest courses h)) → (k : ℕ) × IsTrue (is_active h k) × Among s (owed courses h k)
  among_reserved s is = among_owed s (subst (Among s) all_reserved-at_rest is)

  pub in_reserved : (k : ℕ) (s : Entry) → IsTrue (is_active h k) → Among s (owed courses h k) → Among s (all_reserved (at_rest courses h))
  in_reserved k s goes is =
      subst (Among s) (sym all_reserved-at_rest)
      (in_flat_map (owed courses h) k s (active h) (among-is_in k (active h) (is_active-is_in h k ∙ goes)) is)

-- By class.

module _ (table : ConflictRelation) (courses : List Course) (h : List Event) where
  -- an entry conflicts with nothing that an active process owes
  abbrev pub OwedApart : Entry → Type 0
  OwedApart b = (k : ℕ) (s : Entry) → IsTrue (is_active h k) → Among s (owed courses h k) → conflict table b s ≡ false

  -- an entry conflicts with no net entry of an active process
  abbrev pub NetApart : Entry → Type 0
  NetApart b = (x : Entry) → Among x (net h) → IsTrue (is_active h x.process) → conflict table b x ≡ false

  -- each entry of process i conflicts with no net entry of an active process in front of it
  abbrev pub EntriesApart : ℕ → Type 0
  EntriesApart i = FrontApart table (at_rest courses h) i

  -- an entry conflicts with no later net entry
  abbrev pub LaterApart : Entry → Type 0
  LaterApart x = (y : Entry) → Among y (behind x (net h)) → conflict table x y ≡ false

  -- a step reserves only what conflicts with no net entry and nothing owed
  abbrev pub RestApart : List Entry → Type 0
  RestApart rest = (s : Entry) → Among s rest → NetApart s × OwedApart s

  running_apart : (b : Entry) → with_running table (at_rest courses h) b ≡ []
  running_apart b = ap (λ es. against table b es) (all_running-at_rest courses h)

  reserved_apart : (b : Entry) → OwedApart b → with_reserved table (at_rest courses h) b ≡ []
  reserved_apart b apart = against-none table b (all_reserved (at_rest courses h) ++ all_pending (at_rest courses h)) each
    where
      each : (x : Entry) → Among x (all_reserved (at_rest courses h) ++ all_pending (at_rest courses h)) → conflict table b x ≡ false
      each x is = by_part (among-append x (all_reserved (at_rest courses h)) (all_pending (at_rest courses h)) is)
        where
          by_part : Among x (all_reserved (at_rest courses h)) ⊎ Among x (all_pending (at_rest courses h)) → conflict table b x ≡ false
          by_part (inl there) = let found = among_reserved courses h x there in apart found.0 x found.1 found.2
          by_part (inr none) = absurd (subst (Among x) (all_pending-at_rest courses h) none)

  apart_reserved : (b : Entry) → with_reserved table (at_rest courses h) b ≡ [] → OwedApart b
  apart_reserved b none k s active is =
      none_against table b (all_reserved (at_rest courses h) ++ all_pending (at_rest courses h)) none s
      (among-left s (all_reserved (at_rest courses h)) (all_pending (at_rest courses h)) (in_reserved courses h k s active is))

  active_apart : (b : Entry) → NetApart b → ApartFrom table b (active_net (at_rest courses h))
  active_apart b apart x is = let found = among_active_net courses h x is in apart x found.0 found.1

  apart_active : (b : Entry) → ApartFrom table b (active_net (at_rest courses h)) → NetApart b
  apart_active b apart x is active = apart x (in_active_net courses h x is active)

  -- what a step that is to be reserved is held against
  abbrev others : List Entry
  others = active_net (at_rest courses h) ++ all_running (at_rest courses h) ++ all_reserved (at_rest courses h)

  apart_others : (s : Entry) → NetApart s × OwedApart s → ApartFrom table s others
  apart_others s parts x there = by_last (among-append x (active_net (at_rest courses h) ++ all_running (at_rest courses h)) (all_reserved (at_rest courses h)) there)
    where
      by_first : Among x (active_net (at_rest courses h)) ⊎ Among x (all_running (at_rest courses h)) → conflict table s x ≡ false
      by_first (inl stands) = let found = among_active_net courses h x stands in parts.0 x found.0 found.1
      by_first (inr none) = absurd (subst (Among x) (all_running-at_rest courses h) none)

      by_last : Among x (active_net (at_rest courses h) ++ all_running (at_rest courses h)) ⊎ Among x (all_reserved (at_rest courses h)) → conflict table s x ≡ false
      by_last (inl first) = by_first (among-append x (active_net (at_rest courses h)) (all_running (at_rest courses h)) first)
      by_last (inr owes) = let found = among_reserved courses h x owes in parts.1 found.0 x found.1 found.2

  rest_apart : (rest : List Entry) → RestApart rest → with_owed table (at_rest courses h) rest ≡ []
  rest_apart rest apart =
      flat_map-none (λ s. against table s others) rest (λ s is. against-none table s others (apart_others s (apart s is)))

  apart_rest : (rest : List Entry) → with_owed table (at_rest courses h) rest ≡ [] → RestApart rest
  apart_rest rest none s is =
      let apart = none_against table s others (none_mapped (λ s. against table s others) rest none s is) in (
        λ x there goes. apart x (among-left x (active_net (at_rest courses h) ++ all_running (at_rest courses h)) (all_reserved (at_rest courses h))
            (among-left x (active_net (at_rest courses h)) (all_running (at_rest courses h)) (in_active_net courses h x there goes))),
        λ k x goes owes. apart x (among-right x (active_net (at_rest courses h) ++ all_running (at_rest courses h)) (all_reserved (at_rest courses h)) (in_reserved courses h k x goes owes)),
      )

  -- A step.
  module _ (e : Entry) (is_step : e.undo ≡ false) where
    step_against : (class : StepClass) → class_in courses h e.process e.step ≡ class
        → against_entry table courses h e ≡ against_step table (at_rest courses h) class e (owed_after courses h e.process e.step)
    step_against class is =
        ap (λ u. if u then against_undo table (at_rest courses h) e else against_step table (at_rest courses h) (class_in courses h e.process e.step) e (owed_after courses h e.process e.step)) is_step
        ∙ ap (λ c. against_step table (at_rest courses h) c e (owed_after courses h e.process e.step)) is

    step_nothing : (class : StepClass) → class_in courses h e.process e.step ≡ class → IsTrue (is_clear table courses h (Act e))
        → Nothing (against_step table (at_rest courses h) class e (owed_after courses h e.process e.step))
    step_nothing class is clear = subst Nothing (step_against class is) (nothing-from_clear (against_entry table courses h e) clear)

    step_clear : (class : StepClass) → class_in courses h e.process e.step ≡ class
        → Nothing (against_step table (at_rest courses h) class e (owed_after courses h e.process e.step)) → IsTrue (is_clear table courses h (Act e))
    step_clear class is nothing = clear-from_nothing (against_entry table courses h e) (subst Nothing (sym (step_against class is)) nothing)

    -- nothing stands against a reserved step exactly where it conflicts with nothing that is owed
    pub clear-reserved : class_in courses h e.process e.step ≡ reserved → OwedApart e → IsTrue (is_clear table courses h (Act e))
    clear-reserved is apart = step_clear reserved is (record { a0 = running_apart e; a1 = reserved_apart e apart; a2 = refl; a3 = refl; a4 = refl; a5 = refl })

    pub reserved-clear : class_in courses h e.process e.step ≡ reserved → IsTrue (is_clear table courses h (Act e)) → OwedApart e
    reserved-clear is clear = apart_reserved e (step_nothing reserved is clear).a1

    -- against an undoable one, where beside this it closes no circle
    pub clear-undoable : class_in courses h e.process e.step ≡ undoable → OwedApart e → ClosesNoCircle table (at_rest courses h) e → IsTrue (is_clear table courses h (Act e))
    clear-undoable is apart closes =
        step_clear undoable is (record { a0 = running_apart e; a1 = reserved_apart e apart; a2 = circle-none table (at_rest courses h) e closes; a3 = refl; a4 = refl; a5 = refl })

    pub undoable-clear : class_in courses h e.process e.step ≡ undoable → IsTrue (is_clear table courses h (Act e)) → OwedApart e × ClosesNoCircle table (at_rest courses h) e
    undoable-clear is clear =
        let n = step_nothing undoable is clear in (apart_reserved e n.a1, none_in_a_circle table (at_rest courses h) e n.a2)

    -- against a committing one, where it conflicts with nothing owed and no net entry, nor what it fixes with what stands in
    -- front, nor what it reserves with what stands or is owed
    pub clear-committing : class_in courses h e.process e.step ≡ committing → OwedApart e → NetApart e → EntriesApart e.process
        → RestApart (owed_after courses h e.process e.step) → IsTrue (is_clear table courses h (Act e))
    clear-committing is apart stands front rest =
        step_clear committing is (record {
          a0 = running_apart e;
          a1 = reserved_apart e apart;
          a2 = refl;
          a3 = append-none (against table e (active_net (at_rest courses h))) (in_front table (at_rest courses h) e.process)
              (against-none table e (active_net (at_rest courses h)) (active_apart e stands)) (front-none table (at_rest courses h) e.process front);
          a4 = rest_apart (owed_after courses h e.process e.step) rest;
          a5 = refl;
        })

    pub committing-clear : class_in courses h e.process e.step ≡ committing → IsTrue (is_clear table courses h (Act e))
        → OwedApart e × NetApart e × EntriesApart e.process × RestApart (owed_after courses h e.process e.step)
    committing-clear is clear =
        let n = step_nothing committing is clear in
        let both = n.a3 in (
          apart_reserved e n.a1,
          apart_active e (none_against table e (active_net (at_rest courses h)) (none-left (against table e (active_net (at_rest courses h))) (in_front table (at_rest courses h) e.process) both)),
          none_in_front table (at_rest courses h) e.process (none-right (against table e (active_net (at_rest courses h))) (in_front table (at_rest courses h) e.process) both),
          apart_rest (owed_after courses h e.process e.step) n.a4,
        )

  -- nothing stands against an end exactly where no entry of its process conflicts with one in front
  pub clear-end : (i : ℕ) → EntriesApart i → IsTrue (is_clear table courses h (End i))
  clear-end i front =
      clear-from_nothing (against_end table (at_rest courses h) i) (record { a0 = refl; a1 = refl; a2 = refl; a3 = front-none table (at_rest courses h) i front; a4 = refl; a5 = refl })

  pub end-clear : (i : ℕ) → IsTrue (is_clear table courses h (End i)) → EntriesApart i
  end-clear i clear = none_in_front table (at_rest courses h) i (nothing-from_clear (against_end table (at_rest courses h) i) clear).a3

  -- nothing stands against an undo exactly where no later net entry conflicts with it
  undo_against : (e : Entry) → e.undo ≡ true → against_entry table courses h e ≡ against_undo table (at_rest courses h) e
  undo_against e undo =
      ap (λ u. if u then against_undo table (at_rest courses h) e else against_step table (at_rest courses h) (class_in courses h e.process e.step) e (owed_after courses h e.process e.step)) undo

  pub clear-undo : (e : Entry) → e.undo ≡ true → LaterApart e → IsTrue (is_clear table courses h (Act e))
  clear-undo e undo apart =
      clear-from_nothing (against_entry table courses h e) (subst Nothing (sym (undo_against e undo))
      (record { a0 = refl; a1 = refl; a2 = refl; a3 = refl; a4 = refl; a5 = against-none table e (behind e (net h)) apart }))

  pub undo-clear : (e : Entry) → e.undo ≡ true → IsTrue (is_clear table courses h (Act e)) → LaterApart e
  undo-clear e undo clear = none_against table e (behind e (net h)) (subst Nothing (undo_against e undo) (nothing-from_clear (against_entry table courses h e) clear)).a5
