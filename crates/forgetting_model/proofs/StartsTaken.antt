-- A start that the whole takes is taken by what remains: nothing that limits count is more.
use Rattle.std.proofs.Common.{◌≡◌, inl, inr, ℕ, ◌+◌, ◌-◌, ◌≤◌, Bool, true, false, ltb, leb, List, [], ◌∷◌, length, map, sym, refl, ap, ◌∙◌, subst, arith}
use Rattle.std.specs.Prelude.{Some, None}
use Rattle.std.specs.List.{sum_by}
use Rattle.std.proofs.lemmas.Bool.{leb-false, lt-leb, le-ltb, ltb-false}
use Rattle.std.proofs.lemmas.List.Sums.{sum_by-cons}
use Rattle.process_tree.specs.declared.plan.Plan.{Plan}
use Rattle.schedule_model.specs.declared.event.Event.{Event}
use Rattle.schedule_model.specs.Course.{Course, course}
use Rattle.schedule_model.specs.Conflict.{ConflictRelation}
use Rattle.schedule_model.specs.Histories.{active, acts, ends, of_process, starts}
use Rattle.schedule_model.specs.Limits.{entries, most_active, most_entries, most_processes, need, still_needed}
use Rattle.schedule_model.proofs.Active.{is_active-is_in}
use Rattle.schedule_model.proofs.Members.{Among, is_in-among}
use Rattle.machine_model.specs.declared.replies.StartWhy.TheVariants.{NoRoom, TooMany}
use Rattle.machine_model.specs.Advance.{Machine}
use Rattle.machine_model.specs.Laws.{IsSession}
use Rattle.machine_model.specs.Moment.{Moment}
use Rattle.machine_model.specs.Runs.{no_room, now, start_refusal, too_many_active, too_many_started}
use Rattle.forgetting_model.specs.Moments.{IsLeftOf}
use Rattle.forgetting_model.specs.Remaining.{courses_left, is_open, number_in, renumbered_entry}
use Rattle.forgetting_model.specs.Replies.{WhatRemainsTakesStarts}
use Rattle.forgetting_model.proofs.Dropped.{acts-of, ends-of, kept_entry, of_kept, starts-of}
use Rattle.forgetting_model.proofs.FinishAlike.{filter_less}
use Rattle.forgetting_model.proofs.LeftMoments.{apart}
use Rattle.forgetting_model.proofs.Mapped.{length-mapped}
use Rattle.forgetting_model.proofs.Mirrored.{AreMirrored, active-left}
use Rattle.forgetting_model.proofs.MomentLaws.{are, legal}
use Rattle.forgetting_model.proofs.Renumbered.{acts-by, ends-by, of_process-by, starts-by}

none_some : {X : Type 0} (x : X) → Some x ≡ None → ⊥
none_some x is = absurd (cc)

sum_each : (f : ℕ → ℕ) (p q : ℕ → ℕ) (xs : List ℕ) → ((x : ℕ) → Among x xs → p (f x) ≡ q x) → sum_by p (map f xs) ≡ sum_by q xs
sum_each f p q [] same = refl
sum_each f p q (x ∷ xs) same =
    sum_by-cons p (f x) (map f xs)
    ∙ (ap (λ a. a + sum_by p (map f xs)) (same x (inl refl)) ∙ (ap (λ b. q x + b) (sum_each f p q xs (λ y is. same y (inr is))) ∙ sym (sum_by-cons q x xs)))

module _ (table : ConflictRelation) (plans : List Plan) (s : Machine) (h : List Event) (n : Moment) (session : IsSession table plans s) (left : IsLeftOf h (now table s) n) where
  abbrev m : Moment
  m = now table s

  abbrev since : List Course
  since = courses_left s.courses h

  abbrev mir : AreMirrored (number_in h) (apart table s.courses h (legal table plans s h n session left)) (is_open h) s.courses since m n
  mir = are table plans s h n session left

  starts_less : length (starts n.events) ≤ length (starts m.events)
  starts_less =
      subst (λ k. k ≤ length (starts m.events))
      (ap length (sym (starts-of (is_open h) m.events) ∙ (ap starts mir.events ∙ starts-by (number_in h) n.events)) ∙ length-mapped (number_in h) (starts n.events))
      (filter_less (is_open h) (starts m.events))

  acts_less : length (acts n.events) ≤ length (acts m.events)
  acts_less =
      subst (λ k. k ≤ length (acts m.events))
      (ap length (sym (acts-of (is_open h) m.events) ∙ (ap acts mir.events ∙ acts-by (number_in h) n.events)) ∙ length-mapped (renumbered_entry (number_in h)) (acts n.events))
      (filter_less (kept_entry (is_open h)) (acts m.events))

  ends_less : length (ends n.events) ≤ length (ends m.events)
  ends_less =
      subst (λ k. k ≤ length (ends m.events))
      (ap length (sym (ends-of (is_open h) m.events) ∙ (ap ends mir.events ∙ ends-by (number_in h) n.events)) ∙ length-mapped (number_in h) (ends n.events))
      (filter_less (is_open h) (ends m.events))

  actives : active m.events ≡ map (number_in h) (active n.events)
  actives = active-left (number_in h) (apart table s.courses h (legal table plans s h n session left)) (is_open h) table s.courses since m n mir

  own_acts : (k : ℕ) → length (of_process (number_in h k) (acts m.events)) ≡ length (of_process k (acts n.events))
  own_acts k =
      ap length (sym (of_kept (is_open h) (number_in h k) (acts m.events) (mir.stays k))
      ∙ (ap (of_process (number_in h k)) (sym (acts-of (is_open h) m.events) ∙ (ap acts mir.events ∙ acts-by (number_in h) n.events))
      ∙ of_process-by (number_in h) (apart table s.courses h (legal table plans s h n session left)) k (acts n.events)))
      ∙ length-mapped (renumbered_entry (number_in h)) (of_process k (acts n.events))

  needed : (k : ℕ) → Among k (active n.events) → still_needed s.courses m.events (number_in h k) ≡ still_needed since n.events k
  needed k among =
      ap (λ (c : Course). need c - length (of_process (number_in h k) (acts m.events))) (mir.same k (sym (is_active-is_in n.events k) ∙ is_in-among k (active n.events) among))
      ∙ ap (λ a. need (course since k) - a) (own_acts k)

  all_needed : sum_by (still_needed s.courses m.events) (active m.events) ≡ sum_by (still_needed since n.events) (active n.events)
  all_needed =
      ap (sum_by (still_needed s.courses m.events)) actives ∙ sum_each (number_in h) (still_needed s.courses m.events) (still_needed since n.events) (active n.events) needed

  entries_less : entries since n.events ≤ entries s.courses m.events
  entries_less = let a = acts_less in let b = ends_less in let c = all_needed in omega arith

  module _ (c : Course) where
    room : (k j : ℕ) → j ≤ k → (t : Bool) → ltb most_entries k ≡ t → no_room k t ≡ None → no_room j (ltb most_entries j) ≡ None
    room k j less true at is = absurd (none_some (NoRoom k) is)
    room k j less false at is = ap (no_room j) (le-ltb most_entries j (let few = ltb-false most_entries k at in omega arith))

    started : (t : Bool) → leb most_processes (length (starts m.events)) ≡ t → too_many_started s.courses m c t ≡ None
        → too_many_started since n c (leb most_processes (length (starts n.events))) ≡ None
    started true at is = absurd (none_some (TooMany most_processes) is)
    started false at is =
        ap (too_many_started since n c) (lt-leb most_processes (length (starts n.events)) (let few = leb-false most_processes (length (starts m.events)) at in let less = starts_less in omega arith))
        ∙ room (entries s.courses m.events + need c) (entries since n.events + need c) (let less = entries_less in omega arith)
        (ltb most_entries (entries s.courses m.events + need c)) refl is

    by_active : (t : Bool) → too_many_active s.courses m c t ≡ None → too_many_active since n c t ≡ None
    by_active true is = absurd (none_some (TooMany most_active) is)
    by_active false is = started (leb most_processes (length (starts m.events))) refl is

    pub starts_taken : start_refusal s.courses m c ≡ None → start_refusal since n c ≡ None
    starts_taken is =
        ap (λ a. too_many_active since n c (leb most_active a)) (sym (ap length actives ∙ length-mapped (number_in h) (active n.events)))
        ∙ by_active (leb most_active (length (active m.events))) is

pub what_remains_takes_starts : WhatRemainsTakesStarts
what_remains_takes_starts table plans s h n c session left taken = starts_taken table plans s h n session left c taken
