-- The numbers of a legal history: who goes on, and what goes on from it, has numbers that lead there and back.
use Rattle.std.proofs.Common.{◌≡◌, ◌⊎◌, inl, inr, ℕ, zero, suc, ◌<◌, ◌≤◌, Bool, true, false, not, eqb, ltb, ◌&&◌, List, [], ◌∷◌, ◌++◌, length, sym, refl, ap, ◌∙◌, subst, arith}
use Rattle.std.specs.Bool.{IsTrue}
use Rattle.std.proofs.lemmas.Bool.{and_parts, and_from, eq-eqb, false≢true, or_left, or_right}
use Rattle.std.proofs.lemmas.List.{map-append}
use Rattle.std.proofs.lemmas.List.Elements.{filter-append}
use Rattle.schedule_model.specs.declared.event.Event.{Event}
use Rattle.schedule_model.specs.declared.event.Event.TheVariants.{Start, Act, End}
use Rattle.schedule_model.specs.Course.{Course}
use Rattle.schedule_model.specs.Conflict.{ConflictRelation}
use Rattle.schedule_model.specs.Histories.{active, ends, is_active, is_in, starts}
use Rattle.schedule_model.specs.Legal.{is_legal, may_come}
use Rattle.schedule_model.proofs.Acting.{act_active, end_active}
use Rattle.schedule_model.proofs.Active.{is_active-is_in}
use Rattle.schedule_model.proofs.Appends.{is_in-append, starts-append}
use Rattle.schedule_model.proofs.Induction.{by_legal}
use Rattle.schedule_model.proofs.Members.{Among, among-append, among-filter, filter-agree, is_in-among}
use Rattle.schedule_model.proofs.Prefixes.{legal-numbered}
use Rattle.schedule_model.proofs.Started.{ends-started}
use Rattle.schedule_model.proofs.Starts.{active-rising}
use Rattle.forgetting_model.specs.Remaining.{as_before, carried_at, events_of, is_open, number_in, number_since, process_of, remaining, renumbered, renumbered_event}
use Rattle.forgetting_model.specs.Laws.{WhatRemainsIsOfTheActive}
use Rattle.forgetting_model.proofs.ClearBefore.{filter_each}
use Rattle.forgetting_model.proofs.Numbers.{AreCarried, IsKnownIn, carried-or_later, old-apart, old-new}
use Rattle.forgetting_model.proofs.Renumbered.{AreApart}

-- numbers there and back
pub back_event : (f g : ℕ → ℕ) (e : Event) → f (g (process_of e)) ≡ process_of e → renumbered_event f (renumbered_event g e) ≡ e
back_event f g (Start i) same = ap (λ k. Start k) same
back_event f g (Act e) same = ap (λ k. Act (record { process = k; step = e.step; op = e.op; key = e.key; undo = e.undo })) same
back_event f g (End i) same = ap (λ k. End k) same

pub there_and_back : (f g : ℕ → ℕ) (h : List Event) → ((e : Event) → Among e h → f (g (process_of e)) ≡ process_of e) → renumbered f (renumbered g h) ≡ h
there_and_back f g [] same = refl
there_and_back f g (e ∷ h) same =
    ap (λ x. x ∷ renumbered f (renumbered g h)) (back_event f g e (same e (inl refl))) ∙ ap (λ xs. e ∷ xs) (there_and_back f g h (λ x is. same x (inr is)))

module _ (table : ConflictRelation) (courses : List Course) where
  started_still : (h : List Event) (e : Event) (i : ℕ) → IsTrue (is_in i (starts h)) → IsTrue (is_in i (starts (h ++ e ∷ [])))
  started_still h e i is = ap (is_in i) (starts-append h (e ∷ [])) ∙ (is_in-append i (starts h) (starts (e ∷ [])) ∙ or_left (is_in i (starts h)) (is_in i (starts (e ∷ []))) is)

  -- the process of an event that may come has started then
  comes_started : (h : List Event) (e : Event) → IsTrue (may_come table courses h e) → IsTrue (is_in (process_of e) (starts (h ++ e ∷ [])))
  comes_started h (Start i) may =
      ap (is_in i) (starts-append h (Start i ∷ [])) ∙ (is_in-append i (starts h) (i ∷ []) ∙ or_right (is_in i (starts h)) (is_in i (i ∷ [])) (or_left (eqb i i) false (eq-eqb i i refl)))
  comes_started h (Act e) may = started_still h (Act e) e.process (and_parts (is_in e.process (starts h)) (not (is_in e.process (ends h))) (act_active table courses h e may)).0
  comes_started h (End i) may = started_still h (End i) i (and_parts (is_in i (starts h)) (not (is_in i (ends h))) (end_active table courses h i may)).0

  abbrev EventsStarted : List Event → Type 0
  EventsStarted h = (e : Event) → Among e h → IsTrue (is_in (process_of e) (starts h))

  more_started : (h : List Event) (e : Event) → IsTrue (may_come table courses h e) → EventsStarted h → EventsStarted (h ++ e ∷ [])
  more_started h e may started x among = by_part (among-append x h (e ∷ []) among)
    where
      by_part : Among x h ⊎ Among x (e ∷ []) → IsTrue (is_in (process_of x) (starts (h ++ e ∷ [])))
      by_part (inl was) = started_still h e (process_of x) (started x was)
      by_part (inr (inl now)) = subst (λ y. IsTrue (is_in (process_of y) (starts (h ++ e ∷ [])))) now (comes_started h e may)
      by_part (inr (inr none)) = absurd none

  -- each event of a legal history is of a process that started
  pub events-started : (h : List Event) → IsTrue (is_legal table courses h) → EventsStarted h
  events-started h legal = by_legal table courses EventsStarted (λ g e before may started. more_started g e may started) (λ e none. absurd none) h legal

  module _ (h : List Event) (legal : IsTrue (is_legal table courses h)) where
    abbrev before : ℕ
    before = length (starts h)

    -- an active process is carried
    pub carried_active : (i : ℕ) → Among i (active h) → IsTrue (is_active h i)
    carried_active i among = sym (is_active-is_in h i) ∙ is_in-among i (active h) among

    pub active-carried : AreCarried (length (starts h)) (active h)
    active-carried = record {
      rising = active-rising table courses h legal;
      low = λ i is. (legal-numbered table courses h legal i (and_parts (is_in i (starts h)) (not (is_in i (ends h))) (carried_active i is)).0).0;
      high = λ i is. (legal-numbered table courses h legal i (and_parts (is_in i (starts h)) (not (is_in i (ends h))) (carried_active i is)).0).1;
    }

    pub numbers-apart : AreApart (number_in h)
    numbers-apart = old-apart before (active h) active-carried

    ended_not_later : (i : ℕ) → IsTrue (is_in i (ends h)) → i ≤ before
    ended_not_later i ended = (legal-numbered table courses h legal i (ends-started table courses h legal i ended)).1

    ended_not_zero : (i : ℕ) → IsTrue (is_in i (ends h)) → 1 ≤ i
    ended_not_zero i ended = (legal-numbered table courses h legal i (ends-started table courses h legal i ended)).0

    -- no number leads to a process that has ended
    pub numbers-open : (k : ℕ) → is_open h (number_in h k) ≡ true
    numbers-open k = by_end (is_in (number_in h k) (ends h)) refl
      where
        not_ended : (k : ℕ) → IsTrue (is_in (number_in h k) (ends h)) → ⊥
        not_ended zero ended = let low = ended_not_zero zero ended in omega arith
        not_ended (suc k) ended = by_place (carried-or_later before (active h) k)
          where
            by_place : Among (carried_at (active h) before k) (active h) ⊎ (before < carried_at (active h) before k) → ⊥
            by_place (inl there) =
                let goes = (and_parts (is_in (carried_at (active h) before k) (starts h)) (not (is_in (carried_at (active h) before k) (ends h))) (carried_active (carried_at (active h) before k) there)).1 in
                false≢true (sym (ap not ended) ∙ goes)
            by_place (inr later) = let high = ended_not_later (carried_at (active h) before k) ended in omega arith

        by_end : (t : Bool) → is_in (number_in h k) (ends h) ≡ t → is_open h (number_in h k) ≡ true
        by_end true ended = absurd (not_ended k ended)
        by_end false out = ap not out

    -- a process that started and hasn't ended is carried
    pub open_known : (i : ℕ) → IsTrue (is_in i (starts h)) → is_open h i ≡ true → IsKnownIn before (active h) i
    open_known i started opens =
        or_left (is_in i (active h)) (ltb before i) (is_active-is_in h i ∙ and_from (is_in i (starts h)) (is_open h i) started opens)

    -- what remains, by the numbers of before, is what is left of h
    pub remaining-back : as_before h (remaining h) ≡ events_of (is_open h) h
    remaining-back =
        there_and_back (number_in h) (number_since h) (events_of (is_open h) h)
        (λ e among.
        let found = among-filter (λ e. is_open h (process_of e)) e h among in
        old-new before (active h) (process_of e) (open_known (process_of e) (events-started h legal e found.0) found.1))

    -- what goes on by those numbers is kept
    open_all : (u : List Event) → events_of (is_open h) (as_before h u) ≡ as_before h u
    open_all u = filter_each (λ e. is_open h (process_of e)) (as_before h u) (λ e among. each u e among)
      where
        one : (e : Event) → is_open h (process_of (renumbered_event (number_in h) e)) ≡ true
        one (Start i) = numbers-open i
        one (Act e) = numbers-open e.process
        one (End i) = numbers-open i

        each : (u : List Event) (e : Event) → Among e (as_before h u) → is_open h (process_of e) ≡ true
        each [] e none = absurd none
        each (x ∷ u) e (inl here) = subst (λ y. is_open h (process_of y) ≡ true) here (one x)
        each (x ∷ u) e (inr later) = each u e later

    -- so the whole without the ended is what remains and what follows
    pub whole-open : (u : List Event) → events_of (is_open h) (h ++ as_before h u) ≡ as_before h (remaining h ++ u)
    whole-open u =
        filter-append (λ e. is_open h (process_of e)) h (as_before h u)
        ∙ (ap (λ xs. events_of (is_open h) h ++ xs) (open_all u)
        ∙ (ap (λ xs. xs ++ as_before h u) (sym remaining-back) ∙ sym (map-append (renumbered_event (number_in h)) (remaining h) u)))

-- those that haven't ended are the active ones, where each event is of a process that started
pub what_remains_is_of_the_active : WhatRemainsIsOfTheActive
what_remains_is_of_the_active table courses h legal =
    filter-agree (λ e. is_open h (process_of e)) (λ e. is_active h (process_of e)) h
    (λ e among. sym (ap (λ t. t && is_open h (process_of e)) (events-started table courses h legal e among)))
