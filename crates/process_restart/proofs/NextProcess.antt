-- Who comes next where all complete, once those up to a number have ended.
use Rattle.std.proofs.Common.{◌≡◌, ◌⊎◌, ◌∙◌, ℕ, zero, suc, ◌+◌, ◌-◌, ◌≤◌, ◌<◌, Bool, true, false, List, [], ◌∷◌, ◌++◌, map, filter, length, Some, None, if◌then◌else◌, inl, inr, ⊎_elim, refl, ap, subst, sym, arith}
use Rattle.std.specs.Option.{option_or}
use Rattle.std.proofs.lemmas.Bool.{and_parts, cases_lt, false≢true}
use Rattle.std.proofs.lemmas.List.{map-append}
use Rattle.std.proofs.lemmas.List.Elements.{filter-append}
use Rattle.std.proofs.lemmas.Option.{none-some, same_Some}
use Rattle.process_tree.specs.Blocks.{numbers_from}
use Rattle.process_tree.specs.Shape.{first_of, last_of}
use Rattle.process_tree.specs.declared.entry.Entry.{Entry}
use Rattle.schedule_model.specs.Course.{Course}
use Rattle.schedule_model.specs.Histories.{active, is_active, is_in, net, starts}
use Rattle.machine_model.specs.Moment.{Moment}
use Rattle.machine_model.specs.State.{is_pending, pending_in_order, undo_next}
use Rattle.machine_model.proofs.LastElements.{Each-last, HasEnd, all_pass, has_end, last_of-push}
use Rattle.process_tree.specs.Order.{Each}
use Rattle.process_core.specs.Cores.{CoreState, IsCore, courses_in, history_of, moment_of}
use Rattle.core_state.proofs.ActiveSums.{all_active}
use Rattle.process_core.proofs.Rotations.{numbers_split}
use Rattle.core_state.proofs.SeatFacts.{has_plan}
use Rattle.core_state.proofs.SeatReplies.{has_started, started_if}
use Rattle.process_restart.specs.Turns.{HaveEnded, IsAskedNext}

-- the process of a pending entry is active
module _ (courses : List Course) (m : Moment) (i : ℕ) (next : undo_next courses m ≡ Some i) where
  by_end : (pending_in_order courses m ≡ []) ⊎ HasEnd (pending_in_order courses m) → is_active m.events i ≡ true
  by_end (inl none) = absurd (none-some i (sym (ap (λ es. last_of (map (λ (e : Entry). e.process) es)) none) ∙ next))
  by_end (inr ends) =
      let last = ap last_of (ap (map (λ (e : Entry). e.process)) ends.is ∙ map-append (λ (e : Entry). e.process) ends.front (ends.last ∷ [])) ∙ last_of-push (map (λ (e : Entry). e.process) ends.front) ends.last.process in
      let same : ends.last.process ≡ i = same_Some ends.last.process i (sym last ∙ next) in
      let pending = Each-last (λ e. is_pending courses m e ≡ true) ends.front ends.last (subst (Each (λ e. is_pending courses m e ≡ true)) ends.is (all_pass (is_pending courses m) (net m.events))) in
      ap (is_active m.events) (sym same) ∙ (and_parts (is_active m.events ends.last.process) _ pending).0

  undo_active : is_active m.events i ≡ true
  undo_active = by_end (has_end (pending_in_order courses m))

none_of : (p : ℕ → Bool) (a n : ℕ) → ((i : ℕ) → a ≤ i → i < a + n → p i ≡ false) → filter p (numbers_from a n) ≡ []
none_of p a zero each = refl
none_of p a (suc n) each = ap (λ t. if t then a ∷ filter p (numbers_from (a + 1) n) else filter p (numbers_from (a + 1) n)) (each a (omega arith) (omega arith))
    ∙ none_of p (a + 1) n (λ i low high. each i (omega arith) (omega arith))

module _ (c : CoreState) (core : IsCore c) (ended : ℕ) (have : HaveEnded c ended) where
  abbrev goes : ℕ → Bool
  goes = is_active (history_of c)

  -- of the first numbers none is active
  first_none : (n : ℕ) → n ≤ ended → filter goes (numbers_from 1 n) ≡ []
  first_none n few = none_of goes 1 n (λ i low high. have.none_active i (omega (arith, high, few)))

  first_by : (n : ℕ) → n ≡ length c.plans → ended < n → goes (ended + 1) ≡ true → first_of (active (history_of c)) ≡ Some (ended + 1)
  first_by n all less here =
      let e : n ≡ ended + suc (n - ended - 1) = omega (arith, less) in
      let one : 1 + ended ≡ ended + 1 = omega arith in
      ap first_of (sym (all_active c core n all)
      ∙ (ap (λ k. filter goes (numbers_from 1 k)) e
      ∙ (ap (filter goes) (numbers_split 1 ended (suc (n - ended - 1)))
      ∙ (filter-append goes (numbers_from 1 ended) (numbers_from (1 + ended) (suc (n - ended - 1)))
      ∙ (ap (λ xs. xs ++ filter goes (numbers_from (1 + ended) (suc (n - ended - 1)))) (first_none ended (omega arith))
      ∙ (ap (λ k. filter goes (numbers_from k (suc (n - ended - 1)))) one
      ∙ ap (λ t. if t then (ended + 1) ∷ filter goes (numbers_from (ended + 1 + 1) (n - ended - 1)) else filter goes (numbers_from (ended + 1 + 1) (n - ended - 1))) here))))))

  -- the next number is the first active process, if it is one
  pub first_active : goes (ended + 1) ≡ true → first_of (active (history_of c)) ≡ Some (ended + 1)
  first_active here =
      let bounds = has_plan c core (ended + 1) (started_if (history_of c) (ended + 1) here) in
      first_by (length c.plans) refl (let high = bounds.1 in omega (arith, high)) here

  -- and where it never started, nobody is active
  pub nobody_left : is_in (ended + 1) (starts (history_of c)) ≡ false → active (history_of c) ≡ []
  nobody_left never = sym (all_active c core (length c.plans) refl) ∙ first_none (length c.plans) (⊎_elim (λ less. absurd (false≢true (sym never ∙ has_started c core (ended + 1) (omega arith) (omega (arith, less))))) (λ most. most) (cases_lt ended (length c.plans)))

  -- The process of the last pending entry comes next,
  pub undo_asked : (i : ℕ) → undo_next (courses_in c) (moment_of c) ≡ Some i → IsAskedNext c ended i
  undo_asked i next = record {
    turn = λ goes. ap (λ o. option_or o (first_of (active (history_of c)))) next;
    other = λ stays. absurd (false≢true (sym stays ∙ undo_active (courses_in c) (moment_of c) i next));
  }

  -- and else the first active one.
  pub first_asked : undo_next (courses_in c) (moment_of c) ≡ None → IsAskedNext c ended (ended + 1)
  first_asked none = record {
    turn = λ here. ap (λ o. option_or o (first_of (active (history_of c)))) none ∙ first_active here;
    other = λ stays. refl;
  }
