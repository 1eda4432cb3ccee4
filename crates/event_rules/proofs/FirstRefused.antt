-- The first event of a history that may not come, at its place.
use Rattle.std.proofs.Common.{◌≡◌, ℕ, ◌+◌, ◌-◌, ◌<◌, ◌≤◌, true, ◌&&◌, List, [], ◌∷◌, ◌++◌, length, take, get_or, option_and_then, Some, sym, refl, ap, ◌∙◌, subst, arith, length-append}
use Rattle.std.specs.Bool.{IsTrue}
use Rattle.std.proofs.Math.Seq.{take-append_seam}
use Rattle.std.proofs.lemmas.Bool.{and_parts}
use Rattle.std.proofs.lemmas.Option.{slice_get-get_or}
use Rattle.process_tree.specs.Conflicts.{Table, do_conflict, operations_in}
use Rattle.process_tree.specs.declared.plan.Plan.{Plan}
use Rattle.schedule_model.specs.declared.event.Event.{Event}
use Rattle.schedule_model.specs.Course.{courses_of}
use Rattle.schedule_model.specs.Histories.{starts}
use Rattle.schedule_model.specs.Laws.{FirstIllegal, IsPlanned}
use Rattle.schedule_model.specs.Legal.{first_illegal, is_clear}
use Rattle.schedule_model.specs.OwnOrder.{is_in_own_order, keeps_order}
use Rattle.schedule_model.specs.EachEvent.{each_passes}
use Rattle.schedule_model.proofs.Appends.{starts-append}
use Rattle.schedule_model.proofs.Induction.{each_passes-append}
use Rattle.machine_model.specs.declared.blocked.Rule.{Rule}
use Rattle.event_rules.specs.Refusing.{IsRefused, refusing_rule, rule_against}

-- what stands behind the first of two lists
seam : {X : Type 0} (g : List X) (e d : X) (k : List X) → get_or (g ++ e ∷ k) (length g) d ≡ e
seam [] e d k = refl
seam (y ∷ g) e d k = seam g e d k

module _ (table : Table) (plans : List Plan) (h : List Event) (m : ℕ) (planned : IsPlanned (operations_in table) plans h) (own : IsTrue (is_in_own_order (courses_of plans) h))
    (exact : FirstIllegal (do_conflict table) (courses_of plans) h) (is : first_illegal (do_conflict table) (courses_of plans) h ≡ Some m) where
  abbrev g : List Event
  g = (exact.first m is).0

  abbrev e : Event
  e = (exact.first m is).1

  abbrev k : List Event
  k = (exact.first m is).2

  split : h ≡ g ++ e ∷ k
  split = (exact.first m is).3

  number : m ≡ length g + 1
  number = (exact.first m is).4

  pub place : (0 < m) × (m ≤ length h)
  place = let count = ap length split ∙ length-append g (e ∷ k) in let n = number in (omega (arith, n), omega (arith, n, count))

  before-is : take (m - 1) h ≡ g
  before-is =
      let n = number in
      let at : m - 1 ≡ length g = omega (arith, n) in
      ap (λ j. take j h) at ∙ (ap (take (length g)) split ∙ take-append_seam g (e ∷ k))

  event-is : (d : Event) → get_or h (m - 1) d ≡ e
  event-is d =
      let n = number in
      let at : m - 1 ≡ length g = omega (arith, n) in
      ap (λ j. get_or h j d) at ∙ (ap (λ es. get_or es (length g) d) split ∙ seam g e d k)

  keeps : keeps_order (courses_of plans) g e ≡ true
  keeps =
      let all = sym (each_passes-append (keeps_order (courses_of plans)) [] g (e ∷ k)) ∙ subst (λ es. IsTrue (is_in_own_order (courses_of plans) es)) split own in
      (and_parts (keeps_order (courses_of plans) g e) _ (and_parts (each_passes (keeps_order (courses_of plans)) [] g) (each_passes (keeps_order (courses_of plans)) g (e ∷ k)) all).1).0

  refused-there : IsRefused table plans g e
  refused-there = record {
    planned = record { good = planned.good; known = planned.known };
    enough = (let one = planned.one_each in let count = ap length (ap starts split ∙ starts-append g (e ∷ k)) ∙ length-append (starts g) (starts (e ∷ k)) in omega (arith, one, count));
    legal = (exact.first m is).5;
    order = keeps;
    refused = sym (ap (λ t. t && is_clear (do_conflict table) (courses_of plans) g e) keeps) ∙ (exact.first m is).6;
  }

  -- it is refused after those before it
  pub refused-at : (of : List Plan) (before : List Event) (d : Event) → of ≡ plans → before ≡ take (m - 1) h → IsRefused table of before (get_or h (m - 1) d)
  refused-at of before d same front =
      subst (λ ps. IsRefused table ps before (get_or h (m - 1) d)) (sym same)
      (subst (λ es. IsRefused table plans es (get_or h (m - 1) d)) (sym (front ∙ before-is)) (subst (IsRefused table plans g) (sym (event-is d)) refused-there))

  -- and so by the rule that is named of it
  pub rule-at : (before : List Event) (d : Event) (rule : Rule) → before ≡ take (m - 1) h
      → rule_against (do_conflict table) (courses_of plans) before (get_or h (m - 1) d) ≡ Some rule → refusing_rule (do_conflict table) (courses_of plans) h m ≡ Some rule
  rule-at before d rule front named =
      let within = place in
      ap (λ o. option_and_then (rule_against (do_conflict table) (courses_of plans) (take (m - 1) h)) o) (slice_get-get_or h (m - 1) d (omega (arith, within.0, within.1)))
      ∙ (ap (λ es. rule_against (do_conflict table) (courses_of plans) es (get_or h (m - 1) d)) (sym front) ∙ named)
