-- Where nothing conflicts, the first event that may not come is the first that isn't in own order.
use Rattle.std.proofs.Common.{◌≡◌, ◌∙◌, ◌⊎◌, inl, inr, ℕ, ◌+◌, Bool, true, false, ◌&&◌, if◌then◌else◌, List, [], ◌∷◌, ◌++◌, Some, None, refl, sym, ap, subst}
use Rattle.std.specs.Bool.{IsTrue}
use Rattle.std.proofs.lemmas.Bool.{and_parts}
use Rattle.process_tree.specs.Conflicts.{Table, covers, do_conflict, mode_of}
use Rattle.process_tree.specs.declared.conflicts.Mode.TheVariants.{Never}
use Rattle.schedule_model.specs.declared.event.Event.{Event}
use Rattle.schedule_model.specs.Course.{Course}
use Rattle.schedule_model.specs.Conflict.{ConflictRelation, no_conflict}
use Rattle.schedule_model.specs.EachEvent.{EventTest, each_passes, first_failing}
use Rattle.schedule_model.specs.Legal.{first_illegal, is_clear, is_legal, may_come}
use Rattle.schedule_model.specs.OwnOrder.{keeps_order, is_in_own_order}
use Rattle.schedule_model.proofs.NoConflict.{always_clear}
use Rattle.history_judging.specs.declared.legal_history.LegalError.{LegalError}
use Rattle.history_judging.specs.declared.legal_history.LegalError.TheVariants.{At, NoMemory}
use Rattle.audit_text.specs.Copies.{first_out_of_order}

-- tests that agree fail first at one place
same_failing : (one other : EventTest) → ((h : List Event) (e : Event) → one h e ≡ other h e) → (n : ℕ) (before h : List Event) → first_failing one n before h ≡ first_failing other n before h
same_failing one other same n before [] = refl
same_failing one other same n before (e ∷ h) =
    ap (λ b. if b then first_failing one (n + 1) (before ++ e ∷ []) h else Some n) (same before e)
    ∙ ap (λ o. if other before e then o else Some n) (same_failing one other same (n + 1) (before ++ e ∷ []) h)

and-true : (b c : Bool) → c ≡ true → (b && c) ≡ b
and-true true c is = is
and-true false c is = refl

module _ (courses : List Course) where
  -- so it is of the empty relation,
  may_keep : (h : List Event) (e : Event) → may_come no_conflict courses h e ≡ keeps_order courses h e
  may_keep h e = and-true (keeps_order courses h e) (is_clear no_conflict courses h e) (always_clear courses h e)

  pub illegal_out_of_order : (h : List Event) → first_illegal no_conflict courses h ≡ first_out_of_order courses h
  illegal_out_of_order h = same_failing (may_come no_conflict courses) (keeps_order courses) may_keep 1 [] h

-- where each passes, none fails,
passes_none : (test : EventTest) (n : ℕ) (before h : List Event) → IsTrue (each_passes test before h) → first_failing test n before h ≡ None
passes_none test n before [] pass = refl
passes_none test n before (e ∷ h) pass =
    let both = and_parts (test before e) (each_passes test (before ++ e ∷ []) h) pass in
    ap (λ b. if b then first_failing test (n + 1) (before ++ e ∷ []) h else Some n) both.0 ∙ passes_none test (n + 1) (before ++ e ∷ []) h both.1

-- and the other way round
none_passes : (test : EventTest) (n : ℕ) (before h : List Event) → first_failing test n before h ≡ None → IsTrue (each_passes test before h)
none_passes test n before [] none = refl
none_passes test n before (e ∷ h) none = by (test before e) (none_passes test (n + 1) (before ++ e ∷ []) h) none
  where
    by : (b : Bool) → (first_failing test (n + 1) (before ++ e ∷ []) h ≡ None → IsTrue (each_passes test (before ++ e ∷ []) h))
        → (if b then first_failing test (n + 1) (before ++ e ∷ []) h else Some n) ≡ None → IsTrue (b && each_passes test (before ++ e ∷ []) h)
    by true rest f = rest f
    by false rest f = absurd cc

-- a log of which no event leaves own order is in own order
pub in_own_order : (courses : List Course) (h : List Event) → first_out_of_order courses h ≡ None → IsTrue (is_in_own_order courses h)
in_own_order courses h none = none_passes (keeps_order courses) 1 [] h none

module _ (t : Table) (never : (a b : ℕ) → mode_of t a b ≡ Never) where
  -- a table that names nothing is the empty relation,
  none_conflict : do_conflict t ≡ no_conflict
  none_conflict = λ i a b. covers (never a.op b.op i) a.key b.key

  -- so where all may come, none is out of order,
  pub legal_in_order : (courses : List Course) (h : List Event) → IsTrue (is_legal (do_conflict t) courses h) → first_out_of_order courses h ≡ None
  legal_in_order courses h legal =
      sym (illegal_out_of_order courses h)
      ∙ passes_none (may_come no_conflict courses) 1 [] h (subst (λ (r : ConflictRelation). IsTrue (is_legal r courses h)) none_conflict legal)

  -- and the first that may not come is the first that is
  pub first_in_order : (courses : List Course) (h : List Event) (n : ℕ) → first_illegal (do_conflict t) courses h ≡ Some n → first_out_of_order courses h ≡ Some n
  first_in_order courses h n first = sym (illegal_out_of_order courses h) ∙ subst (λ (r : ConflictRelation). first_illegal r courses h ≡ Some n) none_conflict first

  -- that is told
  pub at_is_first : (courses : List Course) (h : List Event) (e : LegalError) (n : ℕ) → e ≡ At n
      → (e ≡ NoMemory) ⊎ ((k : ℕ) × (e ≡ At k) × (first_illegal (do_conflict t) courses h ≡ Some k)) → Some n ≡ first_out_of_order courses h
  at_is_first courses h e n is (inl memory) = absurd (let no : At n ≡ NoMemory = sym is ∙ memory in cc)
  at_is_first courses h e n is (inr (k, told, first)) =
      let same : At n ≡ At k = sym is ∙ told in
      let number : n ≡ k = cc in
      ap Some number ∙ sym (first_in_order courses h k first)
