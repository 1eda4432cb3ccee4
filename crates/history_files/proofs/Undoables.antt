-- Each step that stands on a subsystem is one that its book can undo.
use Rattle.std.proofs.Common.{◌≡◌, eqb, ℤ, Bool, true, false, ◌&&◌, ◌||◌, List, [], ◌∷◌, refl, sym, ◌∙◌, ap, subst, Option, Some, None, if◌then◌else◌}
use Rattle.std.specs.Prelude.{is_some}
use Rattle.std.specs.List.{list_any}
use Rattle.std.proofs.lemmas.Bool.{and_parts, and_from, eq-eqb, eqb-true, false≢true}
use Rattle.resource_box.specs.declared.call.Kind.{Kind}
use Rattle.subsystem_store.specs.declared.effect.Effect.{Effect}
use Rattle.subsystem_store.specs.declared.effect.Undoable.{Undoable}
use Rattle.subsystem_store.specs.Values.{Settled, is_of, same_call, take_last, take_later, undone}
use Rattle.history_files.proofs.NextBooks.{call_itself}

-- an effect can be the undo of one of these
abbrev pub can_be_of : Effect → List Undoable → Bool
can_be_of u us = list_any (λ (x : Undoable). is_of u x.effect) us

-- then the last such is found
pub found_where_is : (u : Effect) (us : List Undoable) → can_be_of u us ≡ true → is_some (take_last u us) ≡ true
found_where_is u [] has = absurd (false≢true has)
found_where_is u (x ∷ xs) has = by (take_last u xs) (is_of u x.effect) refl refl (found_where_is u xs)
  where
    by : (o : Option (ℤ × List Undoable)) (b : Bool) → take_last u xs ≡ o → is_of u x.effect ≡ b → (can_be_of u xs ≡ true → is_some (take_last u xs) ≡ true) → is_some (take_later u x xs o) ≡ true
    by (Some found) b taken is rest = refl
    by None true taken is rest = ap (λ b. is_some {T = ℤ × List Undoable} (if b then Some (x.before, xs) else None)) is
    by None false taken is rest = absurd (false≢true (sym (ap is_some taken) ∙ rest (subst (λ b. (b || can_be_of u xs) ≡ true) is has)))

-- what is left when the last is taken
abbrev pub left : List Undoable → Option (ℤ × List Undoable) → List Undoable
left us None = us
left us (Some found) = found.1

-- of what isn't of the one, as many are left that another can be the undo of
pub others_stay : (u v : Effect) (us : List Undoable) → ((x : Undoable) → is_of u x.effect ≡ true → is_of v x.effect ≡ false) → can_be_of v (left us (take_last u us)) ≡ can_be_of v us
others_stay u v [] apart = refl
others_stay u v (x ∷ xs) apart = by (take_last u xs) (is_of u x.effect) refl (others_stay u v xs apart)
  where
    by : (o : Option (ℤ × List Undoable)) (b : Bool) → is_of u x.effect ≡ b → can_be_of v (left xs o) ≡ can_be_of v xs → can_be_of v (left (x ∷ xs) (take_later u x xs o)) ≡ can_be_of v (x ∷ xs)
    by (Some found) b is rest = ap (λ c. is_of v x.effect || c) rest
    by None true is rest = ap (λ b. can_be_of v (left (x ∷ xs) (if b then Some (x.before, xs) else None))) is ∙ sym (ap (λ c. c || can_be_of v xs) (apart x is))
    by None false is rest = ap (λ b. can_be_of v (left (x ∷ xs) (if b then Some (x.before, xs) else None))) is

pub undone_leaves : (kind : Kind) (s : Settled) (e : Effect) (o : Option (ℤ × List Undoable)) → (undone kind s e o).undoable ≡ left s.undoable o
undone_leaves kind s e None = refl
undone_leaves kind s e (Some found) = refl

-- undos of one effect are of one step
pub of_one_step : (u v x : Effect) → is_of u x ≡ true → is_of v x ≡ true → (v.process ≡ u.process) × (v.step ≡ u.step)
of_one_step u v x one two =
    let a = and_parts (eqb u.process x.process && eqb u.step x.step) (same_call u.call x.call) one in
    let b = and_parts (eqb v.process x.process && eqb v.step x.step) (same_call v.call x.call) two in
    let (a_process, a_step) = and_parts (eqb u.process x.process) (eqb u.step x.step) a.0 in
    let (b_process, b_step) = and_parts (eqb v.process x.process) (eqb v.step x.step) b.0 in
    (eqb-true v.process x.process b_process ∙ sym (eqb-true u.process x.process a_process), eqb-true v.step x.step b_step ∙ sym (eqb-true u.step x.step a_step))

-- an effect is of the step that it is
pub of_itself : (u x : Effect) → u.process ≡ x.process → u.step ≡ x.step → u.call ≡ x.call → is_of u x ≡ true
of_itself u x process step call =
    and_from (eqb u.process x.process && eqb u.step x.step) (same_call u.call x.call)
    (and_from (eqb u.process x.process) (eqb u.step x.step) (eq-eqb u.process x.process process) (eq-eqb u.step x.step step))
    (subst (λ c. same_call u.call c ≡ true) call (call_itself u.call))
