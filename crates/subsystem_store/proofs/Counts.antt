-- How many forward effects an undo can be of, behind several effects.
use Rattle.std.specs.Prelude.{if◌then◌else◌, is_some, ◌&&◌, ◌==◌, ◌-◌, nat_lt}
use Rattle.std.specs.Ordering.{int_eq}
use Rattle.std.proofs.Common.{◌≡◌, ◌+◌, ℕ, ℤ, Bool, true, false, List, [], ◌∷◌, ◌++◌, length, Option, Some, None, refl, sym, ◌∙◌, ap, subst, arith, append_assoc, append-nil, length-append}
use Rattle.std.proofs.lemmas.Bool.{and_parts, eqb-true, lt-ltb, ltb-true}
use Rattle.std.proofs.lemmas.Bool.Decides.{Decides-int_eq}
use Rattle.commute_table.specs.Bytes.{verb_code}
use Rattle.resource_box.specs.declared.call.Kind.{Kind}
use Rattle.resource_box.specs.Meaning.{value_at}
use Rattle.subsystem_store.specs.declared.effect.Effect.{Effect}
use Rattle.subsystem_store.specs.declared.effect.Undoable.{Undoable}
use Rattle.subsystem_store.specs.Values.{Settled, settled, settle, undone, done, take_last, take_later, is_of, same_call, can_undo}
use Rattle.subsystem_store.specs.Matching.{one_if, count_of, left_after, left_of}
use Rattle.subsystem_store.specs.Room.{forwards, undos, UndosFind}
use Rattle.subsystem_store.proofs.Fitting.{settled-push}

-- with one more at the end
count_push : (undo : Effect) (us : List Undoable) (u : Undoable) → count_of undo (us ++ u ∷ []) ≡ count_of undo us + one_if (is_of undo u.effect)
count_push undo [] u = omega arith
count_push undo (first ∷ us) u = omega (arith, count_push undo us u)

-- whether an undo is of a forward effect, by the numbers of that
abbrev is_of_these : Effect → ℕ → ℕ → ℕ → ℕ → ℤ → Bool
is_of_these undo process step verb key amount =
    (undo.process == process) && (undo.step == step) && ((verb_code undo.call.verb == verb) && (undo.call.key == key) && int_eq undo.call.amount amount)

-- An undo is of a forward effect where it would be of another undo of that.
same_of : (undo e f : Effect) → is_of e f ≡ true → is_of undo f ≡ is_of undo e
same_of undo e f is =
    let outer = and_parts ((e.process == f.process) && (e.step == f.step)) (same_call e.call f.call) is in
    let who = and_parts (e.process == f.process) (e.step == f.step) outer.0 in
    let call = and_parts ((verb_code e.call.verb == verb_code f.call.verb) && (e.call.key == f.call.key)) (int_eq e.call.amount f.call.amount) outer.1 in
    let what = and_parts (verb_code e.call.verb == verb_code f.call.verb) (e.call.key == f.call.key) call.0 in
    sym (
    ap (λ p. is_of_these undo p e.step (verb_code e.call.verb) e.call.key e.call.amount) (eqb-true e.process f.process who.0)
    ∙ ap (λ s. is_of_these undo f.process s (verb_code e.call.verb) e.call.key e.call.amount) (eqb-true e.step f.step who.1)
    ∙ ap (λ v. is_of_these undo f.process f.step v e.call.key e.call.amount) (eqb-true (verb_code e.call.verb) (verb_code f.call.verb) what.0)
    ∙ ap (λ k. is_of_these undo f.process f.step (verb_code f.call.verb) k e.call.amount) (eqb-true e.call.key f.call.key what.1)
    ∙ ap (λ a. is_of_these undo f.process f.step (verb_code f.call.verb) f.call.key a) ((Decides-int_eq e.call.amount f.call.amount).0 call.1)
    )

-- what is taken where no later one is, by a test
abbrev first_taken : Undoable → List Undoable → Bool → Option (ℤ × List Undoable)
first_taken first us b = if b then Some (first.before, us) else None

some_same : (one two : ℤ × List Undoable) → Some one ≡ Some two → one ≡ two
some_same one two is = cc

-- once one is undone, there is one less of it
pub record TakesOne (undo e : Effect) (us left : List Undoable) : Type 0 where
  pub count : count_of undo us ≡ count_of undo left + one_if (is_of undo e)
  pub size : length us ≡ length left + 1

pub takes_one : (undo e : Effect) (us : List Undoable) (found : ℤ × List Undoable) → take_last e us ≡ Some found → TakesOne undo e us found.1
takes_one undo e [] found is = absurd cc
takes_one undo e (first ∷ us) found is = by (take_last e us) (is_of e first.effect) refl refl is (λ f taken. takes_one undo e us f taken)
  where
    by : (o : Option (ℤ × List Undoable)) (b : Bool) → take_last e us ≡ o → is_of e first.effect ≡ b → take_later e first us o ≡ Some found
        → ((f : ℤ × List Undoable) → take_last e us ≡ Some f → TakesOne undo e us f.1) → TakesOne undo e (first ∷ us) found.1
    by (Some f) b o_is b_is is further =
        let same : first ∷ f.1 ≡ found.1 = ap (λ (p : ℤ × List Undoable). p.1) (some_same (f.0, first ∷ f.1) found is) in
        let one = further f o_is in
        subst (TakesOne undo e (first ∷ us)) same (record { count = omega (arith, one.count); size = omega (arith, one.size) })
    by None true o_is b_is is further =
        let taken : first_taken first us true ≡ Some found = subst (λ b. first_taken first us b ≡ Some found) b_is is in
        let same : us ≡ found.1 = ap (λ (p : ℤ × List Undoable). p.1) (some_same (first.before, us) found taken) in
        let alike : one_if (is_of undo first.effect) ≡ one_if (is_of undo e) = ap one_if (same_of undo e first.effect b_is) in
        subst (TakesOne undo e (first ∷ us)) same (record { count = omega (arith, alike); size = omega arith })
    by None false o_is b_is is further = absurd (let no : first_taken first us false ≡ Some found = subst (λ b. first_taken first us b ≡ Some found) b_is is in cc)

-- an undo can be of something exactly where there are some
counted_where_taken : (undo : Effect) (us : List Undoable) → is_some (take_last undo us) ≡ nat_lt 0 (count_of undo us)
counted_where_taken undo [] = refl
counted_where_taken undo (first ∷ us) = by (take_last undo us) (is_of undo first.effect) refl refl (counted_where_taken undo us)
  where
    by : (o : Option (ℤ × List Undoable)) (b : Bool) → take_last undo us ≡ o → is_of undo first.effect ≡ b → is_some (take_last undo us) ≡ nat_lt 0 (count_of undo us)
        → is_some (take_later undo first us (take_last undo us)) ≡ nat_lt 0 (count_of undo (first ∷ us))
    by (Some f) b o_is b_is further =
        let some : nat_lt 0 (count_of undo us) ≡ true = sym further ∙ ap is_some o_is in
        ap (λ o. is_some (take_later undo first us o)) o_is ∙ sym (lt-ltb 0 (count_of undo (first ∷ us)) (omega (arith, ltb-true 0 (count_of undo us) some)))
    by None true o_is b_is further =
        ap (λ o. is_some (take_later undo first us o)) o_is ∙ ap (λ b. is_some (first_taken first us b)) b_is
        ∙ sym (lt-ltb 0 (count_of undo (first ∷ us)) (omega (arith, ap one_if b_is)))
    by None false o_is b_is further =
        let same : count_of undo us ≡ one_if false + count_of undo us = omega arith in
        ap (λ o. is_some (take_later undo first us o)) o_is ∙ ap (λ b. is_some (first_taken first us b)) b_is ∙ sym (ap is_some o_is) ∙ further
        ∙ ap (nat_lt 0) same ∙ ap (λ b. nat_lt 0 (one_if b + count_of undo us)) (sym b_is)

-- what one effect makes of that count, and of how many may be undone
record Steps (undo e : Effect) (kind : Kind) (s : Settled) : Type 0 where
  left : left_after undo (count_of undo s.undoable) e ≡ count_of undo (settle kind s e).undoable
  size : length (settle kind s e).undoable + undos (e ∷ []) ≡ length s.undoable + forwards (e ∷ [])

-- an effect as it is kept once it came
abbrev kept_of : Settled → Effect → Undoable
kept_of s e = record { effect = e; before = value_at s.pairs e.call.key }

-- both, by the tests that they are told by
abbrev left_by : Bool → Bool → ℕ → ℕ
left_by is u n = if is then (if u then n - 1 else n + 1) else n

abbrev settled_by : Kind → Settled → Effect → Bool → Option (ℤ × List Undoable) → Settled
settled_by kind s e u o = if u then undone kind s e o else done kind s e

abbrev StepsBy : Effect → Effect → Kind → Settled → Bool → Bool → Option (ℤ × List Undoable) → Type 0
StepsBy undo e kind s u is o =
    (left_by is u (count_of undo s.undoable) ≡ count_of undo (settled_by kind s e u o).undoable)
    × (length (settled_by kind s e u o).undoable + ((if u then 1 else 0) + 0) ≡ length s.undoable + ((if u then 0 else 1) + 0))

steps_by : (undo e : Effect) (kind : Kind) (s : Settled) → (e.undo ≡ true → is_some (take_last e s.undoable) ≡ true) → (u is : Bool) (o : Option (ℤ × List Undoable)) → e.undo ≡ u → is_of undo e ≡ is → take_last e s.undoable ≡ o → StepsBy undo e kind s u is o
steps_by undo e kind s finds true is None u_is is_is o_is = absurd (let no : is_some (take_last e s.undoable) ≡ true = finds u_is in let none = sym (ap is_some o_is) ∙ no in cc)
steps_by undo e kind s finds true true (Some found) u_is is_is o_is =
    let one = takes_one undo e s.undoable found o_is in
    let is : one_if (is_of undo e) ≡ 1 = ap one_if is_is in
    (omega (arith, one.count, is), omega (arith, one.size))
steps_by undo e kind s finds true false (Some found) u_is is_is o_is =
    let one = takes_one undo e s.undoable found o_is in
    let is : one_if (is_of undo e) ≡ 0 = ap one_if is_is in
    (omega (arith, one.count, is), omega (arith, one.size))
steps_by undo e kind s finds false true o u_is is_is o_is =
    let is : one_if (is_of undo e) ≡ 1 = ap one_if is_is in
    (omega (arith, count_push undo s.undoable (kept_of s e), is), omega (arith, length-append s.undoable (kept_of s e ∷ [])))
steps_by undo e kind s finds false false o u_is is_is o_is =
    let is : one_if (is_of undo e) ≡ 0 = ap one_if is_is in
    (omega (arith, count_push undo s.undoable (kept_of s e), is), omega (arith, length-append s.undoable (kept_of s e ∷ [])))

steps : (undo e : Effect) (kind : Kind) (s : Settled) → (e.undo ≡ true → is_some (take_last e s.undoable) ≡ true) → Steps undo e kind s
steps undo e kind s finds = let so = steps_by undo e kind s finds e.undo (is_of undo e) (take_last e s.undoable) refl refl refl in record { left = so.0; size = so.1 }

-- The count behind several effects, of which each undo can be of something.
pub left_behind : (undo : Effect) (kind : Kind) (before effects : List Effect) → UndosFind kind before effects
    → left_of undo (count_of undo (settled kind before).undoable) effects ≡ count_of undo (settled kind (before ++ effects)).undoable
left_behind undo kind before [] find = ap (λ (b : List Effect). count_of undo (settled kind b).undoable) (sym (append-nil before))
left_behind undo kind before (e ∷ effects) (finds, find) =
    let step = steps undo e kind (settled kind before) finds in
    ap (λ n. left_of undo n effects) (step.left ∙ ap (λ (s : Settled). count_of undo s.undoable) (sym (settled-push kind before e)))
    ∙ left_behind undo kind (before ++ e ∷ []) effects find
    ∙ ap (λ (b : List Effect). count_of undo (settled kind b).undoable) (append_assoc before (e ∷ []) effects)

-- and so whether an undo can be of something behind them
pub can_undo_behind : (undo : Effect) (kind : Kind) (before effects : List Effect) → UndosFind kind before effects
    → nat_lt 0 (left_of undo (count_of undo (settled kind before).undoable) effects) ≡ can_undo kind (before ++ effects) undo
can_undo_behind undo kind before effects find =
    ap (nat_lt 0) (left_behind undo kind before effects find) ∙ sym (counted_where_taken undo (settled kind (before ++ effects)).undoable)

-- How many may be undone behind several effects.
pub undoable_behind : (kind : Kind) (before effects : List Effect) → UndosFind kind before effects
    → length (settled kind (before ++ effects)).undoable + undos effects ≡ length (settled kind before).undoable + forwards effects
undoable_behind kind before [] find = ap (λ (b : List Effect). length (settled kind b).undoable + 0) (append-nil before)
undoable_behind kind before (e ∷ effects) (finds, find) =
    let step = steps e e kind (settled kind before) finds in
    let rest = undoable_behind kind (before ++ e ∷ []) effects find in
    let here = ap (λ (s : Settled). length s.undoable) (settled-push kind before e) in
    let all = ap (λ (b : List Effect). length (settled kind b).undoable) (append_assoc before (e ∷ []) effects) in
    omega (arith, step.size, rest, here, all)
