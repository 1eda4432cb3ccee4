-- Lists of effects have no first difference exactly where they are the same.
use Rattle.std.proofs.Common.{◌≡◌, ◌+◌, ◌&&◌, eqb, ℕ, Bool, true, false, List, [], ◌∷◌, refl, sym, ◌∙◌, ap, Some, None, if◌then◌else◌}
use Rattle.std.proofs.lemmas.Bool.{and_parts, eqb-true, false≢true}
use Rattle.std.proofs.lemmas.Bool.Decides.{Decides-int_eq}
use Rattle.std.proofs.lemmas.Option.{none-some}
use Rattle.std.specs.Ordering.{int_eq}
use Rattle.commute_table.specs.Bytes.{verb_code}
use Rattle.commute_table.specs.declared.op.Verb.{Verb}
use Rattle.commute_table.specs.declared.op.Verb.TheVariants.{Add, Free, Hold, Look, Put, Take}
use Rattle.resource_box.specs.declared.call.Call.{Call}
use Rattle.subsystem_store.specs.Bodies.{verb_of}
use Rattle.subsystem_store.specs.declared.effect.Effect.{Effect}
use Rattle.subsystem_store.specs.Values.{same_call}
use Rattle.history_files.specs.Sound.{same_effect}
use Rattle.history_files.proofs.NextBooks.{effect_itself}
use Rattle.history_opening.specs.declared.faults.BookFault.{BookFault}
use Rattle.history_opening.specs.Comparing.{difference_from}

verb_back : (v : Verb) → verb_of (verb_code v) ≡ v
verb_back Add = refl
verb_back Take = refl
verb_back Look = refl
verb_back Put = refl
verb_back Hold = refl
verb_back Free = refl

-- the same calls are equal,
same_call_is : (a b : Call) → same_call a b ≡ true → a ≡ b
same_call_is a b same =
    let outer = and_parts (eqb (verb_code a.verb) (verb_code b.verb) && eqb a.key b.key) (int_eq a.amount b.amount) same in
    let inner = and_parts (eqb (verb_code a.verb) (verb_code b.verb)) (eqb a.key b.key) outer.0 in
    ap (λ v. record { verb = v; key = a.key; amount = a.amount }) (sym (verb_back a.verb) ∙ ap verb_of (eqb-true (verb_code a.verb) (verb_code b.verb) inner.0) ∙ verb_back b.verb)
    ∙ ap (λ k. record { verb = b.verb; key = k; amount = a.amount }) (eqb-true a.key b.key inner.1)
    ∙ ap (λ z. record { verb = b.verb; key = b.key; amount = z }) ((Decides-int_eq a.amount b.amount).0 outer.1)

-- and so are the same effects
pub same_effect_is : (a b : Effect) → same_effect a b ≡ true → a ≡ b
same_effect_is a b same = by a.undo b.undo refl refl
  where
    equal : a.undo ≡ b.undo → (eqb a.number b.number && eqb a.process b.process && eqb a.step b.step) ≡ true → same_call a.call b.call ≡ true → a ≡ b
    equal undo all call =
        let outer = and_parts (eqb a.number b.number && eqb a.process b.process) (eqb a.step b.step) all in
        let inner = and_parts (eqb a.number b.number) (eqb a.process b.process) outer.0 in
        ap (λ n. record { number = n; process = a.process; step = a.step; undo = a.undo; call = a.call }) (eqb-true a.number b.number inner.0)
        ∙ ap (λ n. record { number = b.number; process = n; step = a.step; undo = a.undo; call = a.call }) (eqb-true a.process b.process inner.1)
        ∙ ap (λ n. record { number = b.number; process = b.process; step = n; undo = a.undo; call = a.call }) (eqb-true a.step b.step outer.1)
        ∙ ap (λ u. record { number = b.number; process = b.process; step = b.step; undo = u; call = a.call }) undo
        ∙ ap (λ c. record { number = b.number; process = b.process; step = b.step; undo = b.undo; call = c }) (same_call_is a.call b.call call)

    by : (u w : Bool) → a.undo ≡ u → b.undo ≡ w → a ≡ b
    by true true one two = let told = rw (one, two) at same in let parts = and_parts _ (same_call a.call b.call) told in equal (one ∙ sym two) (and_parts (eqb a.number b.number && eqb a.process b.process && eqb a.step b.step) true parts.0).0 parts.1
    by false false one two = let told = rw (one, two) at same in let parts = and_parts _ (same_call a.call b.call) told in equal (one ∙ sym two) (and_parts (eqb a.number b.number && eqb a.process b.process && eqb a.step b.step) true parts.0).0 parts.1
    by true false one two = let told = rw (one, two) at same in let parts = and_parts _ (same_call a.call b.call) told in absurd (false≢true (and_parts (eqb a.number b.number && eqb a.process b.process && eqb a.step b.step) false parts.0).1)
    by false true one two = let told = rw (one, two) at same in let parts = and_parts _ (same_call a.call b.call) told in absurd (false≢true (and_parts (eqb a.number b.number && eqb a.process b.process && eqb a.step b.step) false parts.0).1)

-- lists without a difference are equal,
pub no_difference : (q n : ℕ) (xs ys : List Effect) → difference_from q n xs ys ≡ None → xs ≡ ys
no_difference q n [] [] none = refl
no_difference q n [] (y ∷ ys) none = absurd (none-some _ (sym none))
no_difference q n (x ∷ xs) [] none = absurd (none-some _ (sym none))
no_difference q n (x ∷ xs) (y ∷ ys) none = by (same_effect x y) refl (no_difference q (n + 1) xs ys)
  where
    by : (b : Bool) → same_effect x y ≡ b → (difference_from q (n + 1) xs ys ≡ None → xs ≡ ys) → (x ∷ xs) ≡ (y ∷ ys)
    by true is rest = ap (λ z. z ∷ xs) (same_effect_is x y is) ∙ ap (λ zs. y ∷ zs) (rest (sym (ap (λ b. if b then difference_from q (n + 1) xs ys else Some (record { subsystem = q; at = n; book = Some x; acts = Some y })) is) ∙ none))
    by false is rest = absurd (none-some {A = BookFault} (record { subsystem = q; at = n; book = Some x; acts = Some y }) (sym none ∙ ap (λ b. if b then difference_from q (n + 1) xs ys else Some (record { subsystem = q; at = n; book = Some x; acts = Some y })) is))

-- and equal ones have none
pub none_in_itself : (q n : ℕ) (xs : List Effect) → difference_from q n xs xs ≡ None
none_in_itself q n [] = refl
none_in_itself q n (x ∷ xs) = ap (λ b. if b then difference_from q (n + 1) xs xs else Some (record { subsystem = q; at = n; book = Some x; acts = Some x })) (effect_itself x) ∙ none_in_itself q (n + 1) xs
