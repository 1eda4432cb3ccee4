-- What is among effects, and a store at the place of one that was set.
use Rattle.std.proofs.Common.{◌≡◌, ◌≢◌, ◌⊎◌, inl, inr, ℕ, Bool, true, false, List, [], ◌∷◌, ◌++◌, ◌||◌, refl, ◌∙◌, ap, subst, Some}
use Rattle.std.specs.Prelude.{slice_set}
use Rattle.std.specs.List.{slice_get, list_any}
use Rattle.std.proofs.lemmas.Bool.{and_from, eq-eqb, or_right}
use Rattle.std.proofs.lemmas.Cmp.{int_eq_equiv}
use Rattle.std.proofs.lemmas.List.Folds.{list_any-append}
use Rattle.commute_table.specs.Bytes.{verb_code}
use Rattle.resource_box.specs.declared.call.Call.{Call}
use Rattle.subsystem_store.specs.declared.effect.Effect.{Effect}
use Rattle.subsystem_store.specs.Values.{same_call}
use Rattle.history_files.specs.Sound.{are_among, is_among, same_effect}
use Rattle.history_files.proofs.Clearing.{goes_over}
use Rattle.history_files.proofs.Places.{place_of_set}

-- a call is the same as itself,
pub call_itself : (a : Call) → same_call a a ≡ true
call_itself a = rw (eq-eqb (verb_code a.verb) (verb_code a.verb) refl, eq-eqb a.key a.key refl) (int_eq_equiv.refl a.amount)

-- and so is an effect
pub effect_itself : (e : Effect) → same_effect e e ≡ true
effect_itself e = by e.number e.process e.step e.undo e.call
  where
    by : (number process step : ℕ) (undo : Bool) (call : Call) → let e : Effect = record { number = number; process = process; step = step; undo = undo; call = call } in same_effect e e ≡ true
    by number process step true call = rw (eq-eqb number number refl, eq-eqb process process refl, eq-eqb step step refl) (call_itself call)
    by number process step false call = rw (eq-eqb number number refl, eq-eqb process process refl, eq-eqb step step refl) (call_itself call)

-- so one that stands behind some is among them with it,
is_among_behind : (before : List Effect) (e : Effect) (es : List Effect) → is_among e (before ++ e ∷ es) ≡ true
is_among_behind before e es =
    list_any-append (same_effect e) before (e ∷ es)
    ∙ or_right (list_any (same_effect e) before) (list_any (same_effect e) (e ∷ es)) (ap (λ b. b || list_any (same_effect e) es) (effect_itself e))

-- and so are all that do,
pub are_among_behind : (before es : List Effect) → are_among es (before ++ es) ≡ true
are_among_behind before [] = refl
are_among_behind before (e ∷ es) =
    and_from (is_among e (before ++ e ∷ es)) (are_among es (before ++ e ∷ es)) (is_among_behind before e es)
    (subst (λ all. are_among es all ≡ true) (goes_over before es e) (are_among_behind (before ++ e ∷ []) es))

-- a store at the place of one that was set is that one
pub the_set : {A : Type 0} (xs : List A) (q : ℕ) (y z : A) → slice_get (slice_set xs q y) q ≡ Some z → z ≡ y
the_set xs q y z at = by (place_of_set xs q y q z at)
  where
    by : ((q ≡ q) × (z ≡ y)) ⊎ ((q ≢ q) × (slice_get xs q ≡ Some z)) → z ≡ y
    by (inl here) = here.1
    by (inr there) = absurd (there.0 refl)
