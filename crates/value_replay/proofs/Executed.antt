-- One step executed: its line, and what the boxes then have.
use Rattle.std.proofs.Common.{◌≡◌, ◌≢◌, ◌⊎◌, inl, inr, ◌+◌, ℕ, true, false, eqb, List, [], ◌∷◌, ◌++◌, length, sym, ap, ◌∙◌, Some, append_assoc, append-nil, if◌then◌else◌}
use Rattle.std.proofs.Math.IntN.{ℤ}
use Rattle.std.specs.Prelude.{slice_set}
use Rattle.std.specs.List.{slice_get}
use Rattle.std.proofs.lemmas.Bool.Decides.{eqb_tells}
use Rattle.std.proofs.lemmas.List.Sums.{fold_push}
use Rattle.process_tree.specs.declared.entry.Entry.{Entry}
use Rattle.process_tree.specs.declared.plan.Plan.{Plan}
use Rattle.commute_table.specs.declared.op.Op.{Op}
use Rattle.resource_box.specs.Meaning.{value_at, with_value}
use Rattle.resource_box.specs.Table.{applied, kind_of}
use Rattle.resource_box.proofs.Maps.{keeps_other_keys, reads_what_was_set}
use Rattle.subsystem_store.specs.declared.effect.Effect.{Effect}
use Rattle.subsystem_store.specs.Values.{Settled, done, settle, settled, take_last, undone, unused}
use Rattle.history_files.specs.Effects.{call_of, effect_of, effects_from, key_of, subsystem_of}
use Rattle.history_files.proofs.NextEffects.{effects_from-append, no_effect, one_effect}
use Rattle.history_files.proofs.Places.{place_of_set}
use Rattle.value_rules.specs.HistoryValues.{value_after}
use Rattle.value_replay.specs.Replays.{HaveValues, books, line_behind, lines_behind}

module _ (ops : List Op) (plans : List Plan) where
  -- the lines with one entry more
  pub lines-more : (front xs : List Entry) (e : Entry) → lines_behind ops plans front (xs ++ e ∷ []) ≡ lines_behind ops plans front xs ++ line_behind ops plans (front ++ xs) e ∷ []
  lines-more front [] e = ap (λ fs. line_behind ops plans fs e ∷ []) (sym (append-nil front))
  lines-more front (x ∷ xs) e =
      ap (λ ls. line_behind ops plans front x ∷ ls)
      (lines-more (front ++ x ∷ []) xs e ∙ ap (λ fs. lines_behind ops plans (front ++ x ∷ []) xs ++ line_behind ops plans fs e ∷ []) (append_assoc front (x ∷ []) xs))

  -- the value at each key with one step more
  pub value-off : (es : List Entry) (e : Entry) (q key : ℕ) → subsystem_of ops e.op ≢ q → value_after ops plans (es ++ e ∷ []) q key ≡ value_after ops plans es q key
  value-off es e q key off =
      ap (λ b. value_at (settled (kind_of q) b).pairs key)
      (effects_from-append ops plans q 0 es (e ∷ []) ∙ (ap (λ x. effects_from ops plans q 0 es ++ x) (no_effect ops plans q (0 + length es) e off) ∙ append-nil (effects_from ops plans q 0 es)))

  module _ (es : List Entry) (e : Entry) (q : ℕ) (on : subsystem_of ops e.op ≡ q) (is_step : e.undo ≡ false) where
    abbrev s : Settled
    s = settled (kind_of q) (effects_from ops plans q 0 es)

    abbrev x : Effect
    x = effect_of ops plans (0 + length es) e

    with_step : settled (kind_of q) (effects_from ops plans q 0 (es ++ e ∷ [])) ≡ done (kind_of q) s x
    with_step =
        ap (settled (kind_of q)) (effects_from-append ops plans q 0 es (e ∷ []) ∙ ap (λ y. effects_from ops plans q 0 es ++ y) (one_effect ops plans q (0 + length es) e on))
        ∙ (fold_push (settle (kind_of q)) unused (effects_from ops plans q 0 es) x
        ∙ ap (λ u. if u then undone (kind_of q) s x (take_last x s.undoable) else done (kind_of q) s x) is_step)

    pub value-on : (key : ℕ) → value_after ops plans (es ++ e ∷ []) q key
        ≡ value_at (with_value s.pairs (key_of plans e.process e.step) (applied (kind_of q) (call_of ops plans e) (value_after ops plans es q (key_of plans e.process e.step)))) key
    value-on key = ap (λ (r : Settled). value_at r.pairs key) with_step

-- maps that read alike do so once the same is set
pub alike-set : (one two : List (ℕ × ℤ)) (key : ℕ) (v w : ℤ) → v ≡ w → ((k : ℕ) → value_at one k ≡ value_at two k) → (k : ℕ)
    → value_at (with_value one key v) k ≡ value_at (with_value two key w) k
alike-set one two key v w is alike k = by (eqb_tells k key)
  where
    by : ((eqb k key ≡ true) × (k ≡ key)) ⊎ ((eqb k key ≡ false) × (k ≢ key)) → value_at (with_value one key v) k ≡ value_at (with_value two key w) k
    by (inl here) =
        ap (value_at (with_value one key v)) here.1 ∙ (reads_what_was_set one key v ∙ (is ∙ (sym (reads_what_was_set two key w) ∙ ap (value_at (with_value two key w)) (sym here.1))))
    by (inr there) = keeps_other_keys one key v k there.1 ∙ (alike k ∙ sym (keeps_other_keys two key w k there.1))

-- A step executed on the box of its subsystem.
module _ {B : Type 0} (values_of : B → List (ℕ × ℤ)) (ops : List Op) (plans : List Plan) (es : List Entry) (e : Entry) (boxes : List B) (place : ℕ) (old new : B)
    (on : subsystem_of ops e.op ≡ place) (is_step : e.undo ≡ false) (at : slice_get boxes place ≡ Some old)
    (have : HaveValues values_of (books ops plans es) boxes) where
  abbrev key : ℕ
  key = key_of plans e.process e.step

  pub has-before : value_at (values_of old) key ≡ value_after ops plans es (subsystem_of ops e.op) key
  has-before = have place old at key ∙ ap (λ q. value_after ops plans es q key) (sym on)

  -- the boxes have the values with it, where its box has what the call makes of what it had
  pub has-after : (ready : List (ℕ × ℤ)) → ((k : ℕ) → value_at ready k ≡ value_at (values_of old) k)
      → values_of new ≡ with_value ready key (applied (kind_of place) (call_of ops plans e) (value_at ready key))
      → HaveValues values_of (books ops plans (es ++ e ∷ [])) (slice_set boxes place new)
  has-after ready same changed q b there k = by (place_of_set boxes place new q b there)
    where
      by : ((q ≡ place) × (b ≡ new)) ⊎ ((q ≢ place) × (slice_get boxes q ≡ Some b)) → value_at (values_of b) k ≡ value_after ops plans (es ++ e ∷ []) q k
      by (inl here) =
          ap (λ y. value_at (values_of y) k) here.1
          ∙ (ap (λ ps. value_at ps k) changed
          ∙ (alike-set ready (settled (kind_of place) (effects_from ops plans place 0 es)).pairs key
          (applied (kind_of place) (call_of ops plans e) (value_at ready key)) (applied (kind_of place) (call_of ops plans e) (value_after ops plans es place key))
          (ap (applied (kind_of place) (call_of ops plans e)) (same key ∙ have place old at key)) (λ j. same j ∙ have place old at j) k
          ∙ (sym (value-on ops plans es e place on is_step k) ∙ ap (λ p. value_after ops plans (es ++ e ∷ []) p k) (sym here.0))))
      by (inr other) =
          have q b other.1 k ∙ sym (value-off ops plans es e q k (λ same'. other.0 (sym same' ∙ on)))
