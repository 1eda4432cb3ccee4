-- One step applied to the box of its subsystem.
use Rattle.std.proofs.Common.{◌≡◌, ℕ, false, List, [], ◌∷◌, ◌++◌, sym, ap, ◌∙◌}
use Rattle.std.proofs.Math.IntN.{ℤ}
use Rattle.process_tree.specs.declared.entry.Entry.{Entry}
use Rattle.process_tree.specs.declared.plan.Plan.{Plan}
use Rattle.commute_table.specs.declared.op.Op.{Op}
use Rattle.resource_box.specs.Meaning.{value_at, with_value}
use Rattle.resource_box.specs.Table.{applied, kind_of}
use Rattle.subsystem_store.specs.Values.{settled}
use Rattle.history_files.specs.Effects.{call_of, effects_from, key_of, subsystem_of}
use Rattle.value_rules.specs.HistoryValues.{value_after}
use Rattle.value_replay.proofs.Executed.{alike-set, value-on}
use Rattle.serial_values.specs.Told.{HasValuesOf}

module _ (ops : List Op) (plans : List Plan) (es : List Entry) (e : Entry) (q : ℕ) (on : subsystem_of ops e.op ≡ q) (is_step : e.undo ≡ false) where
  abbrev key : ℕ
  key = key_of plans e.process e.step

  -- it then has the values with the step, where it has what the call makes of what it had
  pub has-applied : (old ready new : List (ℕ × ℤ)) → HasValuesOf ops plans es q old → ((k : ℕ) → value_at ready k ≡ value_at old k)
      → new ≡ with_value ready key (applied (kind_of q) (call_of ops plans e) (value_at ready key)) → HasValuesOf ops plans (es ++ e ∷ []) q new
  has-applied old ready new have same changed k =
      ap (λ ps. value_at ps k) changed
      ∙ (alike-set ready (settled (kind_of q) (effects_from ops plans q 0 es)).pairs key
      (applied (kind_of q) (call_of ops plans e) (value_at ready key)) (applied (kind_of q) (call_of ops plans e) (value_after ops plans es q key))
      (ap (applied (kind_of q) (call_of ops plans e)) (same key ∙ have key)) (λ j. same j ∙ have j) k
      ∙ sym (value-on ops plans es e q on is_step k))
