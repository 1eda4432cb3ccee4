-- Over plans with the same steps the same is told.
use Rattle.std.proofs.Common.{◌≡◌, ◌∙◌, ◌+◌, ◌-◌, ◌==◌, ℕ, List, [], ◌∷◌, map, slice_index_or, if◌then◌else◌, Option, Some, None, codes, refl, ap, pos}
use Rattle.process_tree.specs.Blocks.{outline}
use Rattle.process_tree.specs.declared.entry.Entry.{Entry}
use Rattle.process_tree.specs.declared.plan.Plan.{Plan}
use Rattle.process_tree.specs.declared.step.Step.{Step}
use Rattle.commute_table.specs.declared.catalog.Catalog.{Catalog}
use Rattle.commute_table.specs.declared.op.Op.{Op}
use Rattle.subsystem_store.specs.declared.effect.Effect.{Effect}
use Rattle.history_files.specs.Effects.{effect_of, effects_from, subsystem_of, verb_of}
use Rattle.value_conflict.specs.Names.{commuting_names}
use Rattle.value_replay.specs.Replays.{books}
use Rattle.process_report.specs.Report.{section}
use Rattle.replay_run.specs.Printed.{values_lines}
use Rattle.serial_values.specs.Told.{values_text, values_unless}

-- the steps of these plans
abbrev pub steps_in : List Plan → List (List Step)
steps_in plans = map (λ p. (outline p.tree).steps) plans

module _ (ops : List Op) (ps qs : List Plan) (same : steps_in ps ≡ steps_in qs) where
  same_effect : (n : ℕ) (e : Entry) → effect_of ops ps n e ≡ effect_of ops qs n e
  same_effect n e =
      ap (λ (steps : List (List Step)). record {
        number = n;
        process = e.process;
        step = e.step;
        undo = e.undo;
        call = record {
          verb = verb_of ops e.op;
          key = slice_index_or (map (λ s. s.key) (slice_index_or steps (e.process - 1) [])) e.step 0;
          amount = slice_index_or (map (λ s. s.amount) (slice_index_or steps (e.process - 1) [])) e.step (pos 0);
        };
      }) same

  same_effects : (q n : ℕ) (es : List Entry) → effects_from ops ps q n es ≡ effects_from ops qs q n es
  same_effects q n [] = refl
  same_effects q n (e ∷ es) =
      ap (λ (x : Effect). if subsystem_of ops e.op == q then x ∷ effects_from ops ps q (n + 1) es else effects_from ops ps q (n + 1) es) (same_effect n e)
      ∙ ap (λ (xs : List Effect). if subsystem_of ops e.op == q then effect_of ops qs n e ∷ xs else xs) (same_effects q (n + 1) es)

  pub same_books : (es : List Entry) → books ops ps es ≡ books ops qs es
  same_books es = λ i q. same_effects q 0 es i

-- The text of values over plans with the same steps.
pub same_values_text : (c : Catalog) (ps qs : List Plan) → steps_in ps ≡ steps_in qs → (es : List Entry) → values_text c ps es ≡ values_text c qs es
same_values_text c ps qs same es = by (commuting_names c)
  where
    by : (o : Option (List ℕ × List ℕ)) → values_unless c ps es o ≡ values_unless c qs es o
    by None = ap (λ (b : ℕ → List Effect). section (codes "values") (values_lines b)) (same_books c.ops ps qs same es)
    by (Some names) = refl
