use Rattle.std.proofs.Common.{◌∙◌, ◌-◌, ◌+◌, ◌++◌, List, ℕ, ap, sym, append_assoc, arith}
use Rattle.std.specs.List.{flat_map}
use Rattle.process_tree.specs.Blocks.{numbers_from}
use Rattle.process_report.specs.Lines.{text_of}
use Rattle.serial_values.specs.Told.{subsystem_lines}
use Rattle.serial_values.proofs.Subsystems.{numbers-more, text-append}
use Rattle.serial_values.proofs.telling.put_values.Goals as goal

pub loop-q-preserved : goal.loop-q-preserved
loop-q-preserved c =
    let lines = subsystem_lines c.args.ops.now c.args.plans.now c.args.steps.now in
    let q = c.loop-q.q in
    let later = flat_map lines (numbers_from (q + 1) (8 - (q + 1))) in
    let out = c.loop-q.out.items in
    record {
      told =
          ap (λ (t : List ℕ). t ++ text_of later) c.in_ok-put_subsystem.ensures
          ∙ (append_assoc out (text_of (lines q)) (text_of later)
          ∙ (ap (λ (t : List ℕ). out ++ t) (sym (text-append (lines q) later))
          ∙ (ap (λ ns. out ++ text_of (flat_map lines ns)) (sym (numbers-more q 8 c.loop-q-test.true)) ∙ c.loop-q.invariant.told)));
      within = omega (arith, c.loop-q-test.true);
    }
