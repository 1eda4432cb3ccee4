use Rattle.std.proofs.Common.{◌≡◌, ◌∙◌, ◌+◌, ◌-◌, ◌++◌, suc, flat_map, ap, sym, append_assoc, arith}
use Rattle.process_tree.specs.Blocks.{numbers_from}
use Rattle.driver_answers.specs.Waits.{line_if_active}
use Rattle.driver_answers.proofs.waits.put_waits.Goals as goal

pub loop-i-preserved : goal.loop-i-preserved
loop-i-preserved g c =
    let f = line_if_active c.args.engine.now.core in
    let i = c.loop-i.i in
    let n = c.in-Ok.count in
    let more : n - i ≡ suc (n - (i + 1)) = omega (arith, c.loop-i-test.true) in
    record {
      within = omega (arith, c.loop-i-test.true);
      lines = ap (λ t. t ++ flat_map f (numbers_from (i + 1 + 1) (n - (i + 1)))) c.in_ok-put_if_active.ensures
          ∙ (append_assoc c.loop-i.out.items (f (i + 1)) (flat_map f (numbers_from (i + 1 + 1) (n - (i + 1))))
          ∙ (ap (λ k. c.loop-i.out.items ++ flat_map f (numbers_from (i + 1) k)) (sym more) ∙ c.loop-i.invariant.lines));
    }
