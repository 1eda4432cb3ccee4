use Rattle.std.proofs.Common.{◌∙◌, ◌-◌, length, take, drop}
use Rattle.process_tree.specs.Conflicts.{do_conflict}
use Rattle.trace_verify.proofs.NumbersKept.{as_cons, pairs-next}
use Rattle.trace_verify.proofs.numbering.table_of.Goals as goal

pub loop-rest-preserved : goal.loop-rest-preserved
loop-rest-preserved c =
    let rest = c.loop-rest.rest.now in
    let after = take (length rest - 1) (drop 1 rest) in
    let is = as_cons rest c.pair-item.result c.in-len1-up.len_at_least c.pair-item.is in
    record {
      pairs = λ a b. pairs-next c.args.ops.now a b rest after c.pair-item.result (do_conflict c.loop-rest.table a b) (do_conflict c.mark.new.table a b) _ is
          (c.loop-rest.invariant.pairs a b) (c.mark.ensures.pairs a b);
      count = c.mark.ensures.count ∙ c.loop-rest.invariant.count;
    }
