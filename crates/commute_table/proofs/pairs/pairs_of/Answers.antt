use Rattle.std.proofs.Common.{◌-◌, ◌∷◌, [], take, drop, length}
use Rattle.std.proofs.lemmas.Result.{err_from_is_err_and}
use Rattle.process_tree.proofs.Every.{Each-append}
use Rattle.commute_table.specs.Document.{IsPairOf}
use Rattle.commute_table.proofs.Walks.{as_cons}
use Rattle.commute_table.proofs.PairWalks.{pairs_next, pairs_fail, pairs_stop}
use Rattle.commute_table.proofs.pairs.pairs_of.Goals as goal

pub returns-in_err-pair_said : goal.returns-in_err-pair_said
returns-in_err-pair_said c =
    let p = err_from_is_err_and c.from_residual.result c.from_residual.ensures.1 in
    let rest = c.loop-rest.rest.now in
    let is = as_cons rest c.first-item.result c.in-len1-up.len_at_least c.first-item.is in
    rw (p.1, p.2) (record { said = pairs_fail c.in_err-pair_said.field-0.0 c.args.version c.args.ops.now c.loop-rest.pairs.items rest (take (length rest - 1) (drop 1 rest)) c.first-item.result _ is c.in_err-pair_said.ensures.said c.loop-rest.invariant.same; within = tt })

pub loop-rest-preserved : goal.loop-rest-preserved
loop-rest-preserved c =
    let rest = c.loop-rest.rest.now in
    let pair = c.in_ok-pair_said.field-0 in
    let is = as_cons rest c.first-item.result c.in-len1-up.len_at_least c.first-item.is in
    rw c.in_ok-push.ensures.items (record {
      same = pairs_next c.args.version c.args.ops.now c.loop-rest.pairs.items pair rest (take (length rest - 1) (drop 1 rest)) c.first-item.result _ is c.in_ok-pair_said.ensures.said c.loop-rest.invariant.same;
      within = Each-append (IsPairOf (length c.args.ops.now)) c.loop-rest.pairs.items (pair ∷ []) c.loop-rest.invariant.within (c.in_ok-pair_said.ensures.within, tt);
    })

pub returns : goal.returns
returns c = rw c.new.ensures (record { said = pairs_stop c.args.version c.args.ops.now c.loop-rest.pairs.items c.loop-rest.rest.now _ c.in_default.len_below c.loop-rest.invariant.same; within = c.loop-rest.invariant.within })
