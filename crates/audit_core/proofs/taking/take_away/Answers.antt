use Rattle.std.proofs.Common.{sym}
use Rattle.std.proofs.lemmas.Bool.{false≢true}
use Rattle.process_tree.specs.Conflicts.{do_conflict}
use Rattle.dependence_model.specs.Dependence.{none_taken}
use Rattle.audit_core.proofs.Takings.{some-taken, some-stays, at-taken, all-taken-known}
use Rattle.audit_core.proofs.taking.take_away.Goals as goal

pub loop-more-init : goal.loop-more-init
loop-more-init c = record { known = c.requires.known; taken = none_taken; stays = λ none. absurd (false≢true (sym none)) }

pub loop-more-preserved : goal.loop-more-preserved
loop-more-preserved c =
    let table = do_conflict c.args.c.now in
    let xs = c.loop-more.list.items in
    let ys = c.take_some.new.list.items in
    let t = c.in_ok-more.more in
    let took = c.in_ok-more.ensures.took in
    record {
      known = all-taken-known c.args.c.now table (some-taken table xs xs ys t none_taken took) c.loop-more.invariant.known;
      taken = some-taken table c.args.list.now.items xs ys t c.loop-more.invariant.taken took;
      stays = some-stays table xs ys t took;
    }

pub returns-clause-left : goal.returns-clause-left
returns-clause-left c = record {
  taken = c.loop-more.invariant.taken;
  no_more = λ ys t. let k = at-taken (do_conflict c.args.c.now) c.loop-more.list.items ys t in c.loop-more.invariant.stays c.loop-more-test.false k.0 ys k.1;
}
