use Rattle.std.proofs.Common.{◌≡◌, ◌++◌, ◌∷◌, ◌-◌, ◌∙◌, [], ℕ, length, take, get_or, sym, ap, subst, arith}
use Rattle.audit_core.specs.Arrows.{IsOnWay}
use Rattle.audit_core.proofs.Layers.{one_more_set, last_set, on_way-begins, on_way-next, on_way-more, on_way-ends}
use Rattle.audit_core.proofs.cycles.cycle_through.Goals as goal

pub loop-left-init : goal.loop-left-init
loop-left-init c =
    let sets = c.args.layers.now in
    let first = c.args.first in
    let n : ℕ = length sets - 1 in
    let some = c.requires.layers.2 in
    let cycle : c.push.new.self.items ≡ first ∷ [] = c.in_ok-push.ensures.items ∙ ap (λ xs. xs ++ first ∷ []) c.new-cycle.ensures.items in
    record {
      within = omega arith;
      way = λ arrow arrows shortest.
          subst (IsOnWay arrow first (length sets) (take n sets) first) (sym cycle)
          (on_way-begins arrow c.args.rows.now arrows first sets (take n sets) (get_or sets n []) c.requires.first shortest (last_set sets n (omega (arith, some.count))));
    }

pub least_next-last-requires-clause-some : goal.least_next-last-requires-clause-some
least_next-last-requires-clause-some c =
    let sets = c.args.layers.now in
    let left : ℕ = c.loop-left.left - 1 in
    let given = c.requires.layers in
    on_way-next given.0 c.args.rows.now given.1 c.args.first (length sets) c.loop-left.last (take c.loop-left.left sets) (take left sets) c.index-layers-left.result c.loop-left.cycle.items
    (c.loop-left.invariant.way given.0 given.1 given.2)
    (one_more_set sets c.index-layers-left.result left c.loop-left.left (omega (arith, c.loop-left-test.true)) (omega (arith, c.loop-left-test.true, c.loop-left.invariant.within)) c.index-layers-left.is)

pub least_next-last-requires-clause-i : goal.least_next-last-requires-clause-i
least_next-last-requires-clause-i c = let given = c.requires.layers in let way = c.loop-left.invariant.way given.0 given.1 given.2 in way.within

pub loop-left-preserved : goal.loop-left-preserved
loop-left-preserved c =
    let sets = c.args.layers.now in
    let left : ℕ = c.loop-left.left - 1 in
    let next = c.least_next-last.result in
    record {
      within = omega (arith, c.loop-left.invariant.within);
      way = λ arrow arrows shortest.
          subst (IsOnWay arrow c.args.first (length sets) (take left sets) next) (sym c.in_ok-push-2.ensures.items)
          (on_way-more arrow c.args.rows.now arrows c.args.first (length sets) c.loop-left.last next (take c.loop-left.left sets) (take left sets) c.index-layers-left.result c.loop-left.cycle.items
          (c.loop-left.invariant.way arrow arrows shortest)
          (one_more_set sets c.index-layers-left.result left c.loop-left.left (omega (arith, c.loop-left-test.true)) (omega (arith, c.loop-left-test.true, c.loop-left.invariant.within)) c.index-layers-left.is)
          c.least_next-last.ensures.within c.least_next-last.ensures.next c.least_next-last.ensures.least);
    }

pub returns : goal.returns
returns c =
    let sets = c.args.layers.now in
    let none : c.loop-left.left ≡ 0 = omega (arith, c.loop-left-test.false) in
    λ arrow arrows shortest.
    on_way-ends arrow c.args.rows.now arrows c.args.first (length sets) c.loop-left.last (take c.loop-left.left sets) c.loop-left.cycle.items
    (ap (λ n. length (take n sets)) none) (c.loop-left.invariant.way arrow arrows shortest)
