use Rattle.std.proofs.Common.{◌≡◌, ◌+◌, ◌++◌, ◌∷◌, [], ap, sym, ◌∙◌, replicate, arith, append-nil}
use Rattle.process_tree.specs.declared.play.Outcome.TheVariants.{Refused}
use Rattle.process_tree.specs.Shape.{shape_by, branch_to}
use Rattle.well_formed.proofs.Standing.{on_within}
use Rattle.well_formed.proofs.Tried.{tried_below, tried_is, tried_flat, tried_yes, tried_no, one_refusal}
use Rattle.well_formed.proofs.outcomes.pass_ways.Goals as goal
use Rattle.well_formed.proofs.outcomes.pass_ways.Goals.{then-is_first_tried+in_ok-push, else-is_first_tried}

pub loop-other-init : goal.loop-other-init
loop-other-init c =
    let t = shape_by c.args.kinds.now c.args.paths.now in
    let os = c.args.outcomes.now.items in
    sym (ap (λ n. os ++ replicate n Refused) (tried_flat t c.args.branch.now 0 c.args.first (omega arith) (λ b from to. c.requires.early b to)) ∙ append-nil os)

pub is_first_tried-requires-clause-step : goal.is_first_tried-requires-clause-step
is_first_tried-requires-clause-step c =
    let t = shape_by c.args.kinds.now c.args.paths.now in
    omega (arith, on_within t (branch_to t c.args.step) c.args.step c.requires.orderly c.requires.on, c.loop-other-test.true)

pub loop-other-preserved : goal.loop-other-preserved
loop-other-preserved c =
    let t = shape_by c.args.kinds.now c.args.paths.now in
    let v = c.args.branch.now in
    let os = c.args.outcomes.now.items in
    let n = c.loop-other.other in
    elim c.if-is_first_tried.branch [
      | then-is_first_tried+in_ok-push f ↦
          ap (λ v. v.items) f.outcomes-is
          ∙ f.in_ok-push.ensures.items
          ∙ ap (λ xs. xs ++ Refused ∷ []) c.loop-other.invariant
          ∙ one_refusal os (tried_below t v n) (tried_below t v (n + 1)) (tried_yes t v n (sym c.is_first_tried.ensures ∙ f.if-is_first_tried.true))
      | else-is_first_tried f ↦
          ap (λ v. v.items) f.outcomes-is
          ∙ c.loop-other.invariant
          ∙ ap (λ k. os ++ replicate k Refused) (sym (tried_no t v n (sym c.is_first_tried.ensures ∙ f.if-is_first_tried.false)))
    ]

pub returns : goal.returns
returns c =
    let t = shape_by c.args.kinds.now c.args.paths.now in
    let v = c.args.branch.now in
    let last : c.loop-other.other ≡ c.args.step = omega (arith, c.loop-other.auto.other-end c.requires.first, c.loop-other-test.false) in
    c.loop-other.invariant
    ∙ ap (λ k. c.args.outcomes.now.items ++ replicate k Refused)
    (ap (tried_below t v) last ∙ ap (λ u. tried_below t u c.args.step) c.requires.branch ∙ sym (tried_is t (branch_to t c.args.step) c.args.step))
