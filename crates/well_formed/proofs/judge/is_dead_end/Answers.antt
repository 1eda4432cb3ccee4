use Rattle.std.proofs.Common.{sym, ap, ◌∙◌, arith, slice_index_or}
use Rattle.process_tree.specs.declared.step.StepKind.TheVariants.{C}
use Rattle.process_tree.specs.Shape.{shape_by, can_be_refused}
use Rattle.well_formed.proofs.Judging.{dead_free, dead_sure, dead_looked, fixed_inside}
use Rattle.well_formed.proofs.Standing.{on_within}
use Rattle.well_formed.proofs.judge.is_dead_end.Goals as goal

pub returns-then-fixed-eq0 : goal.returns-then-fixed-eq0
returns-then-fixed-eq0 c = dead_free (shape_by c.args.kinds.now c.args.paths.now) c.args.branch.now c.args.step c.args.fixed c.requires.orderly c.requires.on c.requires.fixed (omega (arith, c.if-fixed-eq0.true))

pub bounds-kinds-from : goal.bounds-kinds-from
bounds-kinds-from c =
    let inside = on_within (shape_by c.args.kinds.now c.args.paths.now) c.args.branch.now c.args.step c.requires.orderly c.requires.on in
    omega (arith, inside, c.from.ensures)

pub has_way_on-requires-clause-within : goal.has_way_on-requires-clause-within
has_way_on-requires-clause-within c = fixed_inside (shape_by c.args.kinds.now c.args.paths.now) c.args.branch.now c.args.fixed c.requires.fixed

pub returns-then-not-can_be_refused : goal.returns-then-not-can_be_refused
returns-then-not-can_be_refused c =
    let kind = sym (ap (λ n. can_be_refused (slice_index_or c.args.kinds.now n C)) c.from.ensures) ∙ sym c.can_be_refused.ensures ∙ c.if-not-can_be_refused.true in
    dead_sure (shape_by c.args.kinds.now c.args.paths.now) c.args.branch.now c.args.step c.args.fixed c.requires.orderly c.requires.on c.requires.fixed kind

pub returns : goal.returns
returns c =
    let kind = sym (ap (λ n. can_be_refused (slice_index_or c.args.kinds.now n C)) c.from.ensures) ∙ sym c.can_be_refused.ensures ∙ c.if-not-can_be_refused.false in
    dead_looked (shape_by c.args.kinds.now c.args.paths.now) c.args.branch.now c.args.step c.args.fixed c.has_way_on.result c.requires.orderly c.requires.on c.requires.fixed (omega (arith, c.if-fixed-eq0.false)) kind c.has_way_on.ensures
