use Rattle.std.proofs.Common.{◌∙◌, Some, ap, sym, arith}
use Rattle.instance_state.specs.declared.rows.Row.{Row}
use Rattle.instance_state.specs.Rows.{done_to}
use Rattle.instance_state.proofs.NextPieces.{way_within}
use Rattle.instance_state.proofs.Undone.{fewer_left, no_way_left, passed_over, way_left}
use Rattle.instance_state.proofs.standing.Standing.way_before.Goals as goal

pub row-row-requires : goal.row-row-requires
row-row-requires c =
    let t = c.args.rows.now.shape in
    way_within t c.requires.keeps.tree (done_to t (Some c.args.last)) c.loop-way.invariant.bar c.in-Some.step (sym c.loop-way.invariant.is ∙ c.in-Some.is)

pub loop-way-preserved : goal.loop-way-preserved
loop-way-preserved c =
    let t = c.args.rows.now.shape in
    passed_over t c.requires.keeps.tree c.args.last c.args.self.now.onward c.requires.free c.loop-way.way c.loop-way.invariant c.in-Some.step c.in-Some.is
    (omega (arith, c.if-row-len.false, ap (λ (r : Row). r.len) c.row-len.ensures.row, ap (λ (r : Row). r.len) c.row-row.ensures.row))
    c.row-row.result.other (ap (λ (r : Row). r.other) c.row-row.ensures.row)

pub returns-then-row-len : goal.returns-then-row-len
returns-then-row-len c on =
    let t = c.args.rows.now.shape in
    sym c.in-Some.is
    ∙ way_left t c.requires.keeps.tree c.args.last c.args.self.now.onward c.requires.free c.loop-way.way c.loop-way.invariant c.in-Some.step c.in-Some.is
    (omega (arith, c.if-row-len.true, ap (λ (r : Row). r.len) c.row-len.ensures.row, ap (λ (r : Row). r.len) c.row-row.ensures.row))

pub loop-way-smaller : goal.loop-way-smaller
loop-way-smaller c =
    let t = c.args.rows.now.shape in
    fewer_left t c.requires.keeps.tree c.args.last c.args.self.now.onward c.loop-way.way c.loop-way.invariant c.in-Some.step c.in-Some.is c.row-row.result.other
    (ap (λ (r : Row). r.other) c.row-row.ensures.row)

pub returns : goal.returns
returns c on =
    let t = c.args.rows.now.shape in
    c.in_default.is
    ∙ no_way_left t c.args.last c.args.self.now.onward c.requires.free c.loop-way.way c.loop-way.invariant c.in_default.is
