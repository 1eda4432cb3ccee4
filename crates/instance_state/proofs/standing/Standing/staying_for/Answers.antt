use Rattle.std.proofs.Common.{◌∙◌, ◌-◌, ap, sym}
use Rattle.machine_model.specs.Progress.{staying_for}
use Rattle.instance_state.specs.declared.rows.Row.{Row}
use Rattle.instance_state.specs.Standings.{progress_of}
use Rattle.instance_state.proofs.NextPieces.{staying_is, way_within}
use Rattle.instance_state.proofs.standing.Standing.staying_for.Goals as goal

pub row-requires : goal.row-requires
row-requires c =
    way_within c.args.rows.now.shape c.requires.keeps.tree _ c.args.self.now.onward c.in-Some.step (sym c.requires.way ∙ c.in-Some.is)

pub returns-in-Some : goal.returns-in-Some
returns-in-Some c =
    let t = c.args.rows.now.shape in
    let p = progress_of t c.args.self.now in
    ap (λ (r : Row). r.len - 1) c.row.ensures.row
    ∙ staying_is t c.requires.keeps.tree p.net p.onward c.in-Some.step (sym c.requires.way ∙ c.in-Some.is)
    ∙ ap (staying_for p) (sym c.in-Some.is)
