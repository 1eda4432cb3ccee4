use Rattle.std.proofs.Common.{◌∙◌, sym, ap}
use Rattle.machine_model.specs.Progress.{next_forward, staying, undo_or}
use Rattle.instance_state.specs.Standings.{progress_of}
use Rattle.instance_state.proofs.NextPieces.{last_pending}
use Rattle.instance_state.proofs.standing.Standing.next.Goals as goal

pub returns-in-Some-clause-work : goal.returns-in-Some-clause-work
returns-in-Some-clause-work c =
    let t = c.args.rows.now.shape in
    let p = progress_of t c.args.self.now in
    sym (ap (λ o. (undo_or (next_forward p) o).work) (last_pending t c.args.self.now.last c.in-Some.step (staying p) c.in-Some.is (λ e. c.if-pending-eq0.false (c.pending.ensures ∙ e))))

pub returns-in-Some-clause-step : goal.returns-in-Some-clause-step
returns-in-Some-clause-step c =
    let t = c.args.rows.now.shape in
    let p = progress_of t c.args.self.now in
    sym (ap (λ o. (undo_or (next_forward p) o).step) (last_pending t c.args.self.now.last c.in-Some.step (staying p) c.in-Some.is (λ e. c.if-pending-eq0.false (c.pending.ensures ∙ e))))
