use Rattle.std.proofs.Common.{◌≡◌, ◌++◌, List, OnOk, ap, ◌∙◌, subst, rules, ℕ}
use Rattle.process_tree.specs.declared.plan.Plan.{Plan}
use Rattle.process_text.specs.Canonical.{line_of}
use Rattle.machine_model.specs.Moment.{Piece}
use Rattle.driver_requests.specs.Answers.{called_piece, with_words, work_call}
use Rattle.driver_requests.proofs.Words.{called}
use Rattle.driver_requests.proofs.calls.put_called_piece.Goals as goal

pub returns : goal.returns
returns c =
    let plans = c.args.h.now.plans in
    let p : Piece = record { number = c.args.n; process = c.args.i; step = c.args.step; work = c.args.work } in
    let whole : c.deref.result.now ≡ line_of (called_piece plans p) =
    c.deref.ensures.value
    ∙ (c.in_ok-add_call.ensures
    ∙ (ap (λ (ps : List Plan). with_words c.put_piece.new.out.items (work_call ps c.args.i c.args.step c.args.work)) c.as_slice.ensures
    ∙ called plans p c.put_piece.new.out.items c.new-line.result.items c.new-line.ensures.items c.in_ok-put_piece.ensures)) in
    subst (λ (t : List ℕ). OnOk c.extend_from_slice.result (c.extend_from_slice.new.self.items ≡ c.args.out.now.items ++ t)) whole (search rules)
