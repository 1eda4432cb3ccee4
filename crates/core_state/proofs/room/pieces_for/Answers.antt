use Rattle.std.proofs.Common.{◌≡◌, ◌∙◌, ◌+◌, ◌++◌, ◌∷◌, [], ap, arith}
use Rattle.std.specs.List.{sum_by}
use Rattle.std.proofs.lemmas.List.Sums.{sum_by_push}
use Rattle.process_tree.specs.Blocks.{numbers_from}
use Rattle.schedule_model.specs.Course.{course_of}
use Rattle.machine_model.specs.Laws.{pieces_for_step}
use Rattle.core_state.proofs.StartedProcesses.{numbers_more}
use Rattle.core_state.proofs.room.pieces_for.Goals as goal

pub loop-n-preserved : goal.loop-n-preserved
loop-n-preserved c =
    let n = c.loop-n.n in
    let f = pieces_for_step (course_of c.args.plan.now ∷ []) 1 in
    let e : 0 + n ≡ n = omega arith in
    let more = ap (sum_by f) (numbers_more 0 n ∙ ap (λ k. numbers_from 0 n ++ k ∷ []) e) ∙ sum_by_push f (numbers_from 0 n) n in
    let before = c.loop-n.invariant.pieces in
    let one = c.pieces_for_step-pieces.ensures.pieces in
    let few = c.loop-n.invariant.few in
    let less = c.pieces_for_step-pieces.ensures.few in
    record { pieces = omega arith; few = omega arith }
