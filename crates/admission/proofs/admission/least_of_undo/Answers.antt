use Rattle.std.proofs.Common.{◌≡◌, suc, ◌+◌, Some, drop, take, sym, ap, ◌∙◌, arith}
use Rattle.std.proofs.Math.Seq.{take-length}
use Rattle.process_tree.specs.Conflicts.{do_conflict}
use Rattle.process_tree.specs.declared.entry.Entry.{Entry}
use Rattle.schedule_model.specs.Holdings.{behind}
use Rattle.machine_model.specs.declared.blocked.Rule.TheVariants.{A5}
use Rattle.machine_model.specs.Blocks.{blocks_of, least_block}
use Rattle.admission.specs.Admission.{against_undo_of}
use Rattle.admission.specs.Least.{least_on}
use Rattle.admission.proofs.Order.{with_none}
use Rattle.admission.proofs.StepPlaces.{first_found, none_found}
use Rattle.admission.proofs.admission.least_of_undo.Goals as goal

pub returns-in-None : goal.returns-in-None
returns-in-None c = λ plan.
    let t = c.args.holds.now in
    ap (λ o. least_block (blocks_of (against_undo_of t o))) (sym (none_found c.args.process c.args.step t.net (sym c.place_of_step.ensures.place ∙ c.in-None.is)))

pub returns-in-Some : goal.returns-in-Some
returns-in-Some c = λ plan.
    let t = c.args.holds.now in
    let table = do_conflict t.conflicts in
    let x = c.net_at-own.result in
    let place = c.in-Some.place in
    let first = first_found c.args.process c.args.step t.net place x (sym c.place_of_step.ensures.place ∙ c.in-Some.is) in
    let same = c.net_at-own.ensures.entry x in
    c.least_between.ensures
    ∙ with_none _
    ∙ ap (λ n. least_on table A5 x (drop (place + 1) (take n t.net))) c.net_len-end.ensures.len
    ∙ ap (λ es. least_on table A5 x (drop (place + 1) es)) (take-length t.net)
    ∙ ap (λ n. least_on table A5 x (drop n t.net)) (let next : place + 1 ≡ suc place = omega arith in next)
    ∙ ap (least_on table A5 x) (sym first.behind ∙ ap (λ (e : Entry). behind e t.net) (sym same))
    ∙ ap (λ o. least_block (blocks_of (against_undo_of t o))) (sym (first.found ∙ ap Some (sym same)))
