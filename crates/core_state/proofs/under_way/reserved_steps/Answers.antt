use Rattle.std.proofs.Common.{◌∙◌, ◌<◌, ◌++◌, ◌∷◌, [], length, take, ap, sym, add-one, arith}
use Rattle.std.proofs.Math.Seq.{take-suc}
use Rattle.hold_tables.specs.Tables.{kept_of}
use Rattle.core_state.proofs.under_way.reserved_steps.Goals as goal

pub loop-place-preserved : goal.loop-place-preserved
loop-place-preserved c =
    let planned = (kept_of c.args.holds.now c.args.process).reserved in
    let n = c.loop-place.place in
    let d = c.reserved_at.result in
    let within : n < length planned = (let test = c.loop-place-test.true in let all = c.reserved_len-place-end.ensures in omega arith) in
    c.push.ensures.items ∙ (ap (λ xs. xs ++ d ∷ []) c.loop-place.invariant
    ∙ (ap (λ x. take n planned ++ x ∷ []) (c.reserved_at.ensures d)
    ∙ sym (ap (λ k. take k planned) (add-one n) ∙ take-suc planned n d within)))
