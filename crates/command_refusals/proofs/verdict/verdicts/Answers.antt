use Rattle.std.proofs.Common.{◌≡◌, ◌+◌, ◌∷◌, [], ◌++◌, ◌||◌, Bool, List, take, subst, sym, ap, ◌∙◌, rules}
use Rattle.std.proofs.lemmas.List.{take_more}
use Rattle.process_tree.specs.declared.tree.Named.{Named}
use Rattle.command_refusals.specs.Verdicts.{AreLines}
use Rattle.command_refusals.proofs.Lines.{lines_then}
use Rattle.command_refusals.proofs.verdict.verdicts.Goals as goal
use Rattle.command_refusals.proofs.verdict.verdicts.Goals.{then-any, else-any}

pub loop-process-preserved : goal.loop-process-preserved
loop-process-preserved c =
    let ps = c.args.processes.now in
    let i = c.loop-process.process-index in
    let p = c.process-item.result in
    let next : take (i + 1) ps ≡ take i ps ++ p ∷ [] = take_more ps i p c.loop-process-test.true ∙ ap (λ (q : Named). take i ps ++ q ∷ []) (sym c.process-item.is) in
    let any : c.if-any.any ≡ (c.loop-process.any || c.in_ok-fault.fault) = elim c.if-any.branch [ then-any w ↦ search rules | else-any w ↦ search rules ] in
    let added = lines_then (take i ps) p c.loop-process.any c.in_ok-fault.fault c.loop-process.text.items c.add_verdict.new.text.items c.loop-process.invariant c.in_ok-fault.ensures in
    subst (λ (qs : List Named). AreLines qs c.if-any.any c.add_verdict.new.text.items) (sym next)
    (subst (λ (b : Bool). AreLines (take i ps ++ p ∷ []) b c.add_verdict.new.text.items) (sym any) added)
