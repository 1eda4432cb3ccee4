use Rattle.std.proofs.Common.{◌≡◌, ◌∙◌, ◌++◌, ℕ, List, append_assoc, ap, rules, w64, FitsSigned}
use Rattle.std.specs.Prelude.{codes}
use Rattle.std.specs.Fmt.{signed_decimal}
use Rattle.std.proofs.lemmas.Int.{to_z-of_z}
use Rattle.subsystem_store.specs.declared.effect.Effect.{Effect}
use Rattle.history_files.specs.Effects.{amount_of}
use Rattle.replay_run.specs.Printed.{asked_words}
use Rattle.replay_run.proofs.printing.put_found_words.Goals as goal

joined : (o a w s : List ℕ) → ((o ++ a) ++ w) ++ s ≡ o ++ ((a ++ w) ++ s)
joined o a w s = ap (λ x. x ++ s) (append_assoc o a w) ∙ append_assoc o (a ++ w) s

pub returns : goal.returns
returns c =
    let l = c.args.line.now in
    let old = c.args.out.now.items in
    let wanted = amount_of c.args.plans.now l.entry.process l.entry.step in
    let asked : FitsSigned w64 c.effect_of-amount.result.call.amount = search rules in
    let found : FitsSigned w64 l.before = search rules in
    let amount = to_z-of_z w64 c.effect_of-amount.result.call.amount asked ∙ ap (λ (x : Effect). x.call.amount) c.effect_of-amount.ensures in
    c.in_ok-put_found.ensures
    ∙ (ap (λ w. c.put_asked.new.out.items ++ codes " was " ++ signed_decimal w) (to_z-of_z w64 l.before found)
    ∙ (ap (λ ws. ws ++ codes " was " ++ signed_decimal l.before) (c.in_ok-put_asked.ensures ∙ ap (λ a. old ++ asked_words l.entry.key a) amount)
    ∙ joined old (asked_words l.entry.key wanted) (codes " was ") (signed_decimal l.before)))
