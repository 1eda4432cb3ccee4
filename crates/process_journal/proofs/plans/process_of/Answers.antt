use Rattle.std.proofs.Common.{◌∷◌, [], sym, ◌∙◌}
use Rattle.std.proofs.lemmas.Bool.{false≢true}
use Rattle.std.proofs.lemmas.Slice.Eq.{bytes_eq-Decides}
use Rattle.process_tree.specs.declared.tree.Named.{Named}
use Rattle.process_text.specs.Words.{words_of}
use Rattle.process_text.specs.Grammar.{IsReading}
use Rattle.process_journal.proofs.TextPlans.{not_canonical, found_is}
use Rattle.process_journal.proofs.plans.process_of.Goals as goal

pub returns-else-eq : goal.returns-else-eq
returns-else-eq c =
    let read = found_is ((p : Named) → ¬ IsReading (words_of c.args.text.now) (p ∷ [])) (λ p. IsReading (words_of c.args.text.now) (p ∷ [])) c.in_ok-named.field-0 c.in-Some.named c.in-Some.is c.in_ok-named.ensures in
    not_canonical c.args.text.now c.in-Some.named read
    (λ same. false≢true (sym c.if-eq.false ∙ c.eq.ensures ∙ (bytes_eq-Decides c.as_slice.result.now c.args.text.now).1 (c.as_slice.ensures.value ∙ c.in_ok-canonical.ensures.canonical ∙ same)))
