use Rattle.std.proofs.Common.{⊎_elim, ◌∷◌, []}
use Rattle.process_text.specs.Words.{words_of}
use Rattle.process_journal.proofs.TextPlans.{one_or_none}
use Rattle.process_journal.proofs.plans.only_process.Goals as goal

pub returns-in-Ok : goal.returns-in-Ok
returns-in-Ok c = one_or_none (words_of c.args.text.now) c.in-Ok.found.items c.only.result c.in-Ok.ensures.reading c.only.ensures

pub returns-else-is_memory : goal.returns-else-is_memory
returns-else-is_memory c = ⊎_elim (λ memory. absurd (c.is_memory.ensures c.if-is_memory.false memory)) (λ none p. none (p ∷ [])) c.in-Err.ensures.no_reading
