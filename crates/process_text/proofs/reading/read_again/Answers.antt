use Rattle.std.proofs.Common.{◌∷◌, []}
use Rattle.process_text.specs.Grammar.{process_of}
use Rattle.text_words.specs.Words.{words_of}
use Rattle.process_text.proofs.Reprinted.{only_memory, read_same}
use Rattle.process_text.proofs.Injective.{again_if}
use Rattle.process_text.proofs.reading.read_again.Goals as goal

pub returns-in-Ok-clause-same : goal.returns-in-Ok-clause-same
returns-in-Ok-clause-same c =
    read_same (λ found. found.items) c.read.result (words_of c.deref.result.now) c.args.name.now c.args.tree.now c.read.ensures.reading (rw c.deref.ensures.value c.in-Ok.ensures.reading)

pub returns-in-Ok-clause-memory : goal.returns-in-Ok-clause-memory
returns-in-Ok-clause-memory c =
    only_memory c.read.result (words_of c.deref.result.now) (process_of c.args.name.now c.args.tree.now ∷ []) (rw c.deref.ensures.value c.in-Ok.ensures.reading) c.read.ensures.no_reading

pub returns-in-Ok-clause-again : goal.returns-in-Ok-clause-again
returns-in-Ok-clause-again c =
    again_if (λ found. found.items) c.read.result (words_of c.deref.result.now) c.args.name.now c.args.tree.now c.in-Ok.ensures.reading.trees.0 c.read.ensures.reading
    (read_same (λ found. found.items) c.read.result (words_of c.deref.result.now) c.args.name.now c.args.tree.now c.read.ensures.reading (rw c.deref.ensures.value c.in-Ok.ensures.reading))
