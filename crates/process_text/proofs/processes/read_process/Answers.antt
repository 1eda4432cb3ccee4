use Rattle.std.proofs.Common.{rules, ◌≡◌, ◌∷◌, ◌∙◌, [], codes, ap, refl, Err, inl, inr}
use Rattle.text_words.specs.declared.marks.Mark.TheVariants.{End}
use Rattle.process_text.specs.Grammar.{mark, block_pieces}
use Rattle.process_text.proofs.Pieces.{writes_both}
use Rattle.process_text.proofs.Turns.{at_new_process}
use Rattle.process_text.proofs.processes.read_process.Goals as goal

pub returns-clause-written : goal.returns-clause-written
returns-clause-written c =
    let root = c.in_ok-root.root in
    let both = writes_both (block_pieces root) (mark End ∷ []) c.read_new_name.new.words (codes "end" ∷ c.read_root.new.words) c.read_root.new.words c.in_ok-root.ensures.written (c.read_root.new.words, refl, refl) in
    rw c.in_ok-tree.ensures.tree (c.read_new_name.new.words, (c.in_ok-name.ensures.name, ap (λ ws. codes "process" ∷ ws) c.in_ok-name.ensures.word), both)

pub returns-in_err-name-clause-err : goal.returns-in_err-name-clause-err
returns-in_err-name-clause-err c =
    let failed : c.from_residual.result ≡ Err c.in_err-name.field-0.0 = search rules in
    rw failed (elim c.in_err-name.ensures.err [
      | inl memory ↦ inl memory
      | inr told ↦ inr (at_new_process c.args.names.now c.args.words.now ∙ told _)
    ])
