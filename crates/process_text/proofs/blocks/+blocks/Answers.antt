use Rattle.std.proofs.Common.{rules, arith, ◌≡◌, ◌≢◌, ◌+◌, ◌∷◌, [], ◌∙◌, ap, sym, subst, ℕ, List, length, map, Err, inl, inr, true, nat_lt, length-append}
use Rattle.std.proofs.lemmas.Bool.{lt-ltb}
use Rattle.text_words.specs.declared.marks.Mark.TheVariants.{Choose, Or, Done}
use Rattle.text_words.specs.declared.marks.Next.TheVariants as next
use Rattle.text_words.specs.Marks.{mark_word}
use Rattle.process_text.specs.Grammar.{Writes, block_pieces, alternatives}
use Rattle.process_text.specs.FirstFault.{told_behind}
use Rattle.process_text.specs.Leading.{with_names}
use Rattle.process_text.proofs.Pieces.{writes_choice, writes_or, writes_done}
use Rattle.text_words.proofs.WordsMean.{is_or}
use Rattle.process_text.proofs.Fitting.{end_fits, choice_fits, alternative_fits, some_if}
use Rattle.process_text.proofs.blocks.+blocks.Goals as goal

pub read_block-returns-in_err-steps-clause-err : goal.read_block-returns-in_err-steps-clause-err
read_block-returns-in_err-steps-clause-err t c =
    let failed : c.from_residual.result ≡ Err c.in_err-steps.field-0.0 = search rules in
    rw failed (elim c.in_err-steps.ensures.err [ inl memory ↦ inl memory | inr fails ↦ inr (fails c.args.left) ])

pub read_block-returns-then-ne-clause-leads : goal.read_block-returns-then-ne-clause-leads
read_block-returns-then-ne-clause-leads t c = c.in_ok-steps.ensures.leads c.args.left

pub read_block-returns-in_err-blocks-clause-err : goal.read_block-returns-in_err-blocks-clause-err
read_block-returns-in_err-blocks-clause-err t c =
    let is : c.in_ok-steps.mark ≡ Choose = search rules in
    let failed : c.from_residual-in_err-blocks.result ≡ Err c.in_err-blocks.field-0.0 = search rules in
    rw failed (elim c.in_err-blocks.ensures.err [
      | inl memory ↦ inl memory
      | inr fails ↦
          inr (λ earlier choices room same.
          c.in_ok-steps.ensures.leads c.args.left earlier choices room same
          ∙ ap (λ m. told_behind (with_names c.read_steps.new.names earlier choices) (next.Mark m) c.read_steps.new.words) is
          ∙ fails earlier choices room)
    ])

pub read_block-returns-in_err-mark-clause-err : goal.read_block-returns-in_err-mark-clause-err
read_block-returns-in_err-mark-clause-err t c =
    let is : c.in_ok-steps.mark ≡ Choose = search rules in
    let failed : c.from_residual-in_err-mark.result ≡ Err c.in_err-mark.field-0.0 = search rules in
    rw failed (inr (λ earlier choices room same.
    c.in_ok-steps.ensures.leads c.args.left earlier choices room same
    ∙ ap (λ m. told_behind (with_names c.read_steps.new.names earlier choices) (next.Mark m) c.read_steps.new.words) is
    ∙ c.in_ok-blocks.ensures.leads earlier choices room
    ∙ c.in_err-mark.ensures.err (with_names c.read_choice.new.names earlier choices) same))

pub read_block-returns-clause-written : goal.read_block-returns-clause-written
read_block-returns-clause-written t c =
    let is : c.in_ok-steps.mark ≡ Choose = search rules in
    let after : c.read_choice.new.words ≡ mark_word c.in_ok-mark.mark ∷ c.read_close.new.words = c.in_ok-mark.ensures.word in
    rw c.new-steps.ensures (writes_choice c.in_ok-steps.steps.items c.in_ok-blocks.blocks c.args.words.now _ c.read_steps.new.words (mark_word c.in_ok-mark.mark ∷ c.read_close.new.words)
    c.in_ok-steps.ensures.written
    (ap (λ m. mark_word m ∷ c.read_steps.new.words) is)
    (subst (λ (ws : List (List ℕ)). Writes (alternatives (map block_pieces c.in_ok-blocks.blocks.items)) c.read_steps.new.words ws) after c.in_ok-blocks.ensures.written))

pub read_block-returns-clause-leads : goal.read_block-returns-clause-leads
read_block-returns-clause-leads t c = λ earlier choices room same.
    let is : c.in_ok-steps.mark ≡ Choose = search rules in
    c.in_ok-steps.ensures.leads c.args.left earlier choices room same
    ∙ ap (λ m. told_behind (with_names c.read_steps.new.names earlier choices) (next.Mark m) c.read_steps.new.words) is
    ∙ c.in_ok-blocks.ensures.leads earlier choices room
    ∙ c.in_ok-mark.ensures.leads (with_names c.read_choice.new.names earlier choices) same

pub read_choice-returns-then-eq-clause-written : goal.read_choice-returns-then-eq-clause-written
read_choice-returns-then-eq-clause-written t c =
    let is : c.in_ok-block.mark ≡ Done = search rules in
    rw c.in_ok-push.ensures.items (writes_done c.loop-alloc.blocks.items c.in_ok-block.block c.args.words.now c.loop-alloc.words _ c.read_block.new.words
    c.loop-alloc.invariant.written c.in_ok-block.ensures.written (ap (λ m. mark_word m ∷ c.read_block.new.words) is))

pub read_choice-loop-alloc-preserved : goal.read_choice-loop-alloc-preserved
read_choice-loop-alloc-preserved t c =
    let other : c.in_ok-block.mark ≢ Done = λ e. search rules in
    let is : c.in_ok-block.mark ≡ Or = is_or (length c.loop-alloc.blocks.items) c.in_ok-block.mark (search rules) other in
    let more : length c.push.new.self.items ≡ length c.loop-alloc.blocks.items + 1 = rw c.in_ok-push.ensures.items (length-append c.loop-alloc.blocks.items (c.in_ok-block.block ∷ [])) in
    let room : nat_lt (length c.loop-alloc.blocks.items) 8 ≡ true = lt-ltb (length c.loop-alloc.blocks.items) 8 (omega arith) in
    record {
      few = omega arith;
      fits = rw c.in_ok-push.ensures.items (alternative_fits c.args.left c.args.names.now c.loop-alloc.names c.read_block.new.names c.loop-alloc.blocks.items c.in_ok-block.block
          c.loop-alloc.invariant.fits c.in_ok-block.ensures.fits (omega arith));
      written = rw c.in_ok-push.ensures.items (writes_or c.loop-alloc.blocks.items c.in_ok-block.block c.args.words.now c.loop-alloc.words _ c.read_block.new.words
          c.loop-alloc.invariant.written c.in_ok-block.ensures.written (ap (λ m. mark_word m ∷ c.read_block.new.words) is));
      leads = λ earlier choices deep.
          let inner = c.in_ok-block.ensures.leads earlier ((length c.loop-alloc.blocks.items + 1) ∷ choices) (omega arith) (search rules) in
          c.loop-alloc.invariant.leads earlier choices deep
          ∙ (rw room inner)
          ∙ ap (λ m. told_behind (with_names c.read_block.new.names earlier ((length c.loop-alloc.blocks.items + 1) ∷ choices)) (next.Mark m) c.read_block.new.words) is
          ∙ ap (λ k. told_behind (with_names c.read_block.new.names earlier (k ∷ choices)) (next.Mark Or) c.read_block.new.words) (sym more);
    }

pub read_block-returns-then-ne-clause-fits : goal.read_block-returns-then-ne-clause-fits
read_block-returns-then-ne-clause-fits t c =
    let other : c.in_ok-steps.mark ≢ Choose = λ e. search rules in
    rw c.new-steps.ensures (end_fits c.args.left c.args.names.now c.read_steps.new.names c.in_ok-steps.steps.items c.in_ok-steps.ensures.fits
    (some_if c.in_ok-steps.mark c.in_ok-steps.steps.items c.in_ok-steps.ensures.some other))

pub read_block-returns-clause-fits : goal.read_block-returns-clause-fits
read_block-returns-clause-fits t c =
    rw c.new-steps.ensures (choice_fits c.args.left c.args.names.now c.read_steps.new.names c.read_choice.new.names c.in_ok-steps.steps.items c.in_ok-blocks.blocks
    c.in_ok-steps.ensures.fits c.in_ok-blocks.ensures.fits c.in_ok-blocks.ensures.number.0 c.in_ok-blocks.ensures.number.1)

pub read_choice-returns-then-eq-clause-fits : goal.read_choice-returns-then-eq-clause-fits
read_choice-returns-then-eq-clause-fits t c =
    rw c.in_ok-push.ensures.items (alternative_fits c.args.left c.args.names.now c.loop-alloc.names c.read_block.new.names c.loop-alloc.blocks.items c.in_ok-block.block
    c.loop-alloc.invariant.fits c.in_ok-block.ensures.fits (omega arith))
