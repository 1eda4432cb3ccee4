use Rattle.std.proofs.Common.{◌∷◌, []}
use Rattle.text_words.specs.declared.marks.Mark.TheVariants.{End}
use Rattle.process_text.specs.Grammar.{mark, block_pieces}
use Rattle.process_text.proofs.Printed.{named_both}
use Rattle.process_text.proofs.printing.print_text.Goals as goal

pub returns-clause-named : goal.returns-clause-named
returns-clause-named c =
    (c.bytes.ensures.name, named_both (block_pieces c.args.tree.now) (mark End ∷ []) (rw (← c.root.ensures.root) c.in_ok-print_block.ensures.named) tt)
