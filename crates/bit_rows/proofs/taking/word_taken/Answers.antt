use Rattle.std.proofs.Common.{◌≡◌, ◌+◌, slice_index_or, sym, arith, ◌∙◌}
use Rattle.std.proofs.lemmas.List.{get_or_past}
use Rattle.bit_rows.proofs.TakenOut.{word_without}
use Rattle.bit_rows.proofs.taking.word_taken.Goals as goal
use Rattle.bit_rows.proofs.taking.word_taken.Goals.{then-k-lt3, else-k-lt3}

pub returns : goal.returns
returns c =
    let words = c.args.words.now in
    let k = c.args.k in
    let behind : c.if-k-lt3.next ≡ slice_index_or words (k + 1) 0 = elim c.if-k-lt3.branch [
      | then-k-lt3 w ↦ w.next-is
      | else-k-lt3 w ↦ let wide = c.told-words in let past = w.if-k-lt3.false in w.next-is ∙ sym (get_or_past words (k + 1) 0 (omega (arith, wide, past)))
    ] in
    word_without words k c.args.column c.if-k-lt3.next c.low_mask-low.result c.moved.result c.low_mask-low.type_inv behind c.requires.column c.low_mask-low.ensures c.moved.ensures.own c.moved.ensures.last
