use Rattle.std.proofs.Common.{◌≢◌, ◌∙◌, arith, length-set, get_or-set_other}
use Rattle.bit_rows.proofs.TakenOut.{all_columns, one_word_more}
use Rattle.bit_rows.proofs.taking.take_out.Goals as goal

pub loop-k-preserved : goal.loop-k-preserved
loop-k-preserved c =
    let words = c.loop-k.words in
    let k = c.loop-k.k in
    let within = c.loop-k-test.true in
    let from = c.loop-k.invariant.1 in (
      length-set _ _ _ ∙ c.loop-k.invariant.0,
      omega (arith, from),
      λ m. one_word_more words c.args.words.now c.args.column k c.word_taken.result m c.loop-k.invariant.0 within c.word_taken.ensures c.loop-k.invariant.2 c.loop-k.invariant.3,
      λ j past. let apart : j ≢ k = λ e. absurd (omega (arith, e, past)) in get_or-set_other words k j c.word_taken.result 0 apart ∙ c.loop-k.invariant.3 j (omega (arith, past)),
    )

pub returns : goal.returns
returns c m =
    let past = c.loop-k-test.false in
    all_columns c.loop-k.words c.args.words.now c.args.column m c.loop-k.invariant.0 c.told-words c.requires (λ n less. c.loop-k.invariant.2 n (omega (arith, past, less)))
