use Rattle.std.proofs.Common.{arith, rules, ◌≡◌, ◌∙◌}
use Rattle.std.proofs.lemmas.Fmt.{parse-decimal}
use Rattle.text_words.proofs.Numerals.{padded_is_no_number, number_is_text, parsed_is_decimal}
use Rattle.text_words.proofs.numbers.parsed.Goals as goal

pub returns-then-is_padded-clause-none : goal.returns-then-is_padded-clause-none
returns-then-is_padded-clause-none c = λ n le e. padded_is_no_number c.args.word.now n (omega arith) e (c.if-is_padded.ensures.padded (search rules))

pub returns-in-Err-clause-none : goal.returns-in-Err-clause-none
returns-in-Err-clause-none c = λ n le e. c.in-Err.ensures.cases.0 (number_is_text c.args.word.now n (omega arith) e)

pub returns-in-Err-parse-clause-none : goal.returns-in-Err-parse-clause-none
returns-in-Err-parse-clause-none c = λ n le e.
    let ok = parse-decimal 64 n c.in-Ok.text.now c.parse.result (omega arith) (omega arith) (c.in-Ok.ensures.cases.0 ∙ e) c.parse.ensures.value.0 in
    let err = c.in-Err-parse.is in cc

pub returns-then-n-most-clause-none : goal.returns-then-n-most-clause-none
returns-then-n-most-clause-none c = λ n le e.
    let ok = parse-decimal 64 n c.in-Ok.text.now c.parse.result (omega arith) (omega arith) (c.in-Ok.ensures.cases.0 ∙ e) c.parse.ensures.value.0 in
    let is = c.in-Ok-parse.is in
    let same : c.in-Ok-parse.n ≡ n = cc in omega arith

pub returns-clause-some : goal.returns-clause-some
returns-clause-some c = (
  parsed_is_decimal c.args.word.now c.parse.result c.in-Ok-parse.n (rw (← c.in-Ok.ensures.cases.0) c.parse.ensures.value.0) c.in-Ok-parse.is (search rules) (search rules),
  omega arith,
)
