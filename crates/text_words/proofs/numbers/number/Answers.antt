use Rattle.std.proofs.Common.{arith}
use Rattle.text_words.proofs.NumberWords.{answers_test}
use Rattle.text_words.proofs.numbers.number.Goals as goal

pub returns-clause-test : goal.returns-clause-test
returns-clause-test c = answers_test c.parsed.result c.args.most c.args.word.now (omega arith) c.parsed.ensures.some c.parsed.ensures.none
