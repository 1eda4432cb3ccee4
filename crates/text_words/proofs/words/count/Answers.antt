use Rattle.std.proofs.Common.{arith}
use Rattle.text_words.proofs.FirstWord.{words_are_few}
use Rattle.text_words.proofs.words.count.Goals as goal

pub overflow_add-number : goal.overflow_add-number
overflow_add-number c = omega (arith, words_are_few c.args.text.now)
