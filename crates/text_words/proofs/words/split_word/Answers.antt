use Rattle.std.proofs.Common.{◌<◌, rules, length}
use Rattle.text_words.proofs.FirstWord.{words_of-split}
use Rattle.text_words.proofs.words.split_word.Goals as goal

pub returns : goal.returns
returns c =
    let rest = c.skip_blanks-rest.result.now in
    let some : 0 < length rest = search rules in
    let split = words_of-split rest (c.skip_blanks-rest.ensures.word some) in
    rw (c.split_at.ensures.front, c.split_at.ensures.back, c.word_size.ensures.size, ← c.skip_blanks-rest.ensures.same) split
