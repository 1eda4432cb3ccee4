-- What was expected, as it reads.
use Rattle.std.specs.Prelude.{ℕ, List, codes}
use Rattle.text_words.specs.declared.expected.Expected.{Expected}
use Rattle.text_words.specs.declared.expected.Expected.TheVariants.{Process, Name, Step, Operation, Key, Amount, Number, Next}
use Rattle.text_words.specs.declared.expected.Expected.TheVariants.{Close, Or}

-- the word of what was expected
abbrev pub expected_word : Expected → List ℕ
expected_word Process = codes "process"
expected_word Name = codes "name"
expected_word Step = codes "step"
expected_word Operation = codes "operation"
expected_word Key = codes "key"
expected_word Amount = codes "amount"
expected_word Number = codes "number"
expected_word Next = codes "next"
expected_word Close = codes "close"
expected_word Or = codes "or"
