use Rattle.headline_tests.proofs.OneWord.{same_words}
use Rattle.headline_tests.proofs.calls.answered.Goals as goal

pub returns : goal.returns
returns g c = same_words _ _ _ _ _ _ _ _ _ c.in_ok-words.ensures c.answered_on.ensures
