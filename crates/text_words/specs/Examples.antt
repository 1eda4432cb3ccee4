-- Worked examples, computed.
use Rattle.std.specs.Prelude.{◌≡◌, [], ◌∷◌, ◌++◌, codes, Some, None, refl}
use Rattle.process_tree.specs.declared.step.StepKind.TheVariants.{R, Cr}
use Rattle.text_words.specs.declared.marks.At.TheVariants.{Begin, BehindChoice}
use Rattle.text_words.specs.declared.marks.Next.TheVariants.{Step, Misfit}
use Rattle.text_words.specs.declared.expected.Expected.TheVariants as expects
use Rattle.text_words.specs.Words.{is_blank, words_of}
use Rattle.text_words.specs.Marks.{kind_of_word, meaning}

-- space, tab, carriage return and line feed separate words
pub three_words : words_of (codes "a  bc" ++ 13 ∷ 10 ∷ 9 ∷ codes "d ") ≡ codes "a" ∷ codes "bc" ∷ codes "d" ∷ []
unfolding is_blank
three_words = refl

-- `cr` names a kind of its own, and `r` another
pub kind_of_cr : kind_of_word (codes "cr") ≡ Some Cr
kind_of_cr = refl

pub kind_of_r : kind_of_word (codes "r") ≡ Some R
kind_of_r = refl

-- a longer word names no kind
pub no_kind : kind_of_word (codes "crr") ≡ None
no_kind = refl

-- it begins a step where a step may stand, and is no word of its own elsewhere
pub cr_begins_a_step : meaning Begin 0 (codes "cr") ≡ Step Cr
cr_begins_a_step = refl

pub cr_closes_no_block : meaning BehindChoice 0 (codes "cr") ≡ Misfit expects.Close
cr_closes_no_block = refl
