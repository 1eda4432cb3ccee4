-- What a part of a text that is read leads to, whatever stands before the process.
use Rattle.std.specs.Prelude.{◌≡◌, ◌+◌, ℕ, List, [], ◌∷◌, length, Option}
use Rattle.process_text.specs.FirstFault.{Before, Turn, Told, told_from, told_behind, told_after, told, new_name, begun_in}
use Rattle.process_text.specs.FirstFault.{in_block}
use Rattle.process_text.specs.declared.fault.Fault.{Fault}
use Rattle.process_text.specs.declared.fault.Fault.TheVariants.{Missing}
use Rattle.text_words.specs.declared.expected.Expected.TheVariants as expects
use Rattle.text_words.specs.declared.marks.At.TheVariants.{Begin}
use Rattle.text_words.specs.declared.marks.Mark.{Mark}
use Rattle.text_words.specs.declared.marks.Next.TheVariants as next

-- these names of steps stand before, and what else may
abbrev pub with_names : List (List ℕ) → List (List ℕ) → List ℕ → Before
with_names names earlier choices = record { earlier = earlier; names = names; choices = choices }

-- so many more choices may be open
abbrev pub MayOpen : ℕ → List ℕ → Type 0
MayOpen left choices = length choices + left ≡ 16

-- what is told at a place is what is told behind a word
abbrev pub LeadsTo : (left begun : ℕ) (names : List (List ℕ)) (before : List (List ℕ)) (names' : List (List ℕ)) (mark : Mark)
    (after : List (List ℕ)) → Type 0
LeadsTo left begun names before names' mark after =
    (earlier : List (List ℕ)) (choices : List ℕ) → MayOpen left choices → begun_in choices ≡ begun
    → told_from (with_names names earlier choices) (in_block Begin) before
    ≡ told_behind (with_names names' earlier choices) (next.Mark mark) after

-- a fault is told
abbrev pub Fails : (left begun : ℕ) (names : List (List ℕ)) (before : List (List ℕ)) (fault : Fault) (after : List (List ℕ))
    → Type 0
Fails left begun names before fault after =
    (earlier : List (List ℕ)) (choices : List ℕ) → MayOpen left choices → begun_in choices ≡ begun
    → told_from (with_names names earlier choices) (in_block Begin) before ≡ told fault after

-- what is told of words where a new name is wanted, these names are taken, and a new name turns the text
abbrev pub told_of_new : List (List ℕ) → (List ℕ → Turn) → List (List ℕ) → Option Told
told_of_new taken turn [] = told (Missing expects.Name) []
told_of_new taken turn (w ∷ ws) = told_after (new_name taken w (turn w)) ws (λ c q. told_from c q ws)
