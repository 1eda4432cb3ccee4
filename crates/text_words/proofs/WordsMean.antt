-- What the words of a block are, by what they mean.
use Rattle.std.proofs.Common.{◌≡◌, ◌≢◌, ◌+◌, ℕ, zero, suc, add-one, List, Bool, true, false, codes, Option, Some, None, refl, sym, ap, ◌∙◌, subst}
use Rattle.std.specs.Cmp.Lexicographic.{same_text as texts_are_same}
use Rattle.process_tree.specs.Making.{same_text}
use Rattle.process_tree.specs.declared.step.StepKind.{StepKind}
use Rattle.process_tree.specs.declared.step.StepKind.TheVariants.{C, P, R, Cr}
use Rattle.text_words.specs.declared.marks.At.{At}
use Rattle.text_words.specs.declared.marks.At.TheVariants.{Begin, BehindStep, BehindChoice}
use Rattle.text_words.specs.declared.marks.Mark.{Mark}
use Rattle.text_words.specs.declared.marks.Mark.TheVariants as marks
use Rattle.text_words.specs.declared.marks.Next.{Next}
use Rattle.text_words.specs.declared.marks.Next.TheVariants as next
use Rattle.text_words.specs.declared.expected.Expected.TheVariants as expects
use Rattle.text_words.specs.Marks.{kind_word, kind_of_word, mark_word, opening, closing, closes, ends_steps, or_else, mark_or, meaning, IsWordOf}

-- a step may stand at the beginning of a block and behind a step
abbrev pub may_go_on : At → Bool
may_go_on Begin = true
may_go_on BehindStep = true
may_go_on BehindChoice = false

-- where it may, the word of its kind is what it is
pub meaning_of_kind : (at : At) (begun : ℕ) (k : StepKind) → may_go_on at ≡ true → meaning at begun (kind_word k) ≡ next.Step k
meaning_of_kind Begin begun C e = refl
meaning_of_kind Begin begun P e = refl
meaning_of_kind Begin begun R e = refl
meaning_of_kind Begin begun Cr e = refl
meaning_of_kind BehindStep begun C e = refl
meaning_of_kind BehindStep begun P e = refl
meaning_of_kind BehindStep begun R e = refl
meaning_of_kind BehindStep begun Cr e = refl
meaning_of_kind BehindChoice begun k e = absurd (cc)

-- a block may be closed behind a step and behind a choice
abbrev pub may_close : At → Bool
may_close Begin = false
may_close BehindStep = true
may_close BehindChoice = true

-- within a choice, `or` and `done` are what they are
pub or_means : (at : At) (k : ℕ) → may_close at ≡ true → meaning at (suc k) (mark_word marks.Or) ≡ next.Mark marks.Or
or_means Begin k e = absurd (cc)
or_means BehindStep k e = refl
or_means BehindChoice k e = refl

pub done_means : (at : At) (k : ℕ) → may_close at ≡ true → meaning at (suc k) (mark_word marks.Done) ≡ next.Mark marks.Done
done_means Begin k e = absurd (cc)
done_means BehindStep k e = refl
done_means BehindChoice k e = refl

-- at the root, `end` is what it is
pub end_means : (at : At) → may_close at ≡ true → meaning at 0 (mark_word marks.End) ≡ next.Mark marks.End
end_means Begin e = absurd (cc)
end_means BehindStep e = refl
end_means BehindChoice e = refl

pub choose_means : (at : At) (k : ℕ) → may_go_on at ≡ true → meaning at k (mark_word marks.Choose) ≡ next.Mark marks.Choose
choose_means Begin k e = refl
choose_means BehindStep k e = refl
choose_means BehindChoice k e = absurd (cc)

kind_word_is : (w : List ℕ) (k : StepKind) → kind_of_word w ≡ Some k → w ≡ kind_word k
kind_word_is w k e = by_c (same_text w (codes "c")) (same_text w (codes "p")) (same_text w (codes "r")) (same_text w (codes "cr")) refl refl refl refl
  where
    by_c : (c p r cr : Bool) → same_text w (codes "c") ≡ c → same_text w (codes "p") ≡ p → same_text w (codes "r") ≡ r → same_text w (codes "cr") ≡ cr → w ≡ kind_word k
    by_c true p r cr ec ep er ecr = let found : Some C ≡ Some k = sym (rw ec refl) ∙ e in let same : C ≡ k = cc in texts_are_same w (codes "c") (sym ec) ∙ ap kind_word same
    by_c false true r cr ec ep er ecr = let found : Some P ≡ Some k = sym (rw (ec, ep) refl) ∙ e in let same : P ≡ k = cc in texts_are_same w (codes "p") (sym ep) ∙ ap kind_word same
    by_c false false true cr ec ep er ecr = let found : Some R ≡ Some k = sym (rw (ec, ep, er) refl) ∙ e in let same : R ≡ k = cc in texts_are_same w (codes "r") (sym er) ∙ ap kind_word same
    by_c false false false true ec ep er ecr =
        let found : Some Cr ≡ Some k = sym (rw (ec, ep, er, ecr) refl) ∙ e in let same : Cr ≡ k = cc in texts_are_same w (codes "cr") (sym ecr) ∙ ap kind_word same
    by_c false false false false ec ep er ecr = let found : None ≡ Some k = sym (rw (ec, ep, er, ecr) refl) ∙ e in absurd (cc)

opening_word : (begun : ℕ) (w : List ℕ) (n : Next) → opening w ≡ Some n → IsWordOf begun n w
opening_word begun w n e = by_tests (same_text w (codes "choose")) (kind_of_word w) refl refl
  where
    by_tests : (c : Bool) (k : Option StepKind) → same_text w (codes "choose") ≡ c → kind_of_word w ≡ k → IsWordOf begun n w
    by_tests true k ec ek =
        let found : Some (next.Mark marks.Choose) ≡ Some n = sym (rw ec refl) ∙ e in
        let same : next.Mark marks.Choose ≡ n = cc in
        subst (λ m. IsWordOf begun m w) same (texts_are_same w (codes "choose") (sym ec), refl)
    by_tests false None ec ek = let found : None ≡ Some n = sym (rw (ec, ek) refl) ∙ e in absurd (cc)
    by_tests false (Some k) ec ek =
        let found : Some (next.Step k) ≡ Some n = sym (rw (ec, ek) refl) ∙ e in
        let same : next.Step k ≡ n = cc in
        subst (λ m. IsWordOf begun m w) same (kind_word_is w k ek)

pub closing_word : (begun : ℕ) (w : List ℕ) (m : Mark) → closing begun w ≡ Some m → (w ≡ mark_word m) × (closes begun m ≡ true)
closing_word zero w m e = by_test (same_text w (codes "end")) refl
  where
    by_test : (c : Bool) → same_text w (codes "end") ≡ c → (w ≡ mark_word m) × (closes 0 m ≡ true)
    by_test true is =
        let found : Some marks.End ≡ Some m = sym (rw is refl) ∙ e in
        let same : marks.End ≡ m = cc in
        subst (λ (k : Mark). (w ≡ mark_word k) × (closes 0 k ≡ true)) same (texts_are_same w (codes "end") (sym is), refl)
    by_test false is = let found : None ≡ Some m = sym (rw is refl) ∙ e in absurd (cc)
closing_word (suc begun) w m e = by_tests (same_text w (codes "or")) (same_text w (codes "done")) refl refl
  where
    by_tests : (o d : Bool) → same_text w (codes "or") ≡ o → same_text w (codes "done") ≡ d → (w ≡ mark_word m) × (closes (suc begun) m ≡ true)
    by_tests true d eo ed =
        let found : Some marks.Or ≡ Some m = sym (rw eo refl) ∙ e in
        let same : marks.Or ≡ m = cc in
        subst (λ (k : Mark). (w ≡ mark_word k) × (closes (suc begun) k ≡ true)) same (texts_are_same w (codes "or") (sym eo), refl)
    by_tests false true eo ed =
        let found : Some marks.Done ≡ Some m = sym (rw (eo, ed) refl) ∙ e in
        let same : marks.Done ≡ m = cc in
        subst (λ (k : Mark). (w ≡ mark_word k) × (closes (suc begun) k ≡ true)) same (texts_are_same w (codes "done") (sym ed), refl)
    by_tests false false eo ed = let found : None ≡ Some m = sym (rw (eo, ed) refl) ∙ e in absurd (cc)

ends_if_closes : (begun : ℕ) (m : Mark) → closes begun m ≡ true → ends_steps begun m ≡ true
ends_if_closes begun marks.Choose e = refl
ends_if_closes begun marks.Or e = e
ends_if_closes begun marks.Done e = e
ends_if_closes begun marks.End e = e

pub closes_if_ends : (begun : ℕ) (m : Mark) → ends_steps begun m ≡ true → m ≢ marks.Choose → closes begun m ≡ true
closes_if_ends begun marks.Choose e other = absurd (other refl)
closes_if_ends begun marks.Or e other = e
closes_if_ends begun marks.Done e other = e
closes_if_ends begun marks.End e other = e

-- what the words of these meanings are
pub meaning_is : (at : At) (begun : ℕ) (w : List ℕ) → may_go_on at ≡ true → IsWordOf begun (meaning at begun w) w
meaning_is Begin begun w e = by_opening (opening w) refl
  where
    by_opening : (o : Option Next) → opening w ≡ o → IsWordOf begun (or_else (opening w) (next.Misfit expects.Step)) w
    by_opening None is = rw is tt
    by_opening (Some n) is = rw is (opening_word begun w n is)
meaning_is BehindStep begun w e = by_opening (opening w) (closing begun w) refl refl
  where
    by_opening : (o : Option Next) (c : Option Mark) → opening w ≡ o → closing begun w ≡ c → IsWordOf begun (or_else (opening w) (mark_or (closing begun w) (next.Misfit expects.Next))) w
    by_opening None None is ec = rw (is, ec) tt
    by_opening None (Some m) is ec = let found = closing_word begun w m ec in rw (is, ec) (found.0, ends_if_closes begun m found.1)
    by_opening (Some n) c is ec = rw is (opening_word begun w n is)
meaning_is BehindChoice begun w e = absurd (cc)

-- within a choice, what closes and isn't `done` is `or`
pub is_or : (n : ℕ) (m : Mark) → closes (n + 1) m ≡ true → m ≢ marks.Done → m ≡ marks.Or
is_or n marks.Choose closes_it other = let e : closes (n + 1) marks.Choose ≡ false = rw add-one refl in absurd (cc)
is_or n marks.Or closes_it other = refl
is_or n marks.Done closes_it other = absurd (other refl)
is_or n marks.End closes_it other = let e : closes (n + 1) marks.End ≡ false = rw add-one refl in absurd (cc)
