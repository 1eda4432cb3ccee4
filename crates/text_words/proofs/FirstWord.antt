-- The first word of a text.
use Rattle.std.proofs.Common.{◌≡◌, ℕ, List, [], ◌∷◌, take, drop, Bool, true, false, refl, add-one, ap, arith, ◌<◌, ◌≤◌, ◌+◌, length}
use Rattle.text_words.specs.Words.{is_blank, words_of, word_size, onto_first, with_byte}

abbrev pub IsSplit : List ℕ → Type 0
IsSplit text = words_of text ≡ take (word_size text) text ∷ words_of (drop (word_size text) text)

grows : (b c : ℕ) (cs : List ℕ) (next : Bool) → is_blank b ≡ false → is_blank c ≡ next → (next ≡ false → IsSplit (c ∷ cs)) → IsSplit (b ∷ c ∷ cs)
grows b c cs true is e split = simp (is, e, add-one) refl
grows b c cs false is e split = simp (is, e, add-one) (ap (onto_first b) (simp (e, add-one) at (split refl)))

-- the first word is what stands before the first blank, and the others are those of the rest
pub words_of-word : (b : ℕ) (bs : List ℕ) → is_blank b ≡ false → IsSplit (b ∷ bs)
words_of-word b [] is = simp (is, add-one) refl
words_of-word b (c ∷ cs) is = grows b c cs (is_blank c) is refl (λ e. words_of-word c cs e)

starts : (b : ℕ) (bs : List ℕ) (blank : Bool) → is_blank b ≡ blank → 0 < word_size (b ∷ bs) → IsSplit (b ∷ bs)
starts b bs true is h = let none : word_size (b ∷ bs) ≡ 0 = simp is in absurd (omega arith)
starts b bs false is h = words_of-word b bs is

-- the same of a text that begins with a word
pub words_of-split : (text : List ℕ) → 0 < word_size text → IsSplit text
words_of-split [] h = absurd (omega arith)
words_of-split (b ∷ bs) h = starts b bs (is_blank b) refl h

longer : (b : ℕ) (ws : List (List ℕ)) → length (onto_first b ws) ≤ length ws + 1
longer b [] = omega arith
longer b (w ∷ ws) = omega arith

with_more : (b : ℕ) (bs : List ℕ) (ws : List (List ℕ)) → length (with_byte b bs ws) ≤ length ws + 1
with_more b [] ws = omega arith
with_more b (c ∷ cs) ws = by_next (is_blank c) refl
  where
    by_next : (next : Bool) → is_blank c ≡ next → length (with_byte b (c ∷ cs) ws) ≤ length ws + 1
    by_next true is = simp is (omega arith)
    by_next false is = simp is (longer b ws)

-- there are no more words than bytes
pub words_are_few : (text : List ℕ) → length (words_of text) ≤ length text
words_are_few [] = omega arith
words_are_few (b ∷ bs) = by_test (words_are_few bs) (is_blank b) refl
  where
    by_test : length (words_of bs) ≤ length bs → (blank : Bool) → is_blank b ≡ blank → length (words_of (b ∷ bs)) ≤ length (b ∷ bs)
    by_test few true is = simp is (omega arith)
    by_test few false is = simp is (omega (arith, with_more b bs (words_of bs)))
