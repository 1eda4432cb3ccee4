-- Words that pass the tests of numbers, for the crates above.
pub use Rattle.text_words.proofs.NumberWords.{value_of_decimal, are_same-refl, number_passes}
