-- Numbers that are written without a sign or a leading zero, for the crates above.
pub use Rattle.text_words.proofs.Numerals.{all_digits}
