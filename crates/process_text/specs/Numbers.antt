-- Which words write numbers, for the crates above.
pub use Rattle.text_words.specs.Numbers.{is_number}
