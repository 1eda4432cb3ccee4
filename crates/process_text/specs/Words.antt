-- The words of a text, for the crates above.
pub use Rattle.text_words.specs.Words.{is_blank, words_of}
