mod SameTexts
pub mod SameHistories
