pub mod SameHistories
