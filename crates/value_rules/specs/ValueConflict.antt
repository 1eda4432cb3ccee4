-- Which operations conflict in value, for the crates above.
pub use Rattle.value_conflict.specs.ValueConflict.{commute, conflict_in_value, is_commuting, first_commuting, IsValueSound}
