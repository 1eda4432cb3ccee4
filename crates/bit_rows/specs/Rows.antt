-- Rows: a row of bits, by its words of 64 columns each.
use Rattle.std.specs.Prelude.{ℕ, suc, zero, ◌+◌, ◌/◌, ◌%◌, ◌==◌, Bool, List, [], ◌∷◌, slice_index_or}
use Rattle.std.specs.Int.{bit_at}

-- whether the words have a one at this column
unfoldable pub has_column : List ℕ → ℕ → Bool
has_column words k = bit_at (slice_index_or words (k / 64) 0) (k % 64) == 1

-- so many columns, from one on
abbrev pub columns_from : List ℕ → ℕ → ℕ → List Bool
columns_from words k zero = []
columns_from words k (suc n) = has_column words k ∷ columns_from words (k + 1) n

-- the columns of a row
unfoldable pub row_of : List ℕ → List Bool
row_of words = columns_from words 0 256
