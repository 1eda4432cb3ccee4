-- Counts of faults that rose.
use Rattle.std.proofs.Common.{ℕ, ◌+◌, ◌-◌, ◌≤◌, ◌^◌, arith}
use Rattle.std.specs.Prelude.{min}
use Rattle.process_flow.specs.Causes.{Rose}

rose_by : (a b c n : ℕ) → a ≤ b → min (b + 1) n ≤ c → min (a + 1) n ≤ c
rose_by a b c n low rose = omega arith

-- a count that rose since a later moment rose since an earlier one
pub rose_later : (a b c : ℕ) → a ≤ b → Rose b c → Rose a c
rose_later a b c low rose = rose_by a b c (2 ^ 64 - 1) low rose
