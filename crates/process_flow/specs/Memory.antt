-- What a source and a sink in memory hold.
use Rattle.std.specs.Prelude.{ℕ, List}

-- the bytes that are left, the calls that are to fail, and how many calls were made and failed
pub record MemoryInput : Type 0 where
  pub left : List ℕ
  pub fails : List ℕ
  pub calls : ℕ
  pub faults : ℕ

-- the bytes that were taken, the calls that are to fail, and how many calls were made, failed and wanted memory
pub record MemoryOutput : Type 0 where
  pub taken : List ℕ
  pub fails : List ℕ
  pub calls : ℕ
  pub faults : ℕ
  pub starved : ℕ
