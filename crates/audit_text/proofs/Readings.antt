-- Which line is told as bad.
use Rattle.std.proofs.Common.{◌≡◌, ◌⊎◌, ℕ, Err, inl, inr}
use Rattle.session_text.specs.declared.line.LinesError.{LinesError}
use Rattle.session_text.specs.declared.line.LinesError.TheVariants.{BadLine, NoMemory}
use Rattle.audit_text.specs.Logs.{Reading}

-- the number of the first bad line, or want of memory
pub bad_answer : (said : Reading) (n : ℕ) (e : LinesError) → said ≡ Err n → (e ≡ NoMemory) ⊎ (e ≡ BadLine n)
    → (e ≡ NoMemory) ⊎ ((k : ℕ) × (e ≡ BadLine k) × (said ≡ Err k))
bad_answer said n e is (inl memory) = inl memory
bad_answer said n e is (inr bad) = inr (n, bad, is)
