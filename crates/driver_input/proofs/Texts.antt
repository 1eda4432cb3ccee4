-- A text of which the first bytes were taken.
use Rattle.std.proofs.Common.{List, ℕ, ◌++◌, Option, Some, None, IfSome, sym, subst}
use Rattle.std.specs.Io.KnownBytes.{Consumes}

-- what holds of these bytes with any behind them holds of the text that begins with them
pub on_text : (before after : Option (List ℕ)) (bytes : List ℕ) (P : List ℕ → Type 0) → Consumes before after bytes → ((rest : List ℕ) → P (bytes ++ rest)) → IfSome before P
on_text None after bytes P gave all = tt
on_text (Some text) None bytes P gave all = absurd gave
on_text (Some text) (Some rest) bytes P gave all = subst P (sym gave) (all rest)
