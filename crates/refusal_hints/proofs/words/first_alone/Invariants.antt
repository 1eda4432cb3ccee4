use Rattle.std.proofs.Common.{◌≡◌, ◌<◌, ℕ, false}
use Rattle.refusal_hints.specs.Words.{stands_alone}
use Rattle.refusal_hints.proofs.words.first_alone.Given as goal

abbrev pub invariant-loop-n : goal.invariant-loop-n
invariant-loop-n l = (k : ℕ) → k < l.n → stands_alone l.text l.name k ≡ false
