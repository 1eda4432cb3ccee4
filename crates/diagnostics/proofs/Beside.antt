-- What there is to say, by whether memory may be wanting for it.
use Rattle.std.specs.Prelude.{List, Option, Some, None}
use Rattle.std.proofs.Common.{◌≡◌, ℕ, true, false, subst, sym}
use Rattle.std.proofs.lemmas.Bool.{false≢true}
use Rattle.command_refusals.specs.declared.refusal.Refusal.{Refusal}
use Rattle.diagnostics.specs.Diagnostics.{takes_memory, AreWarningsOf, IsAboutEnd, IsBeside}
use Rattle.refusal_hints.specs.Remedies.{ending_hint}

-- warnings, where no refusal is there
pub warned : (words : List (List ℕ)) (number : ℕ) (input : Option (List ℕ)) (text : List ℕ) → takes_memory words number None ≡ true → AreWarningsOf number input text
    → IsBeside words number None input text
warned words number input text is said = subst (λ (b : _). IsAboutEnd b number input text) (sym is) said

-- what is said of the status, where no memory is taken
pub ended : (words : List (List ℕ)) (number : ℕ) (refused : Option Refusal) (input : Option (List ℕ)) (text : List ℕ) → takes_memory words number refused ≡ false → text ≡ ending_hint number
    → IsBeside words number refused input text
ended words number (Some r) input text is said = absurd (false≢true (sym is))
ended words number None input text is said = subst (λ (b : _). IsAboutEnd b number input text) (sym is) said
