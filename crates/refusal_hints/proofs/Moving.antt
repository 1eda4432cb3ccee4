-- A part of a text that begins at some place has its places moved there.
use Rattle.std.proofs.Common.{◌≡◌, ◌∙◌, ◌≤◌, ◌+◌, ◌-◌, ℕ, List, [], ◌∷◌, Bool, true, false, refl, ap, ap₂, inl, inr, arith}
use Rattle.std.proofs.lemmas.Bool.Decides.{leb_tells}
use Rattle.std.specs.Prelude.{nat_eq, nat_le, if◌then◌else◌}
use Rattle.text_words.specs.Places.{start, behind}
use Rattle.text_words.specs.declared.places.Position.{Position}
use Rattle.refusal_hints.specs.Places.{behind_all, moved}

abbrev place : ℕ → ℕ → Position
place line column = record { line = line; column = column }

later_line : (n : ℕ) → 1 ≤ n → nat_le (n + 1) 1 ≡ false
later_line n some = elim (leb_tells (n + 1) 1) [
  | inl is ↦ absurd (omega (arith, is.1, some))
  | inr is ↦ is.0
]

chosen : (b : Bool) (x y : ℕ) → b ≡ false → (if b then x else y) ≡ y
chosen b x y is = ap (λ (b : Bool). if b then x else y) is

further : (first : Bool) (base column : ℕ) → 1 ≤ column → (if first then base + (column + 1 - 1) else column + 1) ≡ (if first then base + (column - 1) else column) + 1
further true base column some = omega (arith, some)
further false base column some = refl

-- behind one byte
moved_behind : (base at : Position) (feed : Bool) → 1 ≤ at.line → 1 ≤ at.column
    → moved base (if feed then place (at.line + 1) 1 else place at.line (at.column + 1))
    ≡ (if feed then place ((moved base at).line + 1) 1 else place (moved base at).line ((moved base at).column + 1))
moved_behind base at true line column =
    ap₂ place (omega (arith, line)) (chosen (nat_le (at.line + 1) 1) (base.column + (1 - 1)) 1 (later_line at.line line))
moved_behind base at false line column = ap₂ place refl (further (nat_le at.line 1) base.column at.column column)

-- what stands behind a byte is no earlier
some_line : (at : Position) (feed : Bool) → 1 ≤ at.line → 1 ≤ (if feed then place (at.line + 1) 1 else place at.line (at.column + 1)).line
some_line at true some = omega (arith, some)
some_line at false some = some

some_column : (at : Position) (feed : Bool) → 1 ≤ (if feed then place (at.line + 1) 1 else place at.line (at.column + 1)).column
some_column at true = omega arith
some_column at false = omega arith

moved_all : (base at : Position) (part : List ℕ) → 1 ≤ at.line → 1 ≤ at.column → moved base (behind_all at part) ≡ behind_all (moved base at) part
moved_all base at [] line column = refl
moved_all base at (b ∷ bs) line column =
    moved_all base (behind b at) bs (some_line at (nat_eq b 10) line) (some_column at (nat_eq b 10))
    ∙ ap (λ p. behind_all p bs) (moved_behind base at (nat_eq b 10) line column)

from_start : (base : Position) → moved base start ≡ base
from_start base = ap₂ place (omega arith) (omega arith)

pub places_moved : (base : Position) (part : List ℕ) → moved base (behind_all start part) ≡ behind_all base part
places_moved base part = moved_all base start part (omega arith) (omega arith) ∙ ap (λ p. behind_all p part) (from_start base)
