-- Places in an input, by line and column.
use Rattle.std.specs.Prelude.{◌≡◌, ℕ, ◌+◌, ◌-◌, List, [], ◌∷◌, take, codes, nat_le, if◌then◌else◌, refl}
use Rattle.text_words.specs.Places.{start, behind}
use Rattle.text_words.specs.declared.places.Position.{Position}

-- the place behind these bytes, which stand from this place on
abbrev pub behind_all : Position → List ℕ → Position
behind_all at [] = at
behind_all at (b ∷ bs) = behind_all (behind b at) bs

-- the place of the byte in front of which n stand
abbrev pub place_of : List ℕ → ℕ → Position
place_of text n = behind_all start (take n text)

-- the place in a whole text of a place in a part of it that begins at this one
abbrev pub moved : Position → Position → Position
moved base at = record {
  line = base.line + (at.line - 1);
  column = if nat_le at.line 1 then base.column + (at.column - 1) else at.column;
}

-- what stands behind some bytes of a part stands behind them in the whole text
abbrev pub ArePlacesMoved : Type 0
ArePlacesMoved = (base : Position) (part : List ℕ) → moved base (behind_all start part) ≡ behind_all base part

-- the b of two lines
pub in_a_second_line : place_of (codes "a\n b") 3 ≡ record { line = 2; column = 2 }
in_a_second_line = refl
