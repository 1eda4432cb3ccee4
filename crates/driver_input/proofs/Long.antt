-- Lines that are too long.
use Rattle.std.proofs.Common.{◌≡◌, ◌⊎◌, inl, inr, ℕ, List, [], ◌∷◌, sym, append-nil}
use Rattle.command_input.specs.Inputs.{most_input}
use Rattle.line_reader.specs.Taking.{IsFirstOf}
use Rattle.line_reader.specs.declared.taken.Taken.{Taken}
use Rattle.line_reader.specs.declared.taken.Taken.TheVariants.{Line, LongLine, End, LongEnd}
use Rattle.line_reader.proofs.Cuts.{cut-whole}
use Rattle.driver_input.specs.Parts.{IsPartOf}
use Rattle.driver_input.specs.declared.parts.Part.TheVariants.{Long}
use Rattle.driver_input.proofs.Cuts.{cut-front}

-- a line of more bytes than may be, with or without a line feed behind it
pub is_long : (taken : Taken) (bytes left scenario longer : List ℕ) → (taken ≡ LongLine) ⊎ (taken ≡ LongEnd) → IsFirstOf most_input bytes left taken → IsPartOf bytes left scenario longer Long
is_long (Line line) bytes left scenario longer is f = absurd (by is)
  where
    by : (Line line ≡ LongLine) ⊎ (Line line ≡ LongEnd) → ⊥
    by (inl e) = cc
    by (inr e) = cc
is_long LongLine bytes left scenario longer is f = (f.0, 10 ∷ left, cut-whole 10 bytes f.0 left f.1, cut-front 10 bytes f.0 left f.1, f.2)
is_long (End rest) bytes left scenario longer is f = absurd (by is)
  where
    by : (End rest ≡ LongLine) ⊎ (End rest ≡ LongEnd) → ⊥
    by (inl e) = cc
    by (inr e) = cc
is_long LongEnd bytes left scenario longer is f = (bytes, [], sym (append-nil bytes), f.0, f.2)
