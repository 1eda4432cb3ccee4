-- What becomes of the lines of a scenario, one after another.
use Rattle.std.specs.Prelude.{◌≡◌, ◌<◌, ℕ, ⊤, true, false, List, [], ◌∷◌, ◌++◌, length, if◌then◌else◌, Option, Some, None, codes}
use Rattle.std.specs.Io.KnownBytes.{Consumes, IsAtEnd}
use Rattle.process_tree.specs.Making.{same_text}
use Rattle.trace_verify.specs.Lines.{cut}
use Rattle.command_input.specs.Inputs.{most_input}
use Rattle.line_reader.specs.Taking.{IsReadAsNeeded}
use Rattle.driver_input.specs.declared.parts.Part.{Part}
use Rattle.driver_input.specs.declared.parts.Part.TheVariants.{Line, Mark, End, Long}

-- what comes to a scenario of what stands behind its last line feed
abbrev pub unless_mark : List ℕ → List ℕ
unless_mark rest = if same_text rest (codes "%%") then [] else rest

-- These bytes, which stand where a line begins, are taken up to what is left, and this came to the scenario: a line with its line
-- feed; or nothing, the line being the mark; or what stands behind the last line feed. Or the line has more bytes than a scenario
-- may have.
abbrev pub IsPartOf : List ℕ → List ℕ → List ℕ → List ℕ → Part → Type 0
IsPartOf bytes left scenario longer Line =
    (line : List ℕ) × (cut 10 bytes ≡ Some (line, left)) × (same_text line (codes "%%") ≡ false)
    × (longer ≡ scenario ++ (line ++ (10 ∷ [])))
IsPartOf bytes left scenario longer Mark =
    (line : List ℕ) × (cut 10 bytes ≡ Some (line, left)) × (same_text line (codes "%%") ≡ true) × (longer ≡ scenario)
IsPartOf bytes left scenario longer End = (cut 10 bytes ≡ None) × (left ≡ []) × (longer ≡ scenario ++ unless_mark bytes)
IsPartOf bytes left scenario longer Long =
    (front behind : List ℕ) × (bytes ≡ front ++ behind) × (cut 10 front ≡ None) × (most_input < length front)

-- at the end the source has nothing left, where it tells
abbrev pub IsLastOf : Option (List ℕ) → Part → Type 0
IsLastOf after Line = ⊤
IsLastOf after Mark = ⊤
IsLastOf after End = IsAtEnd after
IsLastOf after Long = ⊤

-- Behind bytes that stood ready the source gave more, and this became of both.
pub record IsPartTaken (ready left scenario longer : List ℕ) (before after : Option (List ℕ)) (part : Part) : Type 0 where
  pub given : List ℕ
  pub gave : Consumes before after given
  pub part_is : IsPartOf (ready ++ given) left scenario longer part
  pub last : IsLastOf after part
  pub needed : IsReadAsNeeded ready given
