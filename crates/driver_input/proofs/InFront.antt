-- A scenario that is being taken.
use Rattle.std.proofs.Common.{◌≡◌, inl, inr, ℕ, ◌+◌, ◌≤◌, Bool, true, false, List, [], ◌∷◌, ◌++◌, length, Option, Some, None, IfSome, codes, if◌then◌else◌, refl, sym, ap, ◌∙◌, subst, arith, append_assoc, append-nil, length-append}
use Rattle.std.specs.Io.KnownBytes.{Consumes}
use Rattle.std.proofs.KnownBytes.{Consumes-trans, Consumes-whole}
use Rattle.std.proofs.Math.Seq.{take-append_seam}
use Rattle.process_tree.specs.Making.{same_text}
use Rattle.trace_verify.specs.Lines.{cut, parts}
use Rattle.session_text.specs.Sessions.{mark_from, mark_of, before_mark, scenario_of}
use Rattle.session_text.proofs.Marks.{mark-here, mark-last, mark-other, no-mark}
use Rattle.command_input.specs.Inputs.{most_input}
use Rattle.line_reader.proofs.Cuts.{cut-whole}
use Rattle.driver_input.specs.declared.parts.Part.TheVariants as part
use Rattle.driver_input.specs.Parts.{IsPartTaken, unless_mark}
use Rattle.driver_input.specs.Preamble.{IsScenarioTaken}
use Rattle.driver_input.proofs.Cuts.{cut-line}
use Rattle.driver_input.proofs.Texts.{on_text}

-- The lines of a scenario were taken, none of which is the mark, so that a mark stands behind them or not at all; and these bytes stand ready.
pub record IsInFront (before now : Option (List ℕ)) (scenario ready : List ℕ) (number : ℕ) : Type 0 where
  pub taken : Consumes before now (scenario ++ ready)
  pub same : (rest : List ℕ) → mark_from 0 1 (parts 10 (scenario ++ rest)) ≡ mark_from (length scenario) number (parts 10 rest)
  pub counted : number ≤ length scenario + 1

-- what stood ready and what came behind it, of all that the source gave
pub gave_all : (before now after : Option (List ℕ)) (scenario ready given : List ℕ) → Consumes before now (scenario ++ ready) → Consumes now after given → Consumes before after (scenario ++ (ready ++ given))
gave_all before now after scenario ready given taken gave =
    subst (Consumes before after) (append_assoc scenario ready given) (Consumes-trans before now after (scenario ++ ready) given taken gave)

-- a line without its feed, the feed, and more, put together in two ways
line_and_more : (scenario line more : List ℕ) → (scenario ++ (line ++ (10 ∷ []))) ++ more ≡ scenario ++ (line ++ (10 ∷ more))
line_and_more scenario line more = append_assoc scenario (line ++ (10 ∷ [])) more ∙ ap (λ bytes. scenario ++ bytes) (append_assoc line (10 ∷ []) more)

-- its size
line_size : (scenario line : List ℕ) → length (scenario ++ (line ++ (10 ∷ []))) ≡ length scenario + length line + 1
line_size scenario line = omega (arith, length-append scenario (line ++ (10 ∷ [])), length-append line (10 ∷ []))

-- one line more
pub line_on : (before now after : Option (List ℕ)) (scenario ready left longer : List ℕ) (number : ℕ) → IsInFront before now scenario ready number
    → IsPartTaken ready left scenario longer now after part.Line → IsInFront before after longer left (number + 1)
line_on before now after scenario ready left longer number f p =
    let line = p.part_is.0 in
    let is = p.part_is.1 in
    let grown = scenario ++ (line ++ (10 ∷ [])) in
    let bytes : scenario ++ (ready ++ p.given) ≡ grown ++ left =
    ap (λ bytes. scenario ++ bytes) (cut-whole 10 (ready ++ p.given) line left is) ∙ sym (line_and_more scenario line left) in
    let on : IsInFront before after grown left (number + 1) = record {
      taken = subst (Consumes before after) bytes (gave_all before now after scenario ready p.given f.taken p.gave);
      same = λ rest.
          ap (λ text. mark_from 0 1 (parts 10 text)) (line_and_more scenario line rest)
          ∙ (f.same (line ++ (10 ∷ rest))
          ∙ (mark-other (length scenario) number (line ++ (10 ∷ rest)) line rest (cut-line (ready ++ p.given) line left rest is) p.part_is.2
          ∙ ap (λ size. mark_from size (number + 1) (parts 10 rest)) (sym (line_size scenario line))));
      counted = omega (arith, line_size scenario line, f.counted);
    } in
    subst (λ s. IsInFront before after s left (number + 1)) (sym p.part_is.3) on

-- whatever stands behind the mark, the scenario is what stands before it
behind_mark : (scenario bytes line left : List ℕ) (number : ℕ) → ((rest : List ℕ) → mark_from 0 1 (parts 10 (scenario ++ rest)) ≡ mark_from (length scenario) number (parts 10 rest))
    → cut 10 bytes ≡ Some (line, left) → same_text line (codes "%%") ≡ true → (rest : List ℕ) → scenario ≡ scenario_of ((scenario ++ bytes) ++ rest)
behind_mark scenario bytes line left number same is mark rest =
    let text : (scenario ++ bytes) ++ rest ≡ scenario ++ (line ++ (10 ∷ (left ++ rest))) =
    append_assoc scenario bytes rest ∙ ap (λ bs. scenario ++ bs) (ap (λ bs. bs ++ rest) (cut-whole 10 bytes line left is) ∙ append_assoc line (10 ∷ left) rest) in
    let more = line ++ (10 ∷ (left ++ rest)) in
    let here : mark_of (scenario ++ more) ≡ Some (record { size = length scenario; number = number; lines = parts 10 (left ++ rest) }) =
    same more ∙ mark-here (length scenario) number more line (left ++ rest) (cut-line bytes line left (left ++ rest) is) mark in
    sym (ap scenario_of text ∙ (ap (before_mark (scenario ++ more)) here ∙ take-append_seam scenario more))

-- where the next line is the mark, what stands before it is the scenario
pub mark_taken : (before now after : Option (List ℕ)) (scenario ready left longer : List ℕ) (number : ℕ) → IsInFront before now scenario ready number
    → IsPartTaken ready left scenario longer now after part.Mark → length longer ≤ most_input → IsScenarioTaken before after longer left (number + 1)
mark_taken before now after scenario ready left longer number f p short =
    let line = p.part_is.0 in
    let bytes = scenario ++ (ready ++ p.given) in
    let here : mark_of bytes ≡ Some (record { size = length scenario; number = number; lines = parts 10 left }) =
    f.same (ready ++ p.given) ∙ mark-here (length scenario) number (ready ++ p.given) line left p.part_is.1 p.part_is.2 in
    let all : IsScenarioTaken before after scenario left (number + 1) = record {
      bytes = bytes;
      taken = gave_all before now after scenario ready p.given f.taken p.gave;
      scenario_is = sym (ap (before_mark bytes) here ∙ take-append_seam scenario (ready ++ p.given));
      whole = on_text before after bytes (λ text. scenario ≡ scenario_of text) (gave_all before now after scenario ready p.given f.taken p.gave)
          (behind_mark scenario (ready ++ p.given) line left number f.same p.part_is.1 p.part_is.2);
      within = subst (λ s. length s ≤ most_input) p.part_is.3 short;
      behind = inl (number, here, refl);
    } in
    subst (λ s. IsScenarioTaken before after s left (number + 1)) (sym p.part_is.3) all

-- the scenario of a text whose last line begins behind the lines that were taken
last_line : (scenario rest : List ℕ) (number : ℕ) → mark_from 0 1 (parts 10 (scenario ++ rest)) ≡ mark_from (length scenario) number (parts 10 rest) → cut 10 rest ≡ None
    → scenario ++ unless_mark rest ≡ scenario_of (scenario ++ rest)
last_line scenario rest number same none = by (same_text rest (codes "%%")) refl
  where
    by : (t : Bool) → same_text rest (codes "%%") ≡ t → scenario ++ (if t then [] else rest) ≡ scenario_of (scenario ++ rest)
    by true is = append-nil scenario ∙ sym (ap (before_mark (scenario ++ rest)) (same ∙ mark-last (length scenario) number rest none is) ∙ take-append_seam scenario rest)
    by false is = sym (ap (before_mark (scenario ++ rest)) (same ∙ no-mark (length scenario) number rest none is))

-- at the end all is the scenario, but for a mark in the last line
pub end_scenario : (before now after : Option (List ℕ)) (scenario ready left longer : List ℕ) (number : ℕ) → IsInFront before now scenario ready number
    → (p : IsPartTaken ready left scenario longer now after part.End) → longer ≡ scenario_of (scenario ++ (ready ++ p.given))
end_scenario before now after scenario ready left longer number f p =
    p.part_is.2 ∙ last_line scenario (ready ++ p.given) number (f.same (ready ++ p.given)) p.part_is.0

pub end_taken : (before now after : Option (List ℕ)) (scenario ready left longer : List ℕ) (number first : ℕ) → IsInFront before now scenario ready number
    → IsPartTaken ready left scenario longer now after part.End → length longer ≤ most_input → IsScenarioTaken before after longer left first
end_taken before now after scenario ready left longer number first f p short = record {
  bytes = scenario ++ (ready ++ p.given);
  taken = gave_all before now after scenario ready p.given f.taken p.gave;
  scenario_is = end_scenario before now after scenario ready left longer number f p;
  whole = Consumes-whole before after (scenario ++ (ready ++ p.given)) (λ text. longer ≡ scenario_of text) (gave_all before now after scenario ready p.given f.taken p.gave) p.last
      (end_scenario before now after scenario ready left longer number f p);
  within = short;
  behind = inr (p.part_is.1, p.last);
}
