-- The text of a block: which step a piece waits on, and by which rule.
use Rattle.std.specs.Prelude.{ℕ, List, [], ◌∷◌, ◌++◌, codes}
use Rattle.process_tree.specs.declared.plan.Plan.{Plan}
use Rattle.process_text.specs.Canonical.{spaced}
use Rattle.machine_model.specs.declared.blocked.Blocked.{Blocked}
use Rattle.machine_model.specs.declared.blocked.Rule.{Rule}
use Rattle.machine_model.specs.declared.blocked.Rule.TheVariants.{A0, A1, A2, A3, A4, A5}
use Rattle.process_report.specs.Lines.{Line, place_word}

abbrev pub rule_word : Rule → List ℕ
rule_word A0 = codes "A0"
rule_word A1 = codes "A1"
rule_word A2 = codes "A2"
rule_word A3 = codes "A3"
rule_word A4 = codes "A4"
rule_word A5 = codes "A5"

-- words with one space between two
abbrev pub joined : Line → List ℕ
joined [] = []
joined (w ∷ ws) = w ++ spaced ws

-- `on I.STEP by J.STEP rule RULE`: the other process and its step, and process i, that was asked for, and its own step
abbrev pub block_words : List Plan → ℕ → Blocked → Line
block_words plans i b =
    codes "on" ∷ place_word plans b.on b.other ∷ codes "by" ∷ place_word plans i b.own ∷ codes "rule" ∷ rule_word b.rule ∷ []

abbrev pub block_text : List Plan → ℕ → Blocked → List ℕ
block_text plans i b = joined (block_words plans i b)
