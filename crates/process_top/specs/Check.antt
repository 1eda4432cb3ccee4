-- The command `check`.
use Rattle.std.specs.Prelude.{◌≤◌, List, [], ◌∷◌, length, IfSome}
use Rattle.process_tree.specs.declared.tree.Named.{Named}
use Rattle.process_text.specs.Words.{words_of}
use Rattle.process_text.specs.Grammar.{IsReading}
use Rattle.command_refusals.specs.declared.status.Status.{Status}
use Rattle.command_refusals.specs.declared.status.Status.TheVariants.{Done, IllFormed, NoMemory}
use Rattle.command_refusals.specs.Verdicts.{AreVerdicts}
use Rattle.command_refusals.specs.Statuses.{IsOneOf}
use Rattle.command_input.specs.Inputs.{Input, most_input, IsRead, IsRefused, text_tests}
use Rattle.process_top.specs.Replies.{Reply, checked, refused}

-- the verdicts on the processes of the input, or what is refused of it
abbrev pub IsCheckDue : Input → Input → Reply → Type 0
IsCheckDue before after (checked ps verdicts) = IsRead before after ps × AreVerdicts ps verdicts
IsCheckDue before after (refused r) = IsRefused text_tests r before after
IsCheckDue before after reply = ⊥

-- where the input is in the grammar, there are verdicts, or memory is wanting
abbrev pub IsCheckComplete : Input → Status → Type 0
IsCheckComplete input status =
    IfSome input.left (λ text. (ps : List Named) → length text ≤ most_input → IsReading (words_of text) ps
    → IsOneOf status (Done ∷ IllFormed ∷ NoMemory ∷ []))
