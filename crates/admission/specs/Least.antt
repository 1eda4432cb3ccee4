-- Least: the least block of one rule, and the lesser of two.
use Rattle.std.specs.Prelude.{List, [], ◌∷◌, if◌then◌else◌, Option, Some, None}
use Rattle.process_tree.specs.declared.entry.Entry.{Entry}
use Rattle.schedule_model.specs.Conflict.{ConflictRelation, conflict}
use Rattle.schedule_model.specs.Blocking.{against}
use Rattle.machine_model.specs.declared.blocked.Blocked.{Blocked}
use Rattle.machine_model.specs.declared.blocked.Rule.{Rule}
use Rattle.machine_model.specs.Blocks.{by_rule, least_block, lesser}

-- the lesser of two blocks, where they are there
abbrev pub lesser_of : Option Blocked → Option Blocked → Option Blocked
lesser_of None other = other
lesser_of (Some b) other = lesser b other

-- the block of one's own entry on another, by this rule
abbrev pub block_on : Rule → Entry → Entry → Blocked
block_on rule own other = record { on = other.process; other = other.step; own = own.step; rule = rule }

-- the least of it, where the two conflict, and of another block
abbrev pub least_with : ConflictRelation → Rule → Entry → Entry → Option Blocked → Option Blocked
least_with table rule own other least = if conflict table own other then lesser (block_on rule own other) least else least

-- the least block of one's own entry on these, by this rule
abbrev pub least_on : ConflictRelation → Rule → Entry → List Entry → Option Blocked
least_on table rule own others = least_block (by_rule rule (against table own others))

-- what f gives of each of these, the least of it
abbrev pub least_over : {A : Type 0} → (A → Option Blocked) → List A → Option Blocked
least_over f [] = None
least_over f (x ∷ xs) = lesser_of (f x) (least_over f xs)
