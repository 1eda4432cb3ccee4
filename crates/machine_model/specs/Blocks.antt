-- Blocks: what stands against a piece as quadruples, and the least of them.
use Rattle.std.specs.Prelude.{ℕ, Bool, ◌&&◌, ◌||◌, List, [], ◌∷◌, ◌++◌, map, nat_eq, nat_lt, if◌then◌else◌, Option, Some, None}
use Rattle.machine_model.specs.declared.blocked.Blocked.{Blocked}
use Rattle.machine_model.specs.declared.blocked.Rule.{Rule}
use Rattle.machine_model.specs.declared.blocked.Rule.TheVariants.{A0, A1, A2, A3, A4, A5}
use Rattle.schedule_model.specs.Blocking.{Clash, Clashes}

-- a clash under a rule: the other process and its step, the own step, and the rule
abbrev pub by_rule : Rule → List Clash → List Blocked
by_rule rule clashes = map (λ c. record { on = c.other.process; other = c.other.step; own = c.own.step; rule = rule }) clashes

-- every block
abbrev pub blocks_of : Clashes → List Blocked
blocks_of c = by_rule A0 c.a0 ++ by_rule A1 c.a1 ++ by_rule A2 c.a2 ++ by_rule A3 c.a3 ++ by_rule A4 c.a4 ++ by_rule A5 c.a5

-- the rules in order
abbrev pub rule_number : Rule → ℕ
rule_number A0 = 0
rule_number A1 = 1
rule_number A2 = 2
rule_number A3 = 3
rule_number A4 = 4
rule_number A5 = 5

-- a number is less, or the same and what follows is less
abbrev pub less_then : ℕ → ℕ → Bool → Bool
less_then a b rest = nat_lt a b || (nat_eq a b && rest)

-- the order of blocks: by the other process, its step, the own step and the rule
abbrev pub is_less : Blocked → Blocked → Bool
is_less a b =
    less_then a.on b.on (less_then a.other b.other (less_then a.own b.own (nat_lt (rule_number a.rule) (rule_number b.rule))))

-- the lesser of a block and of another, if there is one
abbrev pub lesser : Blocked → Option Blocked → Option Blocked
lesser b None = Some b
lesser b (Some c) = if is_less c b then Some c else Some b

-- the least block, if there is any
abbrev pub least_block : List Blocked → Option Blocked
least_block [] = None
least_block (b ∷ bs) = lesser b (least_block bs)
