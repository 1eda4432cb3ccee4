-- The lines of warnings: each names what it is about.
use Rattle.std.specs.Prelude.{ℕ, zero, suc, ◌-◌, List, [], ◌++◌, length, take, codes, decimal, Option, Some, None, slice_get}
use Rattle.std.specs.List.{flat_map}
use Rattle.process_tree.specs.Blocks.{outline}
use Rattle.process_tree.specs.declared.plan.Plan.{Plan}
use Rattle.process_tree.specs.declared.step.Step.{Step}
use Rattle.commute_table.specs.declared.op.Op.{Op}
use Rattle.scenario_warnings.specs.declared.warning.Warning.{Warning}
use Rattle.scenario_warnings.specs.declared.warning.Warning.TheVariants.{Unused, Commuting, SameProcess, HoldOfNothing, NegativeTake}
use Rattle.scenario_warnings.specs.declared.words.TheConstants.{UNUSED, COMMUTING, SAME_PROCESS, HOLD_OF_NOTHING, NEGATIVE_TAKE}
use Rattle.scenario_warnings.specs.declared.lines.TheConstants.{MOST_SHOWN}

-- the name of an operation, or nothing where there is none
abbrev pub op_name : List Op → ℕ → List ℕ
op_name ops a = by (slice_get ops a)
  where
    by : Option Op → List ℕ
    by None = []
    by (Some o) = o.name

-- the name of a process, or nothing where there is none
abbrev pub process_name : List Plan → ℕ → List ℕ
process_name plans i = by (slice_get plans i)
  where
    by : Option Plan → List ℕ
    by None = []
    by (Some p) = p.name

-- the name of a step, or nothing where there is none
abbrev pub name_of_step : Option Step → List ℕ
name_of_step None = []
name_of_step (Some s) = s.name

abbrev pub step_name : List Plan → ℕ → ℕ → List ℕ
step_name plans i n = by (slice_get plans i)
  where
    by : Option Plan → List ℕ
    by None = []
    by (Some p) = name_of_step (slice_get (outline p.tree).steps n)

-- the beginning of a line, with the first name
abbrev pub front : List ℕ → List ℕ → List ℕ
front label name = codes "warning: " ++ label ++ name

-- what is said, and the end of the line
abbrev pub back : List ℕ → List ℕ
back words = codes ": " ++ words ++ codes "\n"

-- a line about what has one name
abbrev pub of_one : List ℕ → List ℕ → List ℕ → List ℕ
of_one label name words = front label name ++ back words

-- a line about two names
abbrev pub of_two : List ℕ → List ℕ → List ℕ → List ℕ → List ℕ → List ℕ
of_two label name between other words = front label name ++ between ++ other ++ back words

-- the line of a warning
abbrev pub line_of : List Op → List Plan → Warning → List ℕ
line_of ops plans (Unused a) = of_one (codes "operation ") (op_name ops a) UNUSED.now
line_of ops plans (Commuting a b) = of_two (codes "operations ") (op_name ops a) (codes " and ") (op_name ops b) COMMUTING.now
line_of ops plans (SameProcess i) = of_one (codes "process ") (process_name plans i) SAME_PROCESS.now
line_of ops plans (HoldOfNothing i n) =
    of_two (codes "step ") (step_name plans i n) (codes " of process ") (process_name plans i) HOLD_OF_NOTHING.now
line_of ops plans (NegativeTake i n) =
    of_two (codes "step ") (step_name plans i n) (codes " of process ") (process_name plans i) NEGATIVE_TAKE.now

-- how many more there are
abbrev pub more : ℕ → List ℕ
more zero = []
more (suc n) = codes "warning: " ++ decimal (suc n) ++ codes " more\n"

-- the lines of the first warnings, and how many more there are
abbrev pub shown : List Op → List Plan → List Warning → List ℕ
shown ops plans ws = flat_map (line_of ops plans) (take MOST_SHOWN ws) ++ more (length ws - MOST_SHOWN)
