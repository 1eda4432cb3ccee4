-- The names that are printed for the numbers of processes, steps and operations. Where a number is none of these, it is the empty
-- text.
use Rattle.std.specs.Prelude.{ℕ, ◌-◌, List, [], map, slice_index_or}
use Rattle.process_tree.specs.declared.plan.Plan.{Plan}
use Rattle.process_tree.specs.Blocks.{outline}
use Rattle.commute_table.specs.declared.op.Op.{Op}

-- the name of process i: processes count from 1
abbrev pub process_name : List Plan → ℕ → List ℕ
process_name plans i = slice_index_or (map (λ p. p.name) plans) (i - 1) []

-- the names of the steps of a plan, in text order
abbrev pub names_in : Plan → List (List ℕ)
names_in p = map (λ s. s.name) (outline p.tree).steps

-- the name of step b of process i: steps count from 0
abbrev pub step_name : List Plan → ℕ → ℕ → List ℕ
step_name plans i b = slice_index_or (slice_index_or (map names_in plans) (i - 1) []) b []

-- the name of an operation
abbrev pub op_name : List Op → ℕ → List ℕ
op_name ops n = slice_index_or (map (λ o. o.name) ops) n []
