-- The course of a process: what a history needs to know of its plan.
use Rattle.std.specs.Prelude.{ℕ, ◌-◌, List, [], map, slice_index_or}
use Rattle.process_tree.specs.declared.step.Step.{Step}
use Rattle.process_tree.specs.declared.plan.Plan.{Plan}
use Rattle.process_tree.specs.Blocks.{outline}
use Rattle.process_tree.specs.Conflicts.{Access}
use Rattle.process_tree.specs.Entries.{keys_of}
use Rattle.process_tree.specs.Shape.{Shape, shape_of}

-- how often a step and its undo may be tried, and how many tries of each the plain gate refuses
pub record Allowance : Type 0 where
  pub tries : ℕ
  pub undo_tries : ℕ
  pub refuse : ℕ
  pub undo_refuse : ℕ

-- the shape of the process, and the operation, the key and the allowance of each step in text order
pub record Course : Type 0 where
  pub shape : Shape
  pub ops : List ℕ
  pub keys : List ℕ
  pub allowances : List Allowance

-- what a step says of its tries
abbrev pub allowance_of : Step → Allowance
allowance_of s = record { tries = s.tries; undo_tries = s.undo_tries; refuse = s.refuse; undo_refuse = s.undo_refuse }

-- the course of a plan
abbrev pub course_of : Plan → Course
course_of p =
    record { shape = shape_of p.tree; ops = p.ops; keys = keys_of p.tree; allowances = map allowance_of (outline p.tree).steps }

-- the courses of these plans
abbrev pub courses_of : List Plan → List Course
courses_of plans = map course_of plans

-- three tries, and nothing refused
abbrev pub usual : Allowance
usual = record { tries = 3; undo_tries = 3; refuse = 0; undo_refuse = 0 }

-- a course without steps, for a process that there isn't
abbrev pub no_course : Course
no_course = record { shape = record { kinds = []; paths = [] }; ops = []; keys = []; allowances = [] }

-- the course of process i: processes count from 1
abbrev pub course : List Course → ℕ → Course
course courses i = slice_index_or courses (i - 1) no_course

-- its shape
abbrev pub shape : List Course → ℕ → Shape
shape courses i = (course courses i).shape

-- the operation of its step b
abbrev pub op_of : List Course → ℕ → ℕ → ℕ
op_of courses i b = slice_index_or (course courses i).ops b 0

-- the key of its step b
abbrev pub key_of : List Course → ℕ → ℕ → ℕ
key_of courses i b = slice_index_or (course courses i).keys b 0

-- what its step b does
abbrev pub access_at : List Course → ℕ → ℕ → Access
access_at courses i b = record { op = op_of courses i b; key = key_of courses i b }

-- the allowance of its step b
abbrev pub allowance : List Course → ℕ → ℕ → Allowance
allowance courses i b = slice_index_or (course courses i).allowances b usual
