-- Conflict of entries.
use Rattle.std.specs.Prelude.{◌≡◌, ℕ, Bool, true, false, not, ◌&&◌, List, map, nat_eq, slice_index_or}
use Rattle.process_tree.specs.Blocks.{outline}
use Rattle.process_tree.specs.Conflicts.{Access}
use Rattle.process_tree.specs.declared.block.Block.{Block}
use Rattle.process_tree.specs.declared.entry.Entry.{Entry}
use Rattle.process_tree.specs.declared.plan.Plan.{Plan}

-- a test says of two accesses whether they conflict
abbrev pub Test : Type 0
Test = Access → Access → Bool

-- it holds each pair both ways
abbrev pub IsSymmetric : Test → Type 0
IsSymmetric test = (a b : Access) → test a b ≡ test b a

-- what an entry does
abbrev pub access_of : Entry → Access
access_of e = record { op = e.op; key = e.key }

-- two entries conflict where their processes differ and their accesses conflict; whether they are steps or
-- undos, done, running, reserved or pending, plays no part
abbrev pub conflict : Test → Entry → Entry → Bool
conflict test a b = not (nat_eq a.process b.process) && test (access_of a) (access_of b)

-- the keys of the steps of a block, in text order
abbrev pub keys_of : Block → List ℕ
keys_of root = map (λ s. s.key) (outline root).steps

-- the key of step b, or 0 where there is none
abbrev pub key_of : Block → ℕ → ℕ
key_of root b = slice_index_or (keys_of root) b 0

-- what step b of a plan does
abbrev pub access_in : Plan → ℕ → Access
access_in plan b = record { op = slice_index_or plan.ops b 0; key = key_of plan.tree b }

-- step b of process i, whose plan this is: so it is entered once it took effect, and so it counts while it is reserved, pending
-- or running
abbrev pub entry_of : Plan → ℕ → ℕ → Entry
entry_of plan i b = record { process = i; step = b; op = slice_index_or plan.ops b 0; key = key_of plan.tree b; undo = false }

-- the undo of an entry
abbrev pub undo_of : Entry → Entry
undo_of e = record { process = e.process; step = e.step; op = e.op; key = e.key; undo = true }

-- the entry is of step b of process i, done or undone
pub record IsOfStep (plan : Plan) (i b : ℕ) (e : Entry) : Type 0 where
  pub process : e.process ≡ i
  pub step : e.step ≡ b
  pub access : access_of e ≡ access_in plan b
