-- What is looked up in boxes.
use Rattle.std.specs.Prelude.{ℕ, ℤ, ◌+◌, List, [], ◌∷◌, ◌++◌, map}
use Rattle.std.specs.List.{Contains}
use Rattle.process_tree.specs.declared.plan.Plan.{Plan}
use Rattle.history_files.specs.Effects.{key_of}
use Rattle.process_report.specs.Lines.{Line}
use Rattle.resource_box.specs.Meaning.{value_at}
use Rattle.value_replay.specs.declared.line.Line.{Line as Told}
use Rattle.replay_run.specs.Printed.{pairs_lines}

-- these keys, each with its value
abbrev pub pairs_at : List (ℕ × ℤ) → List ℕ → List (ℕ × ℤ)
pairs_at values keys = map (λ k. (k, value_at values k)) keys

-- the lines of boxes at these keys: that of subsystem q, and then those behind it
abbrev pub boxes_lines : {B : Type 0} → (B → List (ℕ × ℤ)) → List ℕ → ℕ → List B → List Line
boxes_lines values_of keys q [] = []
boxes_lines values_of keys q (b ∷ boxes) = pairs_lines q (pairs_at (values_of b) keys) ++ boxes_lines values_of keys (q + 1) boxes

-- the key of each step that is told
abbrev pub step_keys : List Plan → List Told → List ℕ
step_keys plans lines = map (λ l. key_of plans l.entry.process l.entry.step) lines

-- all of them are among these
abbrev pub HaveKeysOf : List Plan → List Told → List ℕ → Type 0
HaveKeysOf plans lines keys = (k : ℕ) → Contains (step_keys plans lines) k → Contains keys k
