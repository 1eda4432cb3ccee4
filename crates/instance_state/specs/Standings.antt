-- Where a process stands, by its last step: what it has done is the branch to that step, with it.
use Rattle.std.specs.Prelude.{◌≡◌, ◌<◌, ℕ, ◌-◌, false, length, Option, Some, None}
use Rattle.std.specs.Option.{IfSome}
use Rattle.process_tree.specs.Laws.{IsTreeShape}
use Rattle.process_tree.specs.Shape.{Shape}
use Rattle.machine_model.specs.Progress.{Progress}
use Rattle.machine_model.specs.ProcessState.{ProcessState}
use Rattle.instance_state.specs.declared.standing.Standing.{Standing}
use Rattle.instance_state.specs.Rows.{done_to, way_from}

-- how far a process of this shape has come
abbrev pub progress_of : Shape → Standing → Progress
progress_of t s = record { shape = t; net = done_to t s.last; onward = s.onward; begun = s.begun }

abbrev pub state_of : Shape → Standing → ProcessState
state_of t s = record { progress = progress_of t s; refused = s.refused }

-- what is kept stands for the process: its last step is one of it, and unless it has begun to complete, the way is the least
-- step from its bound on
pub record Keeps (t : Shape) (s : Standing) : Type 0 where
  pub tree : IsTreeShape t
  pub last_is : IfSome s.last (λ b. b < length t.kinds)
  pub way_is : s.begun ≡ false → s.way ≡ way_from t (done_to t s.last) s.onward

-- a process that has come that far, and of which nothing was refused since
abbrev pub with_progress : Progress → ProcessState
with_progress p = record { progress = p; refused = 0 }

-- how many of n steps are left from this one on
abbrev pub left_from : ℕ → Option ℕ → ℕ
left_from n None = 0
left_from n (Some d) = n - d
