-- How far one process has come: its way on, what it has to undo, and what it does next.
use Rattle.std.specs.Prelude.{ℕ, ◌+◌, max, Bool, true, false, ◌&&◌, List, [], ◌∷◌, filter, flat_map, drop, length, nat_eq, nat_le}
use Rattle.std.specs.Prelude.{if◌then◌else◌, Option, Some, None}
use Rattle.process_tree.specs.Shape.{Shape, kind_of, can_be_refused, is_whole, next_steps, least, first_of, last_of, fixed_len}
use Rattle.process_tree.specs.Play.{kept_prefixes, kept_for}
use Rattle.process_tree.specs.Recovery.{forward}
use Rattle.machine_model.specs.declared.kept.Work.{Work}
use Rattle.machine_model.specs.declared.kept.Work.TheVariants.{Forward, Undo, End}

-- a process of this shape
pub record Progress : Type 0 where
  pub shape : Shape
  -- its steps that are done and not undone
  pub net : List ℕ
  -- no way on begins below this step: it is the one after the greatest that ever took effect, or can be refused and was
  pub onward : ℕ
  -- it has begun to complete
  pub begun : Bool

-- what is to be done: a step, its undo, or the end, which has step 0
pub record Task : Type 0 where
  pub work : Work
  pub step : ℕ

-- two pieces do the same kind of work
abbrev pub same_work : Work → Work → Bool
same_work Forward Forward = true
same_work Undo Undo = true
same_work End End = true
same_work a b = false

-- two tasks are the same
abbrev pub same_task : Task → Task → Bool
same_task a b = same_work a.work b.work && nat_eq a.step b.step

-- a piece that does this is the one try of step b
abbrev pub is_only_try : Shape → ℕ → Work → Bool
is_only_try t b Forward = can_be_refused (kind_of t b)
is_only_try t b Undo = false
is_only_try t b End = false

-- the number after the greatest of these
abbrev pub above : List ℕ → ℕ
above [] = 0
above (b ∷ bs) = max (b + 1) (above bs)

-- the way on of a process that has not begun and isn't at a whole path: the least step from its bound on that goes on from a
-- beginning of the net with all its commit points
abbrev pub way_on : Progress → Option ℕ
way_on s =
    if s.begun then None
    else (if is_whole s.shape s.net then None
    else least (filter (λ d. nat_le s.onward d) (flat_map (next_steps s.shape) (kept_prefixes s.shape s.net))))

-- how many steps of the net stay for this way on: those from which it goes on, or those up to the last commit point
abbrev pub staying_for : Progress → Option ℕ → ℕ
staying_for s None = fixed_len s.shape s.net
staying_for s (Some d) = length (kept_for s.shape s.net d)

-- how many steps of the net stay: up to the last commit point where it has begun or has no way on, all where it has done a
-- whole path, and else those from which the way goes on
abbrev pub staying : Progress → ℕ
staying s =
    if s.begun then fixed_len s.shape s.net
    else (if is_whole s.shape s.net then length s.net
    else staying_for s (way_on s))

-- pending: the steps that it has to undo
abbrev pub pending_steps : Progress → List ℕ
pending_steps s = drop (staying s) s.net

-- a step, if there is one, and else the end
abbrev pub step_or_end : Option ℕ → Task
step_or_end None = record { work = End; step = 0 }
step_or_end (Some b) = record { work = Forward; step = b }

-- the undo of a step, if there is one to undo, and else this
abbrev pub undo_or : Task → Option ℕ → Task
undo_or t None = t
undo_or t (Some b) = record { work = Undo; step = b }

-- what it does once nothing is to be undone
abbrev pub next_forward : Progress → Task
next_forward s = step_or_end (if s.begun then first_of (forward s.shape s.net) else way_on s)

-- what it does next: the undo of the last pending step; else, where it has begun, what it owes, and else its way on; and where
-- there is none of these, its end
abbrev pub next_task : Progress → Task
next_task s = undo_or (next_forward s) (last_of (pending_steps s))
