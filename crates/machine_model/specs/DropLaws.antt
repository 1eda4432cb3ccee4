-- The laws of how many pieces are dropped, and of what became of those that were handed out, as statements.
use Rattle.std.specs.Prelude.{◌≡◌, ◌≤◌, List, ℕ, ◌+◌, Bool, ◌&&◌, length, filter, nat_eq, IsTrue, Option, Some, None, is_some}
use Rattle.process_tree.specs.declared.plan.Plan.{Plan}
use Rattle.schedule_model.specs.Conflict.{ConflictRelation}
use Rattle.machine_model.specs.Moment.{Piece}
use Rattle.machine_model.specs.Pieces.{dropped_at, hands, is_finished, is_try_of, refusals, runs}
use Rattle.machine_model.specs.declared.kept.Work.{Work}
use Rattle.machine_model.specs.State.{tries_by}
use Rattle.machine_model.specs.Advance.{Machine}
use Rattle.machine_model.specs.Runs.{is_run, now}
use Rattle.machine_model.specs.Laws.{IsSession}

-- At most one piece of each process is dropped.
abbrev pub OneIsDropped : Type 0
OneIsDropped = (table : ConflictRelation) (s : Machine) (i : ℕ) → IsTrue (is_run table s)
    → length (filter (λ l. nat_eq l.piece.process i) (now table s).lost) ≤ 1

-- Each piece that was handed out is out, dropped or finished, and only one of these: so they are counted, whichever are asked for.
abbrev pub HandsAreParted : Type 0
HandsAreParted = (table : ConflictRelation) (s : Machine) (asked : Piece → Bool) → IsTrue (is_run table s)
    → let m = now table s in
    length (filter asked (hands s.kept))
    ≡ length (filter (λ p. asked p && runs m p.number) (hands s.kept)) + length
    (filter (λ p. asked p && is_some (dropped_at m p.number)) (hands s.kept))
    + length (filter (λ p. asked p && is_finished s.kept p.number) (hands s.kept))

-- No piece is refused more often than it may be tried.
abbrev pub RefusalsAreWithinTries : Type 0
RefusalsAreWithinTries = (table : ConflictRelation) (s : Machine) (i b : ℕ) (w : Work) (tries : ℕ) → IsTrue (is_run table s)
    → tries_by s.courses i b w ≡ Some tries → refusals s.kept i b w ≤ tries

-- so many tries as are stated, and one where nothing is said
abbrev pub tries_or_one : Option ℕ → ℕ
tries_or_one None = 1
tries_or_one (Some tries) = tries

-- No step, undo or end is handed out more often than it may be tried, but for pieces that are dropped.
abbrev pub HandsAreWithinTries : Type 0
HandsAreWithinTries = (table : ConflictRelation) (plans : List Plan) (s : Machine) (i b : ℕ) (w : Work) → IsSession table plans s
    → length (filter (is_try_of i b w) (hands s.kept)) ≤ tries_or_one (tries_by s.courses i b w) + length
    (filter (λ l. is_try_of i b w l.piece) (now table s).lost)
