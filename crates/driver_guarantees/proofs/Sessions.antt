-- What a call makes of a session: its moment, who has started, and who is served.
use Rattle.std.proofs.Common.{◌≡◌, ◌++◌, ap, ◌∙◌, append-nil}
use Rattle.schedule_model.specs.Conflict.{ConflictRelation}
use Rattle.schedule_model.specs.Histories.{starts}
use Rattle.machine_model.specs.Advance.{Machine, advance_all}
use Rattle.machine_model.specs.Calls.{Call, IsNoStart, answer, answered}
use Rattle.machine_model.specs.Moment.{opening_moment}
use Rattle.machine_model.specs.Runs.{history, now}
use Rattle.machine_model.proofs.CallsKept.{no_courses}
use Rattle.machine_model.proofs.SessionCalls.{call-starts, starts-still}
use Rattle.machine_model.proofs.Snoc.{advance_all-append}

module _ (table : ConflictRelation) (s : Machine) (c : Call) (no_start : IsNoStart c) where
  -- the courses stay
  pub called-courses : (answered s (answer table s c)).courses ≡ s.courses
  called-courses = ap (λ cs. s.courses ++ cs) (no_courses table s c no_start) ∙ append-nil s.courses

  -- the moment is that of what the call kept
  pub called-now : now table (answered s (answer table s c)) ≡ advance_all table s.courses (now table s) (answer table s c).kept
  called-now =
      ap (λ cs. advance_all table cs (opening_moment s.opening) (s.kept ++ (answer table s c).kept)) called-courses
      ∙ advance_all-append table s.courses (opening_moment s.opening) s.kept (answer table s c).kept

  -- nobody has started
  pub called-starts : starts (history table (answered s (answer table s c))) ≡ starts (history table s)
  called-starts =
      ap (λ m. starts m.events) called-now
      ∙ starts-still table s.courses (now table s) (answer table s c).kept (call-starts table s.courses (now table s) s.served c no_start)
