-- What a call other than a start keeps makes a longer session.
use Rattle.std.proofs.Common.{◌≡◌, ℕ, List, [], ◌++◌, length, sym, refl, ap, subst, ◌∙◌, append-nil}
use Rattle.std.proofs.lemmas.Bool.{and_from}
use Rattle.schedule_model.specs.Course.{Course}
use Rattle.schedule_model.specs.Conflict.{ConflictRelation}
use Rattle.schedule_model.specs.Histories.{starts}
use Rattle.machine_model.specs.Moment.{Moment}
use Rattle.machine_model.specs.Calls.{Call, IsNoStart, start, admit, next, finish, abort, complete_all, answer_at}
use Rattle.machine_model.proofs.CallsKept.{call-kept}
use Rattle.machine_model.proofs.SessionCalls.{call-starts, starts-still}
use Rattle.machine_model.proofs.Snoc.{advance_all-append, goes_on-append}
use Rattle.resume_model.specs.MomentLaws.{CallsKeepSessions}
use Rattle.resume_model.specs.Openings.{opened}
use Rattle.resume_model.specs.Resumed.{IsResumed, answer_of, is_run_of, now_of}

no_more_courses : (table : ConflictRelation) (courses : List Course) (m : Moment) (served : ℕ) (c : Call) → IsNoStart c → (answer_at table courses m served c).courses ≡ []
no_more_courses table courses m served (start c) no_start = absurd no_start
no_more_courses table courses m served (admit i) no_start = refl
no_more_courses table courses m served next no_start = refl
no_more_courses table courses m served (finish n outcome) no_start = refl
no_more_courses table courses m served (abort i) no_start = refl
no_more_courses table courses m served complete_all no_start = refl

pub calls_keep_sessions : CallsKeepSessions
calls_keep_sessions table plans s session c no_start =
    let a = answer_of table s c in
    subst (λ cs. IsResumed table plans (record { opening = s.opening; courses = cs; kept = s.kept ++ a.kept; served = a.served }))
    (sym (ap (λ cs. s.courses ++ cs) (no_more_courses table s.courses (now_of table s) s.served c no_start) ∙ append-nil s.courses))
    (record {
      symmetric = session.symmetric;
      good = session.good;
      courses = session.courses;
      one_each = session.one_each ∙ sym (ap length (ap (λ (m : Moment). starts m.events) (advance_all-append table s.courses (opened s.opening) s.kept a.kept)
          ∙ starts-still table s.courses (now_of table s) a.kept (call-starts table s.courses (now_of table s) s.served c no_start)));
      sound = session.sound;
      run = goes_on-append table s.courses (opened s.opening) s.kept a.kept ∙ and_from (is_run_of table s) _ session.run (call-kept table s.courses (now_of table s) s.served c no_start);
    })
