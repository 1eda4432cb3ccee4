-- What became of a step, and lines that a driver reads, computed.
use Rattle.std.specs.Prelude.{◌≡◌, ℕ, List, [], ◌∷◌, codes, true, false, refl}
use Rattle.std.specs.Fmt.{digits}
use Rattle.process_text.specs.Canonical.{line_of}
use Rattle.schedule_model.specs.declared.event.Event.{Event}
use Rattle.schedule_model.specs.declared.event.Event.TheVariants.{Start, Act, End}
use Rattle.schedule_model.specs.declared.history.History.{History}
use Rattle.machine_model.specs.declared.kept.Work.{Work}
use Rattle.machine_model.specs.declared.kept.Work.TheVariants.{Forward, End as AnEnd}
use Rattle.machine_model.specs.Replies.{Handed}
use Rattle.process_report.specs.Examples.{purchase, sale}
use Rattle.driver_requests.specs.declared.request.Happening.TheVariants.{Done, Undone, NotDone}
use Rattle.driver_answers.specs.Happenings.{happening}
use Rattle.driver_answers.specs.Serving.{happened, listed, with_call}
use Rattle.driver_answers.specs.Starts.{started}
use Rattle.driver_answers.specs.Waits.{last_event}

-- step 0 of process 1 took effect and was undone, its step 1 stands
abbrev pub worked : List Event
worked =
    Start 1
    ∷ Act (record { process = 1; step = 0; op = 0; key = 0; undo = false })
    ∷ Act (record { process = 1; step = 0; op = 0; key = 0; undo = true })
    ∷ Act (record { process = 1; step = 1; op = 1; key = 0; undo = false })
    ∷ End 1
    ∷ []

pub was_undone : happening 1 0 worked ≡ Undone 3
was_undone = refl

pub stands : happening 1 1 worked ≡ Done 4
stands = refl

pub never_done : happening 1 2 worked ≡ NotDone
never_done = refl

pub of_another : happening 2 0 worked ≡ NotDone
of_another = refl

-- its end is its last event, and another has none
pub last_is_end : last_event 1 worked ≡ 5
last_is_end = refl

pub last_of_another : last_event 2 worked ≡ 0
last_of_another = refl

-- the same of a purchase
abbrev pub bought : History
bought = record { plans = purchase ∷ []; events = worked }

pub undone_line : line_of (happened bought 1 (codes "x")) ≡ codes "undone 1.x 3\n"
unfolding digits
undone_line = refl

pub done_line : line_of (happened bought 1 (codes "y")) ≡ codes "done 1.y 4\n"
unfolding digits
done_line = refl

-- the process has no such step
pub no_step_line : line_of (happened bought 1 (codes "z")) ≡ codes "no step z\n"
unfolding digits
no_step_line = refl

-- the purchase has ended with its step y done, and a process of another name is not told
pub started_line : started bought (codes "a") ≡ codes "1 a path y\n"
unfolding digits
started_line = refl

pub started_none : started bought (codes "b") ≡ []
started_none = refl

-- there is no such process
pub unknown_line : line_of (happened bought 2 (codes "x")) ≡ codes "unknown 2\n"
unfolding digits
unknown_line = refl

-- processes count from 1
pub nobody_line : line_of (happened bought 0 (codes "x")) ≡ codes "unknown 0\n"
unfolding digits
nobody_line = refl

-- a piece of step 0 that is handed out
abbrev pub handed : ℕ → ℕ → Work → Handed
handed number process work =
    record { piece = record { number = number; process = process; step = 0; work = work }; tried = 0; refuse = 0 }

-- what it calls stands behind its line
pub called_line : with_call (purchase ∷ sale ∷ []) (handed 1 2 Forward ∷ []) (codes "victim 1\npiece 1: do 2.u\n")
    ≡ codes "victim 1\npiece 1: do 2.u take 1 5\n"
unfolding digits
called_line = refl

pub no_piece_handed : with_call (purchase ∷ sale ∷ []) [] (codes "all ended\n") ≡ codes "all ended\n"
no_piece_handed = refl

pub listed_lines : listed (purchase ∷ sale ∷ []) (handed 3 1 Forward ∷ handed 4 2 AnEnd ∷ [])
    ≡ codes "piece 3: do 1.x add 1 5\npiece 4: end 2\n"
unfolding digits
listed_lines = refl
