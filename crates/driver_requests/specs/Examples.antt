-- Worked lines of drivers and their answers, computed.
use Rattle.std.specs.Prelude.{◌≡◌, [], ◌∷◌, codes, true, false, Some, None, refl}
use Rattle.std.specs.Fmt.{digits}
use Rattle.process_text.specs.Canonical.{line_of}
use Rattle.machine_model.specs.declared.kept.Work.TheVariants.{Forward, Undo, End}
use Rattle.process_report.specs.Examples.{purchase, sale, cut_off, side_by_side}
use Rattle.session_text.specs.declared.line.Line.TheVariants.{Start, Next}
use Rattle.driver_requests.specs.declared.request.Happening.TheVariants.{Done, Undone, NotDone}
use Rattle.driver_requests.specs.declared.request.Request.TheVariants.{Session, StartSpelled, Happened, Started}
use Rattle.driver_requests.specs.Answers.{called_piece, framed, happening_words}
use Rattle.driver_requests.specs.Readiness.{ready_text}
use Rattle.driver_requests.specs.Requests.{request_of}

-- a line of a session is one of a driver
pub a_session_line : request_of (codes "next") ≡ Some (Session Next)
unfolding digits
a_session_line = refl

pub spelled : request_of (codes "start process a c x add 1 5 end") ≡ Some StartSpelled
unfolding digits
spelled = refl

-- a process may have the name `process`
pub named_process : request_of (codes "start process") ≡ Some (Session (Start (codes "process")))
unfolding digits
named_process = refl

pub of_a_step : request_of (codes "done 12.pay") ≡ Some (Happened 12 (codes "pay"))
unfolding digits
of_a_step = refl

pub of_a_name : request_of (codes "started order_12") ≡ Some (Started (codes "order_12"))
unfolding digits
of_a_name = refl

pub no_name : request_of (codes "started 12") ≡ None
unfolding digits
no_name = refl

pub leading_zero : request_of (codes "done 01.pay") ≡ None
unfolding digits
leading_zero = refl

pub space_behind : request_of (codes "pieces ") ≡ None
unfolding digits
space_behind = refl

-- one line is told as it is, and more behind their number
pub one_line : framed false (codes "all ended\n") ≡ codes "all ended\n"
unfolding digits
one_line = refl

pub two_lines : framed false (codes "victim 1\nwait\n") ≡ codes "lines 2\nvictim 1\nwait\n"
unfolding digits
two_lines = refl

pub no_pieces : framed true [] ≡ codes "lines 0\n"
unfolding digits
no_pieces = refl

-- a piece is told with what it calls
pub a_call : line_of (called_piece (purchase ∷ sale ∷ []) (record { number = 1; process = 1; step = 0; work = Forward }))
    ≡ codes "piece 1: do 1.x add 1 5\n"
unfolding digits
a_call = refl

pub a_call_of_an_undo : line_of (called_piece (purchase ∷ sale ∷ []) (record { number = 3; process = 2; step = 0; work = Undo }))
    ≡ codes "piece 3: undo 2.u take 1 5\n"
unfolding digits
a_call_of_an_undo = refl

-- there is no such step
pub a_call_of_none : line_of (called_piece (purchase ∷ []) (record { number = 3; process = 1; step = 2; work = Forward }))
    ≡ codes "piece 3: do 1.\n"
unfolding digits
a_call_of_none = refl

pub an_end : line_of (called_piece (purchase ∷ []) (record { number = 4; process = 1; step = 0; work = End }))
    ≡ codes "piece 4: end 1\n"
unfolding digits
an_end = refl

pub stands : line_of (happening_words (purchase ∷ sale ∷ []) 1 0 (Done 3)) ≡ codes "done 1.x 3\n"
unfolding digits
stands = refl

pub undone : line_of (happening_words (purchase ∷ sale ∷ []) 1 0 (Undone 7)) ≡ codes "undone 1.x 7\n"
unfolding digits
undone = refl

pub not_done : line_of (happening_words (purchase ∷ sale ∷ []) 2 0 NotDone) ≡ codes "not done 2.u\n"
unfolding digits
not_done = refl

-- what is told first, where all ended and where two are active
pub nobody_completes : ready_text side_by_side ≡ codes "ready 0\n"
unfolding digits
nobody_completes = refl

pub two_complete : ready_text cut_off ≡ codes "ready 2\ncompleting 1 a\ncompleting 2 b\n"
unfolding digits
two_complete = refl
