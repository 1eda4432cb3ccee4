-- Worked examples, computed: what a stop leaves of a step, and of its undo, and what the driver does about it after the next start;
-- and how pieces come that are of one name.
use Rattle.std.specs.Prelude.{◌≡◌, true, false, List, [], ◌∷◌, ◌++◌, map, refl}
use Rattle.exactly_once.specs.Names.{Name, Do, Undo, Work, Absent, Prepared, Committed}
use Rattle.exactly_once.specs.Settling.{Answer, Done, Undone, NotDone, Action, Nothing, Commit, TakeBack, CommitUndo, TakeBackUndo, CarryOutUndo}
use Rattle.exactly_once.specs.Machine.{Answers, Begins, Dies, Ends, Event, GoesBack, GoesOn, Hands, Handed, Keeps, Lands, Opens, Piece, Ready, Says, Settles, Stage, Stops, Turns, Undoes, World, action, is_over, is_working, may_hand, run, start, told}

-- step 0 of process 1, and its undo
abbrev pub step : Name
step = Do 1 0

abbrev pub its_undo : Name
its_undo = Undo 1 0

-- what there is of it: in the files, in your system, and what the settling does about it
abbrev pub Row : Type 0
Row = Answer × Work × Work × Action

abbrev pub row_of : World → Row
row_of w = (told w.kept 1 0, w.work step, w.work its_undo, action w 1 0)

-- a stop of the program, one of the driver, which the program follows, and the next start
abbrev pub program_stops : List Event
program_stops = Stops ∷ Opens ∷ []

abbrev pub driver_dies : List Event
driver_dies = Dies ∷ Stops ∷ Opens ∷ []

abbrev pub after : List Event → List Event → Row
after work stop = row_of (run (work ++ stop) start)

-- The work of a step, up to each moment.

abbrev pub begun : List Event
begun = Opens ∷ GoesOn ∷ Hands step ∷ Begins 1 ∷ []

abbrev pub prepared : List Event
prepared = begun ++ Lands 1 ∷ []

abbrev pub said : List Event
said = prepared ++ Says 1 ∷ []

abbrev pub kept : List Event
kept = said ++ Keeps 1 ∷ []

abbrev pub effected : List Event
effected = kept ++ Answers 1 ∷ []

abbrev pub committed : List Event
committed = effected ++ Lands 1 ∷ []

abbrev pub answered_otherwise : List Event
answered_otherwise = said ++ GoesBack 1 ∷ Answers 1 ∷ []

-- before it is prepared
pub stop_before_prepared :
    (after begun program_stops ≡ (NotDone, Absent, Absent, Nothing)) × (after begun driver_dies ≡ (NotDone, Absent, Absent, Nothing))
stop_before_prepared = (refl, refl)

-- before the program has kept the `finish`
pub stop_before_said :
    (after prepared program_stops ≡ (NotDone, Prepared, Absent, TakeBack)) × (after prepared driver_dies ≡ (NotDone, Prepared, Absent, TakeBack))
stop_before_said = (refl, refl)

pub stop_before_kept :
    (after said program_stops ≡ (NotDone, Prepared, Absent, TakeBack)) × (after said driver_dies ≡ (NotDone, Prepared, Absent, TakeBack))
stop_before_kept = (refl, refl)

-- before the driver has read `effected`
pub stop_before_effected :
    (after kept program_stops ≡ (Done, Prepared, Absent, Commit)) × (after kept driver_dies ≡ (Done, Prepared, Absent, Commit))
stop_before_effected = (refl, refl)

-- before the driver has committed
pub stop_before_committed :
    (after effected program_stops ≡ (Done, Prepared, Absent, Commit)) × (after effected driver_dies ≡ (Done, Prepared, Absent, Commit))
stop_before_committed = (refl, refl)

-- after that
pub stop_after_committed :
    (after committed program_stops ≡ (Done, Committed, Absent, Nothing)) × (after committed driver_dies ≡ (Done, Committed, Absent, Nothing))
stop_after_committed = (refl, refl)

-- after another answer, before the driver has taken it back
pub stop_before_taken_back :
    (after answered_otherwise program_stops ≡ (NotDone, Prepared, Absent, TakeBack))
    × (after answered_otherwise driver_dies ≡ (NotDone, Prepared, Absent, TakeBack))
stop_before_taken_back = (refl, refl)

-- The work of its undo.

abbrev pub undo_begun : List Event
undo_begun = committed ++ Hands its_undo ∷ Begins 1 ∷ []

abbrev pub undo_prepared : List Event
undo_prepared = undo_begun ++ Lands 1 ∷ Says 1 ∷ []

abbrev pub undo_kept : List Event
undo_kept = undo_prepared ++ Keeps 1 ∷ []

abbrev pub undo_committed : List Event
undo_committed = undo_kept ++ Answers 1 ∷ Lands 1 ∷ []

-- before it is prepared; the undo is handed out again
pub stop_before_undo_prepared :
    (after undo_begun program_stops ≡ (Done, Committed, Absent, Nothing)) × (after undo_begun driver_dies ≡ (Done, Committed, Absent, Nothing))
stop_before_undo_prepared = (refl, refl)

pub undo_again : may_hand (run (undo_begun ++ driver_dies ++ GoesOn ∷ []) start) its_undo ≡ true
undo_again = refl

-- before the program has kept the `finish`
pub stop_before_undo_kept :
    (after undo_prepared program_stops ≡ (Done, Committed, Prepared, TakeBackUndo))
    × (after undo_prepared driver_dies ≡ (Done, Committed, Prepared, TakeBackUndo))
stop_before_undo_kept = (refl, refl)

-- before the driver has carried it out
pub stop_before_undo_committed :
    (after undo_kept program_stops ≡ (Undone, Committed, Prepared, CommitUndo))
    × (after undo_kept driver_dies ≡ (Undone, Committed, Prepared, CommitUndo))
stop_before_undo_committed = (refl, refl)

-- after that
pub stop_after_undo_committed :
    (after undo_committed program_stops ≡ (Undone, Committed, Committed, Nothing))
    × (after undo_committed driver_dies ≡ (Undone, Committed, Committed, Nothing))
stop_after_undo_committed = (refl, refl)

-- a `restart` did the undo, of what was committed, and of what was only prepared
pub undone_without_driver :
    (after committed (Stops ∷ Undoes 1 0 ∷ Opens ∷ []) ≡ (Undone, Committed, Absent, CarryOutUndo))
    × (after kept (Stops ∷ Undoes 1 0 ∷ Opens ∷ []) ≡ (Undone, Prepared, Absent, TakeBack))
undone_without_driver = (refl, refl)

-- What the settling makes of these: it settles the step, and what it asks for lands.

abbrev pub settled : List Event
settled = Settles 1 0 ∷ Lands 1 ∷ GoesOn ∷ []

pub taken_back_and_gone : after (said ++ driver_dies) settled ≡ (NotDone, Absent, Absent, Nothing)
taken_back_and_gone = refl

pub committed_in_the_end : after (kept ++ driver_dies) settled ≡ (Done, Committed, Absent, Nothing)
committed_in_the_end = refl

pub undo_in_the_end : after (undo_kept ++ driver_dies) settled ≡ (Undone, Committed, Committed, Nothing)
undo_in_the_end = refl

-- what is undone without the driver is prepared first, and then committed
pub carried_out_in_the_end :
    after (committed ++ Stops ∷ Undoes 1 0 ∷ Opens ∷ []) (Settles 1 0 ∷ Lands 1 ∷ settled) ≡ (Undone, Committed, Committed, Nothing)
carried_out_in_the_end = refl

-- nothing is handed out before all is settled
pub not_before : is_working (run (kept ++ driver_dies ++ GoesOn ∷ []) start).phase ≡ false
not_before = refl

-- What a killed driver's session has under way lands before the next start, or never.

pub lands_before : after (begun ++ Dies ∷ Stops ∷ Lands 1 ∷ []) (Opens ∷ []) ≡ (NotDone, Prepared, Absent, TakeBack)
lands_before = refl

pub never_lands : after begun (Dies ∷ Stops ∷ Opens ∷ Lands 1 ∷ []) ≡ (NotDone, Absent, Absent, Nothing)
never_lands = refl

-- A line that a driver sent before it died may still be taken.
pub kept_after_death : after said (Dies ∷ Keeps 1 ∷ Stops ∷ Opens ∷ []) ≡ (Done, Prepared, Absent, Commit)
kept_after_death = refl

-- The process goes back while its undo is with the driver, and the same undo is handed out again. The driver doesn't begin it before it has
-- settled the first one.

abbrev pub two_of_one_name : List Event
two_of_one_name = undo_begun ++ Lands 1 ∷ GoesBack 1 ∷ Hands its_undo ∷ []

abbrev pub stages : List Event → List Stage
stages es = map (λ (p : Piece). p.stage) ((run es start).pieces 1)

pub the_second_waits : stages (two_of_one_name ++ Begins 1 ∷ []) ≡ Ready ∷ Handed ∷ []
the_second_waits = refl

pub the_first_is_taken_back : after two_of_one_name (Says 1 ∷ Answers 1 ∷ Lands 1 ∷ []) ≡ (Done, Committed, Absent, Nothing)
the_first_is_taken_back = refl

pub the_second_is_done :
    after two_of_one_name (Says 1 ∷ Answers 1 ∷ Lands 1 ∷ Begins 1 ∷ Lands 1 ∷ Says 1 ∷ Keeps 1 ∷ Answers 1 ∷ Lands 1 ∷ [])
    ≡ (Undone, Committed, Committed, Nothing)
the_second_is_done = refl

-- Generations. Whoever has ended is known for one turn more, and is forgotten by the next one.

pub known_for_one_turn : told (run (committed ++ Ends 1 ∷ Turns ∷ []) start).kept 1 0 ≡ Done
known_for_one_turn = refl

pub ended_is_over : is_over (run (committed ++ Ends 1 ∷ Turns ∷ Turns ∷ []) start) 1 ≡ true
ended_is_over = refl

-- a process doesn't end while its work is with the driver
pub not_ended : is_over (run (effected ++ Ends 1 ∷ []) start) 1 ≡ false
not_ended = refl

-- between two turns the driver settles
pub one_turn_alone :
    (run (kept ++ Stops ∷ Ends 1 ∷ Turns ∷ Turns ∷ []) start).forgotten ≡ []
one_turn_alone = refl
