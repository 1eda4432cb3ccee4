-- Forgetting is invisible, as statements.
use Rattle.std.specs.Prelude.{◌≡◌, ℕ, List, ◌++◌, flat_map, map, IsTrue}
use Rattle.process_tree.specs.declared.plan.Plan.{Plan}
use Rattle.schedule_model.specs.declared.event.Event.{Event}
use Rattle.schedule_model.specs.Course.{Course, courses_of}
use Rattle.schedule_model.specs.Conflict.{ConflictRelation, IsSymmetric}
use Rattle.schedule_model.specs.Histories.{ends, is_active, net_of}
use Rattle.schedule_model.specs.Completion.{completed, completion}
use Rattle.schedule_model.specs.Legal.{is_legal, may_come}
use Rattle.schedule_model.specs.PrintedTrace.{printed_trace}
use Rattle.schedule_model.specs.Laws.{AreGood}
use Rattle.forgetting_model.specs.Remaining.{as_before, as_since, courses_left, entries_before, number_in, remaining}
use Rattle.forgetting_model.specs.Remaining.{events_of, is_open, renumbered_event}

-- What remains of a legal history is of the active processes.
abbrev pub WhatRemainsIsOfTheActive : Type 0
WhatRemainsIsOfTheActive = (table : ConflictRelation) (courses : List Course) (h : List Event) → IsTrue (is_legal table courses h)
    → events_of (is_open h) h ≡ events_of (is_active h) h

-- What remains of a legal history is legal.
abbrev pub WhatRemainsIsLegal : Type 0
WhatRemainsIsLegal = (table : ConflictRelation) (courses : List Course) (h : List Event) → IsTrue (is_legal table courses h)
    → IsTrue (is_legal table (courses_left courses h) (remaining h))

-- Forgetting is invisible: an event may come after what remains of a legal history, and what followed, exactly where the event of
-- the same process may come after the whole.
abbrev pub ForgettingIsInvisible : Type 0
ForgettingIsInvisible = (table : ConflictRelation) (courses : List Course) (h u : List Event) (e : Event) → IsSymmetric table
    → IsTrue (is_legal table courses h) → IsTrue (is_legal table courses (h ++ as_before h u))
    → may_come table (courses_left courses h) (remaining h ++ u) e
    ≡ may_come table courses (h ++ as_before h u) (renumbered_event (number_in h) e)

-- So what remains goes on legally exactly as the whole does.
abbrev pub WhatRemainsGoesOnAlike : Type 0
WhatRemainsGoesOnAlike = (table : ConflictRelation) (courses : List Course) (h u : List Event) → IsSymmetric table
    → IsTrue (is_legal table courses h)
    → is_legal table (courses_left courses h) (remaining h ++ u) ≡ is_legal table courses (h ++ as_before h u)

-- Each way on of the whole is one of those: the numbers of then lead to the numbers of before.
abbrev pub EachWayOnIsMet : Type 0
EachWayOnIsMet = (table : ConflictRelation) (courses : List Course) (h u : List Event) → IsTrue (is_legal table courses (h ++ u))
    → as_before h (as_since h u) ≡ u

-- Completion adds the same to both.
abbrev pub CompletionIsTheSame : Type 0
CompletionIsTheSame = (table : ConflictRelation) (courses : List Course) (h u : List Event)
    → IsTrue (is_legal table courses h) → IsTrue (is_legal table courses (h ++ as_before h u))
    → completion courses (h ++ as_before h u) ≡ as_before h (completion (courses_left courses h) (remaining h ++ u))

-- The serial order of the whole is that of those that had ended, in the order of their ends, and then that of what remains.
abbrev pub SerialOrderGoesOn : Type 0
SerialOrderGoesOn = (table : ConflictRelation) (courses : List Course) (h u : List Event)
    → IsTrue (is_legal table courses h) → IsTrue (is_legal table courses (h ++ as_before h u))
    → ends (completed courses (h ++ as_before h u))
    ≡ ends h ++ map (number_in h) (ends (completed (courses_left courses h) (remaining h ++ u)))

-- So is the serial list to which the printed trace leads: first the nets of those that had ended, in the order of their ends, and
-- then the list of what remains.
abbrev pub SerialListGoesOn : Type 0
SerialListGoesOn = (table : ConflictRelation) (plans : List Plan) (h u : List Event) → IsSymmetric table → AreGood plans
    → let courses = courses_of plans in
    IsTrue (is_legal table courses h) → IsTrue (is_legal table courses (h ++ as_before h u))
    → (printed_trace courses (h ++ as_before h u)).list
    ≡ flat_map (net_of h) (ends h) ++ entries_before h (printed_trace (courses_left courses h) (remaining h ++ u)).list

-- Forgetting twice is forgetting once: what remains of what remains, and what followed, is what remains of the whole; and the numbers
-- are those of the whole, by the numbers between.
abbrev pub ForgettingTwiceIsForgettingOnce : Type 0
ForgettingTwiceIsForgettingOnce = (table : ConflictRelation) (courses : List Course) (h u : List Event) → IsSymmetric table
    → IsTrue (is_legal table courses h) → IsTrue (is_legal table courses (h ++ as_before h u))
    → ((k : ℕ) → number_in (h ++ as_before h u) k ≡ number_in h (number_in (remaining h ++ u) k))
    × (remaining (h ++ as_before h u) ≡ remaining (remaining h ++ u))
