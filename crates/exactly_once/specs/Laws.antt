-- What a driver that keeps to its rule may rely on, whatever happens.
use Rattle.std.specs.Prelude.{◌≡◌, ◌≢◌, ◌≤◌, ◌+◌, ℕ, List, [], ◌∷◌, IsTrue}
use Rattle.exactly_once.specs.Names.{Name, Do, Undo, Work, Absent, Prepared, Committed, has, count, process_of, step_of}
use Rattle.exactly_once.specs.Settling.{Answer, Done, Undone, NotDone, Unknown, NoStep, StopLost, StopAhead}
use Rattle.exactly_once.specs.Machine.{World, Event, GoesOn, Lands, Opens, Settles, action, is_closed, is_in, is_over, is_working, may_follow, run, start, told}

-- the work of a step, and that of its undo, with nothing under way: what is done stands committed, what isn't done is absent, and
-- what is undone was taken back, or was never committed
abbrev pub AreAtRest : Answer → Work → Work → Type 0
AreAtRest Done s u = (s ≡ Committed) × (u ≡ Absent)
AreAtRest Undone s u = (s ≡ u) × (s ≢ Prepared)
AreAtRest NotDone s u = (s ≡ Absent) × (u ≡ Absent)
AreAtRest Unknown s u = ⊥
AreAtRest NoStep s u = ⊥

-- each of these effects, the newest first, may follow those before it
abbrev pub InOrder : List Name → Type 0
InOrder [] = Unit
InOrder (n ∷ ns) = IsTrue (may_follow ns n) × InOrder ns

-- how often the work of a step stands
abbrev pub stands : Answer → ℕ
stands Done = 1
stands Undone = 0
stands NotDone = 0
stands Unknown = 0
stands NoStep = 0

-- Your system has of step b of process i what the history has, and it was done, less what was taken back, as often as it stands there.
pub record IsExact (w : World) (i b : ℕ) : Type 0 where
  pub at_rest : AreAtRest (told w.kept i b) (w.work (Do i b)) (w.work (Undo i b))
  pub times : w.times (Do i b) ≡ w.times (Undo i b) + stands (told w.kept i b)

-- Exactly once: where the driver has settled, whatever happened before, of a process of which no piece is with the driver your system
-- has exactly what the history has.
abbrev pub IsExactlyOnce : Type 0
IsExactlyOnce = (es : List Event) (i b : ℕ) → IsTrue (is_working (run es start).phase) → (run es start).pieces i ≡ []
    → IsExact (run es start) i b

-- Nothing is left over: so it is of each process that has ended.
abbrev pub NothingIsLeftOver : Type 0
NothingIsLeftOver = (es : List Event) (i b : ℕ) → IsTrue (is_working (run es start).phase) → IsTrue (is_over (run es start) i)
    → IsExact (run es start) i b

-- Nothing is done twice: at each moment a name was committed at most as often as the history has it, which is at most once.
abbrev pub NothingIsDoneTwice : Type 0
NothingIsDoneTwice = (es : List Event) (n : Name)
    → ((run es start).times n ≤ count (run es start).kept n) × (count (run es start).kept n ≤ 1)

-- Nothing is done that the history loses: what is committed is in the history, and in that of each moment to come.
abbrev pub WhatIsCommittedStays : Type 0
WhatIsCommittedStays = (es later : List Event) (n : Name) → (run es start).work n ≡ Committed
    → IsTrue (has (run later (run es start)).kept n)

-- A settling never needs a person, and whoever is forgotten has nothing to be settled.
pub record IsNoneToDecide (w : World) (i b : ℕ) : Type 0 where
  pub not_lost : action w i b ≢ StopLost
  pub not_ahead : action w i b ≢ StopAhead
  pub forgotten : IsTrue (is_in i w.forgotten) → AreAtRest (told w.kept i b) (w.work (Do i b)) (w.work (Undo i b))

abbrev pub NobodyHasToDecide : Type 0
NobodyHasToDecide = (es : List Event) (i b : ℕ) → IsNoneToDecide (run es start) i b

-- A settling: each name that was found is settled, and what that asks for lands; twice, since an undo that is to be carried out is
-- prepared first. Then pieces are asked for.
abbrev pub settling : List Name → List Event
settling [] = GoesOn ∷ []
settling (n ∷ ns) =
    Settles (process_of n) (step_of n) ∷ Lands (process_of n) ∷ Settles (process_of n) (step_of n) ∷ Lands (process_of n) ∷ settling ns

-- Settling ends: after each start nothing is left to be settled once the driver has settled all that it found.
abbrev pub SettlingEnds : Type 0
SettlingEnds = (es : List Event) → IsTrue (is_closed (run es start).phase)
    → IsTrue (is_working (run (Opens ∷ settling (run es start).names) (run es start)).phase)
