-- One test for each event of a history, on what stands before it: what a history may be is said so.
use Rattle.std.specs.Prelude.{ℕ, ◌+◌, Bool, true, ◌&&◌, List, [], ◌∷◌, ◌++◌, if◌then◌else◌, Option, Some, None}
use Rattle.schedule_model.specs.declared.event.Event.{Event}

-- a test of an event on the events before it
abbrev pub EventTest : Type 0
EventTest = List Event → Event → Bool

-- each of these events passes; before are those that were looked at
abbrev pub each_passes : EventTest → List Event → List Event → Bool
each_passes test before [] = true
each_passes test before (e ∷ h) = test before e && each_passes test (before ++ e ∷ []) h

-- the place of the first event that doesn't, the first of these having place n
abbrev pub first_failing : EventTest → ℕ → List Event → List Event → Option ℕ
first_failing test n before [] = None
first_failing test n before (e ∷ h) = if test before e then first_failing test (n + 1) (before ++ e ∷ []) h else Some n
