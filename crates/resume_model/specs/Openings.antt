-- Openings: a machine opens at a moment, which is a history together with who has begun to complete and why, and which steps were
-- refused and aren't tried again.
use Rattle.std.specs.Prelude.{ℕ, List, [], map}
use Rattle.schedule_model.specs.declared.event.Event.{Event}
use Rattle.schedule_model.specs.Histories.{active}
use Rattle.machine_model.specs.declared.began.Cause.{Cause}
use Rattle.machine_model.specs.declared.began.Cause.TheVariants.{Restart as Restarted}
use Rattle.machine_model.specs.Moment.{Beginning, Moment, RefusedStep}

-- a process that has begun to complete, and why
pub record Begun : Type 0 where
  pub process : ℕ
  pub cause : Cause

-- what is known at an opening
pub record Opening : Type 0 where
  pub history : List Event
  -- who has begun to complete, in order, ended ones too
  pub begun : List Begun
  -- which steps were refused and aren't tried again, in order
  pub refused : List RefusedStep

-- whoever began before the opening began before the first kept event
abbrev pub beginning : Begun → Beginning
beginning b = record { process = b.process; began = record { event = 0; cause = b.cause } }

-- process i completes for the sake of a restart
abbrev pub restarted : ℕ → Begun
restarted i = record { process = i; cause = Restarted }

-- the moment of an opening, at which nothing runs and nothing was kept
abbrev pub opened : Opening → Moment
opened o = record { events = o.history; kept = []; out = []; lost = []; beginnings = map beginning o.begun; refused = o.refused }

-- the opening on a history alone: nobody has begun, and nothing was refused
abbrev pub on_history : List Event → Opening
on_history h = record { history = h; begun = []; refused = [] }

-- the opening at which all that are active complete
abbrev pub restarting : List Event → Opening
restarting h = record { history = h; begun = map restarted (active h); refused = [] }
