-- What became of the pieces of a group, as the machine says it.
use Rattle.std.specs.Prelude.{ℕ}
use Rattle.machine_model.specs.Groups.{Ended, GroupEnd as MachineEnd, effected, dropped_at_event}
use Rattle.process_engine.specs.declared.group.GroupEnd.{GroupEnd}
use Rattle.process_engine.specs.declared.group.GroupEnd.TheVariants.{Effected, Dropped}

-- the end that an answer tells
abbrev pub end_as : GroupEnd → MachineEnd
end_as (Effected n) = effected n
end_as (Dropped k) = dropped_at_event k

-- a piece and its end
abbrev pub ended_as : ℕ × GroupEnd → Ended
ended_as e = record { piece = e.0; ending = end_as e.1 }
