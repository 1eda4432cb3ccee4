-- What a group asks of the operations of a catalog.
use Rattle.std.specs.Prelude.{Bool, true, false, List}
use Rattle.commute_table.specs.declared.op.Op.{Op}
use Rattle.commute_table.specs.declared.op.Verb.{Verb}
use Rattle.commute_table.specs.declared.op.Verb.TheVariants.{Add, Take, Look, Put, Hold, Free}
use Rattle.machine_model.specs.Groups.{Targets}
use Rattle.history_files.specs.Effects.{subsystem_of, verb_of}

-- there are values that bar a step with this verb
abbrev pub has_bar : Verb → Bool
has_bar Add = false
has_bar Take = true
has_bar Look = false
has_bar Put = false
has_bar Hold = true
has_bar Free = true

-- the subsystem of each operation, and whether values can bar a step of it
abbrev pub targets_of : List Op → Targets
targets_of ops op = record { subsystem = subsystem_of ops op; has_bar = has_bar (verb_of ops op) }
