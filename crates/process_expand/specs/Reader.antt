-- What a reader of such a text has read, in the words of its first fault.
use Rattle.std.specs.Prelude.{◌≡◌, ◌⊎◌, reverse, drop, map}
use Rattle.text_words.specs.Marks.{settings}
use Rattle.process_text.specs.FirstFault.{Before, Place, Turn, stops, between_processes, in_block, at_step_name, at_settings}
use Rattle.process_text.specs.FirstFault.{at_process_name, at_operation, at_key, at_amount, at_number}
use Rattle.process_text.specs.declared.fault.Fault.{Fault as TextFault}
use Rattle.process_text.specs.declared.fault.Fault.TheVariants as faults
use Rattle.process_expand.specs.declared.reader.Reader.{Reader}
use Rattle.process_expand.specs.declared.reader.Place.{Place as ReaderPlace}
use Rattle.process_expand.specs.declared.reader.Place.TheVariants as places
use Rattle.process_expand.specs.declared.places.Fault.{Fault}
use Rattle.process_expand.specs.declared.places.Fault.TheVariants.{Missing, Misfit, Limit, SameName, NoMemory}

-- the place that the next word has
abbrev pub place_of : ReaderPlace → Place
place_of places.BetweenProcesses = between_processes
place_of places.ProcessName = at_process_name
place_of (places.Block at) = in_block at
place_of (places.StepName k) = at_step_name k
place_of (places.Operation k) = at_operation k
place_of (places.Key k) = at_key k
place_of (places.Amount k) = at_amount k
place_of (places.Settings k n) = at_settings (drop n (settings k))
place_of (places.Number x k n) = at_number x (drop n (settings k))

-- what stands before it; the innermost choice is the last that was opened
abbrev pub before_of : Reader → Before
before_of r = record { earlier = map (λ n. n.items) r.earlier.items; names = map (λ n. n.items) r.names.items; choices = reverse r.choices.items }

-- a fault, as it is told of a plain text
abbrev pub text_fault : Fault → TextFault
text_fault (Missing e) = faults.Missing e
text_fault (Misfit e) = faults.Misfit e
text_fault (Limit what) = faults.Limit what
text_fault (SameName name) = faults.SameName name
text_fault NoMemory = faults.NoMemory

-- memory was wanting, or the turn stops with this fault
abbrev pub IsStop : Turn → Fault → Type 0
IsStop turn f = (f ≡ NoMemory) ⊎ (turn ≡ stops (text_fault f))
