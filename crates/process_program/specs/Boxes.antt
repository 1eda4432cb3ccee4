-- What a box of the program is: the values of one of three kinds.
use Rattle.resource_box.specs.declared.counters.Counters.{Counters as CounterValues}
use Rattle.resource_box.specs.declared.cells.Cells.{Cells as CellValues}
use Rattle.resource_box.specs.declared.seats.Seats.{Seats as SeatValues}
use Rattle.process_program.specs.declared.own.OwnBox.{OwnBox}
use Rattle.process_program.specs.declared.own.OwnBox.TheVariants.{Counters, Cells, Seats}

-- what is said of a box, by the kind of its values
abbrev pub by_box : {A : Type 0} → (CounterValues → A) → (CellValues → A) → (SeatValues → A) → OwnBox → A
by_box f g h (Counters x) = f x
by_box f g h (Cells x) = g x
by_box f g h (Seats x) = h x
