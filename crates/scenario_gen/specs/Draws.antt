-- What is drawn for the processes of a generated scenario.
use Rattle.std.specs.Prelude.{ℕ, ◌+◌, ◌-◌, ◌*◌, ◌/◌, ◌%◌}
use Rattle.std.specs.Fn.{iterate}
use Rattle.scenario_gen.specs.declared.generator.Draws.{Draws}

-- the generator's number before the first draw, by NUMBER: it lies below 2^31
abbrev pub first_number : ℕ → ℕ
first_number number = number % 2147483648

-- its number after this one
abbrev pub next_number : ℕ → ℕ
next_number x = (1103515245 * x + 12345) % 2147483648

-- a draw of n makes the next number x, and gives this
abbrev pub drawn : ℕ → ℕ → ℕ
drawn n x = x / 65536 % n

-- the four draws behind this number of the generator, in their order
abbrev pub draws_behind : ℕ → Draws
draws_behind x = record {
  operation = drawn 3 (iterate next_number 1 x);
  key = drawn 16 (iterate next_number 2 x);
  amount = drawn 100 (iterate next_number 3 x);
  refusal = drawn 8 (iterate next_number 4 x);
}

-- the draws of process k: four for each process before it came first
abbrev pub draws_of : ℕ → ℕ → Draws
draws_of number k = draws_behind (iterate next_number (4 * (k - 1)) (first_number number))
